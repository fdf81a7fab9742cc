-- What the loops over brackets and over operators keep, and their steps.
use Rattle.std.proofs.Common.{◌≡◌, ℕ, zero, suc, ◌+◌, ◌-◌, ◌<◌, ◌≤◌, max, List, length, sym as sym', ap, subst, ◌∙◌, ◌⊎◌, inl, inr, arith}
use Rattle.xw_words.specs.declared.pos.Pos.{Pos}
use Rattle.xc_tree.specs.declared.token.Tok.{Tok}
use Rattle.xc_tree.specs.declared.token.Kind.TheVariants.{Sym}
use Rattle.xc_tree.specs.Plain as plain
use Rattle.xc_tree.specs.Symbol.{Symbol, expr, level, Marked}
use Rattle.xc_tree.specs.Depth.{of_expression}
use Rattle.xc_tree.specs.Derives.{On}
use Rattle.xc_tree.specs.Trees.{expression_of}
use Rattle.xc_nonterminals.specs.declared.expressions.Operand.{Operand}
use Rattle.xc_nonterminals.specs.declared.stop.Stop.{Stop}
use Rattle.xc_nonterminals.specs.declared.stop.Stop.TheVariants.{Wrong, Deep, Memory}
use Rattle.xc_nonterminals.specs.Reading.{Reads, Refuses, TooDeep}
use Rattle.xc_nonterminals.specs.Stops.{Stopped}
use Rattle.xc_nonterminals.specs.Levels.{IsOperator, NoOperator}
use Rattle.xc_nonterminals.specs.Operands.{IsBracket, IsSized, ReadsLevel, ReadsExpression}
use Rattle.xc_nonterminals.proofs.Valued.Chains.{joined}
use Rattle.xc_nonterminals.proofs.Valued.Climbing.{SoFar, start, step, refuse_first, deep_first, refuse_right, deep_right, deep_here, finish}
use Rattle.xc_nonterminals.proofs.Valued.Choosing.{no_test}
use Rattle.xc_nonterminals.proofs.Valued.Atoms.{reads_brackets, stops_brackets, open_brackets}
use Rattle.xc_nonterminals.proofs.Reading.Tests.{type_is}

order : (a b : ℕ) → (a ≤ b) ⊎ (b < a)
order zero b = inl (omega arith)
order (suc a) zero = inr (omega arith)
order (suc a) (suc b) = elim (order a b) [ inl h ↦ inl (omega arith) | inr h ↦ inr (omega arith) ]

-- want of memory says nothing
pub no_memory : (toks : List Tok) (room : ℕ) (s : Symbol) (i : ℕ) (e : Stop) → e ≡ Memory → Stopped toks room s i e
no_memory toks room s i e h = subst (Stopped toks room s i) (sym' h) tt

-- brackets up to a place
pub record Run (toks : List Tok) (at end : ℕ) : Type 0 where
  pub after : at ≤ end
  pub within : end ≤ length toks
  pub brackets : (i : ℕ) → at ≤ i → i < end → IsBracket toks i

-- the brackets that are still open, and the operand that was read inside
pub record Inside (toks : List Tok) (room at start : ℕ) (o : Operand) : Type 0 where
  pub run : Run toks at start
  pub sized : IsSized toks room o
  pub after : start < o.end
  pub read : ReadsLevel toks room 0 start o

module _ (toks : List Tok) (room : ℕ) where
  -- a level isn't read where its first operand isn't
  pub no_operand_of : (m i : ℕ) (e : Stop) → Stopped toks room (level 0) i e → Stopped toks room (level m) i e
  no_operand_of m i (Wrong x) r = refuse_first toks m x r
  no_operand_of m i (Deep x) r = deep_first toks m x r
  no_operand_of m i Memory r = tt

  pub no_first : (i : ℕ) (e : Stop) → Stopped toks room (level 0) i e → Stopped toks room expr i e
  no_first i e r = no_test toks room i e (no_operand_of 10 i e r)

  -- out of one bracket, where the expression inside isn't read
  pub out_of_one : (i : ℕ) (e : Stop) → IsBracket toks i → Stopped toks room expr (i + 1) e → Stopped toks room (level 0) i e
  out_of_one i e b r = stops_brackets room b.paren.1 (λ o. b.no_type (type_is o)) e r

  out_of : (n at : ℕ) (e : Stop) → ((i : ℕ) → at ≤ i → i < at + n → IsBracket toks i) → Stopped toks room (level 0) (at + n) e → Stopped toks room (level 0) at e
  out_of zero at e f r = let h : at + 0 ≡ at = omega arith in subst (λ i. Stopped toks room (level 0) i e) h r
  out_of (suc n) at e f r =
      let h : at + suc n ≡ at + n + 1 = omega arith in
      out_of n at e (λ i a b. f i a (omega arith)) (out_of_one (at + n) e (f (at + n) (omega arith) (omega arith)) (no_first (at + n + 1) e (subst (λ i. Stopped toks room (level 0) i e) h r)))

  -- out of all of them
  pub out_of_all : {at end : ℕ} (e : Stop) → Run toks at end → Stopped toks room (level 0) end e → Stopped toks room (level 0) at e
  out_of_all {at} {end} e run r =
      let a = run.after in
      let h : end ≡ at + (end - at) = omega arith in
      out_of (end - at) at e (λ i x y. run.brackets i x (omega arith)) (subst (λ i. Stopped toks room (level 0) i e) h r)

  shorter : {at end : ℕ} → at < end → Run toks at end → Run toks at (end - 1)
  shorter h run = record { after = omega arith; within = let w = run.within in omega arith; brackets = λ i x y. run.brackets i x (omega arith) }

  last_of : {at end : ℕ} → at < end → Run toks at end → IsBracket toks (end - 1)
  last_of {at} {end} h run = run.brackets (end - 1) (omega arith) (omega arith)

  module _ {at end : ℕ} (h : at < end) (run : Run toks at end) where
    behind_last : end ≡ end - 1 + 1
    behind_last = omega arith

    -- the expression in the last bracket isn't read, or isn't closed
    pub stops_inside : (e : Stop) → Stopped toks room expr end e → Stopped toks room (level 0) at e
    stops_inside e r = out_of_all e (shorter h run) (out_of_one (end - 1) e (last_of h run) (subst (λ i. Stopped toks room expr i e) behind_last r))

    pub not_closed : {j : ℕ} {v : plain.Expression} → Reads toks room expr end j v → ((p : Pos) → On toks j (Sym 1) p → ⊥) → Refuses toks room (level 0) at j
    not_closed {j} {v} r none =
        let b = last_of h run in
        out_of_all (Wrong j) (shorter h run) (open_brackets room b.paren.1 (λ o. b.no_type (type_is o)) (subst (λ i. Reads toks room expr i j v) behind_last r) none)

    -- it is closed
    pub closed : {o : Operand} {p : Pos} → IsSized toks room o → end ≤ o.end → o.end < length toks → ReadsExpression toks room end o → On toks o.end (Sym 1) p → Inside toks room at (end - 1) (record { tree = o.tree; depth = o.depth; end = o.end + 1 })
    closed {o} s f g r on =
        let b = last_of h run in
        record {
          run = shorter h run;
          sized = record { within = omega arith; depth = s.depth; fits = s.fits };
          after = omega arith;
          read = reads_brackets room b.paren.1 (λ o. b.no_type (type_is o)) (subst (λ i. Reads toks room expr i o.end (expression_of o.tree)) behind_last r) on;
        }

above_right : {toks : List Tok} {i l l' : ℕ} {o : Marked} → NoOperator toks i l → IsOperator toks i (suc l') o → suc l ≤ suc l'
above_right {l} {l'} {o} n s = elim (order (suc l) (suc l')) [ inl h ↦ h | inr h ↦ absurd (n.none l' o (omega arith) s) ]

-- Operators of the levels up to `low` were read behind the first operand.
pub record Climbs (toks : List Tok) (room top : ℕ) (first left : Operand) : Type 0 where
  pub low : ℕ
  pub under : low ≤ top
  pub above : (l : ℕ) (o : Marked) → IsOperator toks left.end (suc l) o → low ≤ suc l
  pub sized : IsSized toks room left
  pub forth : first.end ≤ left.end
  pub so_far : (at : ℕ) → ReadsLevel toks room 0 at first → SoFar toks room low at left.end (expression_of left.tree)

module _ {toks : List Tok} {room : ℕ} where
  pub climb_from : (top : ℕ) (first : Operand) → IsSized toks room first → Climbs toks room top first first
  climb_from top first s = record {
    low = 0;
    under = omega arith;
    above = λ l o x. omega arith;
    sized = s;
    forth = omega arith;
    so_far = λ at r. start toks r;
  }

  module _ {top l : ℕ} {first left : Operand} {o : Marked} (c : Climbs toks room top first left) (op : IsOperator toks left.end (suc l) o) where
    pub climbs : {right next : Operand} → l < top → left.depth < room → IsSized toks (room - 1) right → left.end < right.end → ReadsLevel toks (room - 1) l (left.end + 1) right → NoOperator toks right.end l →
        next.end ≡ right.end → next.depth ≡ max left.depth right.depth + 1 → expression_of next.tree ≡ joined (expression_of left.tree) o (expression_of right.tree) → Climbs toks room top first next
    climbs {right} {next} h d s f r n e g t =
        let w = s.within in
        let x = c.sized.depth in
        let y = s.depth in
        let z = s.fits in
        let u = c.forth in
        let deeper : left.depth ≡ of_expression (expression_of left.tree) → right.depth ≡ of_expression (expression_of right.tree) → max left.depth right.depth + 1 ≡ of_expression (joined (expression_of left.tree) o (expression_of right.tree)) = λ a b. ap (λ n. max n right.depth + 1) a ∙ ap (λ n. max (of_expression (expression_of left.tree)) n + 1) b in
        record {
          low = suc l;
          under = omega arith;
          above = λ l' o' q. above_right n (subst (λ i. IsOperator toks i (suc l') o') e q);
          sized = record { within = omega arith; depth = g ∙ deeper x y ∙ ap of_expression (sym' t); fits = let q : max left.depth right.depth + 1 ≤ room = omega arith in omega arith };
          forth = omega arith;
          so_far = λ at q. subst (SoFar toks room (suc l) at next.end) (sym' t) (subst (λ i. SoFar toks room (suc l) at i (joined (expression_of left.tree) o (expression_of right.tree))) (sym' e) (step toks (c.so_far at q) op (c.above l o op) r (omega arith)));
        }

    pub right_stops : (e : Stop) → l < top → left.depth < room → Stopped toks (room - 1) (level l) (left.end + 1) e → (at : ℕ) → ReadsLevel toks room 0 at first → Stopped toks room (level top) at e
    right_stops (Wrong x) h d r at q = let y = c.sized.depth in refuse_right toks (c.so_far at q) op (c.above l o op) top h x (omega arith) r
    right_stops (Deep x) h d r at q = let y = c.sized.depth in deep_right toks (c.so_far at q) op (c.above l o op) top h x (omega arith) r
    right_stops Memory h d r at q = tt

    pub too_deep : l < top → room ≤ left.depth → (at : ℕ) → ReadsLevel toks room 0 at first → TooDeep toks room (level top) at left.end
    too_deep h d at q = let y = c.sized.depth in deep_here toks (c.so_far at q) op (c.above l o op) top h (omega arith)

  pub climbed : {top : ℕ} {first left : Operand} → Climbs toks room top first left → NoOperator toks left.end top → (at : ℕ) → ReadsLevel toks room 0 at first → ReadsLevel toks room top at left
  climbed c n at q = finish toks (c.so_far at q) c.under n.none

-- one bracket more
pub one_more : {toks : List Tok} {at end : ℕ} → Run toks at end → end < length toks → IsBracket toks end → Run toks at (end + 1)
one_more {toks} {at} {end} run h b = record {
  after = let a = run.after in omega arith;
  within = omega arith;
  brackets = λ i x y. elim (order (suc i) end) [ inl z ↦ run.brackets i x (omega arith) | inr z ↦ let e : end ≡ i = omega arith in subst (IsBracket toks) e b ];
}
