-- What the reading of one piece ensures.
use Rattle.std.proofs.Common.{◌≡◌, ℕ, ◌+◌, ◌<◌, ◌≤◌, Bool, true, false, inl, inr, Option, Some, None, is_some, List, [], ◌∷◌, ◌++◌, length, refl, sym, ap, subst, arith}
use Rattle.xw_words.specs.declared.pos.Broken.{Broken}
use Rattle.xc_tree.specs.declared.token.Tok.{Tok}
use Rattle.xc_tree.specs.declared.lexing.Start.{Start}
use Rattle.xc_tree.specs.declared.lexing.Start.TheVariants.{Digit, Hash}
use Rattle.xc_tree.specs.declared.lexing.Number.{Number}
use Rattle.xc_tree.specs.declared.lexing.Reading.{Reading}
use Rattle.xc_tree.specs.Bytes.{start_at, part, Span, is_of_word}
use Rattle.xc_tree.specs.Numbers.{reading}
use Rattle.xc_tree.specs.HashLines.{Ending, ends, unclosed, Tail, Define}
use Rattle.xc_tree.specs.Places.{pos_at}
use Rattle.xc_tree.specs.Pieces.{Stand, Fault, fault, go_on, number_token, number_faults, ending_faults, again_faults, define, HashLine, HashAt, PieceOf, Piece}
use Rattle.xc_lexer.specs.declared.lines.Ending as code
use Rattle.xc_lexer.specs.declared.lines.Ending.TheVariants.{At, Unclosed}
use Rattle.xc_lexer.specs.declared.names.Names.{Names}
use Rattle.xc_lexer.specs.Lines.{TailIs}
use Rattle.xc_lexer.specs.declared.lexer.State.{State}
use Rattle.xc_tree.specs.declared.refusal.Refusal.{Refusal}
use Rattle.xc_tree.specs.declared.refusal.Refusal.TheVariants as refusal
use Rattle.xc_lexer.specs.Names.{numbers_of}
use Rattle.xc_lexer.specs.Places.{IsPlace}
use Rattle.xc_tree.specs.Refusals.{IfBroken}
use Rattle.xc_lexer.specs.Steps.{Went, FirstOf, stand, NotAfter, Each}
use Rattle.xc_lexer.proofs.Pieces.{piece_after, each_map, From}

-- a piece by what its place begins
pub piece_by : (text : List ℕ) (s s' : Stand) (t : List Tok) (f : List Fault) (x : Start) → start_at text s.at ≡ x → PieceOf text s x t f s' → Piece text s t f s'
piece_by text s s' t f x e p = subst (λ y. PieceOf text s y t f s') (sym e) p

-- a piece was read that breaks no rule
pub went : (text : List ℕ) (before after : State) (found toks more : List Tok) (end : ℕ) (at_line_start : Bool) (names : Names) → after ≡ record { place = record { at = end; pos = pos_at text end }; at_line_start = at_line_start; names = names } → length text ≤ 262144 → Piece text (stand before) found [] (record { at = end; fresh = at_line_start; numbers = numbers_of names }) → more ≡ toks ++ found → end ≤ length text → Went text before toks after more
went text before after found toks more end at_line_start names e short p m l = record {
  found = found;
  next = subst (λ x. Piece text (stand before) found [] (stand x)) (sym e) p;
  pushed = m;
  forth = let h = piece_after text (stand before) found [] (record { at = end; fresh = at_line_start; numbers = numbers_of names }) p in subst (λ x. before.place.at < x.place.at) (sym e) h.0;
  place = subst (λ x. IsPlace text x.place) (sym e) (record { short = short; within = l; pos = refl });
}

-- the next piece breaks a rule
pub breaks : (text : List ℕ) (before : State) (found : List Tok) (rule at : ℕ) (others : List Fault) (after : Stand) (b : Broken) → b ≡ record { rule = rule; pos = pos_at text at } → Piece text (stand before) found (record { rule = rule; at = at } ∷ others) after → Each (NotAfter (record { rule = rule; at = at })) others → at < length text → at < after.at → FirstOf text before b
breaks text before found rule at others after b e p n l h = record {
  found = found;
  first = record { rule = rule; at = at };
  others = others;
  after = after;
  next = p;
  is = e;
  least = n;
  in_text = l;
  passed = h;
}

-- the error of a rule that the next piece breaks where it begins
pub broken_here : (text : List ℕ) (before : State) (found : List Tok) (rule : ℕ) (after : Stand) (e : Refusal) → e ≡ refusal.Broken (record { rule = rule; pos = before.place.pos }) → IsPlace text before.place → before.place.at < length text → Piece text (stand before) found (fault rule before.place.at) after → IfBroken e (λ b. FirstOf text before b)
broken_here text before found rule after e is place l p =
    let h = piece_after text (stand before) found (fault rule before.place.at) after p in
    subst (λ x. IfBroken x (λ b. FirstOf text before b)) (sym is)
    (breaks text before found rule before.place.at [] after (record { rule = rule; pos = before.place.pos }) (ap (λ p. record { rule = rule; pos = p }) place.pos) p tt l h.0)

-- a number, by what it is read as
pub number_piece : (text : List ℕ) (s : Stand) (j : ℕ) (r : Reading) → start_at text s.at ≡ Digit → Span is_of_word text s.at j → reading (part text s.at j) ≡ r → Piece text s (number_token text s.at r) (number_faults s.at r) (go_on s j)
number_piece text s j r e a h =
    subst (λ x. Piece text s (number_token text s.at x) (number_faults s.at x) (go_on s j)) h
    (piece_by text s (go_on s j) (number_token text s.at (reading (part text s.at j))) (number_faults s.at (reading (part text s.at j))) Digit e (j, a, refl, refl, refl))

-- a `#` in a line's middle
pub stray_hash : (text : List ℕ) (s : Stand) → start_at text s.at ≡ Hash → s.fresh ≡ false → Piece text s [] (fault 101 s.at) (go_on s (s.at + 1))
stray_hash text s e h = piece_by text s (go_on s (s.at + 1)) [] (fault 101 s.at) Hash e (refl, subst (λ b. HashAt text s b (fault 101 s.at) (go_on s (s.at + 1))) (sym h) (refl, refl))

-- a `#` line
pub hash_line : (text : List ℕ) (s s' : Stand) (f : List Fault) → start_at text s.at ≡ Hash → s.fresh ≡ true → HashLine text s f s' → Piece text s [] f s'
hash_line text s s' f e h p = piece_by text s s' [] f Hash e (refl, subst (λ b. HashAt text s b f s') (sym h) p)

-- how the line of a form ends, with what that breaks
pub record Ended (text : List ℕ) (i : ℕ) : Type 0 where
  pub at : ℕ
  pub ending : Ending
  pub tail : Tail text i at ending
  pub after : i ≤ at
  pub later : Each (From i) (ending_faults ending)

pub ended : (text : List ℕ) (i : ℕ) (x : code.Ending) → TailIs text i x → Ended text i
ended text i (At j) a = record { at = j; ending = ends; tail = a.0; after = a.1; later = tt }
ended text i (Unclosed p) a = record { at = length text; ending = unclosed a.0; tail = a.1; after = omega (arith, a.2, a.3); later = (a.2, tt) }

-- what breaks a rule later comes after
pub later_than : (rule at i : ℕ) (f : List Fault) → at < i → Each (From i) f → Each (NotAfter (record { rule = rule; at = at })) f
later_than rule at i f h a = each_map (From i) (NotAfter (record { rule = rule; at = at })) f (λ g l. inl (omega arith)) a

-- a `#define`, by what its name stands for and its number is read as
pub define_piece : (text : List ℕ) (s : Stand) (name : List ℕ) (m k : ℕ) (e : Ended text k) (d : Option Number) (r : Reading) → start_at text s.at ≡ Hash → s.fresh ≡ true → Define text s.at name m k → s.numbers name ≡ d → reading (part text m k) ≡ r → Piece text s [] (again_faults s.at d ++ (number_faults m r ++ ending_faults e.ending)) (record { at = e.at; fresh = false; numbers = define s.numbers name r })
define_piece text s name m k e d r q h form n w =
    let after : Reading → Stand = λ x. record { at = e.at; fresh = false; numbers = define s.numbers name x } in
    let faults : Option Number → Reading → List Fault = λ y x. again_faults s.at y ++ (number_faults m x ++ ending_faults e.ending) in
    let p : Piece text s [] (faults (s.numbers name) (reading (part text m k))) (after (reading (part text m k))) =
    hash_line text s (after (reading (part text m k))) (faults (s.numbers name) (reading (part text m k))) q h (inr (inl (name, m, k, e.at, e.ending, form, e.tail, refl, refl))) in
    subst (λ y. Piece text s [] (faults y r) (after r)) n (subst (λ x. Piece text s [] (faults (s.numbers name) x) (after x)) w p)

pub some_of : {T : Type 0} (r : Option T) → is_some r ≡ true → (x : T) × (r ≡ Some x)
some_of None e = absurd (cc)
some_of (Some x) e = (x, refl)

-- what holds of each broken rule holds of the error
pub broken_map : {P Q : Broken → Type 0} (e : Refusal) → ((b : Broken) → P b → Q b) → IfBroken e P → IfBroken e Q
broken_map (refusal.Broken b) f h = f b h
broken_map refusal.Memory f h = tt
