-- The paths through loops.
use Rattle.std.proofs.Common.{◌≡◌, ℕ, ◌+◌, ◌<◌, ◌≤◌, inl, inr, Bool, true, List, [], ◌∷◌, Option, Some, None, option_map, refl, sym as sym', ap, subst, ◌∙◌, lit<, arith}
use Rattle.xw_words.specs.declared.pos.Pos.{Pos}
use Rattle.xc_tree.specs.declared.token.Tok.{Tok}
use Rattle.xc_tree.specs.declared.token.Kind.TheVariants.{Key, Sym}
use Rattle.xc_tree.specs.declared.tree.Id.{Id}
use Rattle.xc_tree.specs.declared.tree.Expr.{Expr}
use Rattle.xc_tree.specs.declared.tree.St.{For}
use Rattle.xc_tree.specs.declared.tree.Stmt.{Stmt}
use Rattle.xc_tree.specs.Plain as plain
use Rattle.xc_tree.specs.Plain.{held}
use Rattle.xc_tree.specs.Symbol.{Symbol, a_name, maybe, assign, word, rhs, expr, statement, for_start, for_step, Value}
use Rattle.xc_tree.specs.Grammar.{statement_of, named}
use Rattle.xc_tree.specs.Derives.{On, Room, Derives, extent}
use Rattle.xc_tree.specs.Trees as trees
use Rattle.xc_tree.proofs.Forms.{action-For}
use Rattle.xc_nonterminals.specs.declared.stop.Stop.{Stop}
use Rattle.xc_nonterminals.specs.declared.stop.Stop.TheVariants.{Wrong, Deep, Memory}
use Rattle.xc_nonterminals.specs.Follows.{OneOf, StandsAt, first}
use Rattle.xc_nonterminals.specs.Reading.{Reads, Refuses, TooDeep, Unfit}
use Rattle.xc_nonterminals.specs.RowReading.{ReadsRow, StoppedRow}
use Rattle.xc_nonterminals.specs.Rounds.{Lacks, NoType, StopsMaybe, StopsStart, IsEnded}
use Rattle.xc_nonterminals.specs.Stops.{Stopped}
use Rattle.xc_nonterminals.specs.Tails.{do_row}
use Rattle.xc_nonterminals.proofs.Rests.Rests.{Rest, left}
use Rattle.xc_nonterminals.proofs.Rests.Alternatives.{by_rules}
use Rattle.xc_nonterminals.proofs.Derivations.Firsts.{derived_first}
use Rattle.xc_nonterminals.proofs.Derivations.TokenSets.{one_within}
use Rattle.xc_nonterminals.proofs.Rests.Opening.{fronts, beginnings, over, put, Heads, no_head, one_head, popped}
use Rattle.xc_nonterminals.proofs.Rests.Choices.{all_open, no_one, dead, stuck, spread_out}
use Rattle.xc_nonterminals.proofs.Reading.Paths.{Roomy, begin, at_symbol, over_word, lacks, lacks_symbol, taken, read, stops, read_all, stops_all, unfit, unfit_last, finish}
use Rattle.xc_nonterminals.proofs.Rests.Unfinished.{unfinished}
use Rattle.xc_nonterminals.proofs.Reading.Lasts.{read_last, stops_last}
use Rattle.xc_nonterminals.proofs.Reading.Insides.{inner_reads, inner_stopped, inner_unfit}
use Rattle.xc_nonterminals.proofs.Reading.InsideRows.{inner_row, inner_row_stopped}
use Rattle.xc_nonterminals.proofs.Reading.RowSteps.{read_row, stops_row}
use Rattle.xc_nonterminals.proofs.Stating.Marks.{first_of, none_of, at_a_type}
use Rattle.xc_tree.specs.Terminals as terminal

-- an assignment holds no statement
pub assign_holds : {toks : List Tok} {room : Room} {i j : ℕ} {a : plain.Action} → Derives toks room assign i j a → 0 ≡ held a
assign_holds {toks} {room} {i} {j} {a} d = elim (by_rules toks room assign i j a refl d) [
  | inl x ↦ sym' (ap held x.4)
  | inr y ↦ elim y [
    | inl x ↦ sym' (ap held x.4)
    | inr z ↦ elim z [ inl x ↦ sym' (ap held x.4) | inr w ↦ elim w [ inl x ↦ sym' (ap held x.4) | inr v ↦ absurd v ] ]
  ]
]

-- The step of a `for`, and its start where no type stands: an assignment.
module _ (toks : List Tok) (room i : ℕ) where
  pub step_stops : (e : Stop) → 1 ≤ room → Stopped toks (left room 1) assign i e → Stopped toks room for_step i e
  step_stops e h x = stops e (begin refl h) x refl

  pub step_reads : {j : ℕ} {a : plain.Action} → 1 ≤ room → Reads toks (left room 1) assign i j a → Reads toks room for_step i j (statement_of (extent toks i j) a)
  step_reads h x = finish (read (begin refl h) x refl) refl

  pub start_stops : (e : Stop) → 1 ≤ room → NoType toks i → Stopped toks (left room 1) assign i e → Stopped toks room for_start i e
  start_stops e h none x = stops e (lacks (terminal.int_word ∷ terminal.unsigned_word ∷ []) (begin refl h) none) x refl

  pub start_reads : {j : ℕ} {a : plain.Action} → 1 ≤ room → NoType toks i → Reads toks (left room 1) assign i j a → Reads toks room for_start i j (statement_of (extent toks i j) a)
  start_reads h none x = finish (read (lacks (terminal.int_word ∷ terminal.unsigned_word ∷ []) (begin refl h) none) x refl) refl

  -- there is no room for an assignment and its target
  pub step_deep : room < 2 → StandsAt toks i a_name → TooDeep toks room for_step i i
  step_deep h at = dead a_name (spread_out (spread_out (all_open refl))) at refl (h, (h, (h, (h, (h, (h, (h, (h, tt))))))))

  pub start_deep : room < 2 → NoType toks i → StandsAt toks i a_name → TooDeep toks room for_start i i
  start_deep h none at = dead a_name (spread_out (spread_out (no_one (terminal.int_word ∷ terminal.unsigned_word ∷ []) (all_open refl) none))) at refl (h, (h, (h, (h, (h, (h, (h, (h, tt))))))))

  no_name : (StandsAt toks i a_name → ⊥) → OneOf toks i (a_name ∷ []) → ⊥
  no_name none o = elim (first_of a_name [] o) [ inl x ↦ none x | inr x ↦ none_of x ]

  pub step_wrong : (StandsAt toks i a_name → ⊥) → Refuses toks room for_step i i
  step_wrong none = stuck (no_one (a_name ∷ []) (all_open refl) (no_name none))

  pub start_wrong : NoType toks i → (StandsAt toks i a_name → ⊥) → Refuses toks room for_start i i
  start_wrong no_type none = stuck (no_one (a_name ∷ []) (no_one (terminal.int_word ∷ terminal.unsigned_word ∷ []) (all_open refl) no_type) (no_name none))

  -- a start with a type: a declaration, that there is no room for
  pub declared_deep : room ≡ 0 → OneOf toks i (terminal.int_word ∷ terminal.unsigned_word ∷ []) → TooDeep toks room for_start i i
  declared_deep e o = subst (λ r. TooDeep toks r for_start i i) (sym' e) (elim (first_of terminal.int_word (terminal.unsigned_word ∷ []) o) [
    | inl x ↦ dead terminal.int_word (all_open refl) x refl (lit< tt, tt)
    | inr q ↦ elim (first_of terminal.unsigned_word [] q) [ inl x ↦ dead terminal.unsigned_word (all_open refl) x refl (lit< tt, tt) | inr z ↦ absurd (none_of z) ]
  ])

  -- and that there is room for
  module _ (h : 1 ≤ room) (o : OneOf toks i (terminal.int_word ∷ terminal.unsigned_word ∷ [])) where
    pub type_stops : (e : Stop) → Stopped toks (left room 1) word i e → Stopped toks room for_start i e
    type_stops e x = stops e (at_a_type (begin refl h) o refl) x refl

    module _ {j : ℕ} {w : Bool} (type : Reads toks (left room 1) word i j w) where
      pub name_stops : (e : Stop) → Stopped toks (left room 1) a_name j e → Stopped toks room for_start i e
      name_stops e x = stops e (read (at_a_type (begin refl h) o refl) type refl) x refl

      module _ {k : ℕ} {n : Id} (name : Reads toks (left room 1) a_name j k n) where
        pub equals_stops : (e : Stop) → Stopped toks (left room 1) terminal.equals k e → Stopped toks room for_start i e
        equals_stops e x = stops e (read (read (at_a_type (begin refl h) o refl) type refl) name refl) x refl

        module _ {l : ℕ} {p : Pos} (equals : Reads toks (left room 1) terminal.equals k l p) where
          pub value_stops : (e : Stop) → Stopped toks (left room 1) rhs l e → Stopped toks room for_start i e
          value_stops e x = stops e (read (read (read (at_a_type (begin refl h) o refl) type refl) name refl) equals refl) x refl

          pub value_unfit : {m : ℕ} → Unfit toks (left room 1) rhs l m → Unfit toks room for_start i m
          value_unfit u = unfit_last (read (read (read (at_a_type (begin refl h) o refl) type refl) name refl) equals refl) u refl refl

          pub value_reads : {m : ℕ} {r : plain.RightSide} → Reads toks (left room 1) rhs l m r → Reads toks room for_start i m (statement_of (extent toks i m) (plain.declare (named (plain.word w (Some r)) n ∷ [])))
          value_reads x = finish (read (read (read (read (at_a_type (begin refl h) o refl) type refl) name refl) equals refl) x refl) refl

-- Parts that may be absent: where they are, and where they aren't.
module _ (toks : List Tok) (room i : ℕ) where
  pub no_start : {p : Pos} → On toks i (Sym 6) p → Reads toks room (maybe for_start) i i None
  no_start on = finish (at_symbol (begin refl tt) on) refl

  pub no_step : {p : Pos} → On toks i (Sym 1) p → Reads toks room (maybe for_step) i i None
  no_step on = finish (at_symbol (begin refl tt) on) refl

  pub no_test : {p : Pos} → On toks i (Sym 6) p → Reads toks room (maybe expr) i i None
  no_test on = finish (at_symbol (begin refl tt) on) refl

  begun : (s : Symbol) {j : ℕ} {v : Value s} → i < j → Reads toks room s i j v → OneOf toks i (first s)
  begun s {j} {v} l r = elim (derived_first toks _ s i j v r.derives) [ inl x ↦ let e = x.0 in absurd (omega (arith, e)) | inr o ↦ o ]

  pub some_start : {j : ℕ} {v : plain.Statement} → i < j → Reads toks room for_start i j v → Reads toks room (maybe for_start) i j (Some v)
  some_start l r = finish (read (unfinished (begin refl tt) (one_within (fronts (maybe for_start)) refl (begun for_start l r))) r refl) refl

  pub some_step : {j : ℕ} {v : plain.Statement} → i < j → Reads toks room for_step i j v → Reads toks room (maybe for_step) i j (Some v)
  some_step l r = finish (read (unfinished (begin refl tt) (one_within (fronts (maybe for_step)) refl (begun for_step l r))) r refl) refl

  pub some_test : {j : ℕ} {v : plain.Expression} → i < j → Reads toks room expr i j v → Reads toks room (maybe expr) i j (Some v)
  some_test l r = finish (read (unfinished (begin refl tt) (one_within (fronts (maybe expr)) refl (begun expr l r))) r refl) refl

-- a `while`
module _ {toks : List Tok} (room : ℕ) {at : ℕ} {p : Pos} (w : On toks at (Key 29) p) where
  pub while_open_stops : (e : Stop) → Stopped toks (left (room + 1) 1) terminal.paren (at + 1) e → Stopped toks (room + 1) statement at e
  while_open_stops e x = stops e (over_word (begin refl (omega arith)) w refl) x refl

  module _ {k : ℕ} {q : Pos} (paren : Reads toks (left (room + 1) 1) terminal.paren (at + 1) k q) where
    pub while_test_stops : (e : Stop) → Stopped toks room expr k e → Stopped toks (room + 1) statement at e
    while_test_stops e x = stops e (read (over_word (begin refl (omega arith)) w refl) paren refl) (inner_stopped toks room expr k e x) refl

    module _ {l : ℕ} {c : plain.Expression} (test : Reads toks room expr k l c) where
      pub while_close_stops : (e : Stop) → Stopped toks (left (room + 1) 1) terminal.end_paren l e → Stopped toks (room + 1) statement at e
      while_close_stops e x = stops e (read (read (over_word (begin refl (omega arith)) w refl) paren refl) (inner_reads room test) refl) x refl

      module _ {m : ℕ} {r : Pos} (close : Reads toks (left (room + 1) 1) terminal.end_paren l m r) where
        pub while_body_stops : (e : Stop) → Stopped toks room statement m e → Stopped toks (room + 1) statement at e
        while_body_stops e x = stops_last e (read (read (read (over_word (begin refl (omega arith)) w refl) paren refl) (inner_reads room test) refl) close refl) (inner_stopped toks room statement m e x) refl (λ e x h. h)

        pub while_reads : {n : ℕ} {s : plain.Statement} → Reads toks room statement m n s → Reads toks (room + 1) statement at n (statement_of (extent toks at n) (plain.while_loop c s))
        while_reads x = read_last (read (read (read (over_word (begin refl (omega arith)) w refl) paren refl) (inner_reads room test) refl) close refl) (inner_reads room x) refl refl (λ e x h. h)

-- a `do`
abbrev behind_do : plain.Statement → Rest plain.Statement
behind_do s = record {
  need = 1;
  parts = put 1 do_row [];
  fits = λ x. true;
  make = λ e (p, (q, (c, (r, (t, u))))). statement_of e (plain.do_while s c);
}

module _ {toks : List Tok} (room : ℕ) {at : ℕ} {p : Pos} (w : On toks at (Key 6) p) where
  pub do_body_stops : (e : Stop) → Stopped toks room statement (at + 1) e → Stopped toks (room + 1) statement at e
  do_body_stops e x = stops e (over_word (begin refl (omega arith)) w refl) (inner_stopped toks room statement (at + 1) e x) refl

  module _ {j : ℕ} {s : plain.Statement} (body : Reads toks room statement (at + 1) j s) where
    at_body : Roomy toks (room + 1) statement at j (behind_do s ∷ [])
    at_body = read (over_word (begin refl (omega arith)) w refl) (inner_reads room body) refl

    pub do_tail_stops : (e : Stop) → StoppedRow toks room do_row j e → Stopped toks (room + 1) statement at e
    do_tail_stops e x = stops_row 1 do_row [] e at_body (inner_row_stopped toks room do_row j e x) refl

    pub do_reads : {k : ℕ} {c : plain.Expression} {q r t u : Pos} → ReadsRow toks room do_row j k (q, (r, (c, (t, (u, tt))))) → Reads toks (room + 1) statement at k (statement_of (extent toks at k) (plain.do_while s c))
    do_reads x = finish (read_row 1 do_row [] at_body (inner_row room x) refl refl) refl

-- what is open of a `for` behind its word, and behind each part between its brackets
abbrev behind_for : Pos → List (Rest plain.Statement)
behind_for p = over (fronts statement) terminal.for_word p (beginnings statement)

abbrev paren_heads : (p : Pos) → Heads terminal.paren 1 (behind_for p)
paren_heads p = one_head no_head

abbrev behind_paren : Pos → Pos → List (Rest plain.Statement)
behind_paren p q = popped (paren_heads p) q

abbrev start_heads : (p q : Pos) → Heads (maybe for_start) 1 (behind_paren p q)
start_heads p q = one_head no_head

abbrev behind_start : Pos → Pos → Option plain.Statement → List (Rest plain.Statement)
behind_start p q a = popped (start_heads p q) a

abbrev first_heads : (p q : Pos) (a : Option plain.Statement) → Heads terminal.semicolon 1 (behind_start p q a)
first_heads p q a = one_head no_head

abbrev behind_first : Pos → Pos → Option plain.Statement → Pos → List (Rest plain.Statement)
behind_first p q a r = popped (first_heads p q a) r

abbrev test_heads : (p q : Pos) (a : Option plain.Statement) (r : Pos) → Heads (maybe expr) 1 (behind_first p q a r)
test_heads p q a r = one_head no_head

abbrev behind_test : Pos → Pos → Option plain.Statement → Pos → Option plain.Expression → List (Rest plain.Statement)
behind_test p q a r c = popped (test_heads p q a r) c

abbrev second_heads : (p q : Pos) (a : Option plain.Statement) (r : Pos) (c : Option plain.Expression) → Heads terminal.semicolon 1 (behind_test p q a r c)
second_heads p q a r c = one_head no_head

abbrev behind_second : Pos → Pos → Option plain.Statement → Pos → Option plain.Expression → Pos → List (Rest plain.Statement)
behind_second p q a r c s = popped (second_heads p q a r c) s

abbrev step_heads : (p q : Pos) (a : Option plain.Statement) (r : Pos) (c : Option plain.Expression) (s : Pos) → Heads (maybe for_step) 1 (behind_second p q a r c s)
step_heads p q a r c s = one_head no_head

abbrev behind_step : Pos → Pos → Option plain.Statement → Pos → Option plain.Expression → Pos → Option plain.Statement → List (Rest plain.Statement)
behind_step p q a r c s b = popped (step_heads p q a r c s) b

abbrev close_heads : (p q : Pos) (a : Option plain.Statement) (r : Pos) (c : Option plain.Expression) (s : Pos) (b : Option plain.Statement) → Heads terminal.end_paren 1 (behind_step p q a r c s b)
close_heads p q a r c s b = one_head no_head

abbrev behind_close : Pos → Pos → Option plain.Statement → Pos → Option plain.Expression → Pos → Option plain.Statement → Pos → List (Rest plain.Statement)
behind_close p q a r c s b t = popped (close_heads p q a r c s b) t

-- a `for`
module _ {toks : List Tok} (room : ℕ) {at : ℕ} {p : Pos} (w : On toks at (Key 8) p) where
  at_for : Roomy toks (room + 1) statement at (at + 1) (behind_for p)
  at_for = over_word (begin refl (omega arith)) w refl

  pub for_open_stops : (e : Stop) → Stopped toks (left (room + 1) 1) terminal.paren (at + 1) e → Stopped toks (room + 1) statement at e
  for_open_stops e x = stops_all (paren_heads p) e at_for x refl

  module _ {k : ℕ} {q : Pos} (paren : Reads toks (left (room + 1) 1) terminal.paren (at + 1) k q) where
    at_paren : Roomy toks (room + 1) statement at k (behind_paren p q)
    at_paren = read_all (paren_heads p) at_for paren refl

    -- a start that was not read with room
    pub for_start_stops : (e : Stop) → StopsStart toks room k e → Stopped toks (room + 1) statement at e
    for_start_stops e x = elim x.stops [
      | inl y ↦ stops e (lacks_symbol 6 (taken at_paren refl) x.lacks) (inner_stopped toks room for_start k e y) refl
      | inr u ↦ by_end e u.0 u.1 u.2
    ]
      where
        no_end : (j : ℕ) → Lacks toks j 6 → OneOf toks j (terminal.semicolon ∷ []) → ⊥
        no_end j none o = elim (first_of terminal.semicolon [] o) [ inl y ↦ none y.0 y.1 | inr y ↦ none_of y ]

        by_end : (e : Stop) (j : ℕ) → Unfit toks room for_start k j → IsEnded toks j e → Stopped toks (room + 1) statement at e
        by_end (Deep m) j u y = subst (λ n. TooDeep toks (room + 1) statement at n) (sym' y.0) (dead terminal.semicolon (unfit (lacks_symbol 6 (taken at_paren refl) x.lacks) (inner_unfit room u) refl) y.1 refl (omega arith, tt))
        by_end (Wrong m) j u y = subst (λ n. Refuses toks (room + 1) statement at n) (sym' y.0) (stuck (no_one (terminal.semicolon ∷ []) (unfit (lacks_symbol 6 (taken at_paren refl) x.lacks) (inner_unfit room u) refl) (no_end j y.1)))
        by_end Memory j u y = tt

    module _ {l : ℕ} {a : Option plain.Statement} (start : Reads toks room (maybe for_start) k l a) where
      at_start : Roomy toks (room + 1) statement at l (behind_start p q a)
      at_start = read_all (start_heads p q) at_paren (inner_reads room start) refl

      pub for_first_stops : (e : Stop) → Stopped toks (left (room + 1) 1) terminal.semicolon l e → Stopped toks (room + 1) statement at e
      for_first_stops e x = stops_all (first_heads p q a) e at_start x refl

      module _ {m : ℕ} {r : Pos} (semicolon : Reads toks (left (room + 1) 1) terminal.semicolon l m r) where
        at_first : Roomy toks (room + 1) statement at m (behind_first p q a r)
        at_first = read_all (first_heads p q a) at_start semicolon refl

        pub for_test_stops : (e : Stop) → StopsMaybe toks room expr 6 m e → Stopped toks (room + 1) statement at e
        for_test_stops e x = stops e (lacks_symbol 6 (taken at_first refl) x.lacks) (inner_stopped toks room expr m e x.stops) refl

        module _ {n : ℕ} {c : Option plain.Expression} (test : Reads toks room (maybe expr) m n c) where
          at_test : Roomy toks (room + 1) statement at n (behind_test p q a r c)
          at_test = read_all (test_heads p q a r) at_first (inner_reads room test) refl

          pub for_second_stops : (e : Stop) → Stopped toks (left (room + 1) 1) terminal.semicolon n e → Stopped toks (room + 1) statement at e
          for_second_stops e x = stops_all (second_heads p q a r c) e at_test x refl

          module _ {o : ℕ} {s : Pos} (second : Reads toks (left (room + 1) 1) terminal.semicolon n o s) where
            at_second : Roomy toks (room + 1) statement at o (behind_second p q a r c s)
            at_second = read_all (second_heads p q a r c) at_test second refl

            pub for_step_stops : (e : Stop) → StopsMaybe toks room for_step 1 o e → Stopped toks (room + 1) statement at e
            for_step_stops e x = stops e (lacks_symbol 1 (taken at_second refl) x.lacks) (inner_stopped toks room for_step o e x.stops) refl

            module _ {h : ℕ} {b : Option plain.Statement} (step : Reads toks room (maybe for_step) o h b) where
              at_step : Roomy toks (room + 1) statement at h (behind_step p q a r c s b)
              at_step = read_all (step_heads p q a r c s) at_second (inner_reads room step) refl

              pub for_close_stops : (e : Stop) → Stopped toks (left (room + 1) 1) terminal.end_paren h e → Stopped toks (room + 1) statement at e
              for_close_stops e x = stops_all (close_heads p q a r c s b) e at_step x refl

              module _ {i : ℕ} {t : Pos} (close : Reads toks (left (room + 1) 1) terminal.end_paren h i t) where
                at_close : Roomy toks (room + 1) statement at i (behind_close p q a r c s b t)
                at_close = read_all (close_heads p q a r c s b) at_step close refl

                pub for_body_stops : (e : Stop) → Stopped toks room statement i e → Stopped toks (room + 1) statement at e
                for_body_stops e x = stops_last e at_close (inner_stopped toks room statement i e x) refl (λ e x h. h)

                pub for_reads : {g : ℕ} {v : plain.Statement} → Reads toks room statement i g v → Reads toks (room + 1) statement at g (statement_of (extent toks at g) (plain.for_loop (plain.maybe a) c (plain.maybe b) v))
                for_reads x = read_last at_close (inner_reads room x) refl refl (λ e x h. h)

-- a statement that may be absent
maybe_made : (o : Option Stmt) → trees.maybe_of o ≡ plain.maybe (option_map trees.statement_of o)
maybe_made None = refl
maybe_made (Some s) = refl

-- a `for` of these parts
pub for_made : (a : Option Stmt) → (c : Option Expr) → (b : Option Stmt) → (s : Stmt) → trees.action_of (For a c b s) ≡ plain.for_loop (plain.maybe (option_map trees.statement_of a)) (option_map trees.expression_of c) (plain.maybe (option_map trees.statement_of b)) (trees.statement_of s)
for_made a c b s = action-For a c b s ∙ (ap (λ n. plain.for_loop n (option_map trees.expression_of c) (trees.maybe_of b) (trees.statement_of s)) (maybe_made a) ∙ ap (λ n. plain.for_loop (plain.maybe (option_map trees.statement_of a)) (option_map trees.expression_of c) n (trees.statement_of s)) (maybe_made b))
