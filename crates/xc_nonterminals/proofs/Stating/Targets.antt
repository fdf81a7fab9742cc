-- Paths of assignments behind the variable or element that is assigned to.
use Rattle.std.proofs.Common.{ℕ, ◌+◌, ◌≤◌, inl, inr, List, refl}
use Rattle.xw_words.specs.declared.pos.Pos.{Pos}
use Rattle.xc_tree.specs.declared.token.Tok.{Tok}
use Rattle.xc_tree.specs.declared.token.Kind.TheVariants.{Sym}
use Rattle.xc_tree.specs.Plain as plain
use Rattle.xc_tree.specs.Symbol.{lval, assign, assign_op, expr, rhs, Marked}
use Rattle.xc_tree.specs.Derives.{On, at_most, Derives}
use Rattle.xc_nonterminals.specs.declared.stop.Stop.{Stop}
use Rattle.xc_nonterminals.specs.Reading.{Reads}
use Rattle.xc_nonterminals.specs.Stops.{Stopped}
use Rattle.xc_nonterminals.proofs.Rests.Alternatives.{by_rules}
use Rattle.xc_nonterminals.proofs.Rests.Opening.{beginnings, Heads, no_head, one_head, popped}
use Rattle.xc_nonterminals.proofs.Reading.Paths.{Roomy, begin, over_symbol, lacks_symbol, read, read_all, stops, stops_all, finish}

-- a variable and an element are nodes
pub lval_roomy : (toks : List Tok) (room i j : ℕ) (v : plain.Expression) → Derives toks (at_most room) lval i j v → 1 ≤ room
lval_roomy toks room i j v d = elim (by_rules toks (at_most room) lval i j v refl d) [
  | inl x ↦ x.1
  | inr y ↦ elim y [ inl x ↦ x.1 | inr z ↦ absurd z ]
]

abbrev targets : Heads lval 0 (beginnings assign)
targets = one_head (one_head (one_head (one_head no_head)))

module _ (toks : List Tok) (room i : ℕ) where
  pub target_stops : (e : Stop) → Stopped toks room lval i e → Stopped toks room assign i e
  target_stops e x = stops_all targets e (begin refl tt) x refl

  module _ {j : ℕ} {l : plain.Expression} (target : Reads toks room lval i j l) where
    target_read : Roomy toks room assign i j (popped targets l)
    target_read = read_all targets (begin refl tt) target refl

    module _ {p : Pos} (on : On toks j (Sym 22) p) where
      pub right_stops : (e : Stop) → Stopped toks room rhs (j + 1) e → Stopped toks room assign i e
      right_stops e x = stops e (over_symbol target_read on refl) x refl

      pub right_read : {k : ℕ} {r : plain.RightSide} → Reads toks room rhs (j + 1) k r → Reads toks room assign i k (plain.assign l 22 p r)
      right_read x = finish (read (over_symbol target_read on refl) x refl) refl

    pub up_read : {p : Pos} → On toks j (Sym 35) p → Reads toks room assign i (j + 1) (plain.step l 35)
    up_read on = finish (over_symbol target_read on refl) refl

    pub down_read : {p : Pos} → On toks j (Sym 36) p → Reads toks room assign i (j + 1) (plain.step l 36)
    down_read on = finish (over_symbol target_read on refl) refl

    -- no `=`, `++` or `--` stands behind it
    module _ (no_equals : (p : Pos) → On toks j (Sym 22) p → ⊥) (no_up : (p : Pos) → On toks j (Sym 35) p → ⊥) (no_down : (p : Pos) → On toks j (Sym 36) p → ⊥) where
      pub mark_stops : (e : Stop) → Stopped toks room assign_op j e → Stopped toks room assign i e
      mark_stops e x = stops e (lacks_symbol 36 (lacks_symbol 35 (lacks_symbol 22 target_read no_equals) no_up) no_down) x refl

      module _ {k : ℕ} {m : Marked} (mark : Reads toks room assign_op j k m) where
        pub value_stops : (e : Stop) → Stopped toks room expr k e → Stopped toks room assign i e
        value_stops e x = stops e (read (lacks_symbol 36 (lacks_symbol 35 (lacks_symbol 22 target_read no_equals) no_up) no_down) mark refl) x refl

        pub value_read : {n : ℕ} {v : plain.Expression} → Reads toks room expr k n v → Reads toks room assign i n (plain.assign l m.mark m.pos (plain.value v))
        value_read x = finish (read (read (lacks_symbol 36 (lacks_symbol 35 (lacks_symbol 22 target_read no_equals) no_up) no_down) mark refl) x refl) refl
