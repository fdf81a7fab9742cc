-- What a case waits for: a guard and an input, or an input alone. A name begins both, and the token behind it tells them
-- apart.
use Rattle.std.proofs.Common.{ℕ, zero, suc, ◌+◌, ◌≤◌, ◌⊎◌, inl, inr, List, [], ◌∷◌, refl, sym as sym', subst, arith}
use Rattle.xw_words.specs.declared.pos.Pos.{Pos}
use Rattle.xc_tree.specs.declared.token.Tok.{Tok}
use Rattle.xc_tree.specs.declared.token.Kind.TheVariants.{Name, Sym}
use Rattle.xc_tree.specs.Plain as plain
use Rattle.xc_tree.specs.Depth.{of_expression}
use Rattle.xc_tree.specs.Symbol.{Symbol, a_name, maybe, guard, input, expr, rhs, call, level, atom}
use Rattle.xc_tree.specs.Derives.{On, Room, unlimited, at_most, HasRoom, Derives, a_sym, named, Row, next, Prefix, whole, Begins, in_this, after}
use Rattle.xc_nonterminals.specs.declared.stop.Stop.TheVariants.{Wrong}
use Rattle.xc_nonterminals.specs.Follows.{StandsAt, OneOf, after_expression}
use Rattle.xc_nonterminals.specs.Reading.{Reads, Refuses}
use Rattle.xc_nonterminals.specs.CaseParts.{transfers, awaited, event_row}
use Rattle.xc_nonterminals.specs.RowReading.{RefusesRow, TooDeepRow}
use Rattle.xc_nonterminals.proofs.Derivations.Forth.{inside_same, lift, lift_prefix, widen_row, widen_begins, freed}
use Rattle.xc_nonterminals.proofs.Derivations.TokenSets.{same_kind, one_is, one_token_of, one_disjoint}
use Rattle.xc_nonterminals.proofs.Derivations.Depths.{deep_within}
use Rattle.xc_nonterminals.proofs.Rests.Alternatives.{by_rules, by_starts, from_starts}
use Rattle.xc_nonterminals.proofs.Derivations.Lists.{unrow, unbegin, unbegin_none}
use Rattle.xc_nonterminals.proofs.Reading.Paths.{Roomy, begin, over_name, lacks, lacks_symbol, read, none_left}
use Rattle.xc_nonterminals.proofs.Valued.RightSides.{name_alone, paren_ends, deep_name_goes_on, unfit_name}
use Rattle.xc_nonterminals.proofs.Reading.RowReads.{NoRow, refused_row, row_stops, maybe_split, maybe_none, maybe_begin, begin_maybe}
use Rattle.xc_tree.specs.Terminals as terminal

-- an input with its colon, behind a guard
abbrev pub guarded : List Symbol
guarded = guard ∷ awaited

no_nodes : (room : Room) → HasRoom room 0
no_nodes unlimited = tt
no_nodes (at_most n) = omega arith

-- a name begins a guard
module _ {toks : List Tok} {room : Room} {i : ℕ} {x : List ℕ} {p : Pos} (on : On toks i (Name x) p) (h : HasRoom room 1) where
  begins_atom : Prefix toks room atom i (i + 1)
  begins_atom = from_starts toks room atom i (i + 1) (inr (inl (h, in_this (whole (named on)))))

  begins_level : (m : ℕ) → Prefix toks room (level m) i (i + 1)
  begins_level zero = from_starts toks room (level 0) i (i + 1) (inl (no_nodes room, subst (λ (r : Room). Begins toks r (atom ∷ []) i (i + 1)) (sym' (inside_same room 0)) (in_this begins_atom)))
  begins_level (suc m) = from_starts toks room (level (suc m)) i (i + 1) (inl (no_nodes room, subst (λ (r : Room). Begins toks r (level m ∷ []) i (i + 1)) (sym' (inside_same room 0)) (in_this (begins_level m))))

  begins_expr : Prefix toks room expr i (i + 1)
  begins_expr = from_starts toks room expr i (i + 1) (inl (no_nodes room, subst (λ (r : Room). Begins toks r (level 10 ∷ []) i (i + 1)) (sym' (inside_same room 0)) (in_this (begins_level 10))))

  pub begins_guard : Prefix toks room guard i (i + 1)
  begins_guard = from_starts toks room guard i (i + 1) (inl (no_nodes room, subst (λ (r : Room). Begins toks r (expr ∷ terminal.arrow ∷ []) i (i + 1)) (sym' (inside_same room 0)) (in_this begins_expr)))

-- a guard is an expression and an arrow
module _ {toks : List Tok} {room : Room} {i : ℕ} where
  guard_expr : {j : ℕ} {v : plain.Expression} → Derives toks room guard i j v → (l : ℕ) × (w : plain.Expression) × Derives toks room expr i l w
  guard_expr {j} {v} d = elim (by_rules toks room guard i j v refl d) [
    | inl y ↦ let a = unrow y.2 in (a.0, y.0.0, subst (λ (r : Room). Derives toks r expr i a.0 y.0.0) (inside_same room 0) a.1)
    | inr z ↦ absurd z
  ]

  guard_begin : {n : ℕ} → Prefix toks room guard i n → (n ≤ i) ⊎ (Prefix toks room expr i n ⊎ ((l : ℕ) × (w : plain.Expression) × Derives toks room expr i l w))
  guard_begin {n} q = elim (by_starts toks room guard i n refl q) [
    | inl h ↦ inl h
    | inr z ↦ elim z [
      | inl y ↦ elim (unbegin (subst (λ (r : Room). Begins toks r (expr ∷ terminal.arrow ∷ []) i n) (inside_same room 0) y.1)) [ inl p ↦ inr (inl p) | inr w ↦ inr (inr (w.0, w.1, w.2)) ]
      | inr w ↦ absurd w
    ]
  ]

  begin_guard : {n : ℕ} → Begins toks room (expr ∷ terminal.arrow ∷ []) i n → Prefix toks room guard i n
  begin_guard {n} b = from_starts toks room guard i n (inl (no_nodes room, subst (λ (r : Room). Begins toks r (expr ∷ terminal.arrow ∷ []) i n) (sym' (inside_same room 0)) b))

-- an expression begins a right side, and is all that begins one where no bracket stands behind its name
module _ {toks : List Tok} {room : Room} {i : ℕ} where
  begins_right : {n : ℕ} → Prefix toks room expr i n → Prefix toks room rhs i n
  begins_right {n} q = from_starts toks room rhs i n (inl (no_nodes room, subst (λ (r : Room). Begins toks r (expr ∷ []) i n) (sym' (inside_same room 0)) (in_this q)))

pub short_name : {toks : List Tok} {i : ℕ} → ((n : ℕ) → Prefix toks (at_most 0) rhs i n → n ≤ i + 1) → (n : ℕ) → Prefix toks (at_most 0) expr i n → n ≤ i + 1
short_name f n q = f n (begins_right q)

pub longer_name : {toks : List Tok} {i : ℕ} {x : List ℕ} {p : Pos} → On toks i (Name x) p → ((q : Pos) → On toks (i + 1) (Sym 0) q → ⊥) → Prefix toks unlimited rhs i (i + 1 + 1) → Prefix toks unlimited expr i (i + 1 + 1)
longer_name {toks} {i} on none q =
    let r : Refuses toks 0 call i (i + 1) = none_left (lacks_symbol 0 (over_name (begin refl tt) on refl) none) in
    elim (by_starts toks unlimited rhs i (i + 1 + 1) refl q) [
      | inl h ↦ absurd (omega arith)
      | inr (inl y) ↦ elim (unbegin y.1) [ inl p ↦ p | inr w ↦ absurd (unbegin_none w.3) ]
      | inr (inr (inl y)) ↦ elim (unbegin y.1) [ inl p ↦ let h = r.most (i + 1 + 1) p in absurd (omega arith) | inr w ↦ absurd (unbegin_none w.3) ]
      | inr (inr (inr z)) ↦ absurd z
    ]

-- no expression has no node
no_node : {toks : List Tok} {i j : ℕ} {v : plain.Expression} → Derives toks (at_most 0) expr i j v → ⊥
no_node {v} d = at_least v (deep_within d)
  where
    at_least : (v : plain.Expression) → of_expression v ≤ 0 → ⊥
    at_least (plain.expression f p) h = absurd (omega arith)

module _ {toks : List Tok} {i : ℕ} where
  -- no input begins here
  pub no_name : (StandsAt toks i a_name → ⊥) → NoRow toks awaited i i
  no_name none =
      let r : Refuses toks 0 input i i = none_left (lacks (a_name ∷ []) (begin refl tt) (λ o. none (one_token_of a_name o))) in
      refused_row (row_stops toks 0 i input (terminal.colon ∷ []) (Wrong i) r refl)

  -- a guard goes on behind a name with an arrow, or with what an expression goes on with
  behind_arrow : {v : plain.Expression} → Derives toks unlimited expr i (i + 1) v → {q : Pos} → On toks (i + 1) (Sym 26) q → Prefix toks unlimited guard i (i + 1 + 1)
  behind_arrow d at = begin_guard (after d (in_this (whole (a_sym at))))

  behind_expr : Prefix toks unlimited expr i (i + 1 + 1) → Prefix toks unlimited guard i (i + 1 + 1)
  behind_expr q = begin_guard (in_this q)

  module _ {x : List ℕ} {p : Pos} (on : On toks i (Name x) p) where
    pub begins_input : {room : ℕ} → Prefix toks (at_most room) input i (i + 1)
    begins_input {room} = let st : Roomy toks room input i (i + 1) _ = over_name (begin refl tt) on refl in st.stands.held.here

    -- an input's name goes on otherwise here
    pub no_transfer : (OneOf toks (i + 1) transfers → ⊥) → NoRow toks awaited i (i + 1)
    no_transfer none =
        let r : Refuses toks 0 input i (i + 1) = none_left (lacks transfers (over_name (begin refl tt) on refl) none) in
        refused_row (row_stops toks 0 i input (terminal.colon ∷ []) (Wrong (i + 1)) r refl)

    -- a name alone is no guard
    module _ (v : plain.Expression) (alone : Reads toks 1 expr i (i + 1) v) (arrow : (q : Pos) → On toks (i + 1) (Sym 26) q → ⊥) where
      pub no_guard : NoRow toks guarded i (i + 1)
      no_guard =
          let r : Refuses toks 1 guard i (i + 1) = none_left (lacks_symbol 26 (read (begin refl tt) alone refl) arrow) in
          refused_row (row_stops toks 1 i guard awaited (Wrong (i + 1)) r refl)

    -- a name that a guard has no room for
    module _ (none : OneOf toks (i + 1) transfers → ⊥) where
      named_to : Begins toks (at_most 0) (maybe guard ∷ awaited) i (i + 1)
      named_to = after maybe_none (in_this begins_input)

      -- where none goes on with the token behind it
      pub wrong_name : (v : plain.Expression) → Reads toks 1 expr i (i + 1) v → ((q : Pos) → On toks (i + 1) (Sym 26) q → ⊥) → RefusesRow toks 0 (maybe guard ∷ awaited) i (i + 1)
      wrong_name v alone arrow =
          let a = no_transfer none in
          let g = no_guard v alone arrow in
          record {
            prefix = named_to;
            never = λ k ws r. let y = unrow r in elim (maybe_split y.1) [
              | inl e ↦ a.never k ws.1 (subst (λ (l : ℕ). Row toks unlimited awaited l k ws.1) e.0 y.2)
              | inr z ↦ g.never k (z.0, ws.1) (next z.1 y.2)
            ];
            most = λ n b. elim (unbegin b) [
              | inl q ↦ elim (maybe_begin q) [ inl h ↦ omega arith | inr w ↦ g.most n (in_this w) ]
              | inr y ↦ elim (maybe_split y.2) [
                | inl e ↦ a.most n (subst (λ (l : ℕ). Begins toks unlimited awaited l n) e.0 y.3)
                | inr z ↦ g.most n (after z.1 y.3)
              ]
            ];
          }

      -- where one does
      pub deep_name : ((n : ℕ) → Prefix toks (at_most 0) expr i n → n ≤ i + 1) → Prefix toks unlimited guard i (i + 1 + 1) → TooDeepRow toks 0 (maybe guard ∷ awaited) i (i + 1)
      deep_name short longer =
          let a = no_transfer none in
          record {
            prefix = named_to;
            begins = in_this (begin_maybe longer);
            never = λ k ws r. let y = unrow r in elim (maybe_split y.1) [
              | inl e ↦ a.never k ws.1 (widen_row freed (subst (λ (l : ℕ). Row toks (at_most 0) awaited l k ws.1) e.0 y.2))
              | inr z ↦ no_node (guard_expr z.1).2
            ];
            most = λ n b. elim (unbegin b) [
              | inl q ↦ elim (maybe_begin q) [
                | inl h ↦ omega arith
                | inr w ↦ elim (guard_begin w) [
                  | inl h ↦ omega arith
                  | inr u ↦ elim u [ inl c ↦ short n c | inr c ↦ absurd (no_node c.2) ]
                ]
              ]
              | inr y ↦ elim (maybe_split y.2) [
                | inl e ↦ a.most n (widen_begins freed (subst (λ (l : ℕ). Begins toks (at_most 0) awaited l n) e.0 y.3))
                | inr z ↦ absurd (no_node (guard_expr z.1).2)
              ]
            ];
          }

-- a name with a transfer behind it begins no guard
pub no_guarded : {toks : List Tok} {i : ℕ} {x : List ℕ} {p : Pos} → On toks i (Name x) p → OneOf toks (i + 1) transfers → NoRow toks guarded i (i + 1)
no_guarded {toks} on o = no_guard on _ (name_alone toks on (one_disjoint after_expression refl o)) (λ q at. let e = one_is terminal.arrow (q, at) o in absurd (cc))

-- why a name with no transfer behind it begins nothing that a case waits for, with no room for a node
module _ {toks : List Tok} {i : ℕ} {x : List ℕ} {p : Pos} (on : On toks i (Name x) p) (none : OneOf toks (i + 1) transfers → ⊥) where
  pub deep_arrow : {q : Pos} → On toks (i + 1) (Sym 26) q → TooDeepRow toks 0 event_row i (i + 1)
  deep_arrow {q} at =
      let free : OneOf toks (i + 1) after_expression → ⊥ = λ o. let e = one_is terminal.arrow (q, at) o in absurd (cc) in
      let u = unfit_name toks on (λ r b. let e = same_kind b at in absurd (cc)) free in
      let d = lift (name_alone toks on free).derives in
      deep_name on none (short_name (λ n c. u.most n (lift_prefix c))) (behind_arrow d at)

  pub deep_further : OneOf toks (i + 1) after_expression → TooDeepRow toks 0 event_row i (i + 1)
  deep_further o =
      let bracket : (q : Pos) → On toks (i + 1) (Sym 0) q → ⊥ = λ q at. paren_ends toks at o in
      let d = deep_name_goes_on toks on bracket o in
      deep_name on none (short_name d.most) (behind_expr (longer_name on bracket d.begins))

  pub wrong_further : ((q : Pos) → On toks (i + 1) (Sym 26) q → ⊥) → (OneOf toks (i + 1) after_expression → ⊥) → RefusesRow toks 0 event_row i (i + 1)
  wrong_further arrow free = wrong_name on none _ (name_alone toks on free) arrow
