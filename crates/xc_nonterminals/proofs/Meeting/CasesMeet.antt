-- Two readings of a case meet: its statements end where `break ;` stands.
use Rattle.std.proofs.Common.{◌≡◌, ℕ, zero, suc, ◌+◌, ◌≤◌, ◌⊎◌, inl, inr, true, false, List, [], ◌∷◌, Some, None, refl, sym as sym', ap, subst, ◌∙◌, arith}
use Rattle.xc_tree.specs.declared.token.Tok.{Tok}
use Rattle.xc_tree.specs.Plain as plain
use Rattle.xc_tree.specs.Symbol.{Symbol, many, maybe, a_name, case, case_item, guard, input, waits, dest, stamp, Value, Values}
use Rattle.xc_tree.specs.Grammar.{rules}
use Rattle.xc_tree.specs.Terminals.{case_word, default_word, colon, arrow, receives}
use Rattle.xc_tree.specs.Derives.{unlimited}
use Rattle.xc_nonterminals.specs.Follows.{StandsAt, OneOf}
use Rattle.xc_nonterminals.proofs.Rests.Behinds.{token_derived, token_stands}
use Rattle.xc_nonterminals.proofs.Rests.Alternatives.{by_rules}
use Rattle.xc_nonterminals.proofs.Derivations.Lists.{unrow}
use Rattle.xc_nonterminals.proofs.Derivations.Covers.{row_firsts}
use Rattle.xc_nonterminals.proofs.Derivations.Firsts.{row_first}
use Rattle.xc_nonterminals.proofs.Meeting.NamesEnd.{name_ends}
use Rattle.xc_nonterminals.proofs.Rests.Opening.{fronts}
use Rattle.xc_nonterminals.proofs.Derivations.TokenSets.{front, one_is, one_disjoint}
use Rattle.xc_nonterminals.proofs.Derivations.Forth.{strict, row_forth}
use Rattle.xc_nonterminals.proofs.Meeting.Openers.{no_item}
use Rattle.xc_nonterminals.proofs.Derivations.Statures.{RowBy, By, Tree, opened_same, derived, derived_row}
use Rattle.xc_nonterminals.proofs.Meeting.Meetings.{AllMeet, Meets, MeetsRow, Tail, RowMeets, AllOneMeet, row_meets, next_meets, behind_front, tail_among, rules_meet}
use Rattle.xc_nonterminals.proofs.Meeting.Differing.{told_all}
use Rattle.xc_tree.specs.Terminals as terminal

-- `break ;`, and statements before it
abbrev ending : List Symbol
ending = terminal.break_word ∷ terminal.semicolon ∷ []

abbrev items : List Symbol
items = many case_item ∷ ending

module _ (toks : List Tok) (n : ℕ) where
  abbrev Items : ℕ → ℕ → Values items → Type 0
  Items i j vs = RowBy (Tree toks n) items i j vs

  -- no statement, or one and others behind it
  abbrev Ends : ℕ → ℕ → Values items → Type 0
  Ends i j vs = (vs.0 ≡ []) × RowBy (Tree toks n) ending i j vs.1

  abbrev More : ℕ → ℕ → Values items → Type 0
  More i j vs = (l : ℕ) × (x : plain.Statement) × (xs : List plain.Statement) × (vs.0 ≡ x ∷ xs) × Tree toks n case_item i l x × Items l j (xs, vs.1)

  parted : (i j : ℕ) (vs : Values items) → Items i j vs → Ends i j vs ⊎ More i j vs
  parted i j vs (m, d, r) = elim (opened_same toks n (many case_item) refl i m vs.0 d) [
    | inl x ↦ inl (x.3, subst (λ q. RowBy (Tree toks n) ending q j vs.1) x.1 r)
    | inr (inl x) ↦ inr (x.1.0, x.0.0, x.0.1.0, x.3, x.1.1, (x.1.2.0, x.1.2.1, subst (λ q. RowBy (Tree toks n) ending q j vs.1) x.1.2.2 r))
    | inr (inr x) ↦ absurd x
  ]

  not_both : (i j k : ℕ) (vs ws : Values items) → Ends i j vs → More i k ws → ⊥
  not_both i j k vs ws x y =
      let on = (token_derived {t = terminal.break_word} refl (derived toks n terminal.break_word i x.1.0 vs.1.0 x.1.1)).1 in
      no_item on (derived toks n case_item i y.0 y.1 y.4)

  abbrev Outcome : ℕ → Values items → ℕ → Values items → Type 0
  Outcome j vs k ws = ((k ≡ j) × (ws ≡ vs)) ⊎ (Tail toks ending j vs.1 ⊎ Tail toks ending k ws.1)

  pair_same : (vs ws : Values items) → ws.0 ≡ vs.0 → ws.1 ≡ vs.1 → ws ≡ vs
  pair_same vs ws e f = λ i. (e i, f i)

  module _ (meet : AllMeet toks n) where
    ends_meet : (i j k : ℕ) (vs ws : Values items) → Ends i j vs → Ends i k ws → Outcome j vs k ws
    ends_meet i j k vs ws x y = elim (row_meets toks n meet ending refl i j k vs.1 ws.1 x.1 y.1) [
      | inl e ↦ inl (e.0, pair_same vs ws (y.0 ∙ sym' x.0) e.1)
      | inr t ↦ inr t
    ]

    more_meet : (i j k : ℕ) (vs ws : Values items) (x : More i j vs) → More i k ws → ((us : Values items) → Items x.0 k us → Outcome j (x.2, vs.1) k us) → Outcome j vs k ws
    more_meet i j k vs ws x y rec = elim (meet case_item refl i x.0 y.0 x.1 y.1 x.4 y.4) [
      | inl e ↦ elim (rec (y.2, ws.1) (subst (λ q. Items q k (y.2, ws.1)) e.0 y.5)) [
        | inl g ↦
            let h : y.2 ≡ x.2 = ap (λ (z : Values items). z.0) g.1 in
            let c : y.1 ∷ y.2 ≡ x.1 ∷ x.2 = (λ o. e.1 o ∷ h o) in
            inl (g.0, pair_same vs ws (y.3 ∙ (c ∙ sym' x.3)) (ap (λ (z : Values items). z.1) g.1))
        | inr t ↦ inr t
      ]
      | inr (inl f) ↦ let b : false ≡ true = (behind_front toks n case_item items x.0 j x.1 (x.2, vs.1) refl x.5 f).1 in absurd (cc)
      | inr (inr f) ↦ let b : false ≡ true = (behind_front toks n case_item items y.0 k y.1 (y.2, ws.1) refl y.5 f).1 in absurd (cc)
    ]

    -- by how far the tokens reach
    items_by : (most i j k : ℕ) (vs ws : Values items) → j ≤ i + most → Ends i j vs ⊎ More i j vs → Ends i k ws ⊎ More i k ws → Outcome j vs k ws
    items_by most i j k vs ws h (inl x) (inl y) = ends_meet i j k vs ws x y
    items_by most i j k vs ws h (inl x) (inr y) = absurd (not_both i j k vs ws x y)
    items_by most i j k vs ws h (inr x) (inl y) = absurd (not_both i k j ws vs y x)
    items_by zero i j k vs ws h (inr x) (inr y) =
        let a = strict refl (derived toks n case_item i x.0 x.1 x.4) in
        let b = row_forth (derived_row toks n items x.0 j (x.2, vs.1) x.5) in
        absurd (omega arith)
    items_by (suc most) i j k vs ws h (inr x) (inr y) =
        let a = strict refl (derived toks n case_item i x.0 x.1 x.4) in
        more_meet i j k vs ws x y (λ us z. items_by most x.0 j k (x.2, vs.1) us (omega arith) (parted x.0 j (x.2, vs.1) x.5) (parted x.0 k us z))

    items_meet : RowMeets toks n items
    items_meet i j k vs ws x y = elim (items_by j i j k vs ws (omega arith) (parted i j vs x) (parted i k ws y)) [
      | inl e ↦ inl e
      | inr (inl t) ↦ inr (inl (inr t))
      | inr (inr t) ↦ inr (inr (inr t))
    ]

    abbrev event : List Symbol
    event = input ∷ colon ∷ items

    -- what begins an input is no guard: behind its name stands nothing that an expression goes on with, and no arrow
    no_guard : (i j k : ℕ) (vs : Values event) (g : plain.Expression) → RowBy (Tree toks n) event i j vs → Tree toks n guard i k g → ⊥
    no_guard i j k vs g (m, d, r) t = elim (by_rules toks unlimited input i m vs.0 refl (derived toks n input i m vs.0 d)) [
      | inl y ↦
          let a = unrow y.2 in
          let name = token_derived {t = a_name} refl a.1 in
          elim (row_first toks unlimited (waits ∷ receives ∷ dest ∷ maybe stamp ∷ []) a.0 m y.0.1 a.2) [
            | inl e ↦ let b : false ≡ true = e.1 in absurd (cc)
            | inr o ↦ elim (by_rules toks unlimited guard i k g refl (derived toks n guard i k g t)) [
              | inl z ↦
                  let u = subst (λ q. OneOf toks q (row_firsts (waits ∷ receives ∷ dest ∷ maybe stamp ∷ []))) name.0 o in
                  let c = unrow z.2 in
                  let b = unrow c.2 in
                  let end = name_ends toks i name.1 (λ w. one_disjoint (row_firsts (waits ∷ receives ∷ dest ∷ maybe stamp ∷ [])) refl w u) c.0 z.0.0 c.1 in
                  let on = token_stands toks c.0 arrow z.0.1.0 (token_derived {t = arrow} refl b.1).1 in
                  let f : false ≡ true = one_is arrow (subst (λ q. StandsAt toks q arrow) end on) u in
                  absurd (cc)
              | inr z ↦ absurd z
            ]
          ]
      | inr z ↦ absurd z
    ]

    -- a guard or none
    abbrev Guard : ℕ → ℕ → Value (maybe guard) → Type 0
    Guard i m v = ((m ≡ i) × (v ≡ None)) ⊎ ((g : plain.Expression) × Tree toks n guard i m g × (v ≡ Some g))

    guarded : (i m : ℕ) (v : Value (maybe guard)) → Tree toks n (maybe guard) i m v → Guard i m v
    guarded i m v d = elim (opened_same toks n (maybe guard) refl i m v d) [
      | inl x ↦ inl (x.1, x.3)
      | inr (inl x) ↦ inr (x.0.0, subst (λ q. Tree toks n guard i q x.0.0) (sym' x.1.2) x.1.1, x.3)
      | inr (inr x) ↦ absurd x
    ]

    guard_meets : RowMeets toks n event → RowMeets toks n (maybe guard ∷ event)
    guard_meets rest i j k vs ws (m, a, x) (l, b, y) = both (guarded i m vs.0 a) (guarded i l ws.0 b)
      where
        behind : l ≡ m → ws.0 ≡ vs.0 → MeetsRow toks (maybe guard ∷ event) j vs k ws
        behind e f = elim (rest m j k vs.1 ws.1 x (subst (λ q. RowBy (Tree toks n) event q k ws.1) e y)) [
          | inl g ↦ let h = g.1 in let b : ws ≡ vs = (λ o. (f o, h o)) in inl (g.0, b)
          | inr (inl t) ↦ inr (inl (inr t))
          | inr (inr t) ↦ inr (inr (inr t))
        ]

        both : Guard i m vs.0 → Guard i l ws.0 → MeetsRow toks (maybe guard ∷ event) j vs k ws
        both (inl e) (inl f) = behind (f.0 ∙ sym' e.0) (f.1 ∙ sym' e.1)
        both (inl e) (inr f) = absurd (no_guard i j l vs.1 f.0 (subst (λ q. RowBy (Tree toks n) event q j vs.1) e.0 x) f.1)
        both (inr e) (inl f) = absurd (no_guard i k m ws.1 e.0 (subst (λ q. RowBy (Tree toks n) event q k ws.1) f.0 y) e.1)
        both (inr e) (inr f) = elim (meet guard refl i m l e.0 f.0 e.1 f.1) [
          | inl g ↦ behind g.0 (f.2 ∙ (ap Some g.1 ∙ sym' e.2))
          | inr (inl g) ↦ let h : false ≡ true = g.goes_on.among in absurd (cc)
          | inr (inr g) ↦ let h : false ≡ true = g.goes_on.among in absurd (cc)
        ]

    abbrev by_event : List Symbol
    by_event = case_word ∷ maybe guard ∷ input ∷ colon ∷ items

    abbrev by_default : List Symbol
    by_default = default_word ∷ colon ∷ items

    event_meets : RowMeets toks n by_event
    event_meets =
        next_meets toks n meet case_word (maybe guard ∷ input ∷ colon ∷ items) refl refl (guard_meets (next_meets toks n meet input (colon ∷ items) refl refl (next_meets toks n meet colon items refl refl items_meet)))

    default_meets : RowMeets toks n by_default
    default_meets = next_meets toks n meet default_word (colon ∷ items) refl refl (next_meets toks n meet colon items refl refl items_meet)

    each_case : AllOneMeet toks n case (rules case)
    each_case = (
      record { meets = event_meets; tail = λ e vs j f t. front case _ (tail_among toks n (fronts case) by_event j vs refl t) },
      (record { meets = default_meets; tail = λ e vs j f t. front case _ (tail_among toks n (fronts case) by_default j vs refl t) }, tt),
    )

    pub case_meets : (i j k : ℕ) (v w : plain.Case) → By toks (Tree toks n) (rules case) i j v → By toks (Tree toks n) (rules case) i k w → Meets toks case j v k w
    case_meets i j k v w x y = rules_meet toks n case i j k v w (rules case) each_case (told_all toks n meet case (rules case) refl) x y
