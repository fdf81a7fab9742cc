-- Two readings of one symbol from one place are the same, or one of them goes on at its end.
use Rattle.std.proofs.Common.{◌≡◌, ℕ, ◌⊎◌, inl, inr, Bool, true, false, not, ◌&&◌, ◌||◌, List, [], ◌∷◌, refl, sym as sym', ap, subst, ◌∙◌}
use Rattle.std.proofs.lemmas.Bool.{and_parts, or_cases, not-true}
use Rattle.xc_tree.specs.declared.token.Tok.{Tok}
use Rattle.xc_tree.specs.Symbol.{Symbol, many, maybe, commas, item, place, initial, for_start, for_step, rhs, guard, time, stamp, expr, block_item, case_item, branch, case, param, dv, a_name, argument, Value, Values}
use Rattle.xc_tree.specs.Grammar.{Rule, Extent}
use Rattle.xc_tree.specs.Derives.{extent}
use Rattle.xc_nonterminals.specs.Follows.{OneOf, follows}
use Rattle.xc_nonterminals.specs.Reading.{IsFront}
use Rattle.xc_nonterminals.proofs.Rests.Opening.{fronts, within, is_disjoint}
use Rattle.xc_nonterminals.proofs.Derivations.TokenSets.{one_disjoint, one_within, front}
use Rattle.xc_nonterminals.proofs.Derivations.Covers.{row_firsts, row_nullable}
use Rattle.xc_nonterminals.proofs.Derivations.Statures.{RowBy, ByOne, By, Tree, row_begin}

-- the repetitions and options that the grammar has
abbrev pub is_listed : Symbol → Bool
is_listed (many item) = true
is_listed (many block_item) = true
is_listed (many case_item) = true
is_listed (many branch) = true
is_listed (many case) = true
is_listed (many _) = false
is_listed (maybe place) = true
is_listed (maybe initial) = true
is_listed (maybe for_start) = true
is_listed (maybe for_step) = true
is_listed (maybe rhs) = true
is_listed (maybe guard) = true
is_listed (maybe time) = true
is_listed (maybe stamp) = true
is_listed (maybe expr) = true
is_listed (maybe _) = false
is_listed (commas param) = true
is_listed (commas dv) = true
is_listed (commas a_name) = true
is_listed (commas argument) = true
is_listed (commas _) = false
is_listed _ = true

abbrev pub Meets : List Tok → (s : Symbol) → ℕ → Value s → ℕ → Value s → Type 0
Meets toks s j v k w = ((k ≡ j) × (w ≡ v)) ⊎ (IsFront toks s j v ⊎ IsFront toks s k w)

-- a symbol behind which only symbols that read nothing stand goes on at the end of the row
abbrev pub Tail : List Tok → (ss : List Symbol) → ℕ → Values ss → Type 0
Tail toks [] j vs = ⊥
Tail toks (s ∷ ss) j vs = (IsFront toks s j vs.0 × (row_nullable ss ≡ true)) ⊎ Tail toks ss j vs.1

abbrev pub MeetsRow : List Tok → (ss : List Symbol) → ℕ → Values ss → ℕ → Values ss → Type 0
MeetsRow toks ss j vs k ws = ((k ≡ j) × (ws ≡ vs)) ⊎ (Tail toks ss j vs ⊎ Tail toks ss k ws)

-- so it is with all readings that are less tall
abbrev pub AllMeet : List Tok → ℕ → Type 0
AllMeet toks n = (s : Symbol) → is_listed s ≡ true → (i j k : ℕ) (v w : Value s) → Tree toks n s i j v → Tree toks n s i k w → Meets toks s j v k w

abbrev pub RowMeets : List Tok → ℕ → List Symbol → Type 0
RowMeets toks n ss = (i j k : ℕ) (vs ws : Values ss) → RowBy (Tree toks n) ss i j vs → RowBy (Tree toks n) ss i k ws → MeetsRow toks ss j vs k ws

-- what each symbol goes on with begins nothing behind it
abbrev pub is_told : List Symbol → Bool
is_told [] = true
is_told (s ∷ ss) = is_listed s && (is_disjoint (follows s) (row_firsts ss) && is_told ss)

-- what the last symbols go on with is among these
abbrev pub tails_within : List Symbol → List Symbol → Bool
tails_within fs [] = true
tails_within fs (s ∷ ss) = (not (row_nullable ss) || within (follows s) fs) && tails_within fs ss

module _ (toks : List Tok) (n : ℕ) where
  -- a symbol that goes on where the next ones begin is at the end of the row
  pub behind_front : (t : Symbol) (ss : List Symbol) (m j : ℕ) (v : Value t) (vs : Values ss) → is_disjoint (follows t) (row_firsts ss) ≡ true → RowBy (Tree toks n) ss m j vs → IsFront toks t m v → IsFront toks t j v × (row_nullable ss ≡ true)
  behind_front t ss m j v vs d r f = elim (row_begin toks n ss m j vs r) [
    | inl e ↦ (subst (λ (q : ℕ). IsFront toks t q v) (sym' e.0) f, e.1)
    | inr o ↦ absurd (one_disjoint (row_firsts ss) d f.goes_on o)
  ]

  module _ (meet : AllMeet toks n) where
    pub next_meets : (t : Symbol) (ss : List Symbol) → is_listed t ≡ true → is_disjoint (follows t) (row_firsts ss) ≡ true → RowMeets toks n ss → RowMeets toks n (t ∷ ss)
    next_meets t ss known d rest i j k vs ws (m, a, x) (l, b, y) = elim (meet t known i m l vs.0 ws.0 a b) [
      | inl e ↦ elim (rest m j k vs.1 ws.1 x (subst (λ (q : ℕ). RowBy (Tree toks n) ss q k ws.1) e.0 y)) [
        | inl g ↦ let h : ws ≡ vs = (λ o. (e.1 o, g.1 o)) in inl (g.0, h)
        | inr (inl g) ↦ inr (inl (inr g))
        | inr (inr g) ↦ inr (inr (inr g))
      ]
      | inr (inl f) ↦ inr (inl (inl (behind_front t ss m j vs.0 vs.1 d x f)))
      | inr (inr f) ↦ inr (inr (inl (behind_front t ss l k ws.0 ws.1 d y f)))
    ]

    none_meets : RowMeets toks n []
    none_meets i j k vs ws x y = inl (y ∙ sym' x, refl)

    pub row_meets : (ss : List Symbol) → is_told ss ≡ true → RowMeets toks n ss
    row_meets [] e = none_meets
    row_meets (t ∷ ss) e =
        let p = and_parts (is_listed t) (is_disjoint (follows t) (row_firsts ss) && is_told ss) e in
        let q = and_parts (is_disjoint (follows t) (row_firsts ss)) (is_told ss) p.1 in
        next_meets t ss p.0 q.0 (row_meets ss q.1)

  pub tail_among : (fs ss : List Symbol) (j : ℕ) (vs : Values ss) → tails_within fs ss ≡ true → Tail toks ss j vs → OneOf toks j fs
  tail_among fs [] j vs e t = absurd t
  tail_among fs (s ∷ ss) j vs e (inl t) =
      let p = and_parts (not (row_nullable ss) || within (follows s) fs) (tails_within fs ss) e in
      elim (or_cases (not (row_nullable ss)) (within (follows s) fs) p.0) [
        | inl b ↦ let c = not-true (row_nullable ss) b in let d = t.1 in absurd (cc)
        | inr w ↦ one_within fs w t.0.goes_on
      ]
  tail_among fs (s ∷ ss) j vs e (inr t) = tail_among fs ss j vs.1 (and_parts (not (row_nullable ss) || within (follows s) fs) (tails_within fs ss) e).1 t

-- two readings by one alternative meet, and where its last symbol goes on the whole does
pub record OneMeets (toks : List Tok) (n : ℕ) (s : Symbol) (r : Rule (Value s)) : Type 0 where
  pub meets : RowMeets toks n r.parts
  pub tail : (e : Extent) (vs : Values r.parts) (j : ℕ) → r.fits vs ≡ true → Tail toks r.parts j vs → IsFront toks s j (r.make e vs)

-- of readings by two alternatives one goes on
abbrev pub Differ : List Tok → ℕ → (s : Symbol) → Rule (Value s) → Rule (Value s) → Type 0
Differ toks n s q r = (i j k : ℕ) (v w : Value s) → ByOne toks (Tree toks n) q i j v → ByOne toks (Tree toks n) r i k w → IsFront toks s j v ⊎ IsFront toks s k w

abbrev pub AllOneMeet : List Tok → ℕ → (s : Symbol) → List (Rule (Value s)) → Type 0
AllOneMeet toks n s [] = Unit {0}
AllOneMeet toks n s (r ∷ rs) = OneMeets toks n s r × AllOneMeet toks n s rs

abbrev pub DifferFrom : List Tok → ℕ → (s : Symbol) → Rule (Value s) → List (Rule (Value s)) → Type 0
DifferFrom toks n s q [] = Unit {0}
DifferFrom toks n s q (r ∷ rs) = Differ toks n s q r × DifferFrom toks n s q rs

abbrev pub AllDiffer : List Tok → ℕ → (s : Symbol) → List (Rule (Value s)) → Type 0
AllDiffer toks n s [] = Unit {0}
AllDiffer toks n s (r ∷ rs) = DifferFrom toks n s r rs × AllDiffer toks n s rs

module _ (toks : List Tok) (n : ℕ) (s : Symbol) (i j k : ℕ) (v w : Value s) where
  one_meets : (r : Rule (Value s)) → OneMeets toks n s r → ByOne toks (Tree toks n) r i j v → ByOne toks (Tree toks n) r i k w → Meets toks s j v k w
  one_meets r m x y = elim (m.meets i j k x.0 y.0 x.1 y.1) [
    | inl e ↦ inl (e.0, y.3 ∙ (ap (λ (q : ℕ). r.make (extent toks i q) y.0) e.0 ∙ (ap (r.make (extent toks i j)) e.1 ∙ sym' x.3)))
    | inr (inl t) ↦ inr (inl (subst (λ (z : Value s). IsFront toks s j z) (sym' x.3) (m.tail (extent toks i j) x.0 j x.2 t)))
    | inr (inr t) ↦ inr (inr (subst (λ (z : Value s). IsFront toks s k z) (sym' y.3) (m.tail (extent toks i k) y.0 k y.2 t)))
  ]

  first_differs : (q : Rule (Value s)) (rs : List (Rule (Value s))) → DifferFrom toks n s q rs → ByOne toks (Tree toks n) q i j v → By toks (Tree toks n) rs i k w → IsFront toks s j v ⊎ IsFront toks s k w
  first_differs q [] d x y = absurd y
  first_differs q (r ∷ rs) d x (inl y) = d.0 i j k v w x y
  first_differs q (r ∷ rs) d x (inr y) = first_differs q rs d.1 x y

module _ (toks : List Tok) (n : ℕ) (s : Symbol) (i j k : ℕ) (v w : Value s) where
  -- two readings by some alternatives
  pub rules_meet : (rs : List (Rule (Value s))) → AllOneMeet toks n s rs → AllDiffer toks n s rs → By toks (Tree toks n) rs i j v → By toks (Tree toks n) rs i k w → Meets toks s j v k w
  rules_meet [] m d x y = absurd x
  rules_meet (r ∷ rs) m d (inl x) (inl y) = one_meets toks n s i j k v w r m.0 x y
  rules_meet (r ∷ rs) m d (inl x) (inr y) = inr (first_differs toks n s i j k v w r rs d.0 x y)
  rules_meet (r ∷ rs) m d (inr x) (inl y) = elim (first_differs toks n s i k j w v r rs d.0 y x) [ inl f ↦ inr (inr f) | inr f ↦ inr (inl f) ]
  rules_meet (r ∷ rs) m d (inr x) (inr y) = rules_meet rs m.1 d.1 x y

-- a check of some alternatives, each by itself
abbrev pub each_told : {V : Type 0} → List Symbol → List (Rule V) → Bool
each_told fs [] = true
each_told fs (r ∷ rs) = (is_told r.parts && tails_within fs r.parts) && each_told fs rs

pub each_meets : (toks : List Tok) (n : ℕ) → AllMeet toks n → (s : Symbol) (rs : List (Rule (Value s))) → each_told (fronts s) rs ≡ true → AllOneMeet toks n s rs
each_meets toks n meet s [] e = tt
each_meets toks n meet s (r ∷ rs) e =
    let p = and_parts (is_told r.parts && tails_within (fronts s) r.parts) (each_told (fronts s) rs) e in
    let q = and_parts (is_told r.parts) (tails_within (fronts s) r.parts) p.0 in (
      record {
        meets = row_meets toks n meet r.parts q.0;
        tail = λ x vs j f t. front s (r.make x vs) (tail_among toks n (fronts s) r.parts j vs q.1 t);
      },
      each_meets toks n meet s rs p.1,
    )
