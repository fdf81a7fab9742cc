-- Where the variables of a list stand that are laid out one behind the other.
use Rattle.std.proofs.Common.{◌≡◌, ◌⊎◌, ⊎_elim, ℕ, zero, suc, ◌+◌, ◌<◌, ◌≤◌, Bool, true, false, List, [], ◌∷◌, Some, slice_get, sum_by, take, nat_eq, refl, sym, ap, ◌∙◌, arith}
use Rattle.std.proofs.lemmas.List.Sums.{sum_by-cons}
use Rattle.xc_kernel.specs.declared.kernel.Var.{Var}
use Rattle.xc_disjoint.specs.Cores.{if_so}
use Rattle.xl_expr.specs.declared.plan.VarAt.{VarAt}
use Rattle.xl_expr.specs.declared.plan.VarAt.TheVariants.{Near}
use Rattle.xl_expr.specs.declared.plan.VarPlan.{VarPlan}
use Rattle.xl_expr.specs.Plans.{var_in}
use Rattle.xl_expr.specs.Frames.{IsNear}
use Rattle.xl_plan.specs.Layout.{words_here, word_of, place_if, place_of, places_from}
use Rattle.xl_plan.specs.Planned.{NoneShare}
use Rattle.xl_plan.proofs.Lists.{some_given, none_given, within_all, before_later}

eq_true : (a b : ℕ) → a ≡ b → nat_eq a b ≡ true
eq_true a b e = grind arith

eq_from : (a b : ℕ) → nat_eq a b ≡ true → a ≡ b
eq_from a b e = grind arith

module _ (core : ℕ) where
  abbrev found_at : (word words : ℕ) → VarPlan
  found_at word words = record { place = Near word; words = words }

  -- a variable of the core
  place_here : (word : ℕ) (v : Var) → v.core ≡ core → place_of core word v ≡ Some (found_at word v.words)
  place_here word v e = ap (λ b. place_if b word v.words) (eq_true v.core core e)

  pub placed_from : (word : ℕ) (vs : List Var) (v : ℕ) (x : Var) → slice_get vs v ≡ Some x → x.core ≡ core → var_in (places_from core word vs) v ≡ Some (found_at (word + word_of core vs v) x.words)
  placed_from word [] v x e here = absurd (none_given e)
  placed_from word (y ∷ vs) zero x e here =
      let here' : y.core ≡ core = ap (λ (z : Var). z.core) (some_given e) ∙ here in
      place_here word y here'
      ∙ ap (λ w. Some (found_at w y.words)) (let q : word ≡ word + 0 = omega arith in q)
      ∙ ap (λ (z : Var). Some (found_at (word + 0) z.words)) (some_given e)
  placed_from word (y ∷ vs) (suc v) x e here =
      let s = sum_by-cons (words_here core) y (take v vs) in
      placed_from (word + words_here core y) vs v x e here
      ∙ ap (λ w. Some (found_at w x.words)) (let q : (word + words_here core y) + word_of core vs v ≡ word + word_of core (y ∷ vs) (suc v) = omega arith in q)

  -- what has a place is such a variable
  pub record Stands (word : ℕ) (vs : List Var) (v : ℕ) (found : VarPlan) : Type 0 where
    pub variable : Var
    pub there : slice_get vs v ≡ Some variable
    pub here : variable.core ≡ core
    pub is : found ≡ found_at (word + word_of core vs v) variable.words

  first_stands : (b : Bool) (word : ℕ) (y : Var) (vs : List Var) (found : VarPlan) → nat_eq y.core core ≡ b → place_if b word y.words ≡ Some found → Stands word (y ∷ vs) zero found
  first_stands true word y vs found e f = record {
    variable = y;
    there = refl;
    here = eq_from y.core core e;
    is = sym (some_given f) ∙ ap (λ w. found_at w y.words) (let q : word ≡ word + 0 = omega arith in q);
  }
  first_stands false word y vs found e f = absurd (none_given f)

  later_stands : (word : ℕ) (y : Var) (vs : List Var) (v : ℕ) (found : VarPlan) → Stands (word + words_here core y) vs v found → Stands word (y ∷ vs) (suc v) found
  later_stands word y vs v found h =
      let s = sum_by-cons (words_here core) y (take v vs) in
      record {
        variable = h.variable;
        there = h.there;
        here = h.here;
        is = h.is ∙ ap (λ w. found_at w h.variable.words) (let q : (word + words_here core y) + word_of core vs v ≡ word + word_of core (y ∷ vs) (suc v) = omega arith in q);
      }

  pub stands_from : (word : ℕ) (vs : List Var) (v : ℕ) (found : VarPlan) → var_in (places_from core word vs) v ≡ Some found → Stands word vs v found
  stands_from word [] v found e = absurd (none_given e)
  stands_from word (y ∷ vs) zero found e = first_stands (nat_eq y.core core) word y vs found refl e
  stands_from word (y ∷ vs) (suc v) found e = later_stands word y vs v found (stands_from (word + words_here core y) vs v found e)

  -- from word 0 on

  near_of : (a b : VarAt) (n m : ℕ) → a ≡ b → a ≡ Near n → b ≡ Near m → n ≡ m
  near_of a b n m e f g = near_same n m (sym f ∙ e ∙ g)
    where
      number_of : VarAt → ℕ
      number_of (Near n) = n
      number_of other = 0

      near_same : (n m : ℕ) → Near n ≡ Near m → n ≡ m
      near_same n m e = ap number_of e

  -- its word and its words
  pub record Occupies (vs : List Var) (v n : ℕ) (found : VarPlan) : Type 0 where
    pub variable : Var
    pub there : slice_get vs v ≡ Some variable
    pub word : n ≡ word_of core vs v
    pub words : found.words ≡ words_here core variable

  pub occupies : (vs : List Var) (v n : ℕ) (found : VarPlan) → IsNear (places_from core 0 vs) v n found → Occupies vs v n found
  occupies vs v n found near = by (stands_from 0 vs v found near.known)
    where
      by : Stands 0 vs v found → Occupies vs v n found
      by h = record {
        variable = h.variable;
        there = h.there;
        word = near_of found.place (Near (0 + word_of core vs v)) n (word_of core vs v) (ap (λ (f : VarPlan). f.place) h.is) near.place (ap (λ w. Near w) (let q : 0 + word_of core vs v ≡ word_of core vs v = omega arith in q));
        words = ap (λ (f : VarPlan). f.words) h.is ∙ sym (ap (λ b. if_so b h.variable.words) (eq_true h.variable.core core h.here));
      }

  pub all_below : (vs : List Var) (v n : ℕ) (found : VarPlan) → IsNear (places_from core 0 vs) v n found → n + found.words ≤ sum_by (words_here core) vs
  all_below vs v n found near =
      let h = occupies vs v n found near in
      let w = within_all (words_here core) vs v h.variable h.there in
      let a = h.word in
      let b = h.words in
      omega arith

  earlier : (vs : List Var) (v n i w m j : ℕ) (found other : VarPlan) → IsNear (places_from core 0 vs) v n found → IsNear (places_from core 0 vs) w m other → v < w → i < found.words → n + i ≡ m + j → ⊥
  earlier vs v n i w m j found other near near' lt within same =
      let h = occupies vs v n found near in
      let g = occupies vs w m other near' in
      let b = before_later (words_here core) vs v w h.variable lt h.there in
      let a1 = h.word in
      let a2 = h.words in
      let a3 = g.word in
      omega arith

  order : (v w : ℕ) → (v ≡ w) ⊎ ((v < w) ⊎ (w < v))
  order v w = grind arith

  pub none_share : (vs : List Var) → NoneShare (places_from core 0 vs)
  none_share vs v n i w m j found other near near' within within' same =
      ⊎_elim (λ e. e)
      (λ o. absurd (⊎_elim
      (λ lt. earlier vs v n i w m j found other near near' lt within same)
      (λ lt. earlier vs w m j v n i other found near' near lt within' (sym same))
      o))
      (order v w)
