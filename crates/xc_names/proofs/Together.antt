-- The rules of names together.
use Rattle.std.proofs.Common.{◌≡◌, ℕ, suc, ◌+◌, ◌<◌, ◌≤◌, ◌⊎◌, inl, inr, List, [], ◌∷◌, ◌++◌, length, take, drop, slice_get, Option, Some, refl, sym, ap, subst, ◌∙◌, arith, length-append, append_assoc}
use Rattle.std.proofs.lemmas.List.{take-append-drop}
use Rattle.std.proofs.lemmas.Option.{slice_get_within}
use Rattle.xw_words.specs.declared.pos.Broken.{Broken}
use Rattle.xc_tree.specs.declared.names.Mark.{Mark}
use Rattle.xc_tree.specs.Plain.{Item}
use Rattle.xc_tree.specs.Names.Marks.{of_item, of_items, of_program}
use Rattle.xc_tree.specs.Names.Calls.{first_of}
use Rattle.xc_tree.specs.Names.Uses.{IsUse}
use Rattle.xc_tree.specs.Names.Rules.{Breaks, unknown as unknown_name, declared_again, wrong_port as a_wrong_port, on_cycle as a_cycle, without_main}
use Rattle.xc_tree.specs.Least.{IsLeastOf, first_of as first_rule}
use Rattle.xc_names.specs.Starts.{AreStarts}
use Rattle.xc_names.specs.NameRules.{IsBrokenAt, unknown, again, IsBrokenBefore}
use Rattle.xc_names.specs.PortRules.{HasWrongPort, wrong_port}
use Rattle.xc_names.specs.Cycles.{HasCycle, on_cycle}
use Rattle.xc_names.specs.Mains.{IsMainless, mainless}
use Rattle.xc_names.specs.Searches.{AreWithin}
use Rattle.xc_tree.proofs.Leasts.{of_same, either}

items_append : (n : ℕ) (xs ys : List Item) → of_items n (xs ++ ys) ≡ of_items n xs ++ of_items (n + length xs) ys
items_append n [] ys = ap (λ k. of_items k ys) (sym (plus_zero n))
  where
    plus_zero : (m : ℕ) → m + 0 ≡ m
    plus_zero m = omega arith
items_append n (x ∷ xs) ys = ap (λ ms. of_item n x ++ ms) (items_append (n + 1) xs ys ∙ ap (λ k. of_items (n + 1) xs ++ of_items k ys) (next n (length xs))) ∙ sym (append_assoc (of_item n x) (of_items (n + 1) xs) (of_items (n + suc (length xs)) ys))
  where
    next : (m k : ℕ) → (m + 1) + k ≡ m + suc k
    next m k = omega arith

first_short : (program : List Item) (k : ℕ) → first_of program k ≤ length (of_program program)
unfolding of_program
first_short program k =
    let e : of_items 0 program ≡ of_items 0 (take k program) ++ of_items (0 + length (take k program)) (drop k program) = ap (of_items 0) (sym (take-append-drop k program)) ∙ items_append 0 (take k program) (drop k program) in
    let f = ap length e ∙ length-append (of_items 0 (take k program)) (of_items (0 + length (take k program)) (drop k program)) in
    omega arith

pub are_within : (program : List Item) (ms : List Mark) (starts : List ℕ) → ms ≡ of_program program → AreStarts program starts → AreWithin starts (length ms)
are_within program ms starts e a = record { each = λ k x f. by k x f }
  where
    some_same : (x y : ℕ) → Some x ≡ Some y → x ≡ y
    some_same x y q = cc

    by : (k x : ℕ) → slice_get starts k ≡ Some x → x ≤ length ms
    by k x f =
        let less = slice_get_within starts k x f in
        let long = a.one_more in
        let is : x ≡ first_of program k = some_same x _ (sym f ∙ a.each k (omega arith)) in
        let short = first_short program k in
        let g = ap length e in
        omega arith

-- all kinds of broken rules
abbrev pub IsAny : List Item → Broken → Type 0
IsAny program b = ((IsBrokenBefore (of_program program) (length (of_program program)) b ⊎ HasWrongPort program b) ⊎ HasCycle program b) ⊎ IsMainless program b

module _ (program : List Item) where
  at_name : (b : Broken) (i : ℕ) → IsBrokenAt (of_program program) i b → Breaks program b
  at_name b i (unknown {n = n} u none) = unknown_name (record { «at» = i; name = n; used = u; unknown = none; place = refl })
  at_name b i (again {d = d} x e f h g) = declared_again (record { first = x; second = i; decl = d; again = e; before = f; earlier = h; one_scope = g; place = refl })

  to_breaks : (b : Broken) → IsAny program b → Breaks program b
  to_breaks b (inl (inl (inl k))) = at_name b k.place k.broken
  to_breaks b (inl (inl (inr (wrong_port x e)))) = subst (Breaks program) (λ j. record { rule = sym e j; pos = b.pos }) (a_wrong_port x)
  to_breaks b (inl (inr (on_cycle x))) = a_cycle x
  to_breaks b (inr (mainless x)) = without_main x

  of_breaks : (b : Broken) → Breaks program b → IsAny program b
  of_breaks b (unknown_name x) = inl (inl (inl (record { place = x.«at»; before = inside x.used; broken = subst (IsBrokenAt (of_program program) x.«at») (ap (λ p. record { rule = 301; pos = p }) (sym x.place)) (unknown x.used x.unknown) })))
    where
      inside : IsUse (of_program program) x.«at» x.name → x.«at» < length (of_program program)
      inside (inl e) = slice_get_within (of_program program) x.«at» _ e
      inside (inr e) = slice_get_within (of_program program) x.«at» _ e
  of_breaks b (declared_again x) = inl (inl (inl (record { place = x.second; before = slice_get_within (of_program program) x.second _ x.again; broken = subst (IsBrokenAt (of_program program) x.second) (ap (λ p. record { rule = 302; pos = p }) (sym x.place)) (again x.first x.again x.before x.earlier x.one_scope) })))
  of_breaks b (a_wrong_port x) = inl (inl (inr (wrong_port x refl)))
  of_breaks b (a_cycle x) = inl (inr (on_cycle x))
  of_breaks b (without_main x) = inr (mainless x)

  pub all_rules : (best : Option Broken) → IsLeastOf (IsAny program) best → IsLeastOf (Breaks program) best
  all_rules best l = of_same (IsAny program) (Breaks program) best to_breaks of_breaks l

-- the least of each kind make the least of all
module _ (program : List Item) (ms : List Mark) (is : ms ≡ of_program program) where
  pub together : (a b c d : Option Broken) → IsLeastOf (IsBrokenBefore ms (length ms)) a → IsLeastOf (HasWrongPort program) b → IsLeastOf (HasCycle program) c → IsLeastOf (IsMainless program) d → IsLeastOf (Breaks program) (first_rule (first_rule (first_rule a b) c) d)
  together a b c d p q r s =
      all_rules program (first_rule (first_rule (first_rule a b) c) d)
      (either (λ x. (IsBrokenBefore (of_program program) (length (of_program program)) x ⊎ HasWrongPort program x) ⊎ HasCycle program x) (IsMainless program) (first_rule (first_rule a b) c) d
      (either (λ x. IsBrokenBefore (of_program program) (length (of_program program)) x ⊎ HasWrongPort program x) (HasCycle program) (first_rule a b) c
      (either (IsBrokenBefore (of_program program) (length (of_program program))) (HasWrongPort program) a b
      (subst (λ (xs : List Mark). IsLeastOf (IsBrokenBefore xs (length xs)) a) is p) q) r) s)

  pub no_name : ((b : Broken) → Breaks program b → ⊥) → (b : Broken) → IsBrokenBefore ms (length ms) b → ⊥
  no_name none b k = none b (to_breaks program b (inl (inl (inl (subst (λ (xs : List Mark). IsBrokenBefore xs (length xs) b) is k)))))
