-- Whether there is a function `main` without parameters.
use Rattle.std.proofs.Common.{◌≡◌, ℕ, suc, ◌+◌, ◌<◌, ◌⊎◌, inl, inr, List, [], ◌∷◌, length, map, get_or, slice_get, Bool, true, false, ◌&&◌, nat_eq, codes, option_map, None, Some, refl, sym, ap, subst, ◌∙◌, arith}
use Rattle.std.specs.Cmp.Lexicographic.{pointwise, bytes_decides}
use Rattle.std.proofs.lemmas.Bool.Decides.{nat_tests}
use Rattle.std.proofs.lemmas.Option.{slice_get_read, slice_get-map}
use Rattle.xw_words.proofs.Lists.{below_or_at, some_same}
use Rattle.xw_words.specs.declared.pos.Pos.{Pos}
use Rattle.xw_words.specs.declared.pos.Broken.{Broken}
use Rattle.xc_tree.specs.declared.tree.Param.{Param}
use Rattle.xc_tree.specs.declared.tree.Item.{Item as Entry}
use Rattle.xc_tree.specs.Plain as plain
use Rattle.xc_tree.specs.Trees.{item_of}
use Rattle.xc_tree.specs.Names.Rules.{IsMain}
use Rattle.xc_tree.specs.Least.{IsLeastOf}
use Rattle.xc_names.specs.Mains.{IsMainless, mainless, is_main}
use Rattle.xc_tree.proofs.Leasts.{none_broken, one_broken}

no_params : (ps : List Param) → nat_eq (length ps) 0 ≡ true → ps ≡ []
no_params [] e = refl
no_params (p ∷ ps) e = absurd (nonzero (length ps) e)
  where
    equal : (a b : ℕ) → nat_eq a b ≡ true → a ≡ b
    equal a b h = grind (arith, nat_tests)

    nonzero : (n : ℕ) → nat_eq (suc n) 0 ≡ true → ⊥
    nonzero n h = let k = equal (suc n) 0 h in omega arith

both_true : (a b : Bool) → (a && b) ≡ true → (a ≡ true) × (b ≡ true)
both_true true b e = (refl, e)
both_true false b e = absurd (cc)

pub found_main : (program : List plain.Item) (k : ℕ) (i : plain.Item) → slice_get program k ≡ Some i → is_main i ≡ true → IsMain program k
found_main program k (plain.port p) e h = absurd (cc)
found_main program k (plain.function f b) e h =
    let x = both_true (pointwise nat_eq f.name.text (codes "main")) (nat_eq (length f.params) 0) h in
    record { head = f; body = b; there = e; spelled = (bytes_decides f.name.text (codes "main")).0 x.0; without = no_params f.params x.1 }

pub no_main : (program : List plain.Item) (k : ℕ) (i : plain.Item) → slice_get program k ≡ Some i → is_main i ≡ false → IsMain program k → ⊥
no_main program k i e h m = by i e h
  where
    yes : is_main (plain.function m.head m.body) ≡ true
    yes = ap (λ b. b && nat_eq (length m.head.params) 0) ((bytes_decides m.head.name.text (codes "main")).1 m.spelled) ∙ ap (λ (ps : List Param). nat_eq (length ps) 0) m.without

    by : (j : plain.Item) → slice_get program k ≡ Some j → is_main j ≡ false → ⊥
    by j f g = let s : j ≡ plain.function m.head m.body = some_same j _ (sym f ∙ m.there) in let y = ap is_main s in cc

-- item k of the tree
pub item_at : (items : List Entry) (k : ℕ) (x : Entry) → x ≡ get_or items k x → k < length items → slice_get (map item_of items) k ≡ Some (item_of x)
item_at items k x e h = slice_get-map item_of items k ∙ ap (option_map item_of) (slice_get_read items (length items) k x refl h e)

pub with_main : (program : List plain.Item) (k : ℕ) → IsMain program k → IsLeastOf (IsMainless program) None
with_main program k m = none_broken (IsMainless program) by
  where
    by : (b : Broken) → IsMainless program b → ⊥
    by b (mainless h) = h.no_main k m

pub without_main : (program : List plain.Item) → ((k : ℕ) → IsMain program k → ⊥) → IsLeastOf (IsMainless program) (Some (record { rule = 305; pos = record { line = 1; col = 1 } }))
without_main program h = one_broken (IsMainless program) _ (mainless (record { no_main = h; place = refl })) only
  where
    only : (b : Broken) → IsMainless program b → b ≡ record { rule = 305; pos = record { line = 1; col = 1 } }
    only b (mainless m) = ap (λ (p : Pos). record { rule = 305; pos = p }) m.place

pub none_so_far : (program : List plain.Item) (k : ℕ) → ((j : ℕ) → j < k → IsMain program j → ⊥) → (IsMain program k → ⊥) → (j : ℕ) → j < k + 1 → IsMain program j → ⊥
none_so_far program k before here j h m = by (below_or_at j k h)
  where
    by : (j < k) ⊎ (j ≡ k) → ⊥
    by (inl g) = before j g m
    by (inr g) = here (subst (IsMain program) g m)
