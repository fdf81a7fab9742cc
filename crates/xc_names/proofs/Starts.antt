-- Marks and starts of items as the walk over a program gathers them.
use Rattle.std.proofs.Common.{◌≡◌, ℕ, ◌+◌, ◌<◌, ◌≤◌, ◌⊎◌, inl, inr, List, [], ◌∷◌, ◌++◌, length, take, get_or, slice_get, map, option_map, Some, refl, sym, ap, subst, ◌∙◌, arith, append_assoc, append-nil, add-zero}
use Rattle.std.proofs.lemmas.List.{take_all, length-take-le, length-map}
use Rattle.std.proofs.lemmas.Option.{slice_get_read, slice_get-map}
use Rattle.xw_words.proofs.Lists.{below_or_at, length_push, push_at, push_before, take_push}
use Rattle.xc_tree.specs.declared.names.Mark.{Mark}
use Rattle.xc_tree.specs.declared.tree.Item.{Item as Entry}
use Rattle.xc_tree.specs.Plain.{Item}
use Rattle.xc_tree.specs.Trees.{item_of}
use Rattle.xc_tree.specs.Names.Marks.{of_item, of_items, of_program}
use Rattle.xc_tree.specs.Names.Calls.{first_of}
use Rattle.xc_names.specs.Starts.{AreStarts}

pub items_push : (n : ℕ) (xs : List Item) (x : Item) → of_items n (xs ++ x ∷ []) ≡ of_items n xs ++ of_item (n + length xs) x
items_push n [] x = append-nil (of_item n x) ∙ ap (λ k. of_item k x) (sym (add-zero n))
items_push n (y ∷ xs) x = ap (λ ms. of_item n y ++ ms) (items_push (n + 1) xs x) ∙ same
  where
    place : (n + 1) + length xs ≡ n + (length xs + 1)
    place = omega arith

    same : of_item n y ++ (of_items (n + 1) xs ++ of_item ((n + 1) + length xs) x) ≡ (of_item n y ++ of_items (n + 1) xs) ++ of_item (n + length (y ∷ xs)) x
    same = rw (← append_assoc) (ap (λ k. (of_item n y ++ of_items (n + 1) xs) ++ of_item k x) (omega arith))

-- the marks of the first k items, and where each of these begins
pub record SoFar (program : List Item) (k : ℕ) (all : List Mark) (starts : List ℕ) : Type 0 where
  pub whole : all ≡ of_items 0 (take k program)
  pub count : length starts ≡ k
  pub each : (j : ℕ) → j < k → slice_get starts j ≡ Some (first_of program j)

pub begin : (program : List Item) → SoFar program 0 [] []
begin program = record { whole = refl; count = refl; each = λ j h. absurd (omega arith) }

each_more : (program : List Item) (k n : ℕ) (starts : List ℕ) → length starts ≡ k → n ≡ first_of program k → ((j : ℕ) → j < k → slice_get starts j ≡ Some (first_of program j)) → (j : ℕ) → j < k + 1 → slice_get (starts ++ n ∷ []) j ≡ Some (first_of program j)
each_more program k n starts c e h j less = by (below_or_at j k less)
  where
    by : (j < k) ⊎ (j ≡ k) → slice_get (starts ++ n ∷ []) j ≡ Some (first_of program j)
    by (inl g) = push_before starts n j (omega arith) ∙ h j g
    by (inr g) = push_at starts n j (g ∙ sym c) ∙ ap Some (e ∙ ap (first_of program) (sym g))

pub onward : (items : List Entry) (k : ℕ) (all : List Mark) (starts : List ℕ) (x : Entry) → x ≡ get_or items k x → k < length items → SoFar (map item_of items) k all starts → SoFar (map item_of items) (k + 1) (all ++ of_item k (item_of x)) (starts ++ length all ∷ [])
onward items k all starts x e less s =
    let there : slice_get (map item_of items) k ≡ Some (item_of x) = slice_get-map item_of items k ∙ ap (λ o. option_map item_of o) (slice_get_read items (length items) k x refl less e) in
    let long : length (take k (map item_of items)) ≡ k = length-take-le k (map item_of items) (within k (length items) (length (map item_of items)) less (length-map items item_of)) in
    record {
      whole = ap (λ ms. ms ++ of_item k (item_of x)) s.whole ∙ ap (λ m. of_items 0 (take k (map item_of items)) ++ of_item m (item_of x)) (sym (zero_plus k _ long)) ∙ sym (items_push 0 (take k (map item_of items)) (item_of x)) ∙ ap (of_items 0) (sym (take_push (map item_of items) k (item_of x) there));
      count = length_push starts (length all) k s.count;
      each = each_more (map item_of items) k (length all) starts s.count (ap length s.whole) s.each;
    }
  where
    within : (a b c : ℕ) → a < b → c ≡ b → a ≤ c
    within a b c h g = omega arith

    zero_plus : (a b : ℕ) → b ≡ a → 0 + b ≡ a
    zero_plus a b h = omega arith

pub at_end : (program : List Item) (k : ℕ) (all : List Mark) (starts : List ℕ) → k ≡ length program → SoFar program k all starts → (all ≡ of_program program) × AreStarts program (starts ++ length all ∷ [])
unfolding of_program
at_end program k all starts e s =
    let h = subst (λ (j : ℕ). SoFar program j all starts) e s in (
      h.whole ∙ ap (of_items 0) (take_all (length program) program (omega arith)),
      record {
        one_more = length_push starts (length all) (length program) h.count;
        each = λ j less. each_more program (length program) (length all) starts h.count (ap length h.whole) h.each j (omega arith);
      },
    )
