-- A family's number depends on how the branches were made alone.
use Rattle.std.proofs.Common.{◌≡◌, ℕ, ◌+◌, Bool, List, [], ◌∷◌, Option, Some, None, refl, sym, ap, ◌∙◌}
use Rattle.xs_instr.specs.Machine.{and_then}
use Rattle.xc_kernel.specs.Plain as kernel
use Rattle.xc_meaning.specs.Counts.Families.{child_among, child_by, child_family, child_of, is_second}
use Rattle.xc_meaning.specs.States.Branches.{Birth, Branch, births}
use Rattle.xc_meaning.specs.States.Worlds.{World}
use Rattle.xr_match.specs.Lives.{Family, of_child, of_root}
use Rattle.xr_match.specs.Meanings.{family_in}

-- the branches of a family's `par`s, by the births alone
abbrev child_in : (family index number : ℕ) → List (Option Birth) → (j : ℕ) → Option ℕ
child_in family index number [] j = None
child_in family index number (b ∷ bs) j = child_by (is_second family b) (child_of index number b) j (child_in family index (number + 1) bs)

child_by_same : (here : Bool) (first : Option ℕ) (j : ℕ) (f g : ℕ → Option ℕ) → ((i : ℕ) → f i ≡ g i) → child_by here first j f ≡ child_by here first j g
child_by_same here first j f g h = ap (child_by here first j) (λ i n. h n i)

child_born : (family index number : ℕ) (bs : List Branch) (j : ℕ) → child_among family index number bs j ≡ child_in family index number (births bs) j
child_born family index number [] j = refl
child_born family index number (b ∷ bs) j =
    child_by_same (is_second family b.birth) (child_of index number b.birth) j (child_among family index (number + 1) bs) (child_in family index (number + 1) (births bs))
    (child_born family index (number + 1) bs)

child_alike : (x y : World) → births x.branches ≡ births y.branches → (family par index : ℕ) → child_family x family par index ≡ child_family y family par index
child_alike x y e family par index =
    child_born family index 0 x.branches par ∙ (ap (λ bs. child_in family index 0 bs par) e ∙ sym (child_born family index 0 y.branches par))

child_of_maker : (x y : World) → births x.branches ≡ births y.branches → (par index : ℕ) (o : Option ℕ) → and_then o (λ f. child_family x f par index) ≡ and_then o (λ f. child_family y f par index)
child_of_maker x y e par index None = refl
child_of_maker x y e par index (Some maker) = child_alike x y e maker par index

pub family_alike : (K : kernel.Kernel) (x y : World) → births x.branches ≡ births y.branches → (name : Family) → family_in K x name ≡ family_in K y name
family_alike K x y e (of_root core place) = refl
family_alike K x y e (of_child maker par index) =
    ap (λ o. and_then o (λ f. child_family x f par index)) (family_alike K x y e maker) ∙ child_of_maker x y e par index (family_in K y maker)
