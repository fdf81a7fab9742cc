-- At the start the branch of each root stands in the sides that the root's code has in the image.
use Rattle.std.proofs.Common.{◌≡◌, ℕ, zero, suc, ◌+◌, List, [], ◌∷◌, map, Some, refl, sym, ap, ◌∙◌}
use Rattle.std.specs.Prelude.{slice_get}
use Rattle.std.proofs.lemmas.Option.{same_Some}
use Rattle.xc_kernel.specs.Branches.{branches_of}
use Rattle.xc_kernel.specs.Plain as kernel
use Rattle.xc_meaning.specs.Runs.{codes_of_roots, kernel_root, kernel_start, root_branches}
use Rattle.xc_meaning.specs.Settings.Sides.{sides_in}
use Rattle.xc_meaning.specs.States.Branches.{Branch}
use Rattle.xl_image.specs.Images.{no_sides, root_sides, sided_from, sides_or}
use Rattle.xl_ends.specs.Ends.{Sides, codes_in}

codes_are : (rs : List kernel.Root) → codes_of_roots (map kernel_root rs) ≡ codes_in (branches_of rs)
codes_are [] = refl
codes_are (r ∷ rs) = ap (λ l. r.body ∷ l) (codes_are rs)

sides_from : (number : ℕ) (before : List kernel.Statements) (others sides : Sides) (rs : List kernel.Root) (n : ℕ) (branch : Branch) →
    slice_get (root_branches number before sides (map kernel_root rs)) n ≡ Some branch → branch.sides ≡ sides_or others (slice_get (sided_from sides before rs) n)
sides_from number before others sides [] n branch e = absurd cc
sides_from number before others sides (r ∷ rs) zero branch e =
    sym (ap (λ (b : Branch). b.sides) (same_Some _ branch e)) ∙ ap (λ l. sides_in 0 before r.body l sides) (codes_are rs)
sides_from number before others sides (r ∷ rs) (suc n) branch e = sides_from (number + 1) (r.body ∷ before) others sides rs n branch e

pub start_sides : (K : kernel.Kernel) (n : ℕ) (b : Branch) → slice_get (kernel_start K).branches n ≡ Some b → b.sides ≡ root_sides K n
start_sides K n b e = sides_from 0 [] (no_sides K) (no_sides K) K.roots n b e
