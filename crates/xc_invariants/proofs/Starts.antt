-- The branches of a start.
use Rattle.std.proofs.Common.{◌≡◌, ℕ, zero, suc, ◌+◌, List, [], ◌∷◌, map, Option, Some, slice_get, refl, sym, ap, subst, ◌∙◌, arith}
use Rattle.xc_kernel.specs.Plain as kernel
use Rattle.xc_meaning.specs.States.Channels.{Side}
use Rattle.xc_meaning.specs.States.Items.{Item, ends, todo}
use Rattle.xc_meaning.specs.States.Branches.{Branch}
use Rattle.xc_meaning.specs.Settings.Sides.{sides_in}
use Rattle.xc_meaning.specs.Runs.{codes_of_roots, root_branch, root_branches, kernel_root, kernel_start, no_side}
use Rattle.xc_invariants.specs.Every.{AllItems, AllBranches}
use Rattle.xc_kernel.specs.Branches.{branches_of}
use Rattle.xc_invariants.specs.Rules.{code_at}
use Rattle.xc_meaning.proofs.Basics.{some_given, none_given}
use Rattle.xc_invariants.proofs.Inherited.{all_todo}
use Rattle.xc_invariants.proofs.Lookups.{front_of, next_of}

-- a root's branch, with its place among the roots
pub record IsRoot (number : ℕ) (before : List kernel.Statements) (sides : List (Option Side)) (rs : List kernel.Root) (j : ℕ) (c : Branch) : Type 0 where
  pub root : kernel.Root
  pub is_there : slice_get rs j ≡ Some root
  pub code : code_at (branches_of rs) j ≡ Some root.body
  pub code_there : slice_get (codes_of_roots (map kernel_root rs)) j ≡ Some root.body
  pub is : c ≡ root_branch (number + j) root.core (sides_in 0 (front_of before (codes_of_roots (map kernel_root rs)) j) root.body (next_of (codes_of_roots (map kernel_root rs)) j) sides) (todo root.body (ends ∷ []))

pub root_at : (number : ℕ) (before : List kernel.Statements) (sides : List (Option Side)) (rs : List kernel.Root) (j : ℕ) (c : Branch) → slice_get (root_branches number before sides (map kernel_root rs)) j ≡ Some c → IsRoot number before sides rs j c
root_at number before sides [] j c e = none_given e
root_at number before sides (r ∷ rs) zero c e = record {
  root = r;
  is_there = refl;
  code = refl;
  code_there = refl;
  is = sym (some_given e) ∙ ap (λ n. root_branch n r.core (sides_in 0 before r.body (codes_of_roots (map kernel_root rs)) sides) (todo r.body (ends ∷ []))) (let l : number ≡ number + 0 = omega arith in l);
}
root_at number before sides (r ∷ rs) (suc j) c e =
    let h = root_at (number + 1) (r.body ∷ before) sides rs j c e in record {
      root = h.root;
      is_there = h.is_there;
      code = h.code;
      code_there = h.code_there;
      is = h.is ∙ ap (λ n. root_branch n h.root.core (sides_in 0 (front_of (r.body ∷ before) (codes_of_roots (map kernel_root rs)) j) h.root.body (next_of (codes_of_roots (map kernel_root rs)) j) sides) (todo h.root.body (ends ∷ []))) (let l : number + 1 + j ≡ number + suc j = omega arith in l);
    }

pub start_at : (K : kernel.Kernel) (j : ℕ) (c : Branch) → slice_get (kernel_start K).branches j ≡ Some c → IsRoot 0 [] (map no_side K.channels) K.roots j c
start_at K j c e = root_at 0 [] (map no_side K.channels) K.roots j c e

pub all_at : (P : Item → Type 0) (bs : kernel.Branches) (j : ℕ) (ss : kernel.Statements) → code_at bs j ≡ Some ss → AllBranches P bs → P ends → AllItems P (todo ss (ends ∷ []))
all_at P kernel.no_branch j ss e h g = none_given e
all_at P (kernel.more_branches (kernel.branch a pos) bs) zero ss e h g = subst (λ b. AllItems P (todo b (ends ∷ []))) (some_given e) (all_todo P a (ends ∷ []) h.0 (g, tt))
all_at P (kernel.more_branches (kernel.branch a pos) bs) (suc j) ss e h g = all_at P bs j ss e h.1 g
