-- Branches and cases, one behind the other.
use Rattle.std.proofs.Common.{◌≡◌, List, [], ◌∷◌, ◌++◌, map, Option, Some, None, refl, ap}
use Rattle.std.specs.Option.{option_map}
use Rattle.xc_kernel.specs.declared.statement.KBranch.{KBranch}
use Rattle.xc_kernel.specs.declared.statement.KCase.{KCase}
use Rattle.xc_kernel.specs.declared.statement.Kst.{Kst}
use Rattle.xc_kernel.specs.Kernels.{branch_of, case_of, statement_of}
use Rattle.xc_kernel.specs.Plain as kernel
use Rattle.xc_inline.specs.Parts.{branches_before, cases_before, default_before}

pub branches_push : (bs : List KBranch) (b : KBranch) (others : kernel.Branches) → branches_before (map branch_of (bs ++ b ∷ [])) others ≡ branches_before (map branch_of bs) (kernel.more_branches (branch_of b) others)
branches_push [] b others = refl
branches_push (a ∷ bs) b others = ap (kernel.more_branches (branch_of a)) (branches_push bs b others)

-- before none they are all
pub branches_all : (bs : List kernel.Branch) → branches_before bs kernel.no_branch ≡ kernel.branches bs
branches_all [] = refl
branches_all (b ∷ bs) = ap (kernel.more_branches b) (branches_all bs)

pub cases_push : (cs : List KCase) (c : KCase) (others : kernel.Cases) → cases_before (map case_of (cs ++ c ∷ [])) others ≡ cases_before (map case_of cs) (kernel.more_cases (case_of c) others)
cases_push [] c others = refl
cases_push (a ∷ cs) c others = ap (kernel.more_cases (case_of a)) (cases_push cs c others)

pub cases_all : (cs : List kernel.Case) → cases_before cs kernel.no_case ≡ kernel.cases cs
cases_all [] = refl
cases_all (c ∷ cs) = ap (kernel.more_cases c) (cases_all cs)

pub default_all : (body : Option (List Kst)) → default_before body kernel.no_default ≡ kernel.default_by (option_map (map statement_of) body)
default_all None = refl
default_all (Some body) = refl
