-- The branches and cases that the walk has made.
use Rattle.std.specs.Prelude.{List, [], ◌∷◌, map, Option, Some, None}
use Rattle.xc_kernel.specs.declared.statement.Kst.{Kst}
use Rattle.xc_kernel.specs.Copy.{joined}
use Rattle.xc_kernel.specs.Flow as spec
use Rattle.xc_kernel.specs.Kernels.{statement_of, branch_of, case_of}
use Rattle.xc_kernel.specs.Plain as kernel
use Rattle.xc_inline.specs.Copied.{copy_of}
use Rattle.xc_inline.specs.declared.parts.Branched.{Branched}
use Rattle.xc_inline.specs.declared.parts.Cased.{Cased}

-- some branches before others
abbrev pub branches_before : List kernel.Branch → kernel.Branches → kernel.Branches
branches_before [] others = others
branches_before (b ∷ bs) others = kernel.more_branches b (branches_before bs others)

-- those that were made before others
abbrev pub branched_before : Branched → spec.Branched → spec.Branched
branched_before b others = record {
  made = joined (copy_of b.made []) others.made;
  branches = branches_before (map branch_of b.branches) others.branches;
}

-- some cases before others
abbrev pub cases_before : List kernel.Case → kernel.Cases → kernel.Cases
cases_before [] others = others
cases_before (c ∷ cs) others = kernel.more_cases c (cases_before cs others)

-- the first `default`
abbrev pub default_before : Option (List Kst) → kernel.Default → kernel.Default
default_before None others = others
default_before (Some body) others = kernel.default (kernel.statements (map statement_of body))

-- those that were made before others
abbrev pub cased_before : Cased → spec.Cased → spec.Cased
cased_before c others = record {
  made = joined (copy_of c.made []) others.made;
  cases = cases_before (map case_of c.cases) others.cases;
  otherwise = default_before c.otherwise others.otherwise;
}
