-- How the counts of a program's text and those of its kernel fit together.
use Rattle.std.specs.Prelude.{◌≤◌, ◌*◌, max, ℕ, List}
use Rattle.xc_tree.specs.declared.token.Tok.{Tok}
use Rattle.xc_tree.specs.Depth.{highest}
use Rattle.xc_tree.specs.Derives.{IsProgram}
use Rattle.xc_tree.specs.Plain as tree
use Rattle.xc_kernel.specs.Plain as kernel
use Rattle.xc_kernel.specs.Copies.{Copies}
use Rattle.xc_meaning.specs.Counts.KernelCounts.{branch_count, greatest_count}
use Rattle.xc_meaning.specs.Counts.TextCounts.{twice_greatest}

-- the greatest number of branches of a `par` in a statement
abbrev mutual
  pub widest : kernel.Statement → ℕ
  widest (kernel.set_zero v) = 0
  widest (kernel.set place e) = 0
  widest (kernel.output o) = 0
  widest (kernel.input i) = 0
  widest (kernel.if_then test a b) = max (widest_in a) (widest_in b)
  widest (kernel.loop test body next) = max (widest_in body) (widest_in next)
  widest (kernel.block n ss) = widest_in ss
  widest (kernel.exit n) = 0
  widest (kernel.select cases otherwise pos) = max (widest_in_cases cases) (widest_in_default otherwise)
  widest (kernel.par bs) = max (branch_count bs) (widest_in_branches bs)
  widest (kernel.transaction c is_master ss start close) = widest_in ss

  pub widest_in : kernel.Statements → ℕ
  widest_in kernel.no_more = 0
  widest_in (kernel.more s ss) = max (widest s) (widest_in ss)

  pub widest_in_default : kernel.Default → ℕ
  widest_in_default kernel.no_default = 0
  widest_in_default (kernel.default ss) = widest_in ss

  pub widest_in_cases : kernel.Cases → ℕ
  widest_in_cases kernel.no_case = 0
  widest_in_cases (kernel.more_cases c cs) = max (widest_in_case c) (widest_in_cases cs)

  pub widest_in_case : kernel.Case → ℕ
  widest_in_case (kernel.case guard i ss) = widest_in ss

  pub widest_in_branches : kernel.Branches → ℕ
  widest_in_branches kernel.no_branch = 0
  widest_in_branches (kernel.more_branches b bs) = max (widest_in_branch b) (widest_in_branches bs)

  pub widest_in_branch : kernel.Branch → ℕ
  widest_in_branch (kernel.branch ss pos) = widest_in ss

abbrev pub widest_in_root : kernel.Root → ℕ
widest_in_root r = widest_in r.body

-- Where no `par` of a program's kernel has more than eight branches, the kernel's greatest count is at most twice that of the text.
abbrev pub CountsFit : Type 0
CountsFit =
    (toks : List Tok) (P : List tree.Item) (K : kernel.Kernel) → IsProgram toks P → Copies P K →
    highest widest_in_root K.roots ≤ 8 → greatest_count K ≤ 2 * twice_greatest P
