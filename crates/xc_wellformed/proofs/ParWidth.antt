-- A `par` needs at least one thread for each of its branches, so none in a checked kernel has more than eight.
use Rattle.std.proofs.Common.{◌≡◌, inl, inr, ℕ, ◌≤◌, Bool, List, [], ◌∷◌, sum_by, refl, ap, arith}
use Rattle.std.proofs.lemmas.Bool.{cases_lt, eq-eqb}
use Rattle.std.proofs.lemmas.List.Sums.{sum_by-cons}
use Rattle.xc_tree.specs.Depth.{highest}
use Rattle.xc_kernel.specs.Plain as kernel
use Rattle.xc_disjoint.specs.Checked.{IsChecked}
use Rattle.xc_disjoint.specs.Cores.{if_so, on_core, last_core}
use Rattle.xc_disjoint.specs.Needs.{threads_of_root, threads_on}
use Rattle.xc_disjoint.specs.Rules as rules
use Rattle.xc_disjoint.specs.Rules.{most_threads}
use Rattle.xc_disjoint.specs.Threads as threads
use Rattle.xc_meaning.specs.Counts.KernelCounts.{branch_count}
use Rattle.xc_meaning.specs.Counts.Fit.{widest, widest_in, widest_in_default, widest_in_cases, widest_in_branches, widest_in_root}
use Rattle.xc_wellformed.specs.Laws.{ParsNarrow, CheckedCountsFit}
use Rattle.xc_wellformed.proofs.Walk.Arguments.{AllIn}
use Rattle.xc_wellformed.proofs.RootCores.{IsOnACore, roots_are_on_cores}
use Rattle.xc_meaning.proofs.Counting.Fit.{counts_fit}

-- statements need one
one_thread : (ss : kernel.Statements) → 1 ≤ threads.of_statements ss
one_thread kernel.no_more = omega arith
one_thread (kernel.more s ss) = let h = one_thread ss in omega (arith, h)

each_thread : (bs : kernel.Branches) → branch_count bs ≤ threads.of_branches bs
each_thread kernel.no_branch = omega arith
each_thread (kernel.more_branches (kernel.branch ss pos) bs) = let h = each_thread bs in let l = one_thread ss in omega (arith, h, l)

mutual
  statement_narrow : (s : kernel.Statement) → widest s ≤ threads.of_statement s
  statement_narrow (kernel.set_zero v) = omega arith
  statement_narrow (kernel.set place e) = omega arith
  statement_narrow (kernel.output o) = omega arith
  statement_narrow (kernel.input i) = omega arith
  statement_narrow (kernel.if_then test a b) = let x = all_narrow a in let y = all_narrow b in omega (arith, x, y)
  statement_narrow (kernel.loop test body next) = let x = all_narrow body in let y = all_narrow next in omega (arith, x, y)
  statement_narrow (kernel.block n ss) = all_narrow ss
  statement_narrow (kernel.exit n) = omega arith
  statement_narrow (kernel.select cases otherwise pos) = let x = cases_narrow cases in let y = default_narrow otherwise in omega (arith, x, y)
  statement_narrow (kernel.par bs) = let x = each_thread bs in let y = branches_narrow bs in omega (arith, x, y)
  statement_narrow (kernel.transaction c is_master ss start close) = all_narrow ss

  all_narrow : (ss : kernel.Statements) → widest_in ss ≤ threads.of_statements ss
  all_narrow kernel.no_more = omega arith
  all_narrow (kernel.more s ss) = let x = statement_narrow s in let y = all_narrow ss in omega (arith, x, y)

  default_narrow : (d : kernel.Default) → widest_in_default d ≤ threads.of_default d
  default_narrow kernel.no_default = omega arith
  default_narrow (kernel.default ss) = all_narrow ss

  cases_narrow : (cs : kernel.Cases) → widest_in_cases cs ≤ threads.of_cases cs
  cases_narrow kernel.no_case = omega arith
  cases_narrow (kernel.more_cases (kernel.case guard i ss) cs) = let x = all_narrow ss in let y = cases_narrow cs in omega (arith, x, y)

  branches_narrow : (bs : kernel.Branches) → widest_in_branches bs ≤ threads.of_branches bs
  branches_narrow kernel.no_branch = omega arith
  branches_narrow (kernel.more_branches (kernel.branch ss pos) bs) = let x = all_narrow ss in let y = branches_narrow bs in omega (arith, x, y)

-- of roots that have cores, where no core needs more than eight threads
roots_narrow : (rs : List kernel.Root) → AllIn IsOnACore rs → ((core : ℕ) → core ≤ last_core → sum_by (threads_of_root core) rs ≤ most_threads) → highest widest_in_root rs ≤ most_threads
roots_narrow [] low few = omega arith
roots_narrow (r ∷ rs) low few =
    let here = few r.core low.0 in
    let s = sum_by-cons (threads_of_root r.core) r rs in
    let own : on_core r.core r.core (threads.of_statements r.body) ≡ threads.of_statements r.body = ap (λ (b : Bool). if_so b (threads.of_statements r.body)) (eq-eqb r.core r.core refl) in
    let w = all_narrow r.body in
    let others = roots_narrow rs low.1 (λ core l. let k = few core l in let t = sum_by-cons (threads_of_root core) r rs in omega (arith, k, t)) in
    omega (arith, here, s, own, w, others)

few_threads : (k : kernel.Kernel) → IsChecked k → (core : ℕ) → core ≤ last_core → threads_on k core ≤ most_threads
few_threads k checked core l = elim (cases_lt most_threads (threads_on k core)) [
  | inl m ↦ absurd (checked.unbroken _ (rules.needs (rules.threads (record { core = core; is_core = l; more = m }))))
  | inr m ↦ omega (arith, m)
]

pub pars_are_narrow : ParsNarrow
pars_are_narrow k checked = roots_narrow k.roots (roots_are_on_cores k checked) (few_threads k checked)

-- so the counts of a checked kernel fit those of its program's text
pub checked_counts_fit : CheckedCountsFit
checked_counts_fit k checked =
    let o = checked.of_program in
    let read = o.sound.typed.text.read in
    counts_fit read.toks o.program k read.derived o.copies (pars_are_narrow k checked)
