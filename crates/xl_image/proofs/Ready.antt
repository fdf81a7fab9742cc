-- What is so of each root of a checked kernel whose code is built, and how much code there is.
use Rattle.std.proofs.Common.{◌≡◌, ◌∙◌, ℕ, ◌+◌, ◌*◌, ◌^◌, ◌<◌, ◌≤◌, suc, List, [], ◌∷◌, Option, Some, None, slice_get, refl, sym, ap, subst, arith}
use Rattle.std.specs.Prelude.{max}
use Rattle.xc_kernel.specs.declared.kernel.Var.{Var}
use Rattle.xc_kernel.specs.Plain as kernel
use Rattle.xc_meaning.specs.Counts.KernelCounts.{branch_count}
use Rattle.xc_disjoint.specs.Checked.{IsChecked}
use Rattle.xc_wellformed.specs.Each.{AnyNumber, AnyOutput, AnyInput, EachCondition, EachMaybe, EachPlace, EachStatement, EachOf, EachCase, EachDefault, EachBranch, EachRoot}
use Rattle.xc_wellformed.specs.Levels.{IsLow, IsLowPlace, levels, levels_of_all}
use Rattle.xc_wellformed.specs.Exits.{LeavesIn, AllLeaveIn, BranchesLeaveIn, CasesLeaveIn, DefaultLeavesIn, EachRootLeaves}
use Rattle.xc_wellformed.specs.Parts as parts
use Rattle.xc_wellformed.specs.Parts.{words_of}
use Rattle.xc_wellformed.proofs.Formed.{of_programs}
use Rattle.xc_wellformed.proofs.FewRoots.{parts_are_few}
use Rattle.xl_expr.specs.declared.plan.Plan.{Plan}
use Rattle.xl_expr.specs.declared.plan.VarPlan.{VarPlan}
use Rattle.xl_expr.specs.Measures.{nodes, nodes_of, nodes_at, depth, depth_of, depth_at}
use Rattle.xl_expr.specs.Plans.{var_in}
use Rattle.xl_flow.specs.Zeros.{room_of}
use Rattle.xl_port.specs.Inputs.{input_depth, waiting_depth}
use Rattle.xl_port.specs.Outputs.{driving_depth, output_depth}
use Rattle.xl_port.specs.Timings.{time_depth, time_nodes, timing_expression}
use Rattle.xl_expr.specs.Destinations.{dest_depth, dest_nodes}
use Rattle.xl_select.specs.Entry.{entry_depth}
use Rattle.xl_select.specs.OpeningCode.{case_depth, cases_depth, cases_parts}
use Rattle.xl_statements.specs.Built.{IsBuilt, AreBuilt, BranchesAreBuilt, CasesAreBuilt, DefaultIsBuilt, IsShallow, AreShallow, BranchesAreShallow, CasesAreShallow, DefaultIsShallow, AreNarrow, most, most_of_all, most_of_branches, most_of_cases, most_of_default, most_levels}
use Rattle.xl_statements.specs.Inside.{IsInside, AreInside, BranchesAreInside, CasesAreInside, DefaultIsInside}
use Rattle.xl_image.specs.Images.{IsPlan}
use Rattle.xl_image.specs.Roots.{RootsAreBuilt, AreReady, most_of_roots}
use Rattle.xl_image.proofs.Narrow.{root_narrow}

-- Levels.

mutual
  same_depth : (x : kernel.Expression) → depth x ≡ levels x
  same_depth (kernel.number v) = refl
  same_depth (kernel.read p) = same_depth_at p
  same_depth (kernel.operation o u es pos) = let h = same_depth_of es in omega (arith, h)

  same_depth_of : (es : kernel.Operands) → depth_of es ≡ levels_of_all es
  same_depth_of kernel.no_operand = refl
  same_depth_of (kernel.more_operands e es) = ap (λ n. max n (depth_of es)) (same_depth e) ∙ ap (max (levels e)) (same_depth_of es)

  same_depth_at : (p : kernel.Place) → depth_at p ≡ levels (kernel.read p)
  same_depth_at (kernel.word v) = refl
  same_depth_at (kernel.element v i pos) = let h = same_depth i in omega (arith, h)

low_expression : (x : kernel.Expression) → IsLow x → depth x ≤ most_levels
low_expression x h = let e = same_depth x in omega (arith, h, e)

low_place : (p : kernel.Place) → IsLowPlace p → depth_at p ≤ most_levels
low_place p h = let e = same_depth_at p in omega (arith, h, e)

both_low : (a b : ℕ) → a ≤ most_levels → b ≤ most_levels → max a b ≤ most_levels
both_low a b h g = grind arith

abbrev StatementIsLow : kernel.Statement → Type 0
StatementIsLow = EachStatement IsLow IsLowPlace AnyNumber AnyOutput AnyInput AnyNumber

abbrev StatementsAreLow : kernel.Statements → Type 0
StatementsAreLow = EachOf IsLow IsLowPlace AnyNumber AnyOutput AnyInput AnyNumber

abbrev CasesAreLow : kernel.Cases → Type 0
CasesAreLow = EachCase IsLow IsLowPlace AnyNumber AnyOutput AnyInput AnyNumber

abbrev DefaultIsLow : kernel.Default → Type 0
DefaultIsLow = EachDefault IsLow IsLowPlace AnyNumber AnyOutput AnyInput AnyNumber

abbrev BranchesAreLow : kernel.Branches → Type 0
BranchesAreLow = EachBranch IsLow IsLowPlace AnyNumber AnyOutput AnyInput AnyNumber

time_low : (t : Option kernel.Expression) → EachMaybe IsLow IsLowPlace AnyNumber AnyOutput AnyInput AnyNumber t → time_depth t ≤ most_levels
time_low None h = omega arith
time_low (Some x) h = low_expression x h

timing_low : (t : Option kernel.Expression) (w : Option kernel.Condition) →
    EachMaybe IsLow IsLowPlace AnyNumber AnyOutput AnyInput AnyNumber t →
    EachCondition IsLow IsLowPlace AnyNumber AnyOutput AnyInput AnyNumber w → time_depth (timing_expression t w) ≤ most_levels
timing_low (Some x) w h g = low_expression x h
timing_low None (Some w) h g = low_expression w.value g
timing_low None None h g = omega arith

dest_low : (p : Option kernel.Place) → EachPlace IsLow IsLowPlace AnyNumber AnyOutput AnyInput AnyNumber p → dest_depth p ≤ most_levels
dest_low None h = omega arith
dest_low (Some p) h = low_place p h

output_low : (o : kernel.Output) → StatementIsLow (kernel.output o) → output_depth o ≤ most_levels
output_low o h =
    both_low (driving_depth o) (dest_depth o.stamp)
    (both_low (time_depth o.time) (depth o.value) (time_low o.time h.1.0) (low_expression o.value h.1.1.0)) (dest_low o.stamp h.1.1.1)

input_low : (i : kernel.Input) → StatementIsLow (kernel.input i) → input_depth i ≤ most_levels
input_low i h =
    both_low (max (waiting_depth i) (dest_depth i.target)) (dest_depth i.stamp)
    (both_low (waiting_depth i) (dest_depth i.target) (timing_low i.time i.condition h.1.0 h.1.1.0) (dest_low i.target h.1.1.1.0))
    (dest_low i.stamp h.1.1.1.1)

-- what a case stores
entry_low : (i : kernel.Input) → StatementIsLow (kernel.input i) → entry_depth i ≤ most_levels
entry_low i h = both_low (dest_depth i.target) (dest_depth i.stamp) (dest_low i.target h.1.1.1.0) (dest_low i.stamp h.1.1.1.1)

-- the guards, times and conditions of cases
cases_low : (cs : kernel.Cases) → CasesAreLow cs → cases_depth cs ≤ most_levels
cases_low kernel.no_case h = omega arith
cases_low (kernel.more_cases (kernel.case guard i ss) cs) h =
    both_low (case_depth guard i) (cases_depth cs)
    (both_low (time_depth guard) (time_depth (timing_expression i.time i.condition)) (time_low guard h.0.0)
    (timing_low i.time i.condition h.0.1.0.1.0 h.0.1.0.1.1.0))
    (cases_low cs h.1)

mutual
  shallow : (s : kernel.Statement) → StatementIsLow s → IsShallow s
  shallow (kernel.set_zero v) h = tt
  shallow (kernel.set p e) h = (low_place p h.0, low_expression e h.1)
  shallow (kernel.output o) h = output_low o h
  shallow (kernel.input i) h = input_low i h
  shallow (kernel.if_then x a b) h = (low_expression x h.0, all_shallow a h.1.0, all_shallow b h.1.1)
  shallow (kernel.loop x a b) h = (low_expression x h.0, all_shallow a h.1.0, all_shallow b h.1.1)
  shallow (kernel.block n a) h = all_shallow a h
  shallow (kernel.exit n) h = tt
  shallow (kernel.select cs d pos) h = (cases_low cs h.0, cases_shallow cs h.0, default_shallow d h.1)
  shallow (kernel.par bs) h = branches_shallow bs h
  shallow (kernel.transaction c is_master a start close) h = tt

  all_shallow : (ss : kernel.Statements) → StatementsAreLow ss → AreShallow ss
  all_shallow kernel.no_more h = tt
  all_shallow (kernel.more s ss) h = (shallow s h.0, all_shallow ss h.1)

  cases_shallow : (cs : kernel.Cases) → CasesAreLow cs → CasesAreShallow cs
  cases_shallow kernel.no_case h = tt
  cases_shallow (kernel.more_cases (kernel.case guard i ss) cs) h = (entry_low i h.0.1.0, all_shallow ss h.0.1.1, cases_shallow cs h.1)

  default_shallow : (d : kernel.Default) → DefaultIsLow d → DefaultIsShallow d
  default_shallow kernel.no_default h = tt
  default_shallow (kernel.default ss) h = all_shallow ss h

  branches_shallow : (bs : kernel.Branches) → BranchesAreLow bs → BranchesAreShallow bs
  branches_shallow kernel.no_branch h = tt
  branches_shallow (kernel.more_branches (kernel.branch ss pos) bs) h = (all_shallow ss h.0, branches_shallow bs h.1)

-- Exits.

mutual
  inside : (around free : List ℕ) (s : kernel.Statement) → LeavesIn around free s → IsInside free s
  inside around free (kernel.set_zero v) h = tt
  inside around free (kernel.set p e) h = tt
  inside around free (kernel.output o) h = tt
  inside around free (kernel.input i) h = tt
  inside around free (kernel.if_then x a b) h = (all_inside around free a h.0, all_inside around free b h.1)
  inside around free (kernel.loop x a b) h = (all_inside around free a h.0, all_inside around free b h.1)
  inside around free (kernel.block n a) h = all_inside (n ∷ around) (n ∷ free) a h.1
  inside around free (kernel.exit n) h = h
  inside around free (kernel.select cs d pos) h = (cases_inside around free cs h.0, default_inside around free d h.1)
  inside around free (kernel.par bs) h = branches_inside around bs h
  inside around free (kernel.transaction c is_master a start close) h = tt

  all_inside : (around free : List ℕ) (ss : kernel.Statements) → AllLeaveIn around free ss → AreInside free ss
  all_inside around free kernel.no_more h = tt
  all_inside around free (kernel.more s ss) h = (inside around free s h.0, all_inside around free ss h.1)

  cases_inside : (around free : List ℕ) (cs : kernel.Cases) → CasesLeaveIn around free cs → CasesAreInside free cs
  cases_inside around free kernel.no_case h = tt
  cases_inside around free (kernel.more_cases (kernel.case guard i ss) cs) h = (all_inside around free ss h.0, cases_inside around free cs h.1)

  default_inside : (around free : List ℕ) (d : kernel.Default) → DefaultLeavesIn around free d → DefaultIsInside free d
  default_inside around free kernel.no_default h = tt
  default_inside around free (kernel.default ss) h = all_inside around free ss h

  branches_inside : (around : List ℕ) (bs : kernel.Branches) → BranchesLeaveIn around bs → BranchesAreInside bs
  branches_inside around kernel.no_branch h = tt
  branches_inside around (kernel.more_branches (kernel.branch ss pos) bs) h = (all_inside around [] ss h.0, branches_inside around bs h.1)

-- All roots.

abbrev EachIsNarrow : List kernel.Root → Type 0
EachIsNarrow [] = Unit {0}
EachIsNarrow (r ∷ rs) = AreNarrow r.body × EachIsNarrow rs

each_narrow : (rs : List kernel.Root) → ((place : ℕ) (r : kernel.Root) → slice_get rs place ≡ Some r → AreNarrow r.body) → EachIsNarrow rs
each_narrow [] h = tt
each_narrow (r ∷ rs) h = (h 0 r refl, each_narrow rs (λ place q e. h (suc place) q e))

ready : (rs : List kernel.Root) → RootsAreBuilt rs → EachRoot IsLow IsLowPlace AnyNumber AnyOutput AnyInput AnyNumber rs → EachRootLeaves rs → EachIsNarrow rs → AreReady rs
ready [] built low leaves narrow = tt
ready (r ∷ rs) built low leaves narrow =
    (record { built = built.0; shallow = all_shallow r.body low.0; narrow = narrow.0; inside = all_inside [] [] r.body leaves.0 }, ready rs built.1 low.1 leaves.1 narrow.1)

pub roots_ready : (k : kernel.Kernel) → IsChecked k → RootsAreBuilt k.roots → AreReady k.roots
roots_ready k checked built =
    let formed = of_programs k checked.of_program in
    ready k.roots built formed.levels formed.exits (each_narrow k.roots (λ place r e. root_narrow k checked place r e))

-- How much code.

mutual
  same_nodes : (x : kernel.Expression) → nodes x ≡ parts.of_expression x
  same_nodes (kernel.number v) = refl
  same_nodes (kernel.read p) = same_nodes_at p
  same_nodes (kernel.operation o u es pos) = let h = same_nodes_of es in omega (arith, h)

  same_nodes_of : (es : kernel.Operands) → nodes_of es ≡ parts.of_operands es
  same_nodes_of kernel.no_operand = refl
  same_nodes_of (kernel.more_operands e es) = let h = same_nodes e in let g = same_nodes_of es in omega (arith, h, g)

  same_nodes_at : (p : kernel.Place) → nodes_at p ≡ parts.of_place p
  same_nodes_at (kernel.word v) = refl
  same_nodes_at (kernel.element v i pos) = let h = same_nodes i in omega (arith, h)

some_at : (p : kernel.Place) → 1 ≤ nodes_at p
some_at (kernel.word v) = omega arith
some_at (kernel.element v i pos) = omega arith

some_nodes : (x : kernel.Expression) → 1 ≤ nodes x
some_nodes (kernel.number v) = omega arith
some_nodes (kernel.read p) = some_at p
some_nodes (kernel.operation o u es pos) = omega arith

same_dest : (p : Option kernel.Place) → dest_nodes p ≡ parts.of_some_place p
same_dest None = refl
same_dest (Some p) = same_nodes_at p

same_time : (t : Option kernel.Expression) → time_nodes t ≡ parts.of_maybe t
same_time None = refl
same_time (Some x) = same_nodes x

-- a time or condition counts as both
few_waiting : (t : Option kernel.Expression) (w : Option kernel.Condition) →
    time_nodes (timing_expression t w) ≤ parts.of_maybe t + parts.of_condition w
few_waiting (Some x) w = let a = same_nodes x in omega (arith, a)
few_waiting None (Some w) = let a = same_nodes w.value in omega (arith, a)
few_waiting None None = omega arith

module _ (vs : List Var) (vars : List (Option VarPlan)) (zeros : (v : ℕ) → room_of (var_in vars v) ≤ 2 * words_of (slice_get vs v) + 2) where
  mutual
    few : (s : kernel.Statement) → IsBuilt s → most vars s ≤ 32 * parts.of_statement vs s
    few (kernel.set_zero v) h = let z = zeros v in omega (arith, z)
    few (kernel.set p e) h = let a = same_nodes_at p in let b = same_nodes e in omega (arith, a, b)
    few (kernel.output o) h =
        let a = same_time o.time in let b = same_nodes o.value in let c = some_nodes o.value in let d = same_dest o.stamp in
        omega (arith, a, b, c, d)
    few (kernel.input i) h =
        let w = few_waiting i.time i.condition in let a = same_dest i.target in let b = same_dest i.stamp in
        omega (arith, w, a, b)
    few (kernel.if_then x a b) h =
        let n = same_nodes x in let m = some_nodes x in let p = all_few a h.0 in let q = all_few b h.1 in omega (arith, n, m, p, q)
    few (kernel.loop x a b) h =
        let n = same_nodes x in let m = some_nodes x in let p = all_few a h.0 in let q = all_few b h.1 in omega (arith, n, m, p, q)
    few (kernel.block n a) h = all_few a h
    few (kernel.exit n) h = omega arith
    few (kernel.select cs d pos) h = let a = few_in_cases cs h.0 in let b = few_in_default d h.1 in omega (arith, a, b)
    few (kernel.par bs) h = few_in bs h
    few (kernel.transaction c is_master a start close) h = absurd h

    all_few : (ss : kernel.Statements) → AreBuilt ss → most_of_all vars ss ≤ 32 * parts.of_statements vs ss
    all_few kernel.no_more h = omega arith
    all_few (kernel.more s ss) h = let a = few s h.0 in let b = all_few ss h.1 in omega (arith, a, b)

    -- with the parts of what opens the select
    few_in_cases : (cs : kernel.Cases) → CasesAreBuilt cs → 8 * cases_parts cs + most_of_cases vars cs ≤ 32 * parts.of_cases vs cs
    few_in_cases kernel.no_case h = omega arith
    few_in_cases (kernel.more_cases (kernel.case guard i ss) cs) h =
        let g = same_time guard in let w = few_waiting i.time i.condition in let t = same_dest i.target in let s = same_dest i.stamp in
        let body = all_few ss h.0 in let others = few_in_cases cs h.1 in
        omega (arith, g, w, t, s, body, others)

    few_in_default : (d : kernel.Default) → DefaultIsBuilt d → most_of_default vars d ≤ 32 * parts.of_default vs d
    few_in_default kernel.no_default h = omega arith
    few_in_default (kernel.default ss) h = let a = all_few ss h in omega (arith, a)

    few_in : (bs : kernel.Branches) → BranchesAreBuilt bs → most_of_branches vars bs + 13 * branch_count bs ≤ 32 * parts.of_branches vs bs
    few_in kernel.no_branch h = omega arith
    few_in (kernel.more_branches (kernel.branch ss pos) bs) h = let a = all_few ss h.0 in let b = few_in bs h.1 in omega (arith, a, b)

  roots_few : (rs : List kernel.Root) → RootsAreBuilt rs → most_of_roots vars rs ≤ 32 * parts.of_roots vs rs
  roots_few [] h = omega arith
  roots_few (r ∷ rs) h = let a = all_few r.body h.0 in let b = roots_few rs h.1 in omega (arith, a, b)

module _ (k : kernel.Kernel) (core : ℕ) (plan : Plan) (planned : IsPlan k core plan) where
  zero_room : (v : ℕ) (o : Option VarPlan) → var_in plan.vars v ≡ o → room_of (var_in plan.vars v) ≤ 2 * words_of (slice_get k.variables v) + 2
  zero_room v None e = subst (λ o. room_of o ≤ 2 * words_of (slice_get k.variables v) + 2) (sym e) (omega arith)
  zero_room v (Some found) e =
      let on = planned.no_other v found e in
      let at = planned.variables v on.variable on.there on.place in
      let words = ap words_of on.there in
      let room = ap room_of at in
      omega (arith, words, room)

  pub code_fits : IsChecked k → RootsAreBuilt k.roots → most_of_roots plan.vars k.roots < 2 ^ 32
  code_fits checked built =
      let a = roots_few k.variables plan.vars (λ v. zero_room v (var_in plan.vars v) refl) k.roots built in
      let b = parts_are_few k checked in
      omega (arith, a, b)
