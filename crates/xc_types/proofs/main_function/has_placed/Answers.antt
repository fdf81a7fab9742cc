use Rattle.std.proofs.Common.{ℕ, ◌+◌, Bool, ◌||◌, List, drop, map, sym, ap, ◌∙◌, arith}
use Rattle.xc_tree.specs.declared.tree.Branch.{Branch}
use Rattle.xc_tree.specs.Plain as plain
use Rattle.xc_tree.specs.Shapes.Main.{has_placed}
use Rattle.xc_tree.specs.Trees.{branch_of}
use Rattle.xc_types.proofs.Mains.{next_placed, none_placed}
use Rattle.xc_types.proofs.main_function.has_placed.Goals as goal

-- whether one from place i on is placed
abbrev placed : List Branch → ℕ → Bool
placed bs i = has_placed (plain.branches (map branch_of (drop i bs)))

pub returns-then-is_placed : goal.returns-then-is_placed
returns-then-is_placed c =
    let bs = c.args.bs.now in
    let i = c.loop-b.b-index in
    sym
    (c.loop-b.invariant ∙ next_placed bs i c.b-item.result c.b-item.is c.loop-b-test.true
    ∙ ap (λ b. b || placed bs (i + 1)) (sym c.is_placed.ensures ∙ c.if-is_placed.true))

pub loop-b-preserved : goal.loop-b-preserved
loop-b-preserved c =
    let bs = c.args.bs.now in
    let i = c.loop-b.b-index in
    c.loop-b.invariant ∙ next_placed bs i c.b-item.result c.b-item.is c.loop-b-test.true
    ∙ ap (λ b. b || placed bs (i + 1)) (sym c.is_placed.ensures ∙ c.if-is_placed.false)

pub returns : goal.returns
returns c =
    let past = c.loop-b-test.false in
    sym (c.loop-b.invariant ∙ none_placed c.args.bs.now c.loop-b.b-index (omega (arith, past)))
