use Rattle.std.proofs.Common.{◌≡◌, ◌⊎◌, inl, inr, ℕ, ◌+◌, false, List, drop, map, sym, ap, ◌∙◌, arith}
use Rattle.std.proofs.lemmas.List.{take_rest}
use Rattle.xc_tree.specs.declared.tree.Stmt.{Stmt}
use Rattle.xc_tree.specs.Plain as plain
use Rattle.xc_tree.specs.Shapes.Main.{is_return_at_most}
use Rattle.xc_tree.specs.Trees.{statement_of}
use Rattle.xc_types.specs.declared.main_function.Part.{Part}
use Rattle.xc_types.specs.declared.main_function.Part.TheVariants.{Return, Other}
use Rattle.xc_types.proofs.Mains.{by_part, next_form, no_form}
use Rattle.xc_types.proofs.main_function.is_channels_par_return.Goals as goal

-- the statements from place i on
abbrev rest : List Stmt → ℕ → plain.Statements
rest ss i = plain.statements (map statement_of (drop i ss))

-- no form has one of these parts first
no_part : (p : Part) (ss : plain.Statements) → (p ≡ Return) ⊎ (p ≡ Other) → by_part p ss ≡ false
no_part p ss (inl e) = ap (λ (q : Part). by_part q ss) e
no_part p ss (inr e) = ap (λ (q : Part). by_part q ss) e

pub returns-in-Par : goal.returns-in-Par
returns-in-Par c =
    let ss = c.args.ss.now in
    let i = c.loop-i.i in
    c.is_return_at_most.ensures
    ∙ ap (λ (xs : List Stmt). is_return_at_most (plain.statements (map statement_of xs))) (take_rest ss (i + 1))
    ∙ sym
    (c.loop-i.invariant ∙ next_form ss i c.index-ss-i.result c.index-ss-i.is c.loop-i-test.true
    ∙ ap (λ (p : Part). by_part p (rest ss (i + 1))) (sym c.part_of.ensures ∙ c.in-Par.is))

pub returns-in-Return : goal.returns-in-Return
returns-in-Return c =
    let ss = c.args.ss.now in
    let i = c.loop-i.i in
    sym
    (c.loop-i.invariant ∙ next_form ss i c.index-ss-i.result c.index-ss-i.is c.loop-i-test.true
    ∙ ap (λ (p : Part). by_part p (rest ss (i + 1))) (sym c.part_of.ensures) ∙ no_part c.part_of.result (rest ss (i + 1)) c.in-Return.is)

pub loop-i-preserved : goal.loop-i-preserved
loop-i-preserved c =
    let ss = c.args.ss.now in
    let i = c.loop-i.i in
    c.loop-i.invariant ∙ next_form ss i c.index-ss-i.result c.index-ss-i.is c.loop-i-test.true
    ∙ ap (λ (p : Part). by_part p (rest ss (i + 1))) (sym c.part_of.ensures ∙ c.in-Channels.is)

pub returns : goal.returns
returns c =
    let past = c.loop-i-test.false in
    sym (c.loop-i.invariant ∙ no_form c.args.ss.now c.loop-i.i (omega (arith, past)))
