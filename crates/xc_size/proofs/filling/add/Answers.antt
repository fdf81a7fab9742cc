use Rattle.std.proofs.Common.{◌≡◌, ◌<◌, ◌+◌, List, length, Option, get_or, arith, refl, subst, sym}
use Rattle.xc_size.specs.declared.size.Size.{Size}
use Rattle.xc_size.specs.Known.{AreKnown, AreOfFunctions, AreSizesFrom}
use Rattle.xc_tree.specs.Trees.{statement_of}
use Rattle.xc_size.specs.Numbers.{number_of}
use Rattle.xc_size.proofs.CalledParts.{statement}
use Rattle.xc_size.proofs.Filled.{from_deeper, of_more, from_more}
use Rattle.xc_size.proofs.filling.add.Goals as goal

pub returns-then-turn-order-clause-right : goal.returns-then-turn-order-clause-right
returns-then-turn-order-clause-right c = λ deep from. from_deeper c.args.sizes.now deep from

pub returns-then-not-branch-clause-right : goal.returns-then-not-branch-clause-right
returns-then-not-branch-clause-right c = λ deep from. from_deeper c.args.sizes.now deep from

pub returns-clause-right : goal.returns-clause-right
returns-clause-right c = λ deep from.
    let number = get_or c.args.order.now c.args.turn 0 in
    let within : number < length c.args.sizes.now.all = rw c.len.ensures at c.if-order-turn.false in
    let is : c.index-as_slice-number.result ≡ get_or c.args.sizes.now.all number c.index-as_slice-number.result = rw c.as_slice.ensures at c.index-as_slice-number.is in
    let known = c.in_ok-are_known.ensures c.if-not-branch.false in
    subst (λ (each : List (Option Size)). AreSizesFrom (record { all = c.args.sizes.now.all; names = c.args.sizes.now.names; each = each }) (deep + 1)) (sym c.set.ensures)
    (from_more c.args.sizes.now number c.index-as_slice-number.result c.function-size.result c.requires.functions is within
    (subst (AreKnown c.args.sizes.now.each) (statement (number_of c.args.sizes.now.names) (statement_of c.index-as_slice-number.result.now.body)) known)
    (record { statements = c.function-size.ensures.statements; nodes = c.function-size.ensures.nodes; depth = c.function-size.ensures.depth }) deep from)

pub bounds-as_slice-number : goal.bounds-as_slice-number
bounds-as_slice-number c =
    let within : get_or c.args.order.now c.args.turn 0 < length c.args.sizes.now.all = rw c.len.ensures at c.if-order-turn.false in
    rw c.as_slice.ensures within

pub returns-clause-functions : goal.returns-clause-functions
returns-clause-functions c =
    let number = get_or c.args.order.now c.args.turn 0 in
    let within : number < length c.args.sizes.now.all = rw c.len.ensures at c.if-order-turn.false in
    let is : c.index-as_slice-number.result ≡ get_or c.args.sizes.now.all number c.index-as_slice-number.result =
    rw c.as_slice.ensures at c.index-as_slice-number.is in
    let known = c.in_ok-are_known.ensures c.if-not-branch.false in
    subst (λ (each : List (Option Size)). AreOfFunctions (record { all = c.args.sizes.now.all; names = c.args.sizes.now.names; each = each }))
    (sym c.set.ensures)
    (of_more c.args.sizes.now number c.index-as_slice-number.result c.function-size.result c.requires.functions is within
    (subst (AreKnown c.args.sizes.now.each)
    (statement (number_of c.args.sizes.now.names) (statement_of c.index-as_slice-number.result.now.body)) known)
    (record { statements = c.function-size.ensures.statements; nodes = c.function-size.ensures.nodes; depth = c.function-size.ensures.depth }))

pub returns-then-turn-order-clause-functions : goal.returns-then-turn-order-clause-functions
returns-then-turn-order-clause-functions c = c.requires.functions

pub returns-then-not-branch-clause-functions : goal.returns-then-not-branch-clause-functions
returns-then-not-branch-clause-functions c = c.requires.functions

pub returns-then-turn-order-clause-all : goal.returns-then-turn-order-clause-all
returns-then-turn-order-clause-all c = refl

pub returns-then-not-branch-clause-all : goal.returns-then-not-branch-clause-all
returns-then-not-branch-clause-all c = refl

pub returns-clause-all : goal.returns-clause-all
returns-clause-all c = refl

pub set-requires : goal.set-requires
set-requires c =
    let within : get_or c.args.order.now c.args.turn 0 < length c.args.sizes.now.all = rw c.len.ensures at c.if-order-turn.false in
    let places = c.requires.functions.places in
    omega arith
