use Rattle.std.proofs.Common.{arith}
use Rattle.xc_names.proofs.Finds.{begin, go_out, looks_at, none_left}
use Rattle.xc_names.proofs.meanings.find.Goals as goal

pub out-init : goal.out-init
out-init c = begin _ _ _ _ c.requires

pub bounds-ends-d : goal.bounds-ends-d
bounds-ends-d c = (looks_at c.args.ends.now c.args.outer.now c.args.at c.args.from c.out.next c.in-Some.d c.out.invariant c.in-Some.is).in_ends

pub returns-then-at-ends : goal.returns-then-at-ends
returns-then-at-ends c =
    (looks_at c.args.ends.now c.args.outer.now c.args.at c.args.from c.out.next c.in-Some.d c.out.invariant c.in-Some.is).still c.if-at-ends.true

pub bounds-outer-d : goal.bounds-outer-d
bounds-outer-d c =
    (looks_at c.args.ends.now c.args.outer.now c.args.at c.args.from c.out.next c.in-Some.d c.out.invariant c.in-Some.is).in_outer c.if-at-ends.false

pub out-preserved : goal.out-preserved
out-preserved c = (go_out c.args.ends.now c.args.outer.now c.args.at c.args.from c.out.next c.in-Some.d c.out.invariant c.in-Some.is c.if-at-ends.false).0

pub out-smaller : goal.out-smaller
out-smaller c = (go_out c.args.ends.now c.args.outer.now c.args.at c.args.from c.out.next c.in-Some.d c.out.invariant c.in-Some.is c.if-at-ends.false).1

pub returns : goal.returns
returns c = none_left c.args.ends.now c.args.outer.now c.args.at c.args.from c.out.next c.out.invariant c.in_default.is

pub offset_bounds-ends-d : goal.offset_bounds-ends-d
offset_bounds-ends-d c =
    let there = (looks_at c.args.ends.now c.args.outer.now c.args.at c.args.from c.out.next c.in-Some.d c.out.invariant c.in-Some.is).in_ends in
    omega (arith, there)

pub offset_bounds-outer-d : goal.offset_bounds-outer-d
offset_bounds-outer-d c =
    let there =
    (looks_at c.args.ends.now c.args.outer.now c.args.at c.args.from c.out.next c.in-Some.d c.out.invariant c.in-Some.is).in_outer
    c.if-at-ends.false in
    omega (arith, there)
