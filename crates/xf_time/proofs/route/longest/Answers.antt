use Rattle.std.proofs.Common.{◌≡◌, ◌+◌, length, sym, subst, ap, ◌∙◌, arith}
use Rattle.xf_time.proofs.Exits.{IsBelow, all_below, more_below, none_below}
use Rattle.xf_time.specs.Rows.{exits_at, longer}
use Rattle.xf_time.proofs.route.longest.Goals as goal

pub loop-i-init : goal.loop-i-init
loop-i-init c = none_below c.args.code.now c.args.from c.args.to c.args.backward

pub loop-i-preserved : goal.loop-i-preserved
loop-i-preserved c =
    let row = c.in_ok-row.row in
    let exits : c.exits_at.result ≡ exits_at c.args.code.now c.args.from row c.loop-i.i =
    c.exits_at.ensures ∙ ap (λ xs. exits_at c.args.code.now c.args.from xs c.loop-i.i) c.as_slice.ensures in
    subst (IsBelow c.args.code.now c.args.from c.args.to c.args.backward (c.loop-i.i + 1))
    (sym (c.longer-most.ensures ∙ ap (longer c.loop-i.most) exits))
    (more_below c.args.code.now c.args.from c.args.to c.args.backward c.loop-i.i row c.loop-i.most c.in_ok-row.ensures c.loop-i.invariant)

pub returns : goal.returns
returns c =
    let all : c.loop-i.i ≡ length c.args.code.now.instrs = omega arith in
    all_below c.args.code.now c.args.from c.args.to c.args.backward c.loop-i.most
    (subst (λ n. IsBelow c.args.code.now c.args.from c.args.to c.args.backward n c.loop-i.most) all c.loop-i.invariant)
