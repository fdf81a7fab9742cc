use Rattle.std.proofs.Common.{◌∙◌, ◌+◌, drop, sym, ap, arith}
use Rattle.std.specs.Prelude.{◌&&◌}
use Rattle.std.proofs.lemmas.List.{at_drop_all, at_drop_more}
use Rattle.xs_fabric.specs.EndWord.{no_items_out}
use Rattle.xs_fabric.proofs.link.are_empty_out.Goals as goal

pub returns-then-not-is_empty : goal.returns-then-not-is_empty
returns-then-not-is_empty c =
    let out = c.args.out.now in
    let i = c.loop-link.link-index in
    let four = c.type_inv.out in
    let test = c.loop-link-test.true in
    let more = at_drop_more no_items_out out i _ (omega (arith, four, test)) in
    ap (λ one. one && no_items_out (drop (i + 1) out)) c.if-not-is_empty.ensures ∙ sym more ∙ c.loop-link.invariant

pub loop-link-preserved : goal.loop-link-preserved
loop-link-preserved c =
    let out = c.args.out.now in
    let i = c.loop-link.link-index in
    let four = c.type_inv.out in
    let test = c.loop-link-test.true in
    let more = at_drop_more no_items_out out i _ (omega (arith, four, test)) in
    ap (λ one. one && no_items_out (drop (i + 1) out)) c.if-not-is_empty.ensures ∙ sym more ∙ c.loop-link.invariant

pub returns : goal.returns
returns c =
    let out = c.args.out.now in
    let four = c.type_inv.out in
    let test = c.loop-link-test.false in
    sym (at_drop_all no_items_out out c.loop-link.link-index (omega (arith, four, test))) ∙ c.loop-link.invariant
