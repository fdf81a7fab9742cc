use Rattle.std.proofs.Common.{◌∙◌, ◌+◌, drop, sym, ap, arith}
use Rattle.std.specs.Prelude.{◌&&◌}
use Rattle.std.proofs.lemmas.List.{at_drop_all, at_drop_more}
use Rattle.xs_fabric.specs.EndWord.{links_empty}
use Rattle.xs_fabric.proofs.link.are_empty.Goals as goal

pub returns-then-not-are_empty_out : goal.returns-then-not-are_empty_out
returns-then-not-are_empty_out c =
    let links = c.args.links.now in
    let i = c.loop-out.out-index in
    let four = c.type_inv.links in
    let test = c.loop-out-test.true in
    let more = at_drop_more links_empty links i _ (omega (arith, four, test)) in
    ap (λ one. one && links_empty (drop (i + 1) links)) c.if-not-are_empty_out.ensures ∙ sym more ∙ c.loop-out.invariant

pub loop-out-preserved : goal.loop-out-preserved
loop-out-preserved c =
    let links = c.args.links.now in
    let i = c.loop-out.out-index in
    let four = c.type_inv.links in
    let test = c.loop-out-test.true in
    let more = at_drop_more links_empty links i _ (omega (arith, four, test)) in
    ap (λ one. one && links_empty (drop (i + 1) links)) c.if-not-are_empty_out.ensures ∙ sym more ∙ c.loop-out.invariant

pub returns : goal.returns
returns c =
    let links = c.args.links.now in
    let four = c.type_inv.links in
    let test = c.loop-out-test.false in
    sym (at_drop_all links_empty links c.loop-out.out-index (omega (arith, four, test))) ∙ c.loop-out.invariant
