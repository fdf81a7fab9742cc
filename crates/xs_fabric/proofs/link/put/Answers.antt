use Rattle.std.proofs.Common.{◌<◌, ◌++◌, ◌∷◌, ◌∙◌, [], length, sym, ap, subst, rules, arith}
use Rattle.std.specs.Prelude.{slice_index_or, slice_set}
use Rattle.xs_instr.specs.declared.state.Item.{Item}
use Rattle.xs_fabric.proofs.AtLink.{at_link, set_link}
use Rattle.xs_fabric.proofs.link.put.Goals as goal

pub push-requires : goal.push-requires
push-requires c =
    let links = c.args.links.now in
    let four = c.told-links in
    let from = c.requires.from in
    let la : c.args.from < length links = omega (arith, four, from) in
    let lb : c.args.sent.to < length (slice_index_or links c.args.from []) = search rules in
    subst (λ l. length l < 512) (sym (at_link links c.args.from c.args.sent.to _ la lb)) c.requires.place

pub returns : goal.returns
returns c =
    let links = c.args.links.now in
    let four = c.told-links in
    let from = c.requires.from in
    let la : c.args.from < length links = omega (arith, four, from) in
    let lb : c.args.sent.to < length (slice_index_or links c.args.from []) = search rules in
    let item : Item = record { tick = c.args.sent.tick; moved = c.args.sent.moved } in
    ap (λ x. slice_set links c.args.from (slice_set (slice_index_or links c.args.from []) c.args.sent.to x)) (c.push.ensures ∙ ap (λ x. x ++ item ∷ []) (at_link links c.args.from c.args.sent.to _ la lb))
    ∙ set_link links c.args.from c.args.sent.to _ la
