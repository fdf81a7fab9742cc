use Rattle.std.proofs.Common.{◌<◌, ◌≤◌, ◌∙◌, [], length, sym, ap, subst, rules, arith}
use Rattle.std.specs.Prelude.{slice_index_or, slice_set}
use Rattle.xs_instr.specs.Machine.{link_of, link_put}
use Rattle.xs_fabric.specs.Lockstep.{all_came, due_of, late_of}
use Rattle.xs_fabric.specs.Rooms.{AllHaveRoom}
use Rattle.xs_fabric.proofs.AtLink.{at_link, set_link}
use Rattle.xs_fabric.proofs.delivery.deliver_from.Goals as goal

pub deliver_due-requires-clause-few : goal.deliver_due-requires-clause-few
deliver_due-requires-clause-few c =
    let links = c.args.links.now in
    let four = c.told-links in
    let from = c.requires.from in
    let la : c.args.from < length links = omega (arith, four, from) in
    let lb : c.number-to.result < length (slice_index_or links c.args.from []) = search rules in
    let read = at_link links c.args.from c.number-to.result c.index-links-from.result la lb ∙ ap (link_of links c.args.from) c.number-to.ensures in
    subst (λ l. length l ≤ 512) (sym read) c.requires.few

pub deliver_due-requires-clause-room : goal.deliver_due-requires-clause-room
deliver_due-requires-clause-room c =
    let links = c.args.links.now in
    let core = c.args.core.now in
    let four = c.told-links in
    let from = c.requires.from in
    let la : c.args.from < length links = omega (arith, four, from) in
    let lb : c.number-to.result < length (slice_index_or links c.args.from []) = search rules in
    let read = at_link links c.args.from c.number-to.result c.index-links-from.result la lb ∙ ap (link_of links c.args.from) c.number-to.ensures in
    subst (λ l. AllHaveRoom core.home core.state (due_of core.state.clock l)) (sym read) c.requires.room

pub returns-clause-core : goal.returns-clause-core
returns-clause-core c =
    let links = c.args.links.now in
    let core = c.args.core.now in
    let four = c.told-links in
    let from = c.requires.from in
    let la : c.args.from < length links = omega (arith, four, from) in
    let lb : c.number-to.result < length (slice_index_or links c.args.from []) = search rules in
    let read = at_link links c.args.from c.number-to.result c.index-links-from.result la lb ∙ ap (link_of links c.args.from) c.number-to.ensures in
    c.deliver_due.ensures.core ∙ ap (λ l. record core { state = all_came core.state (due_of core.state.clock l) }) read

pub returns-clause-links : goal.returns-clause-links
returns-clause-links c =
    let links = c.args.links.now in
    let core = c.args.core.now in
    let four = c.told-links in
    let from = c.requires.from in
    let la : c.args.from < length links = omega (arith, four, from) in
    let lb : c.number-to.result < length (slice_index_or links c.args.from []) = search rules in
    let read = at_link links c.args.from c.number-to.result c.index-links-from.result la lb ∙ ap (link_of links c.args.from) c.number-to.ensures in
    ap (λ x. slice_set links c.args.from (slice_set (slice_index_or links c.args.from []) c.number-to.result x)) (c.deliver_due.ensures.link ∙ ap (late_of core.state.clock) read)
    ∙ set_link links c.args.from c.number-to.result _ la
    ∙ ap (λ n. link_put links c.args.from n (late_of core.state.clock (link_of links c.args.from core.home.number))) c.number-to.ensures

pub returns-clause-count : goal.returns-clause-count
returns-clause-count c =
    let links = c.args.links.now in
    let four = c.told-links in
    let from = c.requires.from in
    let la : c.args.from < length links = omega (arith, four, from) in
    let lb : c.number-to.result < length (slice_index_or links c.args.from []) = search rules in
    let read = at_link links c.args.from c.number-to.result c.index-links-from.result la lb ∙ ap (link_of links c.args.from) c.number-to.ensures in
    c.deliver_due.ensures.count ∙ ap (λ l. length (due_of c.args.core.now.state.clock l)) read
