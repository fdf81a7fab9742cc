use Rattle.std.proofs.Common.{◌≡◌, ◌<◌, length, ◌∙◌, true, ap, sym, subst, arith}
use Rattle.xs_fabric.proofs.Coming.{came_to, link_few, link_room, next_core, next_count, next_links, same_number}
use Rattle.xs_fabric.proofs.Nothing.{links_stay, nothing_due}
use Rattle.xs_fabric.proofs.delivery.deliver_all.Goals as goal
use Rattle.xs_fabric.specs.Lockstep.{all_came, due_from, late_from}
use Rattle.xs_fabric.specs.OnLinks.{none_to}

pub deliver_from-count-requires-clause-number : goal.deliver_from-count-requires-clause-number
deliver_from-count-requires-clause-number c =
    let inv = c.loop-from.invariant in
    subst (λ n. n < 4) (sym (same_number c.args.core.now c.loop-from.core c.args.links.now c.loop-from.links c.loop-from.from inv.came inv.links)) c.requires.number

pub deliver_from-count-requires-clause-few : goal.deliver_from-count-requires-clause-few
deliver_from-count-requires-clause-few c =
    let inv = c.loop-from.invariant in
    let lt : c.loop-from.from < 4 = (let test = c.loop-from-test.true in omega (arith, test)) in
    link_few c.args.core.now c.loop-from.core c.args.links.now c.loop-from.links c.loop-from.from inv.came inv.links (c.requires.few c.loop-from.from lt)

pub deliver_from-count-requires-clause-room : goal.deliver_from-count-requires-clause-room
deliver_from-count-requires-clause-room c =
    let inv = c.loop-from.invariant in
    let lt : c.loop-from.from < 4 = (let test = c.loop-from-test.true in omega (arith, test)) in
    link_room c.args.core.now c.loop-from.core c.args.links.now c.loop-from.links c.loop-from.from inv.came inv.links (c.requires.room c.loop-from.from lt)

pub loop-from-preserved : goal.loop-from-preserved
loop-from-preserved c =
    let inv = c.loop-from.invariant in
    let few = inv.few in
    let most = c.deliver_from-count.ensures.most in
    record {
      came = next_core c.args.core.now c.loop-from.core c.args.links.now c.loop-from.links c.loop-from.from inv.came inv.links _ c.deliver_from-count.ensures.core;
      links = next_links c.args.core.now c.loop-from.core c.args.links.now c.loop-from.links c.loop-from.from inv.came inv.links _ c.deliver_from-count.ensures.links;
      count = next_count c.args.core.now c.loop-from.core c.args.links.now c.loop-from.links c.loop-from.from inv.came inv.links _ _ inv.count c.deliver_from-count.ensures.count;
      few = omega (arith, few, most);
    }

pub returns-then-are_empty_to-clause-links : goal.returns-then-are_empty_to-clause-links
returns-then-are_empty_to-clause-links c =
    let links = c.args.links.now in
    let number = c.args.core.now.home.number in
    let none : none_to links number ≡ true = ap (none_to links) (sym c.number.ensures) ∙ sym c.are_empty_to.ensures ∙ c.if-are_empty_to.true in
    sym (links_stay links number c.args.core.now.state.clock none)

pub returns-then-are_empty_to-clause-core : goal.returns-then-are_empty_to-clause-core
returns-then-are_empty_to-clause-core c =
    let core = c.args.core.now in
    let links = c.args.links.now in
    let number = core.home.number in
    let none : none_to links number ≡ true = ap (none_to links) (sym c.number.ensures) ∙ sym c.are_empty_to.ensures ∙ c.if-are_empty_to.true in
    sym (ap (λ due. record core { state = all_came core.state due }) (nothing_due links number core.state.clock none))

pub returns-then-are_empty_to-clause-count : goal.returns-then-are_empty_to-clause-count
returns-then-are_empty_to-clause-count c =
    let links = c.args.links.now in
    let number = c.args.core.now.home.number in
    let none : none_to links number ≡ true = ap (none_to links) (sym c.number.ensures) ∙ sym c.are_empty_to.ensures ∙ c.if-are_empty_to.true in
    sym (ap length (nothing_due links number c.args.core.now.state.clock none))

pub returns-clause-core : goal.returns-clause-core
returns-clause-core c =
    let all : c.loop-from.from ≡ 4 = omega (arith, c.loop-from-test.false, c.loop-from.auto.from-end) in
    c.loop-from.invariant.came ∙ ap (came_to c.args.core.now c.args.links.now) all

pub returns-clause-links : goal.returns-clause-links
returns-clause-links c =
    let core = c.args.core.now in
    let all : c.loop-from.from ≡ 4 = omega (arith, c.loop-from-test.false, c.loop-from.auto.from-end) in
    c.loop-from.invariant.links ∙ ap (late_from c.args.links.now core.home.number core.state.clock) all

pub returns-clause-count : goal.returns-clause-count
returns-clause-count c =
    let core = c.args.core.now in
    let all : c.loop-from.from ≡ 4 = omega (arith, c.loop-from-test.false, c.loop-from.auto.from-end) in
    c.loop-from.invariant.count ∙ ap (λ n. length (due_from c.args.links.now core.home.number core.state.clock n)) all

pub returns-clause-most : goal.returns-clause-most
returns-clause-most c = omega (arith, c.loop-from.invariant.few, c.loop-from.auto.from-end)
