use Rattle.std.proofs.Common.{◌∙◌, ◌+◌, ◌++◌, ap, refl, subst, sym, ◌<◌}
use Rattle.xr_windows.specs.Alone.{sent_for}
use Rattle.xr_windows.specs.Parts.{Standing}
use Rattle.xr_windows.specs.Windows.{batch}
use Rattle.xr_windows.proofs.WindowRun.{begins_of, can_run, next_batch, next_part, ticks_are}
use Rattle.xr_windows.proofs.part.Part.run_with.Goals as goal
use Rattle.xs_instr.specs.declared.image.Home.{Home}

pub run_ticks-requires-clause-can : goal.run_ticks-requires-clause-can
run_ticks-requires-clause-can g c =
    let b = begins_of _ _ _ c.args.self.now c.self.inside.core c.reserve_window.new.self c.self.inside.coming c.make_room.new.self c.take_in-free.new.self _ _ _ _ _ _ _ _ c.self.view_is
    c.requires.part c.requires.left c.requires.got c.reserve_window.ensures.rest
    c.make_room.ensures.from0 c.make_room.ensures.from1 c.make_room.ensures.from2 c.make_room.ensures.from3
    c.take_in-free.ensures.from0 c.take_in-free.ensures.from1 c.take_in-free.ensures.from2 c.take_in-free.ensures.from3 in
    let ticks = ticks_are _ _ _ c.args.self.now _ c.length_of-ticks.result c.self.view_is c.requires.part c.length_of-ticks.ensures in
    λ m lt. can_run _ _ _ _ _ _ _ _ _ b m (subst (λ t. m < t) ticks lt)

pub filed-requires-clause-to0 : goal.filed-requires-clause-to0
filed-requires-clause-to0 g c =
    let b = begins_of _ _ _ c.args.self.now c.self.inside.core c.reserve_window.new.self c.self.inside.coming c.make_room.new.self c.take_in-free.new.self _ _ _ _ _ _ _ _ c.self.view_is
    c.requires.part c.requires.left c.requires.got c.reserve_window.ensures.rest
    c.make_room.ensures.from0 c.make_room.ensures.from1 c.make_room.ensures.from2 c.make_room.ensures.from3
    c.take_in-free.ensures.from0 c.take_in-free.ensures.from1 c.take_in-free.ensures.from2 c.take_in-free.ensures.from3 in
    let ticks = ticks_are _ _ _ c.args.self.now _ c.length_of-ticks.result c.self.view_is c.requires.part c.length_of-ticks.ensures in
    let written = c.in_ok-reserve.ensures.items ∙ ap (λ (v : Standing). v.records) c.self.view_is in
    let number = c.number-number.ensures ∙ ap (λ (h : Home). h.number) (c.take_all-self-inside.ensures.home ∙ c.run_ticks.ensures.home) in
    c.take_all-self-inside.ensures.to0
    ∙ ap (λ xs. xs ++ sent_for 0 c.run_ticks.new.core.outbox) c.in_ok-make_room-2.ensures.to0.empty
    ∙ next_batch _ _ _ _ _ _ _ _ _ b c.length_of-ticks.result ticks _ _ _ _ _ _ _ written c.run_ticks.ensures.goes c.number-number.result number 0
    ∙ sym (ap (λ (v : Standing). batch g.U.RunName.listing g.U.RunName.stimulus g.U.RunName.ticks c.number-number.result 0 v.ran) c.self.view_is)

pub filed-requires-clause-to1 : goal.filed-requires-clause-to1
filed-requires-clause-to1 g c =
    let b = begins_of _ _ _ c.args.self.now c.self.inside.core c.reserve_window.new.self c.self.inside.coming c.make_room.new.self c.take_in-free.new.self _ _ _ _ _ _ _ _ c.self.view_is
    c.requires.part c.requires.left c.requires.got c.reserve_window.ensures.rest
    c.make_room.ensures.from0 c.make_room.ensures.from1 c.make_room.ensures.from2 c.make_room.ensures.from3
    c.take_in-free.ensures.from0 c.take_in-free.ensures.from1 c.take_in-free.ensures.from2 c.take_in-free.ensures.from3 in
    let ticks = ticks_are _ _ _ c.args.self.now _ c.length_of-ticks.result c.self.view_is c.requires.part c.length_of-ticks.ensures in
    let written = c.in_ok-reserve.ensures.items ∙ ap (λ (v : Standing). v.records) c.self.view_is in
    let number = c.number-number.ensures ∙ ap (λ (h : Home). h.number) (c.take_all-self-inside.ensures.home ∙ c.run_ticks.ensures.home) in
    c.take_all-self-inside.ensures.to1
    ∙ ap (λ xs. xs ++ sent_for 1 c.run_ticks.new.core.outbox) c.in_ok-make_room-2.ensures.to1.empty
    ∙ next_batch _ _ _ _ _ _ _ _ _ b c.length_of-ticks.result ticks _ _ _ _ _ _ _ written c.run_ticks.ensures.goes c.number-number.result number 1
    ∙ sym (ap (λ (v : Standing). batch g.U.RunName.listing g.U.RunName.stimulus g.U.RunName.ticks c.number-number.result 1 v.ran) c.self.view_is)

pub filed-requires-clause-to2 : goal.filed-requires-clause-to2
filed-requires-clause-to2 g c =
    let b = begins_of _ _ _ c.args.self.now c.self.inside.core c.reserve_window.new.self c.self.inside.coming c.make_room.new.self c.take_in-free.new.self _ _ _ _ _ _ _ _ c.self.view_is
    c.requires.part c.requires.left c.requires.got c.reserve_window.ensures.rest
    c.make_room.ensures.from0 c.make_room.ensures.from1 c.make_room.ensures.from2 c.make_room.ensures.from3
    c.take_in-free.ensures.from0 c.take_in-free.ensures.from1 c.take_in-free.ensures.from2 c.take_in-free.ensures.from3 in
    let ticks = ticks_are _ _ _ c.args.self.now _ c.length_of-ticks.result c.self.view_is c.requires.part c.length_of-ticks.ensures in
    let written = c.in_ok-reserve.ensures.items ∙ ap (λ (v : Standing). v.records) c.self.view_is in
    let number = c.number-number.ensures ∙ ap (λ (h : Home). h.number) (c.take_all-self-inside.ensures.home ∙ c.run_ticks.ensures.home) in
    c.take_all-self-inside.ensures.to2
    ∙ ap (λ xs. xs ++ sent_for 2 c.run_ticks.new.core.outbox) c.in_ok-make_room-2.ensures.to2.empty
    ∙ next_batch _ _ _ _ _ _ _ _ _ b c.length_of-ticks.result ticks _ _ _ _ _ _ _ written c.run_ticks.ensures.goes c.number-number.result number 2
    ∙ sym (ap (λ (v : Standing). batch g.U.RunName.listing g.U.RunName.stimulus g.U.RunName.ticks c.number-number.result 2 v.ran) c.self.view_is)

pub filed-requires-clause-to3 : goal.filed-requires-clause-to3
filed-requires-clause-to3 g c =
    let b = begins_of _ _ _ c.args.self.now c.self.inside.core c.reserve_window.new.self c.self.inside.coming c.make_room.new.self c.take_in-free.new.self _ _ _ _ _ _ _ _ c.self.view_is
    c.requires.part c.requires.left c.requires.got c.reserve_window.ensures.rest
    c.make_room.ensures.from0 c.make_room.ensures.from1 c.make_room.ensures.from2 c.make_room.ensures.from3
    c.take_in-free.ensures.from0 c.take_in-free.ensures.from1 c.take_in-free.ensures.from2 c.take_in-free.ensures.from3 in
    let ticks = ticks_are _ _ _ c.args.self.now _ c.length_of-ticks.result c.self.view_is c.requires.part c.length_of-ticks.ensures in
    let written = c.in_ok-reserve.ensures.items ∙ ap (λ (v : Standing). v.records) c.self.view_is in
    let number = c.number-number.ensures ∙ ap (λ (h : Home). h.number) (c.take_all-self-inside.ensures.home ∙ c.run_ticks.ensures.home) in
    c.take_all-self-inside.ensures.to3
    ∙ ap (λ xs. xs ++ sent_for 3 c.run_ticks.new.core.outbox) c.in_ok-make_room-2.ensures.to3.empty
    ∙ next_batch _ _ _ _ _ _ _ _ _ b c.length_of-ticks.result ticks _ _ _ _ _ _ _ written c.run_ticks.ensures.goes c.number-number.result number 3
    ∙ sym (ap (λ (v : Standing). batch g.U.RunName.listing g.U.RunName.stimulus g.U.RunName.ticks c.number-number.result 3 v.ran) c.self.view_is)

pub returns-clause-part : goal.returns-clause-part
returns-clause-part g c =
    let b = begins_of _ _ _ c.args.self.now c.self.inside.core c.reserve_window.new.self c.self.inside.coming c.make_room.new.self c.take_in-free.new.self _ _ _ _ _ _ _ _ c.self.view_is
    c.requires.part c.requires.left c.requires.got c.reserve_window.ensures.rest
    c.make_room.ensures.from0 c.make_room.ensures.from1 c.make_room.ensures.from2 c.make_room.ensures.from3
    c.take_in-free.ensures.from0 c.take_in-free.ensures.from1 c.take_in-free.ensures.from2 c.take_in-free.ensures.from3 in
    let ticks = ticks_are _ _ _ c.args.self.now _ c.length_of-ticks.result c.self.view_is c.requires.part c.length_of-ticks.ensures in
    let written = c.in_ok-reserve.ensures.items ∙ ap (λ (v : Standing). v.records) c.self.view_is in
    next_part _ _ _ _ _ _ _ _ _ b c.length_of-ticks.result ticks _ _ _ _ _ _ _ written c.run_ticks.ensures.goes _ _ _ _ _ _
    (c.take_all-self-inside.ensures.home ∙ c.run_ticks.ensures.home) c.take_all-self-inside.ensures.state refl c.take_all-self-inside.ensures.some
    (ap (λ (v : Standing). v.ran + 1) c.self.view_is) (ap (λ (v : Standing). v.ticks) c.self.view_is)
