use Rattle.std.proofs.Common.{arith}
use Rattle.xr_board.proofs.Ready.{last_of, ready_next, ready_now, ready_of}
use Rattle.xr_board.proofs.alone.run_cores.Goals as goal

pub windows-init : goal.windows-init
windows-init g c =
    let none = c.new-got.ensures in
    record {
      first = ready_of _ _ _ _ _ _ c.requires.first none.to0;
      second = ready_of _ _ _ _ _ _ c.requires.second none.to1;
      third = ready_of _ _ _ _ _ _ c.requires.third none.to2;
      fourth = ready_of _ _ _ _ _ _ c.requires.fourth none.to3;
    }

pub run_window-requires-clause-ready : goal.run_window-requires-clause-ready
run_window-requires-clause-ready g c = ready_now _ _ _ _ _ _ _ _ _ _ _ _ c.windows.invariant

pub run_window-requires-clause-left : goal.run_window-requires-clause-left
run_window-requires-clause-left g c =
    let ran = c.windows.invariant.first.ran in
    let ticks = c.requires.ticks in
    let left = c.windows-test.true in
    omega (arith, ran, ticks, left)

pub windows-preserved : goal.windows-preserved
windows-preserved g c = ready_next _ _ _ _ _ _ _ _ _ _ _ _ _ c.windows.invariant.first.ran c.in_ok-run_window.ensures.ready

pub returns-clause-first : goal.returns-clause-first
returns-clause-first g c =
    let ticks = c.requires.ticks in
    let last = c.windows-test.false in
    let most = c.windows.auto.ran-end in
    last_of _ _ _ _ _ _ _ (omega (arith, ticks, last, most)) c.windows.invariant.first

pub returns-clause-second : goal.returns-clause-second
returns-clause-second g c =
    let ticks = c.requires.ticks in
    let last = c.windows-test.false in
    let most = c.windows.auto.ran-end in
    last_of _ _ _ _ _ _ _ (omega (arith, ticks, last, most)) c.windows.invariant.second

pub returns-clause-third : goal.returns-clause-third
returns-clause-third g c =
    let ticks = c.requires.ticks in
    let last = c.windows-test.false in
    let most = c.windows.auto.ran-end in
    last_of _ _ _ _ _ _ _ (omega (arith, ticks, last, most)) c.windows.invariant.third

pub returns-clause-fourth : goal.returns-clause-fourth
returns-clause-fourth g c =
    let ticks = c.requires.ticks in
    let last = c.windows-test.false in
    let most = c.windows.auto.ran-end in
    last_of _ _ _ _ _ _ _ (omega (arith, ticks, last, most)) c.windows.invariant.fourth
