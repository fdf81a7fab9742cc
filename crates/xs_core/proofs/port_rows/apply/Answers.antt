use Rattle.std.proofs.Common.{refl}
use Rattle.xs_core.proofs.Lists.{others_kept}
use Rattle.xs_core.proofs.PortRows.{clock_made, cond_made, data_made, drive_made, drives_now, ports_keep, read_made, reads_at_once, time_made, timer_cond_made, timer_data_made}
use Rattle.xs_core.proofs.port_rows.apply.Goals as goal

pub returns-in-PortCond-clause-made : goal.returns-in-PortCond-clause-made
returns-in-PortCond-clause-made c = cond_made c.args.state.now c.args.t c.in-PortCond.p c.in-PortCond.cond c.args.step c.pass-in-PortCond.new.threads c.set_cond.new.self c.in-PortCond.is c.requires.fits c.set_cond.ensures.condition c.pass-in-PortCond.ensures

pub returns-in-PortData-clause-made : goal.returns-in-PortData-clause-made
returns-in-PortData-clause-made c = data_made c.args.state.now c.args.t c.in-PortData.p c.in-PortData.value c.args.step c.pass-in-PortData.new.threads c.set_data.new.self c.in-PortData.is c.requires.fits c.set_data.ensures.data_set c.pass-in-PortData.ensures

pub returns-in-PortTime-clause-made : goal.returns-in-PortTime-clause-made
returns-in-PortTime-clause-made c = time_made c.args.state.now c.args.t c.in-PortTime.p c.in-PortTime.value c.args.step c.pass-in-PortTime.new.threads c.set_time.new.self c.in-PortTime.is c.requires.fits c.set_time.ensures.time_set c.pass-in-PortTime.ensures

pub returns-in_ok-got-in-Drive-clause-made : goal.returns-in_ok-got-in-Drive-clause-made
returns-in_ok-got-in-Drive-clause-made c = drive_made c.args.state.now c.args.t c.in-Drive.p c.in-Drive.value c.core.result c.decl-id.result
    c.in_ok-got-in-Drive.got c.output.result c.args.step c.pass.new.threads c.drive.new.self c.in-Drive.is c.requires.fits
    c.in_ok-got-in-Drive.ensures.turn c.drive.ensures.rest c.pass.ensures c.decl-id.ensures c.core.ensures c.output.ensures

pub returns-in_err-got-in-Drive-clause-made : goal.returns-in_err-got-in-Drive-clause-made
returns-in_err-got-in-Drive-clause-made c = absurd (drives_now c.args.state.now c.in-Drive.p c.in-Drive.value c.args.step c.in-Drive.is
    c.requires.fits c.in_err-got-in-Drive.ensures.turn)

pub returns-in_ok-got-in-Read-clause-made : goal.returns-in_ok-got-in-Read-clause-made
returns-in_ok-got-in-Read-clause-made c = read_made c.args.state.now c.args.t c.in-Read.p c.core-in-Read.result c.in-Read.d c.decl-id-in-Read.result
    c.in_ok-got-in-Read.got c.input.result c.args.step c.pass_with.new.threads c.read.new.self c.in-Read.is c.requires.fits
    c.in_ok-got-in-Read.ensures.turn c.read.ensures.rest c.pass_with.ensures c.decl-id-in-Read.ensures c.core-in-Read.ensures c.input.ensures

pub returns-in_err-got-in-Read-clause-made : goal.returns-in_err-got-in-Read-clause-made
returns-in_err-got-in-Read-clause-made c = absurd (reads_at_once c.args.state.now c.in-Read.p c.in-Read.d c.args.step c.in-Read.is c.requires.fits
    c.in_err-got-in-Read.ensures.turn)

pub returns-in-Clock-clause-made : goal.returns-in-Clock-clause-made
returns-in-Clock-clause-made c = clock_made c.args.state.now c.args.t c.in-Clock.n c.unwrap_or-time.result c.clock.result c.in-Clock.d c.args.step
    c.pass_with-in-Clock.new.threads c.as_slice.result.now c.set.new.self c.unlatched.result c.in-Clock.is c.requires.fits c.as_slice.ensures
    c.clock.ensures c.unwrap_or-time.ensures c.unlatched.ensures c.set.ensures c.pass_with-in-Clock.ensures

pub returns-in-TimerCond-clause-made : goal.returns-in-TimerCond-clause-made
returns-in-TimerCond-clause-made c = timer_cond_made c.args.state.now c.args.t c.in-TimerCond.n c.in-TimerCond.cond c.args.step
    c.pass-in-TimerCond.new.threads c.as_slice-in-TimerCond.result.now c.set-in-TimerCond.new.self c.with_cond.result c.in-TimerCond.is
    c.requires.fits c.as_slice-in-TimerCond.ensures c.with_cond.ensures c.set-in-TimerCond.ensures c.pass-in-TimerCond.ensures

pub returns-in-TimerData-clause-made : goal.returns-in-TimerData-clause-made
returns-in-TimerData-clause-made c = timer_data_made c.args.state.now c.args.t c.in-TimerData.n c.in-TimerData.value c.args.step
    c.pass-in-TimerData.new.threads c.as_slice-in-TimerData.result.now c.set-in-TimerData.new.self c.with_datum.result c.in-TimerData.is
    c.requires.fits c.as_slice-in-TimerData.ensures c.with_datum.ensures c.set-in-TimerData.ensures c.pass-in-TimerData.ensures

pub returns-in_ok-got-in-Drive-clause-keeps : goal.returns-in_ok-got-in-Drive-clause-keeps
returns-in_ok-got-in-Drive-clause-keeps c = ports_keep c.args.state.now c.pass.new.threads c.drive.new.self _ c.drive.ensures.rest

pub returns-in_ok-got-in-Drive-clause-others : goal.returns-in_ok-got-in-Drive-clause-others
returns-in_ok-got-in-Drive-clause-others c = others_kept _ _ _ _ _ c.pass.ensures refl

pub returns-in_ok-got-in-Read-clause-keeps : goal.returns-in_ok-got-in-Read-clause-keeps
returns-in_ok-got-in-Read-clause-keeps c = ports_keep c.args.state.now c.pass_with.new.threads c.read.new.self _ c.read.ensures.rest

pub returns-in_ok-got-in-Read-clause-others : goal.returns-in_ok-got-in-Read-clause-others
returns-in_ok-got-in-Read-clause-others c = others_kept _ _ _ _ _ c.pass_with.ensures refl

pub returns-in-PortCond-clause-keeps : goal.returns-in-PortCond-clause-keeps
returns-in-PortCond-clause-keeps c = ports_keep c.args.state.now c.pass-in-PortCond.new.threads c.set_cond.new.self _ c.set_cond.ensures.condition

pub returns-in-PortCond-clause-others : goal.returns-in-PortCond-clause-others
returns-in-PortCond-clause-others c = others_kept _ _ _ _ _ c.pass-in-PortCond.ensures refl

pub returns-in-PortData-clause-keeps : goal.returns-in-PortData-clause-keeps
returns-in-PortData-clause-keeps c = ports_keep c.args.state.now c.pass-in-PortData.new.threads c.set_data.new.self _ c.set_data.ensures.data_set

pub returns-in-PortData-clause-others : goal.returns-in-PortData-clause-others
returns-in-PortData-clause-others c = others_kept _ _ _ _ _ c.pass-in-PortData.ensures refl

pub returns-in-PortTime-clause-keeps : goal.returns-in-PortTime-clause-keeps
returns-in-PortTime-clause-keeps c = ports_keep c.args.state.now c.pass-in-PortTime.new.threads c.set_time.new.self _ c.set_time.ensures.time_set

pub returns-in-PortTime-clause-others : goal.returns-in-PortTime-clause-others
returns-in-PortTime-clause-others c = others_kept _ _ _ _ _ c.pass-in-PortTime.ensures refl

pub returns-in_err-got-in-Drive-clause-keeps : goal.returns-in_err-got-in-Drive-clause-keeps
returns-in_err-got-in-Drive-clause-keeps c = ports_keep c.args.state.now c.args.state.now.threads c.drive.new.self _ c.drive.ensures.rest

pub returns-in_err-got-in-Drive-clause-others : goal.returns-in_err-got-in-Drive-clause-others
returns-in_err-got-in-Drive-clause-others c u apart = refl

pub returns-in_err-got-in-Read-clause-keeps : goal.returns-in_err-got-in-Read-clause-keeps
returns-in_err-got-in-Read-clause-keeps c = ports_keep c.args.state.now c.args.state.now.threads c.read.new.self _ c.read.ensures.rest

pub returns-in_err-got-in-Read-clause-others : goal.returns-in_err-got-in-Read-clause-others
returns-in_err-got-in-Read-clause-others c u apart = refl

pub returns-in-Clock-clause-keeps : goal.returns-in-Clock-clause-keeps
returns-in-Clock-clause-keeps c = record { fixed = refl; core = refl; stim = refl; ends = refl }

pub returns-in-Clock-clause-others : goal.returns-in-Clock-clause-others
returns-in-Clock-clause-others c = others_kept _ _ _ _ _ c.pass_with-in-Clock.ensures refl

pub returns-in-TimerCond-clause-keeps : goal.returns-in-TimerCond-clause-keeps
returns-in-TimerCond-clause-keeps c = record { fixed = refl; core = refl; stim = refl; ends = refl }

pub returns-in-TimerCond-clause-others : goal.returns-in-TimerCond-clause-others
returns-in-TimerCond-clause-others c = others_kept _ _ _ _ _ c.pass-in-TimerCond.ensures refl

pub returns-in-TimerData-clause-keeps : goal.returns-in-TimerData-clause-keeps
returns-in-TimerData-clause-keeps c = record { fixed = refl; core = refl; stim = refl; ends = refl }

pub returns-in-TimerData-clause-others : goal.returns-in-TimerData-clause-others
returns-in-TimerData-clause-others c = others_kept _ _ _ _ _ c.pass-in-TimerData.ensures refl
