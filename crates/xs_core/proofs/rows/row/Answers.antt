use Rattle.std.proofs.Common.{◌≡◌, ◌∙◌, ◌%◌, ◌^◌, ℕ, true, ◌∷◌, [], refl, ap, sym, subst}
use Rattle.xs_core.proofs.rows.row.Goals as goal
use Rattle.xs_core.specs.declared.names.Resource.{Resource}
use Rattle.xs_core.specs.Names.{meant_by}
use Rattle.xs_core.specs.Local.{is_local}
use Rattle.xs_core.specs.Seen.{home_of, state_of}
use Rattle.xs_core.specs.SlotResults.{HasByte}
use Rattle.xs_instr.specs.declared.instr.Instr.{Instr}
use Rattle.xs_instr.specs.declared.instr.Instr.TheVariants.{Getr, Freer, Getst, Tinitpc, Tinitdp, Tinitsp, Msync, Ssync, Mjoin, Freet, Out, Outt, Outct, In, Int, Chkct, Setc, Setd, Setpt, Getts, Setv, Eeu, Edu, Clre, Waiteu, Setsr, Clrsr}
use Rattle.xs_instr.specs.declared.instr.Reg.TheVariants.{Dp, Sp}
use Rattle.xs_instr.specs.declared.state.Token.{Token}
use Rattle.xs_instr.specs.Did.{map_did}
use Rattle.xs_instr.specs.Ends.{control_token, data_token, ins_byte, outs}
use Rattle.xs_instr.specs.Events.{disable_row, enable_row, on_evented, vector_row}
use Rattle.xs_instr.specs.Pool.{joined, prepared, synced, thread_got, with_pc, with_reg}
use Rattle.xs_instr.specs.Ports.{port_stamp, port_time_set}
use Rattle.xs_instr.specs.Registers.{reg_get}
use Rattle.xs_instr.specs.Resources.{Named, named, on_end, on_port, on_sync, on_thread}
use Rattle.xs_instr.specs.Rows.{cond_row, data_row, free_row, gets_with, goes_with, in_row, out_row, put_ends, put_events, put_ports, put_threads, row}

-- what is looked up is what the register names
looked : (m n v w : ℕ) (r : Resource) → meant_by r ≡ named m v → m ≡ n → v ≡ w → meant_by r ≡ named n w
looked m n v w r is core value = is ∙ ap (λ k. named k v) core ∙ ap (named n) value

pub returns-in-Getr-clause-fits : goal.returns-in-Getr-clause-fits
returns-in-Getr-clause-fits c = c.get.ensures.fits (home_of c.args.state.now) (state_of c.args.state.now) c.args.t c.args.thread.now

pub returns-in-Freer-clause-fits : goal.returns-in-Freer-clause-fits
returns-in-Freer-clause-fits c = c.free.ensures.fits c.args.t c.args.thread.now

pub returns-in-Getst-clause-fits : goal.returns-in-Getst-clause-fits
returns-in-Getst-clause-fits c = c.get_thread.ensures.fits c.args.t c.args.thread.now

pub returns-in-Tinitpc-clause-fits : goal.returns-in-Tinitpc-clause-fits
returns-in-Tinitpc-clause-fits c = c.set_pc.ensures.fits c.args.t c.args.thread.now

pub returns-in-Tinitdp-clause-fits : goal.returns-in-Tinitdp-clause-fits
returns-in-Tinitdp-clause-fits c = c.set_reg.ensures.fits c.args.t c.args.thread.now

pub returns-in-Tinitsp-clause-fits : goal.returns-in-Tinitsp-clause-fits
returns-in-Tinitsp-clause-fits c = c.set_reg-in-Tinitsp.ensures.fits c.args.t c.args.thread.now

pub returns-in-Msync-clause-fits : goal.returns-in-Msync-clause-fits
returns-in-Msync-clause-fits c = c.start.ensures.fits c.args.t c.args.thread.now

pub returns-in-Ssync-clause-fits : goal.returns-in-Ssync-clause-fits
returns-in-Ssync-clause-fits c = c.wait.ensures.fits (home_of c.args.state.now) (state_of c.args.state.now) c.args.t

pub returns-in-Mjoin-clause-fits : goal.returns-in-Mjoin-clause-fits
returns-in-Mjoin-clause-fits c = c.join.ensures.fits c.args.t c.args.thread.now

pub returns-in-Freet-clause-fits : goal.returns-in-Freet-clause-fits
returns-in-Freet-clause-fits c = c.end.ensures.fits (home_of c.args.state.now) (state_of c.args.state.now) c.args.t

pub returns-in-Out-clause-fits : goal.returns-in-Out-clause-fits
returns-in-Out-clause-fits c = c.output.ensures.fits c.args.thread.now

pub returns-in-Outt-clause-fits : goal.returns-in-Outt-clause-fits
returns-in-Outt-clause-fits c = c.send_token.ensures.fits c.args.t c.args.thread.now

pub returns-in-Outct-clause-fits : goal.returns-in-Outct-clause-fits
returns-in-Outct-clause-fits c = c.send_token-in-Outct.ensures.fits c.args.t c.args.thread.now

pub returns-in-In-clause-fits : goal.returns-in-In-clause-fits
returns-in-In-clause-fits c = c.input.ensures.fits c.args.t c.args.thread.now

pub returns-in-Int-clause-fits : goal.returns-in-Int-clause-fits
returns-in-Int-clause-fits c = c.take_byte.ensures.fits c.args.t c.args.thread.now

pub returns-in-Chkct-clause-fits : goal.returns-in-Chkct-clause-fits
returns-in-Chkct-clause-fits c = c.take_control.ensures.fits c.args.t c.args.thread.now

pub returns-in-Setc-clause-fits : goal.returns-in-Setc-clause-fits
returns-in-Setc-clause-fits c = c.set_cond.ensures.fits c.args.t c.args.thread.now

pub returns-in-Setd-clause-fits : goal.returns-in-Setd-clause-fits
returns-in-Setd-clause-fits c = c.set_data.ensures.fits c.args.t c.args.thread.now

pub returns-in-Setpt-clause-fits : goal.returns-in-Setpt-clause-fits
returns-in-Setpt-clause-fits c = c.set_time.ensures.fits c.args.t c.args.thread.now

pub returns-in-Getts-clause-fits : goal.returns-in-Getts-clause-fits
returns-in-Getts-clause-fits c = c.stamp.ensures.fits c.args.t c.args.thread.now

pub returns-in-Setv-clause-fits : goal.returns-in-Setv-clause-fits
returns-in-Setv-clause-fits c = c.set_vector.ensures.fits c.args.t c.args.thread.now

pub returns-in-Eeu-clause-fits : goal.returns-in-Eeu-clause-fits
returns-in-Eeu-clause-fits c = c.enable.ensures.fits c.args.t c.args.thread.now

pub returns-in-Edu-clause-fits : goal.returns-in-Edu-clause-fits
returns-in-Edu-clause-fits c = c.disable.ensures.fits c.args.t c.args.thread.now

pub returns-in-Setsr-clause-fits : goal.returns-in-Setsr-clause-fits
returns-in-Setsr-clause-fits c = c.set_bit.ensures.fits (home_of c.args.state.now) (state_of c.args.state.now) c.args.t

pub returns-in-Clrsr-clause-fits : goal.returns-in-Clrsr-clause-fits
returns-in-Clrsr-clause-fits c = c.clear_bit.ensures.fits (home_of c.args.state.now) (state_of c.args.state.now) c.args.t

pub returns-in_default : goal.returns-in_default
returns-in_default c = record { means = c.own.ensures.means c.args.t; steps = c.own.ensures.steps c.args.t; fits = c.own.ensures.fits c.args.t }

pub returns-in-Freer-clause-means : goal.returns-in-Freer-clause-means
returns-in-Freer-clause-means c =
    let home = home_of c.args.state.now in
    let core = state_of c.args.state.now in
    let t = c.args.t in
    let x = c.args.thread.now in
    c.free.ensures.means t x
    ∙ ap (λ (k : Named). free_row core t x k) (looked _ _ _ _ _ c.look_up.ensures c.core-core.ensures c.get-in-Freer.ensures)
    ∙ ap (row home core t x) (sym c.in-Freer.is)

pub returns-in-Getst-clause-means : goal.returns-in-Getst-clause-means
returns-in-Getst-clause-means c =
    let home = home_of c.args.state.now in
    let core = state_of c.args.state.now in
    let t = c.args.t in
    let x = c.args.thread.now in
    c.get_thread.ensures.means t x
    ∙ ap (λ (k : Named). map_did (gets_with put_threads core t x c.in-Getst.d) (on_sync core (thread_got home.number core.threads) k)) (looked _ _ _ _ _ c.look_up-in-Getst.ensures c.core-core.ensures c.get-in-Getst.ensures)
    ∙ ap (row home core t x) (sym c.in-Getst.is)

pub returns-in-Tinitpc-clause-means : goal.returns-in-Tinitpc-clause-means
returns-in-Tinitpc-clause-means c =
    let home = home_of c.args.state.now in
    let core = state_of c.args.state.now in
    let t = c.args.t in
    let x = c.args.thread.now in
    c.set_pc.ensures.means t x
    ∙ ap (λ (k : Named). map_did (goes_with put_threads core t x) (on_thread core (prepared (with_pc c.in-Tinitpc.k) core.threads) k)) (looked _ _ _ _ _ c.look_up-in-Tinitpc.ensures c.core-core.ensures c.get-in-Tinitpc.ensures)
    ∙ ap (row home core t x) (sym c.in-Tinitpc.is)

pub returns-in-Msync-clause-means : goal.returns-in-Msync-clause-means
returns-in-Msync-clause-means c =
    let home = home_of c.args.state.now in
    let core = state_of c.args.state.now in
    let t = c.args.t in
    let x = c.args.thread.now in
    c.start.ensures.means t x
    ∙ ap (λ (k : Named). map_did (goes_with put_threads core t x) (on_sync core (synced core.threads) k)) (looked _ _ _ _ _ c.look_up-in-Msync.ensures c.core-core.ensures c.get-in-Msync.ensures)
    ∙ ap (row home core t x) (sym c.in-Msync.is)

pub returns-in-Mjoin-clause-means : goal.returns-in-Mjoin-clause-means
returns-in-Mjoin-clause-means c =
    let home = home_of c.args.state.now in
    let core = state_of c.args.state.now in
    let t = c.args.t in
    let x = c.args.thread.now in
    c.join.ensures.means t x
    ∙ ap (λ (k : Named). map_did (goes_with put_threads core t x) (on_sync core (joined core.threads) k)) (looked _ _ _ _ _ c.look_up-in-Mjoin.ensures c.core-core.ensures c.get-in-Mjoin.ensures)
    ∙ ap (row home core t x) (sym c.in-Mjoin.is)

pub returns-in-Int-clause-means : goal.returns-in-Int-clause-means
returns-in-Int-clause-means c =
    let home = home_of c.args.state.now in
    let core = state_of c.args.state.now in
    let t = c.args.t in
    let x = c.args.thread.now in
    c.take_byte.ensures.means t x
    ∙ ap (λ (k : Named). map_did (gets_with put_ends core t x c.in-Int.d) (on_end core (ins_byte home core.clock core.ends) k)) (looked _ _ _ _ _ c.look_up-in-Int.ensures c.core-core.ensures c.get-in-Int.ensures)
    ∙ ap (row home core t x) (sym c.in-Int.is)

pub returns-in-Setc-clause-means : goal.returns-in-Setc-clause-means
returns-in-Setc-clause-means c =
    let home = home_of c.args.state.now in
    let core = state_of c.args.state.now in
    let t = c.args.t in
    let x = c.args.thread.now in
    c.set_cond.ensures.means t x
    ∙ ap (λ (k : Named). cond_row core t x c.in-Setc.cond k) (looked _ _ _ _ _ c.look_up-in-Setc.ensures c.core-core.ensures c.get-in-Setc.ensures)
    ∙ ap (row home core t x) (sym c.in-Setc.is)

pub returns-in-Getts-clause-means : goal.returns-in-Getts-clause-means
returns-in-Getts-clause-means c =
    let home = home_of c.args.state.now in
    let core = state_of c.args.state.now in
    let t = c.args.t in
    let x = c.args.thread.now in
    c.stamp.ensures.means t x
    ∙ ap (λ (k : Named). map_did (gets_with put_ports core t x c.in-Getts.d) (on_port core (port_stamp core.ports) k)) (looked _ _ _ _ _ c.look_up-in-Getts.ensures c.core-core.ensures c.get-in-Getts.ensures)
    ∙ ap (row home core t x) (sym c.in-Getts.is)

pub returns-in-Setv-clause-means : goal.returns-in-Setv-clause-means
returns-in-Setv-clause-means c =
    let home = home_of c.args.state.now in
    let core = state_of c.args.state.now in
    let t = c.args.t in
    let x = c.args.thread.now in
    c.set_vector.ensures.means t x
    ∙ ap (λ (k : Named). map_did (goes_with put_events core t x) (on_evented core (vector_row core.events c.in-Setv.k) k)) (looked _ _ _ _ _ c.look_up-in-Setv.ensures c.core-core.ensures c.get-in-Setv.ensures)
    ∙ ap (row home core t x) (sym c.in-Setv.is)

pub returns-in-Eeu-clause-means : goal.returns-in-Eeu-clause-means
returns-in-Eeu-clause-means c =
    let home = home_of c.args.state.now in
    let core = state_of c.args.state.now in
    let t = c.args.t in
    let x = c.args.thread.now in
    c.enable.ensures.means t x
    ∙ ap (λ (k : Named). map_did (goes_with put_events core t x) (on_evented core (enable_row core.events t) k)) (looked _ _ _ _ _ c.look_up-in-Eeu.ensures c.core-core.ensures c.get-in-Eeu.ensures)
    ∙ ap (row home core t x) (sym c.in-Eeu.is)

pub returns-in-Edu-clause-means : goal.returns-in-Edu-clause-means
returns-in-Edu-clause-means c =
    let home = home_of c.args.state.now in
    let core = state_of c.args.state.now in
    let t = c.args.t in
    let x = c.args.thread.now in
    c.disable.ensures.means t x
    ∙ ap (λ (k : Named). map_did (goes_with put_events core t x) (on_evented core (disable_row core.events) k)) (looked _ _ _ _ _ c.look_up-in-Edu.ensures c.core-core.ensures c.get-in-Edu.ensures)
    ∙ ap (row home core t x) (sym c.in-Edu.is)

pub returns-in-Getr-clause-means : goal.returns-in-Getr-clause-means
returns-in-Getr-clause-means c =
    let home = home_of c.args.state.now in
    let core = state_of c.args.state.now in
    let t = c.args.t in
    let x = c.args.thread.now in
    c.get.ensures.means home core t x ∙ ap (row home core t x) (sym c.in-Getr.is)

pub returns-in-Ssync-clause-means : goal.returns-in-Ssync-clause-means
returns-in-Ssync-clause-means c =
    let home = home_of c.args.state.now in
    let core = state_of c.args.state.now in
    let t = c.args.t in
    let x = c.args.thread.now in
    c.wait.ensures.means home core t ∙ ap (row home core t x) (sym c.in-Ssync.is)

pub returns-in-Freet-clause-means : goal.returns-in-Freet-clause-means
returns-in-Freet-clause-means c =
    let home = home_of c.args.state.now in
    let core = state_of c.args.state.now in
    let t = c.args.t in
    let x = c.args.thread.now in
    c.end.ensures.means home core t ∙ ap (row home core t x) (sym c.in-Freet.is)

pub returns-in-Setsr-clause-means : goal.returns-in-Setsr-clause-means
returns-in-Setsr-clause-means c =
    let home = home_of c.args.state.now in
    let core = state_of c.args.state.now in
    let t = c.args.t in
    let x = c.args.thread.now in
    c.set_bit.ensures.means home core t ∙ ap (row home core t x) (sym c.in-Setsr.is)

pub returns-in-Clrsr-clause-means : goal.returns-in-Clrsr-clause-means
returns-in-Clrsr-clause-means c =
    let home = home_of c.args.state.now in
    let core = state_of c.args.state.now in
    let t = c.args.t in
    let x = c.args.thread.now in
    c.clear_bit.ensures.means home core t ∙ ap (row home core t x) (sym c.in-Clrsr.is)

pub returns-in-Getr-clause-steps : goal.returns-in-Getr-clause-steps
returns-in-Getr-clause-steps c = c.get.ensures.steps (home_of c.args.state.now) (state_of c.args.state.now) c.args.t c.args.thread.now

pub returns-in-Freer-clause-steps : goal.returns-in-Freer-clause-steps
returns-in-Freer-clause-steps c = c.free.ensures.steps c.args.t c.args.thread.now

pub returns-in-Getst-clause-steps : goal.returns-in-Getst-clause-steps
returns-in-Getst-clause-steps c = c.get_thread.ensures.steps c.args.t c.args.thread.now

pub returns-in-Tinitpc-clause-steps : goal.returns-in-Tinitpc-clause-steps
returns-in-Tinitpc-clause-steps c = c.set_pc.ensures.steps c.args.t c.args.thread.now

pub returns-in-Tinitdp-clause-steps : goal.returns-in-Tinitdp-clause-steps
returns-in-Tinitdp-clause-steps c = c.set_reg.ensures.steps c.args.t c.args.thread.now

pub returns-in-Tinitsp-clause-steps : goal.returns-in-Tinitsp-clause-steps
returns-in-Tinitsp-clause-steps c = c.set_reg-in-Tinitsp.ensures.steps c.args.t c.args.thread.now

pub returns-in-Msync-clause-steps : goal.returns-in-Msync-clause-steps
returns-in-Msync-clause-steps c = c.start.ensures.steps c.args.t c.args.thread.now

pub returns-in-Ssync-clause-steps : goal.returns-in-Ssync-clause-steps
returns-in-Ssync-clause-steps c = c.wait.ensures.steps (home_of c.args.state.now) (state_of c.args.state.now) c.args.t

pub returns-in-Mjoin-clause-steps : goal.returns-in-Mjoin-clause-steps
returns-in-Mjoin-clause-steps c = c.join.ensures.steps c.args.t c.args.thread.now

pub returns-in-Freet-clause-steps : goal.returns-in-Freet-clause-steps
returns-in-Freet-clause-steps c = c.end.ensures.steps (home_of c.args.state.now) (state_of c.args.state.now) c.args.t

pub returns-in-Out-clause-steps : goal.returns-in-Out-clause-steps
returns-in-Out-clause-steps c = c.output.ensures.steps c.args.thread.now

pub returns-in-Outt-clause-steps : goal.returns-in-Outt-clause-steps
returns-in-Outt-clause-steps c = c.send_token.ensures.steps c.args.t c.args.thread.now

pub returns-in-Outct-clause-steps : goal.returns-in-Outct-clause-steps
returns-in-Outct-clause-steps c = c.send_token-in-Outct.ensures.steps c.args.t c.args.thread.now

pub returns-in-In-clause-steps : goal.returns-in-In-clause-steps
returns-in-In-clause-steps c = c.input.ensures.steps c.args.t c.args.thread.now

pub returns-in-Int-clause-steps : goal.returns-in-Int-clause-steps
returns-in-Int-clause-steps c = c.take_byte.ensures.steps c.args.t c.args.thread.now

pub returns-in-Chkct-clause-steps : goal.returns-in-Chkct-clause-steps
returns-in-Chkct-clause-steps c = c.take_control.ensures.steps c.args.t c.args.thread.now

pub returns-in-Setc-clause-steps : goal.returns-in-Setc-clause-steps
returns-in-Setc-clause-steps c = c.set_cond.ensures.steps c.args.t c.args.thread.now

pub returns-in-Setd-clause-steps : goal.returns-in-Setd-clause-steps
returns-in-Setd-clause-steps c = c.set_data.ensures.steps c.args.t c.args.thread.now

pub returns-in-Setpt-clause-steps : goal.returns-in-Setpt-clause-steps
returns-in-Setpt-clause-steps c = c.set_time.ensures.steps c.args.t c.args.thread.now

pub returns-in-Getts-clause-steps : goal.returns-in-Getts-clause-steps
returns-in-Getts-clause-steps c = c.stamp.ensures.steps c.args.t c.args.thread.now

pub returns-in-Setv-clause-steps : goal.returns-in-Setv-clause-steps
returns-in-Setv-clause-steps c = c.set_vector.ensures.steps c.args.t c.args.thread.now

pub returns-in-Eeu-clause-steps : goal.returns-in-Eeu-clause-steps
returns-in-Eeu-clause-steps c = c.enable.ensures.steps c.args.t c.args.thread.now

pub returns-in-Edu-clause-steps : goal.returns-in-Edu-clause-steps
returns-in-Edu-clause-steps c = c.disable.ensures.steps c.args.t c.args.thread.now

pub returns-in-Setsr-clause-steps : goal.returns-in-Setsr-clause-steps
returns-in-Setsr-clause-steps c = c.set_bit.ensures.steps (home_of c.args.state.now) (state_of c.args.state.now) c.args.t

pub returns-in-Clrsr-clause-steps : goal.returns-in-Clrsr-clause-steps
returns-in-Clrsr-clause-steps c = c.clear_bit.ensures.steps (home_of c.args.state.now) (state_of c.args.state.now) c.args.t

pub returns-in-Tinitdp-clause-means : goal.returns-in-Tinitdp-clause-means
returns-in-Tinitdp-clause-means c =
    let home = home_of c.args.state.now in
    let core = state_of c.args.state.now in
    let t = c.args.t in
    let x = c.args.thread.now in
    c.set_reg.ensures.means t x
    ∙ ap (λ (v : ℕ). map_did (goes_with put_threads core t x) (on_thread core (prepared (with_reg Dp v) core.threads)
    (meant_by c.look_up-in-Tinitdp.result))) c.get-in-Tinitdp-2.ensures
    ∙ ap (λ (k : Named). map_did (goes_with put_threads core t x) (on_thread core (prepared (with_reg Dp (reg_get x.regs c.in-Tinitdp.s)) core.threads)
    k)) (looked _ _ _ _ _ c.look_up-in-Tinitdp.ensures c.core-core.ensures c.get-in-Tinitdp.ensures)
    ∙ ap (row home core t x) (sym c.in-Tinitdp.is)

pub returns-in-Tinitsp-clause-means : goal.returns-in-Tinitsp-clause-means
returns-in-Tinitsp-clause-means c =
    let home = home_of c.args.state.now in
    let core = state_of c.args.state.now in
    let t = c.args.t in
    let x = c.args.thread.now in
    c.set_reg-in-Tinitsp.ensures.means t x
    ∙ ap (λ (v : ℕ). map_did (goes_with put_threads core t x) (on_thread core (prepared (with_reg Sp v) core.threads)
    (meant_by c.look_up-in-Tinitsp.result))) c.get-in-Tinitsp-2.ensures
    ∙ ap (λ (k : Named). map_did (goes_with put_threads core t x) (on_thread core (prepared (with_reg Sp (reg_get x.regs c.in-Tinitsp.s)) core.threads)
    k)) (looked _ _ _ _ _ c.look_up-in-Tinitsp.ensures c.core-core.ensures c.get-in-Tinitsp.ensures)
    ∙ ap (row home core t x) (sym c.in-Tinitsp.is)

pub returns-in-Out-clause-means : goal.returns-in-Out-clause-means
returns-in-Out-clause-means c =
    let home = home_of c.args.state.now in
    let core = state_of c.args.state.now in
    let t = c.args.t in
    let x = c.args.thread.now in
    c.output.ensures.means x
    ∙ ap (λ (v : ℕ). out_row home core t x v (meant_by c.look_up-in-Out.result)) c.get-in-Out-2.ensures
    ∙ ap (λ (k : Named). out_row home core t x (reg_get x.regs c.in-Out.s) k)
    (looked _ _ _ _ _ c.look_up-in-Out.ensures c.core-core.ensures c.get-in-Out.ensures)
    ∙ ap (row home core t x) (sym c.in-Out.is)

pub returns-in-In-clause-means : goal.returns-in-In-clause-means
returns-in-In-clause-means c =
    let home = home_of c.args.state.now in
    let core = state_of c.args.state.now in
    let t = c.args.t in
    let x = c.args.thread.now in
    c.input.ensures.means t x
    ∙ ap (λ (v : ℕ). in_row home core t x c.in-In.d v (meant_by c.look_up-in-In.result)) c.get-in-In-2.ensures
    ∙ ap (λ (k : Named). in_row home core t x c.in-In.d (reg_get x.regs c.in-In.r) k)
    (looked _ _ _ _ _ c.look_up-in-In.ensures c.core-core.ensures c.get-in-In.ensures)
    ∙ ap (row home core t x) (sym c.in-In.is)

pub returns-in-Setd-clause-means : goal.returns-in-Setd-clause-means
returns-in-Setd-clause-means c =
    let home = home_of c.args.state.now in
    let core = state_of c.args.state.now in
    let t = c.args.t in
    let x = c.args.thread.now in
    c.set_data.ensures.means t x
    ∙ ap (λ (v : ℕ). data_row core t x v (meant_by c.look_up-in-Setd.result)) c.get-in-Setd-2.ensures
    ∙ ap (λ (k : Named). data_row core t x (reg_get x.regs c.in-Setd.s) k)
    (looked _ _ _ _ _ c.look_up-in-Setd.ensures c.core-core.ensures c.get-in-Setd.ensures)
    ∙ ap (row home core t x) (sym c.in-Setd.is)

pub returns-in-Setpt-clause-means : goal.returns-in-Setpt-clause-means
returns-in-Setpt-clause-means c =
    let home = home_of c.args.state.now in
    let core = state_of c.args.state.now in
    let t = c.args.t in
    let x = c.args.thread.now in
    c.set_time.ensures.means t x
    ∙ ap (λ (v : ℕ). map_did (goes_with put_ports core t x) (on_port core (port_time_set v core.ports) (meant_by c.look_up-in-Setpt.result)))
    c.get-in-Setpt-2.ensures
    ∙ ap (λ (k : Named). map_did (goes_with put_ports core t x) (on_port core (port_time_set (reg_get x.regs c.in-Setpt.s) core.ports) k))
    (looked _ _ _ _ _ c.look_up-in-Setpt.ensures c.core-core.ensures c.get-in-Setpt.ensures)
    ∙ ap (row home core t x) (sym c.in-Setpt.is)

pub returns-in-Outt-clause-means : goal.returns-in-Outt-clause-means
returns-in-Outt-clause-means c =
    let home = home_of c.args.state.now in
    let core = state_of c.args.state.now in
    let t = c.args.t in
    let x = c.args.thread.now in
    c.send_token.ensures.means t x
    ∙ ap (λ (y : Token). map_did (goes_with put_ends core t x) (on_end core (outs home core.clock (y ∷ []) core.ends)
    (meant_by c.look_up-in-Outt.result))) (c.data_token.ensures ∙ ap (λ v. data_token (v % 2 ^ 8)) c.get-in-Outt-2.ensures)
    ∙ ap (λ (k : Named). map_did (goes_with put_ends core t x) (on_end core
    (outs home core.clock ((data_token (reg_get x.regs c.in-Outt.s % 2 ^ 8)) ∷ []) core.ends) k))
    (looked _ _ _ _ _ c.look_up-in-Outt.ensures c.core-core.ensures c.get-in-Outt.ensures)
    ∙ ap (row home core t x) (sym c.in-Outt.is)

pub returns-in-Outct-clause-means : goal.returns-in-Outct-clause-means
returns-in-Outct-clause-means c =
    let home = home_of c.args.state.now in
    let core = state_of c.args.state.now in
    let t = c.args.t in
    let x = c.args.thread.now in
    c.send_token-in-Outct.ensures.means t x
    ∙ ap (λ (y : Token). map_did (goes_with put_ends core t x) (on_end core (outs home core.clock (y ∷ []) core.ends)
    (meant_by c.look_up-in-Outct.result))) c.control_token.ensures
    ∙ ap (λ (k : Named). map_did (goes_with put_ends core t x) (on_end core (outs home core.clock ((control_token c.in-Outct.n) ∷ []) core.ends) k))
    (looked _ _ _ _ _ c.look_up-in-Outct.ensures c.core-core.ensures c.get-in-Outct.ensures)
    ∙ ap (row home core t x) (sym c.in-Outct.is)

pub control_token-requires : goal.control_token-requires
control_token-requires c = subst HasByte c.in-Outct.is c.requires

-- an instruction that is none of those above is of registers, memory or flow
pub own-requires : goal.own-requires
own-requires c = go c.args.instr refl
  where
    go : (i : Instr) → c.args.instr ≡ i → is_local i ≡ true
    go (Getr d kind) e = absurd (c.in_default.not-Getr d kind e)
    go (Freer r) e = absurd (c.in_default.not-Freer r e)
    go (Getst d r) e = absurd (c.in_default.not-Getst d r e)
    go (Tinitpc r k) e = absurd (c.in_default.not-Tinitpc r k e)
    go (Tinitdp r s) e = absurd (c.in_default.not-Tinitdp r s e)
    go (Tinitsp r s) e = absurd (c.in_default.not-Tinitsp r s e)
    go (Msync r) e = absurd (c.in_default.not-Msync r e)
    go Ssync e = absurd (c.in_default.not-Ssync e)
    go (Mjoin r) e = absurd (c.in_default.not-Mjoin r e)
    go Freet e = absurd (c.in_default.not-Freet e)
    go (Out r s) e = absurd (c.in_default.not-Out r s e)
    go (Outt r s) e = absurd (c.in_default.not-Outt r s e)
    go (Outct r n) e = absurd (c.in_default.not-Outct r n e)
    go (In d r) e = absurd (c.in_default.not-In d r e)
    go (Int d r) e = absurd (c.in_default.not-Int d r e)
    go (Chkct r n) e = absurd (c.in_default.not-Chkct r n e)
    go (Setc r cond) e = absurd (c.in_default.not-Setc r cond e)
    go (Setd r s) e = absurd (c.in_default.not-Setd r s e)
    go (Setpt r s) e = absurd (c.in_default.not-Setpt r s e)
    go (Getts d r) e = absurd (c.in_default.not-Getts d r e)
    go (Setv r k) e = absurd (c.in_default.not-Setv r k e)
    go (Eeu r) e = absurd (c.in_default.not-Eeu r e)
    go (Edu r) e = absurd (c.in_default.not-Edu r e)
    go Clre e = absurd (c.in_default.not-Clre e)
    go Waiteu e = absurd (c.in_default.not-Waiteu e)
    go (Setsr n) e = absurd (c.in_default.not-Setsr n e)
    go (Clrsr n) e = absurd (c.in_default.not-Clrsr n e)
    go _ e = refl
