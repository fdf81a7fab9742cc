use Rattle.std.proofs.Common.{◌+◌, arith, subst, sym, ℕ}
use Rattle.xs_core.proofs.BitLemmas.{fits_one_more, no_bits, one_bit_more}
use Rattle.xs_core.proofs.ready.ready_ends.Goals as goal
use Rattle.xs_core.specs.Bits.{HasBits}
use Rattle.xs_core.specs.Seen.{state_of}
use Rattle.xs_instr.specs.Events.{end_ready}

pub loop-i-init : goal.loop-i-init
loop-i-init c = no_bits (end_ready (state_of c.args.state.now))

pub with_bit-bits-requires : goal.with_bit-bits-requires
with_bit-bits-requires c = fits_one_more c.loop-i.bits c.loop-i.i c.loop-i.invariant.small (omega arith)

pub loop-i-preserved : goal.loop-i-preserved
loop-i-preserved c =
    let ready = (end_ready (state_of c.args.state.now)) in
    subst (λ (v : ℕ). HasBits ready v (c.loop-i.i + 1)) (sym c.with_bit-bits.ensures)
    (one_bit_more ready c.loop-i.bits c.loop-i.i c.is_end_ready.result c.loop-i.invariant (omega arith) c.is_end_ready.ensures)
