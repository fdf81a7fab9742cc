use Rattle.std.proofs.Common.{◌≡◌, ◌≤◌, ◌+◌, ◌*◌, map, vec_len, vec_capacity}
use Rattle.xs_instr.specs.declared.image.Image.{Image}
use Rattle.xs_instr.specs.declared.image.Stim.{Stim}
use Rattle.xs_fabric.specs.Kept.{IsRunning}
use Rattle.xs_fabric.specs.Lockstep.{events_in, rounds_at}
use Rattle.xs_fabric.specs.Seen.{home_in, homes, together}
use Rattle.xs_fabric.proofs.round.all_rounds.Given as goal

abbrev pub invariant-loop-i : goal.invariant-loop-i
invariant-loop-i l = record {
  rounds : (L : Image) (s : Stim) → map home_in l.fn.cores.items ≡ homes L s → together l.cores.items l.links l.trace.items ≡ rounds_at L s (together l.fn.cores.items l.fn.links l.fn.trace.items) l.i;
  events : (L : Image) (s : Stim) → map home_in l.fn.cores.items ≡ homes L s → l.events ≡ events_in L s (together l.fn.cores.items l.fn.links l.fn.trace.items) l.i;
  few : l.events ≤ 2057 * l.i;
  homes : map home_in l.cores.items ≡ map home_in l.fn.cores.items;
  four : vec_len l.cores ≡ 4;
  running : IsRunning l.cores.items l.links l.trace.items;
  len : vec_len l.trace ≤ vec_len l.fn.trace + 8 * l.i;
  capacity : vec_capacity l.fn.trace ≤ vec_capacity l.trace;
}
