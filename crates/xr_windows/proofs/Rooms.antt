-- What is due within eight ticks has room, also told by the core itself.
use Rattle.std.proofs.Common.{◌<◌, ◌+◌, ◌^◌, ℕ, refl, subst, arith}
use Rattle.std.specs.Prelude.{nat_lt, slice_set}
use Rattle.xs_instr.specs.declared.image.Image.{Image}
use Rattle.xs_instr.specs.declared.image.Stim.{Stim}
use Rattle.xs_instr.specs.Machine.{boot, home_of}
use Rattle.xs_instr.specs.Slot.{last_clock}
use Rattle.xs_instr.specs.Valid.{Valid}
use Rattle.xs_fabric.specs.Lockstep.{lockstep, rounds_at, tick_once}
use Rattle.xs_fabric.specs.Rooms.{AllHaveRoom}
use Rattle.xr_windows.specs.Alone.{Alone, due_in}
use Rattle.xr_windows.proofs.EightTicks.{eight_ticks, loc, mix, mix_after, mix_here, soon, within}
use Rattle.xs_core.proofs.Lists.{get_set}
use Rattle.xs_fabric.proofs.Deliveries.{all_room}
use Rattle.xs_fabric.proofs.LockstepLeads.{lockstep_leads, machine, rounds_lead, then_leads, tick_leads}
use Rattle.xr_windows.proofs.Stands.{due_same}

-- what is due of a core by itself has room
pub due_has_room : (L : Image) (s : Stim) → Valid L → (t n c : ℕ) → c < 4 → n < 8 → t + n + 1 < 2 ^ 32
    → AllHaveRoom (home_of L s c) (tick_once (loc L s t n c).core) (due_in (loc L s t n c).coming (tick_once (loc L s t n c).core).clock 4)
due_has_room L s valid t n c lc eight small =
    let m = rounds_at L s (lockstep L s (t + n)) c in
    let st = within L s t n c (omega arith) eight small (eight_ticks L s t n (omega arith) (omega arith)) in
    let core = (mix L s t n c c).core in
    let g = st.cores c lc in
    let m1 = machine (slice_set m.cores c (tick_once core)) m.links m.trace in
    let way = then_leads L s (boot L) m m1 (then_leads L s (boot L) (lockstep L s (t + n)) m (lockstep_leads L s (t + n)) (rounds_lead L s (lockstep L s (t + n)) c)) (tick_leads L s c m core (nat_lt core.clock last_clock) g refl) in
    let room = all_room L valid s c m1 (tick_once core) (tick_once core).clock 4 way (get_set m.cores c core (tick_once core) g) in
    let same = due_same L s t m (mix L s t n c) st (λ a la. mix_after L s t n c a la small) c lc (soon L s t n c lc eight small) 4 (omega arith) in
    subst (λ (x : Alone). AllHaveRoom (home_of L s c) (tick_once x.core) (due_in x.coming (tick_once x.core).clock 4)) (mix_here L s t n c) (subst (AllHaveRoom (home_of L s c) (tick_once core)) same room)
