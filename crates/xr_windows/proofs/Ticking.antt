-- Turns, one after the other.
use Rattle.std.proofs.Common.{◌≡◌, ℕ, ◌+◌, List, [], refl, sym, subst, add-one}
use Rattle.std.proofs.lemmas.List.{append-nil}
use Rattle.xr_windows.specs.Goes.{Holds}
use Rattle.xr_windows.specs.declared.stamped.Stamped.{Stamped}
use Rattle.xs_core.specs.Core.{Seen as Core}
use Rattle.xs_fabric.specs.Lockstep.{Part, turn, turns}
use Rattle.xs_instr.specs.declared.image.Home.{Home}
use Rattle.xs_instr.specs.declared.state.CoreState.{CoreState}
use Rattle.xs_instr.specs.declared.state.Sent.{Sent}

abbrev pub begun : CoreState → Part
begun core = record { core = core; made = []; sent = [] }

pub no_turns : (home : Home) (core : Core) (tick : ℕ) (records : List Stamped) → Holds (turns home (begun core.state) 0) tick core.outbox records core records
unfolding turns
no_turns home core tick records = record { state = refl; outgoing = sym (append-nil core.outbox); written = sym (append-nil records) }

pub turns_more : (home home' : Home) (p : Part) (n tick : ℕ) (outbox0 : List Sent) (records0 : List Stamped) (core : Core) (records : List Stamped) → home' ≡ home → Holds (turn home' (turns home p n) n) tick outbox0 records0 core records → Holds (turns home p (n + 1)) tick outbox0 records0 core records
unfolding turns
turns_more home home' p n tick outbox0 records0 core records same h =
    rw add-one (subst (λ (k : Home). Holds (turn k (turns home p n) n) tick outbox0 records0 core records) same h)
