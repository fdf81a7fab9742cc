-- Threads that stay unused.
use Rattle.std.proofs.Common.{◌≡◌, ◌<◌, ◌≤◌, ◌∙◌, ℕ, List, Option, None, Some, refl, ap, sym, arith}
use Rattle.std.specs.Prelude.{slice_get, slice_set}
use Rattle.xs_core.proofs.Lists.{get_set_other}
use Rattle.xs_core.specs.Idle.{AreUnusedFrom, KeepsOthers}
use Rattle.xs_instr.specs.declared.image.Home.{Home}
use Rattle.xs_instr.specs.declared.state.CoreState.{CoreState}
use Rattle.xs_instr.specs.declared.state.Thread.{Thread}
use Rattle.xs_instr.specs.Did.{Idle}
use Rattle.xs_instr.specs.Slot.{slot, turn_at, turn_of}

-- one thread is set
pub others_stay : (threads : List Thread) (t : ℕ) (x : Thread) → KeepsOthers t threads (slice_set threads t x)
others_stay threads t x u apart = get_set_other threads t u x apart

-- a thread below n changes none of those from there on
pub still_unused : (n t : ℕ) (old new : List Thread) → t < n → AreUnusedFrom n old → KeepsOthers t old new → AreUnusedFrom n new
still_unused n t old new below unused keeps u x from found =
    unused u x from (sym (keeps u (λ same. absurd (omega (arith, below, from, same)))) ∙ found)

-- the turn of a thread that is unused
pub no_turn : (home : Home) (core : CoreState) (n : ℕ) → AreUnusedFrom n core.threads → (t : ℕ) → n ≤ t → slot home core t ≡ Idle
no_turn home core n unused t from = go (slice_get core.threads t) refl
  where
    go : (o : Option Thread) → slice_get core.threads t ≡ o → turn_at home core t o ≡ Idle
    go None e = refl
    go (Some x) e = ap (turn_of home core t x) (unused t x from e)
