-- What the code that ends a root does.
use Rattle.std.specs.Prelude.{◌≡◌, ℕ, ◌+◌, ◌-◌, List, None}
use Rattle.xs_instr.specs.declared.image.Home.{Home}
use Rattle.xs_instr.specs.declared.state.CoreState.{CoreState}
use Rattle.xs_instr.specs.declared.state.Mode.TheVariants.{Unused}
use Rattle.xs_instr.specs.declared.state.Thread.{Thread}
use Rattle.xs_instr.specs.Did.{makes}
use Rattle.xs_instr.specs.Lines.{Line}
use Rattle.xs_instr.specs.OwnSteps.{RunsAt, StandAt}
use Rattle.xs_instr.specs.Rows.{with_thread}
use Rattle.xs_instr.specs.Slot.{slot}

-- the core once a root has ended
abbrev pub root_ended : CoreState → ℕ → Thread → CoreState
root_ended core t thread =
    record (with_thread core t (record thread { mode = Unused; pc = thread.pc + 1 })) { roots = core.roots - 1 }

-- The lines end a root: wherever they stand, the next step of an untied thread at index pc leaves the thread unused, and one root
-- fewer.
pub record EndsRoot (pc : ℕ) (lines : List Line) : Type 0 where
  pub by : (home : Home) (t : ℕ) (thread : Thread) (a : CoreState) →
      StandAt home.parts.code pc lines → RunsAt t pc thread a → thread.tie ≡ None →
      slot home a t ≡ makes (root_ended a t thread)
