-- What contracts see of a core.
use Rattle.std.specs.Prelude.{ℕ, List}
use Rattle.xs_instr.specs.declared.image.Home.{Home}
use Rattle.xs_instr.specs.declared.state.CoreState.{CoreState}
use Rattle.xs_instr.specs.declared.state.Sent.{Sent}

-- what no event changes, the state, what was sent and isn't taken yet, and for how much more there is room
pub record Seen : Type 0 where
  pub home : Home
  pub state : CoreState
  pub outbox : List Sent
  pub spare : ℕ
