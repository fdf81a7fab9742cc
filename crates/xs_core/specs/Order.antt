-- What holds of a core's ends at every moment, and what sending and taking leave.
use Rattle.std.specs.Prelude.{◌≡◌, ◌+◌, ◌<◌, ◌≤◌, ◌^◌, ◌++◌, List, length}
use Rattle.circular_buffer.specs.Buffer.{Buffer}
use Rattle.xs_core.specs.declared.state.State.{State}
use Rattle.xs_core.specs.Wired.{IsWired, IsBalanced}
use Rattle.xs_instr.specs.declared.instr.Instr.{Instr}
use Rattle.xs_instr.specs.declared.state.Sent.{Sent}
use Rattle.xs_instr.specs.Valid.{AreGoodInstrs}
use Rattle.xs_instr.specs.Ends.{Gone}

-- few instructions, whose targets are indices and whose control tokens are bytes
pub record IsGoodCode (instrs : List Instr) : Type 0 where
  pub few : length instrs < 2 ^ 32
  pub good : AreGoodInstrs (length instrs) 0 instrs

-- the code is good, the peers are kept, and no end can have more than 8 tokens or credits by what goes within the core
pub record IsInOrder (s : State) : Type 0 where
  pub code : IsGoodCode s.fixed.parts.code.instrs
  pub wired : IsWired s.fixed.pairs s.ports.core (length s.ends) s.fixed.peers
  pub balanced : IsBalanced s.fixed.pairs s.ports.core s.ends

-- what no event changes stays
pub record KeepsHome (old new : State) : Type 0 where
  pub fixed : new.fixed ≡ old.fixed
  pub core : new.ports.core ≡ old.ports.core
  pub stim : new.ports.stim ≡ old.ports.stim

-- what went is gone from the ends or stands last in the outbox, and all else stays
pub record Moves (old : State) (gone : Gone) (new : State) (box box' : Buffer Sent) : Type 0 where
  pub state : new ≡ record old { ends = gone.ends }
  pub sent : box'.items ≡ box.items ++ gone.sent
  pub order : IsInOrder new
  pub few : length box'.items ≤ length box.items + 4
  pub capacity : box'.capacity ≡ box.capacity
