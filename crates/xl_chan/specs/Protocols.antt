-- The protocols of a channel's transfers and transactions, step by step, and the code of each.
use Rattle.std.specs.Prelude.{◌≡◌, ℕ, ◌+◌, Bool, true, false, List, [], ◌∷◌, Some, slice_get}
use Rattle.xw_words.specs.declared.pos.Pos.{Pos}
use Rattle.xs_instr.specs.declared.image.Home.{Home}
use Rattle.xs_instr.specs.declared.instr.Instr.{Instr}
use Rattle.xs_instr.specs.declared.instr.Instr.TheVariants.{Chkct, In, Or, Out, Outct}
use Rattle.xs_instr.specs.declared.instr.Reg.{Reg}
use Rattle.xs_instr.specs.declared.instr.Reg.TheVariants.{R10, R11}
use Rattle.xs_instr.specs.declared.state.ChanEnd.{ChanEnd}
use Rattle.xs_instr.specs.declared.state.CoreState.{CoreState}
use Rattle.xs_instr.specs.declared.state.Regs.{Regs}
use Rattle.xs_instr.specs.declared.state.Thread.{Thread}
use Rattle.xs_instr.specs.declared.state.Token.{Token}
use Rattle.xs_instr.specs.declared.trace.Record.TheVariants.{Fault}
use Rattle.xs_instr.specs.declared.trace.Trap.TheVariants.{Mismatch}
use Rattle.xs_instr.specs.Did.{map_did}
use Rattle.xs_instr.specs.Ends.{control_token, ins_control, ins_word, outs, word_tokens}
use Rattle.xs_instr.specs.Registers.{reg_set}
use Rattle.xs_instr.specs.Rows.{gets_with, goes_with, put_ends}
use Rattle.xs_instr.specs.Slot.{fault_of, slot}

-- the control token that ends a message
abbrev pub END : ℕ
END = 1

-- the control token that answers a message
abbrev pub ACK : ℕ
ACK = 3

-- the control token that opens a transaction
abbrev pub OPEN : ℕ
OPEN = 16

-- A step of a protocol. Inside a transaction and on a streaming channel a transfer is its first step alone. The same definitions serve
-- both, by `plain`.
pub data Act : Type 0 where
  -- these tokens go to the peer
  sends : (tokens : List Token) → Act
  -- a word comes in, and goes to a register
  takes_word : (to : Reg) → Act
  -- this control token comes in
  takes : (control : ℕ) → Act

-- a question by a control token: who asks sends it and awaits the answer, and the other one takes it and answers
abbrev pub question_acts : (control : ℕ) → (asks : Bool) → List Act
question_acts control true = sends (control_token control ∷ []) ∷ takes ACK ∷ []
question_acts control false = takes control ∷ sends (control_token ACK ∷ []) ∷ []

-- how a transfer of a word is agreed on: its sender asks by the end of the message; inside a transaction and on a streaming channel it
-- isn't

abbrev pub output_ends : (plain : Bool) → List Act
output_ends true = question_acts END true
output_ends false = []

abbrev pub input_ends : (plain : Bool) → List Act
input_ends true = question_acts END false
input_ends false = []

-- the output of the word v
abbrev pub output_acts : (v : ℕ) → (plain : Bool) → List Act
output_acts v plain = sends (word_tokens v) ∷ output_ends plain

-- the input of a word to a register
abbrev pub input_acts : (to : Reg) → (plain : Bool) → List Act
input_acts to plain = takes_word to ∷ input_ends plain

-- the start of a transaction and its end: its master asks, and its slave answers

abbrev pub start_acts : (master : Bool) → List Act
start_acts master = question_acts OPEN master

abbrev pub finish_acts : (master : Bool) → List Act
finish_acts master = question_acts END master

-- a thread that stands at an index with these registers
abbrev pub at_index : Thread → (index : ℕ) → Regs → Thread
at_index thread index regs = record thread { pc = index; regs = regs }

module _ (home : Home) (t e : ℕ) (thread : Thread) (pos : Pos) where
  -- Thread t's next step is this one on end e, whatever stands at the end. By `outs`, it pauses where there are fewer credits than
  -- tokens, else the tokens go to the peer and the thread goes on. By `ins_word` and `ins_control`, it pauses where what is awaited
  -- isn't there yet, takes it and goes on where it is, and traps with a mismatch where something else is there.
  abbrev pub Does : Act → (index : ℕ) → Regs → CoreState → ChanEnd → Type 0
  Does (sends tokens) index regs c end =
      slot home c t ≡ map_did (goes_with put_ends c t (at_index thread index regs)) (outs home c.clock tokens c.ends e end)
  Does (takes_word to) index regs c end =
      slot home c t ≡ map_did (gets_with put_ends c t (at_index thread index regs) to) (ins_word home c.clock c.ends e end)
  Does (takes control) index regs c end =
      slot home c t ≡ map_did (goes_with put_ends c t (at_index thread index regs)) (ins_control home c.clock control c.ends e end)

  -- in each core where the thread stands at an index with these registers and the end is there, its next step is this one; where it
  -- traps, it does so at `pos`
  pub record Acts (act : Act) (index : ℕ) (regs : Regs) : Type 0 where
    pub by : (c : CoreState) (end : ChanEnd) →
        slice_get c.threads t ≡ Some (at_index thread index regs) →
        slice_get c.ends e ≡ Some end →
        Does act index regs c end
    pub faults : (c : CoreState) →
        slice_get c.threads t ≡ Some (at_index thread index regs) →
        fault_of home c t Mismatch ≡ Fault home.number pos Mismatch

  -- what holds of the registers behind a step
  abbrev pub Behind : Act → (Regs → Type 0) → Regs → Type 0
  Behind (sends tokens) P regs = P regs
  Behind (takes_word to) P regs = (v : ℕ) → P (reg_set regs to v)
  Behind (takes control) P regs = P regs

  -- from an index and these registers on the thread takes these steps, one at each index, and what follows stands from the index behind
  -- them on
  abbrev pub ActsAll : List Act → (Q : ℕ → Regs → Type 0) → (index : ℕ) → Regs → Type 0
  ActsAll [] Q index regs = Q index regs
  ActsAll (act ∷ acts) Q index regs = Acts act index regs × Behind act (ActsAll acts Q (index + 1)) regs

-- the code, by the registers of the end's name and of the word

-- a question's, where r11 names the end
abbrev pub question_instrs : (control : ℕ) → (asks : Bool) → List Instr
question_instrs control true = Outct R11 control ∷ Chkct R11 ACK ∷ []
question_instrs control false = Chkct R11 control ∷ Outct R11 ACK ∷ []

abbrev pub output_end_instrs : (plain : Bool) → List Instr
output_end_instrs true = question_instrs END true
output_end_instrs false = []

abbrev pub output_instrs : (from : Reg) → (plain : Bool) → List Instr
output_instrs from plain = Out R11 from ∷ output_end_instrs plain

abbrev pub input_end_instrs : (name : Reg) → (plain : Bool) → List Instr
input_end_instrs name true = Chkct name END ∷ Outct name ACK ∷ []
input_end_instrs name false = []

abbrev pub input_instrs : (name to : Reg) → (plain : Bool) → List Instr
input_instrs name to plain = In to name ∷ input_end_instrs name plain

-- Where the word's register is r11, which names the end, r10 serves for it: for an output's word, and for an input's name.

abbrev pub instead_of_r11 : Reg → Reg
instead_of_r11 R11 = R10
instead_of_r11 other = other

abbrev pub beside : Reg → Reg
beside R11 = R10
beside other = R11

abbrev pub kept_from_r11 : Reg → List Instr
kept_from_r11 R11 = Or R10 R11 R11 ∷ []
kept_from_r11 other = []
