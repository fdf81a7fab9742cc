-- What a thread does for itself: its registers, and the core's words.
use Rattle.std.specs.Prelude.{ℕ, ◌+◌, ◌*◌, ◌%◌, ◌^◌, Bool, true, false, List, Result, Ok, Err}
use Rattle.xs_core.specs.declared.local_rows.LocalStep.{LocalStep}
use Rattle.xs_core.specs.declared.local_rows.LocalStep.TheVariants.{Pass, Set, Jump, Call, Store, Enter, Return}
use Rattle.xs_instr.specs.declared.instr.Instr.{Instr}
use Rattle.xs_instr.specs.declared.instr.Instr.TheVariants.{Add, Sub, Mul, And, Or, Xor, Addi, Neg, Not, Eq, Lss, Lsu, Shl, Shr, Ashr, Ldc, Ldawdp, Ldawsp, Setdp, Setsp, Getr, Freer, Getst, Tinitpc, Tinitdp, Tinitsp, Msync, Ssync, Mjoin, Freet, Out, Outt, Outct, In, Int, Chkct, Setc, Setd, Setpt, Getts, Setv, Eeu, Edu, Clre, Waiteu, Setsr, Clrsr}
use Rattle.xs_instr.specs.declared.instr.Reg.TheVariants.{Sp, Lr}
use Rattle.xs_instr.specs.declared.state.Thread.{Thread}
use Rattle.xs_instr.specs.declared.trace.Trap.{Trap}
use Rattle.xs_instr.specs.Did.{Did, makes, Traps}
use Rattle.xs_instr.specs.Memory.{word_put}
use Rattle.xs_instr.specs.Registers.{reg_set}
use Rattle.xs_instr.specs.Rows.{Local}
use Rattle.xs_state.specs.Ram.{IsWordAddress}
use Rattle.xw_words.specs.Words.{word_difference}

-- an instruction of registers, memory or flow
abbrev pub is_local : Instr → Bool
is_local (Getr d kind) = false
is_local (Freer r) = false
is_local (Getst d r) = false
is_local (Tinitpc x k) = false
is_local (Tinitdp x s) = false
is_local (Tinitsp x s) = false
is_local (Msync r) = false
is_local Ssync = false
is_local (Mjoin r) = false
is_local Freet = false
is_local (Out r s) = false
is_local (Outt r s) = false
is_local (Outct r n) = false
is_local (In d r) = false
is_local (Int d r) = false
is_local (Chkct r n) = false
is_local (Setc r cond) = false
is_local (Setd r s) = false
is_local (Setpt r s) = false
is_local (Getts d r) = false
is_local (Setv r k) = false
is_local (Eeu r) = false
is_local (Edu r) = false
is_local Clre = false
is_local Waiteu = false
is_local (Setsr n) = false
is_local (Clrsr n) = false
is_local _ = true

-- one of these that sets a register to a value
abbrev pub is_value : Instr → Bool
is_value (Add d a b) = true
is_value (Sub d a b) = true
is_value (Mul d a b) = true
is_value (And d a b) = true
is_value (Or d a b) = true
is_value (Xor d a b) = true
is_value (Addi d a n) = true
is_value (Neg d a) = true
is_value (Not d a) = true
is_value (Eq d a b) = true
is_value (Lss d a b) = true
is_value (Lsu d a b) = true
is_value (Shl d a b) = true
is_value (Shr d a b) = true
is_value (Ashr d a b) = true
is_value (Ldc d n) = true
is_value (Ldawdp d n) = true
is_value (Ldawsp d n) = true
is_value (Setdp s) = true
is_value (Setsp s) = true
is_value _ = false

-- what a thread has for itself, and the words
abbrev pub local_in : Thread → List ℕ → Local
local_in x words = record { pc = x.pc; regs = x.regs; words = words }

-- the thread with what it has for itself
abbrev pub with_local : Thread → Local → Thread
with_local x own = record x { pc = own.pc; regs = own.regs }

-- what a step leaves
abbrev pub local_after : Local → LocalStep → Local
local_after own Pass = record own { pc = own.pc + 1 }
local_after own (Set d v) = record own { pc = own.pc + 1; regs = reg_set own.regs d v }
local_after own (Jump k) = record own { pc = k }
local_after own (Call k) = record own { pc = k; regs = reg_set own.regs Lr (own.pc + 1) }
local_after own (Store address v) = record own { pc = own.pc + 1; words = word_put own.words address v }
local_after own (Enter n) = record own {
  pc = own.pc + 1;
  regs = reg_set own.regs Sp (word_difference own.regs.sp (4 * n % 2 ^ 32));
  words = word_put own.words own.regs.sp own.regs.lr;
}
local_after own (Return sp lr) = record own { pc = lr; regs = reg_set (reg_set own.regs Sp sp) Lr lr }

-- a word stands where the step writes one
abbrev pub LocalFits : Local → LocalStep → Type 0
LocalFits own (Store address v) = IsWordAddress own.words address
LocalFits own (Enter n) = IsWordAddress own.words own.regs.sp
LocalFits own _ = Unit {0}

-- the row of a step, or of a trap
abbrev pub local_did : Local → Result LocalStep Trap → Did Local
local_did own (Ok step) = makes (local_after own step)
local_did own (Err kind) = Traps kind
