-- Outputs, inputs and transactions by what they go through: a port with its direction, a timer or a
-- channel, and what they may wait for.
use Rattle.std.specs.Prelude.{◌≡◌, ℕ, ◌<◌, Bool, true, List, length, Option, Some, None, slice_get}
use Rattle.xc_tree.specs.Types.Entities.{drives, reads}
use Rattle.xc_kernel.specs.declared.kernel.PortUse.{PortUse}
use Rattle.xc_kernel.specs.declared.statement.KRes.{KRes}
use Rattle.xc_kernel.specs.declared.statement.KRes.TheVariants.{Port, Timer, Chan}
use Rattle.xc_kernel.specs.Conditions.{AsksForPins, AsksForTime}
use Rattle.xc_kernel.specs.Plain as kernel
use Rattle.xc_wellformed.specs.Each.{AnyExpression, AnyPlace, AnyNumber, AnyOutput, AnyInput, EachRoot}
use Rattle.xc_wellformed.specs.Numbers.{IsChannel}

abbrev pub IsNothing : {A : Type 0} → Option A → Type 0
IsNothing None = Unit {0}
IsNothing (Some x) = ⊥

-- a port of a list with such a direction
pub record IsPort (ps : List PortUse) (number : ℕ) (does : PortUse → Bool) : Type 0 where
  pub port : PortUse
  pub there : slice_get ps number ≡ Some port
  pub direction : does port ≡ true

abbrev pub can_drive : PortUse → Bool
can_drive p = drives p.dir

abbrev pub can_read : PortUse → Bool
can_read p = reads p.dir

-- a time, a condition, or neither of both
abbrev pub WaitsForOne : Option kernel.Expression → Option kernel.Condition → Type 0
WaitsForOne None condition = Unit {0}
WaitsForOne (Some time) condition = IsNothing condition

-- by a list of ports, and so many channels and timers
module _ (ps : List PortUse) (channels timers : ℕ) where
  -- an output goes to a port that drives, or to a channel at no time and with no stamp
  abbrev pub OutputGoes : KRes → Option kernel.Expression → Option kernel.Place → Type 0
  OutputGoes (Port p) time stamp = IsPort ps p can_drive
  OutputGoes (Timer t) time stamp = ⊥
  OutputGoes (Chan c) time stamp = (c < channels) × (IsNothing time × IsNothing stamp)

  -- an input comes from a port that reads, at a time, on pins or at once; from a timer, after a
  -- time or at once, with no stamp; or from a channel, at once and with no stamp
  abbrev pub InputComes : KRes → Option kernel.Expression → Option kernel.Condition → Option kernel.Place →
      Type 0
  InputComes (Port p) time condition stamp =
      IsPort ps p can_read × (WaitsForOne time condition × AsksForPins condition)
  InputComes (Timer t) time condition stamp =
      (t < timers) × (IsNothing time × (AsksForTime condition × IsNothing stamp))
  InputComes (Chan c) time condition stamp =
      (c < channels) × (IsNothing time × (IsNothing condition × IsNothing stamp))

abbrev pub GoesOut : kernel.Kernel → kernel.Output → Type 0
GoesOut k o = OutputGoes k.ports (length k.channels) (length k.timers) o.resource o.time o.stamp

abbrev pub ComesIn : kernel.Kernel → kernel.Input → Type 0
ComesIn k i =
    InputComes k.ports (length k.channels) (length k.timers) i.resource i.time i.condition i.stamp

-- all outputs and inputs of a kernel are so
abbrev pub TransfersAreRight : kernel.Kernel → Type 0
TransfersAreRight k =
    EachRoot AnyExpression AnyPlace AnyNumber (GoesOut k) (ComesIn k) AnyNumber k.roots

-- each transaction is on a channel of the kernel
abbrev pub TransactionsAreListed : kernel.Kernel → Type 0
TransactionsAreListed k =
    EachRoot AnyExpression AnyPlace AnyNumber AnyOutput AnyInput (IsChannel k) k.roots
