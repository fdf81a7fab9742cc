-- The parts of what is right in a typed program's kernel, each by itself.
use Rattle.std.proofs.Common.{◌≤◌, List, Bool, sym, subst, map}
use Rattle.xc_tree.specs.Plain as tree
use Rattle.xc_tree.specs.Depth as depth
use Rattle.xc_tree.specs.Derives.{deepest}
use Rattle.xc_tree.specs.Types.Named.{NamedProgram}
use Rattle.xc_kernel.specs.Plain as kernel
use Rattle.xc_kernel.specs.Programs.{functions, ports}
use Rattle.xc_kernel.specs.Ports.{port_use}
use Rattle.xc_kernel.specs.Copies.{numbering, copy_of}
use Rattle.xc_kernel.specs.Sound.{IsTyped}
use Rattle.xc_wellformed.specs.Each.{AnyExpression, AnyPlace, AnyNumber, AnyOutput, AnyInput, EachRoot}
use Rattle.xc_wellformed.specs.Numbers.{IsVariable, IsListed, NumbersInExpression, NumbersInPlace, IsChannel, VariablesAreRight}
use Rattle.xc_wellformed.specs.Denotes.{AnyPath}
use Rattle.xc_wellformed.specs.Operands.{HasOperands, PlaceHasOperands, OperandsAreRight}
use Rattle.xc_wellformed.specs.Levels.{IsLow, IsLowPlace, LevelsAreFew}
use Rattle.xc_wellformed.specs.Transfers.{GoesOut, ComesIn, TransfersAreRight, TransactionsAreListed}
use Rattle.xc_wellformed.specs.Exits.{ExitsAreInside}
use Rattle.xc_wellformed.specs.Cores.{CoresAreRight}
use Rattle.xc_wellformed.specs.Rising.{IsRising}
use Rattle.xc_wellformed.specs.Laws.{VariablesRight, OperandsRight, LevelsFew, TransfersRight, TransactionsListed, ExitsInside, CoresRight, CoresOwn, KernelsWellFormed, KernelsOfProgramsWellFormed}
use Rattle.xc_wellformed.proofs.Rising.{of_text}
use Rattle.xc_wellformed.proofs.Right.{Lower, IsRight, IsRightPlace, IsOne, right_leaves}
use Rattle.xc_wellformed.proofs.Weaker.{each_root}
use Rattle.xc_wellformed.proofs.Cores as cores
use Rattle.xc_wellformed.proofs.Own.{own}
use Rattle.xc_wellformed.proofs.Program.{roots_alike, roots_leave_alike}

module _ (P : List tree.Item) (n : NamedProgram) (types : List Bool) (typed : IsTyped P n types) (rising : IsRising P) (low : depth.of_program P ≤ deepest) where
  abbrev K : kernel.Kernel
  K = copy_of P

  all_right : EachRoot (IsRight (numbering P)) (IsRightPlace (numbering P)) (IsListed (numbering P).variables) (GoesOut K) (ComesIn K) (IsOne (numbering P)) K.roots
  unfolding copy_of
  all_right = roots_alike P n (IsRight (numbering P)) (Lower (numbering P)) (IsRightPlace (numbering P)) (IsListed (numbering P).variables) (GoesOut K) (ComesIn K) (IsOne (numbering P)) (right_leaves n (functions P) (map port_use (ports P)) (numbering P) (λ k. AnyPath) (λ k. AnyPath)) types typed rising low

  variables : VariablesAreRight K
  unfolding copy_of
  variables =
      each_root (IsRight (numbering P)) (NumbersInExpression (IsVariable K.variables)) (IsRightPlace (numbering P)) (NumbersInPlace (IsVariable K.variables)) (IsListed K.variables) (IsListed K.variables) (GoesOut K) AnyOutput (ComesIn K) AnyInput (IsOne (numbering P)) AnyNumber
      (λ e h. h.0) (λ p h. h.0) (λ v h. h) (λ o h. tt) (λ i h. tt) (λ c h. tt) K.roots all_right

  operands : OperandsAreRight K
  operands =
      each_root (IsRight (numbering P)) HasOperands (IsRightPlace (numbering P)) PlaceHasOperands (IsListed (numbering P).variables) AnyNumber (GoesOut K) AnyOutput (ComesIn K) AnyInput (IsOne (numbering P)) AnyNumber
      (λ e h. h.1.0) (λ p h. h.1.0) (λ v h. tt) (λ o h. tt) (λ i h. tt) (λ c h. tt) K.roots all_right

  levels : LevelsAreFew K
  levels =
      each_root (IsRight (numbering P)) IsLow (IsRightPlace (numbering P)) IsLowPlace (IsListed (numbering P).variables) AnyNumber (GoesOut K) AnyOutput (ComesIn K) AnyInput (IsOne (numbering P)) AnyNumber
      (λ e h. h.1.1) (λ p h. h.1.1) (λ v h. tt) (λ o h. tt) (λ i h. tt) (λ c h. tt) K.roots all_right

  transfers : TransfersAreRight K
  transfers =
      each_root (IsRight (numbering P)) AnyExpression (IsRightPlace (numbering P)) AnyPlace (IsListed (numbering P).variables) AnyNumber (GoesOut K) (GoesOut K) (ComesIn K) (ComesIn K) (IsOne (numbering P)) AnyNumber
      (λ e h. tt) (λ p h. tt) (λ v h. tt) (λ o h. h) (λ i h. h) (λ c h. tt) K.roots all_right

  transactions : TransactionsAreListed K
  unfolding copy_of
  transactions =
      each_root (IsRight (numbering P)) AnyExpression (IsRightPlace (numbering P)) AnyPlace (IsListed (numbering P).variables) AnyNumber (GoesOut K) AnyOutput (ComesIn K) AnyInput (IsOne (numbering P)) (IsChannel K)
      (λ e h. tt) (λ p h. tt) (λ v h. tt) (λ o h. tt) (λ i h. tt) (λ c h. h) K.roots all_right

  exits : ExitsAreInside K
  unfolding copy_of
  exits = roots_leave_alike P n (IsRight (numbering P)) (Lower (numbering P)) (IsRightPlace (numbering P)) (IsListed (numbering P).variables) (GoesOut K) (ComesIn K) (IsOne (numbering P)) (right_leaves n (functions P) (map port_use (ports P)) (numbering P) (λ k. AnyPath) (λ k. AnyPath)) types typed rising

-- so of each kernel that is such a copy
pub variables_right : VariablesRight
variables_right P n types K typed low c = subst VariablesAreRight (sym c.is_copy) (variables P n types typed (of_text P typed.text) low)

pub operands_right : OperandsRight
operands_right P n types K typed low c = subst OperandsAreRight (sym c.is_copy) (operands P n types typed (of_text P typed.text) low)

pub levels_few : LevelsFew
levels_few P n types K typed low c = subst LevelsAreFew (sym c.is_copy) (levels P n types typed (of_text P typed.text) low)

pub transfers_right : TransfersRight
transfers_right P n types K typed low c = subst TransfersAreRight (sym c.is_copy) (transfers P n types typed (of_text P typed.text) low)

pub transactions_listed : TransactionsListed
transactions_listed P n types K typed low c = subst TransactionsAreListed (sym c.is_copy) (transactions P n types typed (of_text P typed.text) low)

pub exits_inside : ExitsInside
exits_inside P n types K typed low c = subst ExitsAreInside (sym c.is_copy) (exits P n types typed (of_text P typed.text) low)

pub cores_right : CoresRight
cores_right P n types K typed low c = subst CoresAreRight (sym c.is_copy) (cores.cores_right P n types typed (of_text P typed.text) low)

pub well_formed : KernelsWellFormed
well_formed P n types K typed low c = record {
  variables = variables_right P n types K typed low c;
  operands = operands_right P n types K typed low c;
  levels = levels_few P n types K typed low c;
  transfers = transfers_right P n types K typed low c;
  transactions = transactions_listed P n types K typed low c;
  exits = exits_inside P n types K typed low c;
  cores = cores_right P n types K typed low c;
}

pub of_programs : KernelsOfProgramsWellFormed
of_programs K o = well_formed o.program o.sound.named o.sound.types K o.sound.typed o.shallow o.copies

pub cores_own : CoresOwn
cores_own K h apart = own K apart h.cores
