-- The laws.
use Rattle.std.specs.Prelude.{◌≡◌, ℕ, ◌*◌, ◌≤◌, List, [], ◌∷◌, Bool}
use Rattle.xc_tree.specs.declared.token.Tok.{Tok}
use Rattle.xc_tree.specs.Depth as depth
use Rattle.xc_tree.specs.Depth.{highest}
use Rattle.xc_tree.specs.Derives.{deepest}
use Rattle.xc_tree.specs.Lexes.{Lexes}
use Rattle.xc_tree.specs.Plain as tree
use Rattle.xc_tree.specs.Names.Marks as marks
use Rattle.xc_tree.specs.Types.Named.{NamedProgram}
use Rattle.xc_kernel.specs.Plain as kernel
use Rattle.xc_kernel.specs.Numbering.{Numbering}
use Rattle.xc_kernel.specs.Copies.{Copies, rooted, numbering}
use Rattle.xc_kernel.specs.Sound.{IsOfText, IsTyped, IsOfProgram}
use Rattle.xc_disjoint.specs.Checked.{IsChecked}
use Rattle.xc_meaning.specs.Counts.KernelCounts.{greatest_count}
use Rattle.xc_meaning.specs.Counts.TextCounts.{twice_greatest}
use Rattle.xc_meaning.specs.Counts.Fit.{widest_in_root}
use Rattle.xc_wellformed.specs.Numbers.{VariablesAreRight}
use Rattle.xc_wellformed.specs.Operands.{OperandsAreRight}
use Rattle.xc_wellformed.specs.Levels.{LevelsAreFew}
use Rattle.xc_wellformed.specs.Transfers.{TransfersAreRight, TransactionsAreListed}
use Rattle.xc_wellformed.specs.Exits.{ExitsAreInside}
use Rattle.xc_wellformed.specs.Cores.{CoresAreRight, RootsKeepApart, CoresAreOwn}
use Rattle.xc_wellformed.specs.WellFormed.{IsWellFormed}
use Rattle.xc_wellformed.specs.Parts.{PartsAreFew}
use Rattle.xc_wellformed.specs.Rising.{TokensRise}
use Rattle.xc_wellformed.specs.Once.{NoneTwice}
use Rattle.xc_wellformed.specs.Stacks.{Resolves, outer}
use Rattle.xc_wellformed.specs.Each.{AnyNumber, EachRoot}
use Rattle.xc_wellformed.specs.Sources.{HasSource, PlaceHasSource, OutputHasSource, InputHasSource}

-- each name of a typed program means what the stack of open scopes has for it, where all that is
-- declared outside of functions is known from the begin
abbrev pub NamesResolve : Type 0
NamesResolve =
    (P : List tree.Item) (n : NamedProgram) (types : List Bool) → IsTyped P n types →
    Resolves n 0 (outer 0 (marks.of_items 0 P) ∷ []) (marks.of_items 0 P)

-- the tokens of each text rise
abbrev pub TextsRise : Type 0
TextsRise = (text : List ℕ) (toks : List Tok) → Lexes text toks → TokensRise toks

-- In the copies of a program that was read from a text no two variables, channels, timers or blocks have
-- one path,
abbrev pub NoInstanceTwice : Type 0
NoInstanceTwice = (P : List tree.Item) (n : Numbering) → IsOfText P → NoneTwice (rooted P n).made

-- so the kernel's lists have all of them, in order.
pub record HasEach (n : Numbering) (P : List tree.Item) : Type 0 where
  pub variables : n.variables ≡ (rooted P n).made.variables
  pub channels : n.channels ≡ (rooted P n).made.channels
  pub timers : n.timers ≡ (rooted P n).made.timers
  pub blocks : n.blocks ≡ (rooted P n).made.blocks

abbrev pub NoInstanceMerged : Type 0
NoInstanceMerged = (P : List tree.Item) → IsOfText P → HasEach (numbering P) P

-- This holds of the kernel of each program that breaks no rule of names, types and shapes, whose
-- tokens rise, and whose tree no node is too deep in.
abbrev pub OfEachKernel : (kernel.Kernel → Type 0) → Type 0
OfEachKernel Holds =
    (P : List tree.Item) (n : NamedProgram) (types : List Bool) (K : kernel.Kernel) →
    IsTyped P n types → depth.of_program P ≤ deepest → Copies P K → Holds K

-- The parts of what it means that such a kernel is well formed.
abbrev pub VariablesRight : Type 0
VariablesRight = OfEachKernel VariablesAreRight

abbrev pub OperandsRight : Type 0
OperandsRight = OfEachKernel OperandsAreRight

abbrev pub LevelsFew : Type 0
LevelsFew = OfEachKernel LevelsAreFew

abbrev pub TransfersRight : Type 0
TransfersRight = OfEachKernel TransfersAreRight

abbrev pub TransactionsListed : Type 0
TransactionsListed = OfEachKernel TransactionsAreListed

abbrev pub ExitsInside : Type 0
ExitsInside = OfEachKernel ExitsAreInside

abbrev pub CoresRight : Type 0
CoresRight = OfEachKernel CoresAreRight

-- So it is whole,
abbrev pub KernelsWellFormed : Type 0
KernelsWellFormed = OfEachKernel IsWellFormed

-- and so is each kernel that is handed to the rules of needs, or kept as one that breaks none of
-- them.
abbrev pub KernelsOfProgramsWellFormed : Type 0
KernelsOfProgramsWellFormed =
    (K : kernel.Kernel) → IsOfProgram K → IsWellFormed K

-- Where no variable that a root changes is used by a root on another core, all that a root uses is on
-- the root's core.
abbrev pub CoresOwn : Type 0
CoresOwn = (K : kernel.Kernel) → IsWellFormed K → RootsKeepApart K → CoresAreOwn K

-- A kernel that breaks no rule has at most 4,000,000 parts.
abbrev pub PartsFew : Type 0
PartsFew = (K : kernel.Kernel) → IsChecked K → PartsAreFew K

-- It has no `par` of more than eight branches, so its greatest count is at most four times that of
-- its program's statements and function heads.
abbrev pub ParsNarrow : Type 0
ParsNarrow = (K : kernel.Kernel) → IsChecked K → highest widest_in_root K.roots ≤ 8

abbrev pub CheckedCountsFit : Type 0
CheckedCountsFit =
    (K : kernel.Kernel) (checked : IsChecked K) →
    greatest_count K ≤ 2 * twice_greatest checked.of_program.program

-- Each expression and place of such a kernel comes from the text, where each name means what `uses`
-- has for it and each operation has the type that `unsigned_at` tells, and each output and input
-- goes through what its name stands for there.
abbrev pub CodeHasSource : Type 0
CodeHasSource =
    (P : List tree.Item) (n : NamedProgram) (types : List Bool) (K : kernel.Kernel) →
    IsTyped P n types → depth.of_program P ≤ deepest → Copies P K →
    EachRoot (HasSource P n) (PlaceHasSource P n) AnyNumber (OutputHasSource P n) (InputHasSource P n) AnyNumber K.roots
