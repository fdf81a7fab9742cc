-- The kernel's expressions have the words that the expressions of the text have, or their errors, wherever in a program these stand,
-- and whatever words the variables have.
use Rattle.std.specs.Prelude.{◌≡◌, ℕ, Bool, false, List, length, Some, slice_get}
use Rattle.xw_words.specs.declared.pos.Pos.{Pos}
use Rattle.xc_tree.specs.Names.Marks as marks
use Rattle.xc_tree.specs.Plain as tree
use Rattle.xc_tree.specs.Types.Named.{NamedProgram}
use Rattle.xc_tree.specs.Types.Words as words
use Rattle.xc_kernel.specs.declared.kernel.Var.{Var}
use Rattle.xc_kernel.specs.Plain as kernel
use Rattle.xc_kernel.specs.Values.{Value, word}
use Rattle.xc_kernel.specs.Eval.{Store, words_of, eval}
use Rattle.xc_kernel.specs.Numbering.{Numbering}
use Rattle.xc_kernel.specs.Scopes.{Scope, is_unsigned}
use Rattle.xc_kernel.specs.Expressions.{expression_in, kernel_place, updated}
use Rattle.xc_kernel.specs.Copies.{numbering}
use Rattle.xc_meaning.specs.Settings.Stores.{Spot}
use Rattle.xc_meaning.specs.Texts.Words as text
use Rattle.xc_meaning.specs.Texts.Words.{spot_of_place}
use Rattle.xc_wellformed.specs.Operands.{IsProper}
use Rattle.xc_wellformed.specs.Stacks.{Resolves}
use Rattle.xc_wellformed.specs.Sources.{Where}

-- each variable has as many words as it is declared with
abbrev pub HasWords : Numbering → Store → Type 0
HasWords num store = (i : ℕ) (v : Var) → slice_get num.variables i ≡ Some v → length (words_of store i) ≡ v.words

-- at a place of a program, where these are the words of variables
module _ (P : List tree.Item) (n : NamedProgram) (there : Where P n) (store : Store) where
  abbrev num : Numbering
  num = numbering P

  abbrev scope : Scope
  scope = there.scope

  -- the word of an expression of the text, before which the text has k names, or its error
  abbrev pub ValueOf : ℕ → tree.Expression → Value
  ValueOf k e = text.value (words.is_unsigned n) num scope store k e

  -- what `to op= e` stores, where e has this value
  abbrev pub UpdatedBy : ℕ → tree.Expression → (symbol : ℕ) → Pos → Bool → Value → Value
  UpdatedBy k to symbol pos u v = text.updated_value (words.is_unsigned n) num scope store k to symbol pos u v

  -- where it is stored
  abbrev pub SpotOf : ℕ → tree.Expression → Spot
  SpotOf k e = text.spot (words.is_unsigned n) num scope store k e

  -- an expression that stands here: its names mean what `uses` has for them, and its operators have their operands
  abbrev pub StandsHere : ℕ → tree.Expression → Type 0
  StandsHere k e = Resolves n k there.stack (marks.of_expression e) × IsProper e

  -- the kernel's expression has its word,
  abbrev pub KeepsWord : Type 0
  KeepsWord = (k : ℕ) (e : tree.Expression) → StandsHere k e → eval store (expression_in num scope e) ≡ ValueOf k e

  -- so has that of `to op= e`,
  abbrev pub KeepsUpdate : Type 0
  KeepsUpdate =
      (k : ℕ) (to : tree.Expression) (symbol : ℕ) (pos : Pos) (j : ℕ) (e : tree.Expression) →
      StandsHere k to → StandsHere j e →
      eval store (updated num scope to symbol pos (is_unsigned scope e) (expression_in num scope e))
      ≡ UpdatedBy k to symbol pos (words.is_unsigned n j e) (ValueOf j e)

  -- and that of a step by 1, which is an `int`;
  abbrev pub KeepsStep : Type 0
  KeepsStep =
      (k : ℕ) (to : tree.Expression) (symbol : ℕ) (pos : Pos) → StandsHere k to →
      eval store (updated num scope to symbol pos false (kernel.number 1)) ≡ UpdatedBy k to symbol pos false (word 1)

  -- and what is assigned to is stored where the text says.
  abbrev pub KeepsSpot : Type 0
  KeepsSpot = (k : ℕ) (e : tree.Expression) → StandsHere k e → spot_of_place store (kernel_place num scope e) ≡ SpotOf k e

-- wherever in a program, and whatever words its variables have
abbrev pub AtEachPlace : ((P : List tree.Item) (n : NamedProgram) → Where P n → Store → Type 0) → Type 0
AtEachPlace Holds = (P : List tree.Item) (n : NamedProgram) (there : Where P n) (store : Store) → Holds P n there store

abbrev pub WordsKept : Type 0
WordsKept = AtEachPlace KeepsWord

abbrev pub UpdatesKept : Type 0
UpdatesKept = AtEachPlace KeepsUpdate

abbrev pub StepsKept : Type 0
StepsKept = AtEachPlace KeepsStep

abbrev pub SpotsKept : Type 0
SpotsKept = AtEachPlace KeepsSpot
