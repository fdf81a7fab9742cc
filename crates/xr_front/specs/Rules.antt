-- The rules that a text breaks, which of them is told, and which texts are accepted.
use Rattle.std.specs.Prelude.{◌≡◌, ◌⊎◌, ◌<◌, ℕ, Bool, List, length}
use Rattle.xw_words.specs.declared.pos.Pos.{Pos}
use Rattle.xw_words.specs.declared.pos.Broken.{Broken}
use Rattle.xc_tree.specs.declared.token.Tok.{Tok}
use Rattle.xc_tree.specs.Places.{pos_at}
use Rattle.xc_tree.specs.Lexes.{Lexes, IsNotAfter, Breaks as BreaksInBytes}
use Rattle.xc_tree.specs.Derives.{IsProgram}
use Rattle.xc_tree.specs.Parses.{BreaksRule, place_at}
use Rattle.xc_tree.specs.Plain.{Item}
use Rattle.xc_tree.specs.Names.Rules.{Breaks as BreaksInNames}
use Rattle.xc_tree.specs.Types.Named.{IsNamed, NamedProgram}
use Rattle.xc_tree.specs.Checks.{Breaks as BreaksInTypes}
use Rattle.xc_kernel.specs.Copies.{Copies}
use Rattle.xc_kernel.specs.Plain.{Kernel}
use Rattle.xc_kernel.specs.Sound.{IsTyped}
use Rattle.xc_kernel.specs.Size.{Breaks509, IsTooLarge}
use Rattle.xc_disjoint.specs.Rules.{Breaks as BreaksInNeeds}
use Rattle.xc_today.specs.Today.{IsSupported}

-- the text has tokens, these are a program with this tree, and no rule on tokens is broken
pub record IsTree (text : List ℕ) (items : List Item) : Type 0 where
  pub toks : List Tok
  pub lexes : Lexes text toks
  pub derives : IsProgram toks items
  pub unbroken : (rule i : ℕ) → BreaksRule toks rule i → ⊥

-- the items break no rule of names, and this is their named program
pub record IsResolved (items : List Item) (n : NamedProgram) : Type 0 where
  pub unbroken : (b : Broken) → BreaksInNames items b → ⊥
  pub named : IsNamed items n

-- the items break no rule of names, types and shapes, and this is their named program
pub record IsShaped (items : List Item) (n : NamedProgram) : Type 0 where
  pub resolved : IsResolved items n
  pub unbroken : (b : Broken) → BreaksInTypes n b → ⊥

-- the items break no rule of size either, and this is their kernel: the program with each call replaced by a copy of its function
pub record IsCopied (items : List Item) (K : Kernel) : Type 0 where
  pub n : NamedProgram
  pub shaped : IsShaped items n
  pub small : IsTooLarge items → ⊥
  pub copies : Copies items K

-- the place just behind a text
abbrev pub end_of : List ℕ → Pos
end_of text = pos_at text (length text)

-- rule 299, "not built yet", at the first byte
abbrev pub not_built : Broken
not_built = record { rule = 299; pos = record { line = 1; col = 1 } }

-- the phases in which a text is read
pub data Phase : Type 0 where
  -- rule 299, of what is built
  Form : Phase
  -- the rules 101 to 106
  Bytes : Phase
  -- 201 and 202
  Tokens : Phase
  -- 301 to 305
  Names : Phase
  -- 401 to 416, and 501 to 508 of shapes
  Types : Phase
  -- 509
  Size : Phase
  -- 601 to 606, and 701 to 706
  Needs : Phase

-- how many phases come before
abbrev pub rank : Phase → ℕ
rank Form = 0
rank Bytes = 1
rank Tokens = 2
rank Names = 3
rank Types = 4
rank Size = 5
rank Needs = 6

-- the one phase comes before the other
abbrev pub IsEarlier : Phase → Phase → Type 0
IsEarlier a b = rank a < rank b

-- A text breaks a rule of a phase: it has a tree and isn't built today; its bytes break a rule; it has tokens, and these break one; it
-- has a tree, and this breaks one of names; its names are whole, and it breaks one of types and shapes; it breaks none of these, and is
-- too large with all its copies; it is small enough, and its kernel breaks a rule of branches that keep apart or of what a core has.
-- Rule 299 is the first phase, and needs a tree, so no text breaks it beside a rule on tokens or grammar. A text's kernel is the one
-- copy of its program, so rules on size, branches and needs are told by the text alone.
pub data Breaks (text : List ℕ) : Phase → Broken → Type 0 where
  of_form : (items : List Item) (tree : IsTree text items) → (IsSupported tree.toks → ⊥) → Breaks text Form not_built
  of_bytes : (b : Broken) → BreaksInBytes text b → Breaks text Bytes b
  of_tokens : (toks : List Tok) (rule i : ℕ) → Lexes text toks → BreaksRule toks rule i → Breaks text Tokens (record { rule = rule; pos = place_at toks (end_of text) i })
  of_names : (items : List Item) (b : Broken) → IsTree text items → BreaksInNames items b → Breaks text Names b
  of_types : (items : List Item) (n : NamedProgram) (b : Broken) → IsTree text items → IsResolved items n → BreaksInTypes n b → Breaks text Types b
  of_size : (items : List Item) (n : NamedProgram) (b : Broken) → IsTree text items → IsShaped items n → Breaks509 items b → Breaks text Size b
  of_needs : (items : List Item) (K : Kernel) (b : Broken) → IsTree text items → IsCopied items K → BreaksInNeeds K b → Breaks text Needs b

-- the broken rule of the earliest phase, there of the least place, and there of the least number
pub record First (text : List ℕ) (b : Broken) : Type 0 where
  pub phase : Phase
  pub breaks : Breaks text phase b
  pub least : (later : Phase) (other : Broken) → Breaks text later other → IsEarlier phase later ⊎ ((phase ≡ later) × IsNotAfter b other)

-- The text has this tree, and breaks no rule. It says itself that no rule is broken, so a reader needs no law to see that no text is
-- both accepted and refused.
pub record IsAccepted (text : List ℕ) (P : List Item) : Type 0 where
  pub tree : IsTree text P
  pub unbroken : (phase : Phase) (b : Broken) → Breaks text phase b → ⊥

-- the text has a first broken rule, or it is accepted
abbrev pub IsRefusedOrAccepted : List ℕ → Type 0
IsRefusedOrAccepted text = ((b : Broken) × First text b) ⊎ ((P : List Item) × IsAccepted text P)

-- this is the kernel of an accepted text, whose program has these types
pub record IsKernelOf (text : List ℕ) (K : Kernel) : Type 0 where
  pub program : List Item
  pub accepted : IsAccepted text program
  pub named : NamedProgram
  pub types : List Bool
  pub typed : IsTyped program named types
  pub copies : Copies program K
