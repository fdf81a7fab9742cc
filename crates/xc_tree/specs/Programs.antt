-- The programs that pass from one phase to the next.
use Rattle.std.specs.Prelude.{◌≡◌, ℕ, ◌<◌, ◌^◌, List, length, Some, slice_get}
use Rattle.xc_tree.specs.declared.token.Tok.{Tok}
use Rattle.xc_tree.specs.Plain.{Item}
use Rattle.xc_tree.specs.Derives.{IsProgram}
use Rattle.xc_tree.specs.Lexes.{IsBefore}

-- the program is what some tokens are, fewer than 2^32
pub record IsParsed (program : List Item) : Type 0 where
  pub toks : List Tok
  pub derived : IsProgram toks program
  pub few : length toks < 2 ^ 32

-- each token stands before all that come behind it
abbrev pub Rise : List Tok → Type 0
Rise toks = (i j : ℕ) (t u : Tok) → slice_get toks i ≡ Some t → slice_get toks j ≡ Some u → i < j → IsBefore t.pos u.pos

-- and these tokens stand at rising places, as those of every text do
pub record IsRead (program : List Item) : Type 0 where
  pub toks : List Tok
  pub derived : IsProgram toks program
  pub few : length toks < 2 ^ 32
  pub rising : Rise toks
