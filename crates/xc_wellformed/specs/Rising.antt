-- Tokens that stand at rising places, as those of every text do.
use Rattle.std.specs.Prelude.{◌≡◌, ℕ, ◌<◌, ◌^◌, List, length, Some, slice_get}
use Rattle.xc_tree.specs.declared.token.Tok.{Tok}
use Rattle.xc_tree.specs.Plain as tree
use Rattle.xc_tree.specs.Derives.{IsProgram}
use Rattle.xc_tree.specs.Lexes.{IsBefore}

-- lines count from 1, and each token stands before those behind it
pub record TokensRise (toks : List Tok) : Type 0 where
  pub lines : (i : ℕ) (t : Tok) → slice_get toks i ≡ Some t → 0 < t.pos.line
  pub rise : (i j : ℕ) (t u : Tok) → i < j → slice_get toks i ≡ Some t → slice_get toks j ≡ Some u → IsBefore t.pos u.pos

-- the program is what some such tokens are, fewer than 2^32
pub record IsRising (program : List tree.Item) : Type 0 where
  pub toks : List Tok
  pub derived : IsProgram toks program
  pub few : length toks < 2 ^ 32
  pub rise : TokensRise toks
