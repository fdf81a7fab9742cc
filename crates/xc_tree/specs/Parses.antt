-- The rules 201 and 202 of the grammar, and the one of them that a list of tokens breaks first.
use Rattle.std.specs.Prelude.{◌≡◌, ℕ, ◌+◌, ◌<◌, ◌≤◌, ◌⊎◌, List, length, slice_get, Option, Some, None}
use Rattle.xw_words.specs.declared.pos.Pos.{Pos}
use Rattle.xw_words.specs.declared.pos.Broken.{Broken}
use Rattle.xc_tree.specs.declared.token.Tok.{Tok}
use Rattle.xc_tree.specs.Plain.{Item}
use Rattle.xc_tree.specs.Derives.{IsProgram, IsBeginning, IsShallow}

-- Rule 201: the tokens aren't a program. It is broken at token i, the first up to which, it included, the tokens are the
-- beginning of none; or at their end, where there is no such token.
pub record Breaks201 (toks : List Tok) (i : ℕ) : Type 0 where
  pub no_program : (items : List Item) → IsProgram toks items → ⊥
  pub within : i ≤ length toks
  pub before : IsBeginning toks i
  pub wrong : i < length toks → IsBeginning toks (i + 1) → ⊥

-- Rule 202: token i is the first up to which, it included, the tokens are the beginning of a program, but none that has
-- each node at a depth of 200 or less.
pub record Breaks202 (toks : List Tok) (i : ℕ) : Type 0 where
  pub within : i < length toks
  pub before : IsShallow toks i
  pub beginning : IsBeginning toks (i + 1)
  pub too_deep : IsShallow toks (i + 1) → ⊥

-- the place of a token, or of the end of the text
abbrev pub place_or : Pos → Option Tok → Pos
place_or end None = end
place_or end (Some t) = t.pos

abbrev pub place_at : List Tok → Pos → ℕ → Pos
place_at toks end i = place_or end (slice_get toks i)

-- one of the two rules is broken at token i
abbrev pub BreaksRule : List Tok → ℕ → ℕ → Type 0
BreaksRule toks rule i = ((rule ≡ 201) × Breaks201 toks i) ⊎ ((rule ≡ 202) × Breaks202 toks i)

-- The broken rule at the least token, and there the least of both; `end` is the place just behind the text. The end of the text counts
-- behind all tokens. At one token only one of the two can be broken, since 202 needs that a program goes on there.
pub record FirstBroken (toks : List Tok) (end : Pos) (b : Broken) : Type 0 where
  pub at : ℕ
  pub breaks : BreaksRule toks b.rule at
  pub place : b.pos ≡ place_at toks end at
  pub least : (rule i : ℕ) → BreaksRule toks rule i → (at < i) ⊎ ((at ≡ i) × (b.rule ≤ rule))
