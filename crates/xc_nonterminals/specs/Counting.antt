-- The rows of symbols between the brackets of a replicated `par`: a name, a symbol, a number and a semicolon; and its step.
use Rattle.std.specs.Prelude.{ℕ, ◌+◌, List, [], ◌∷◌}
use Rattle.xw_words.specs.declared.pos.Pos.{Pos}
use Rattle.xc_tree.specs.declared.token.Tok.{Tok}
use Rattle.xc_tree.specs.Symbol.{Symbol, sym, a_name, a_number}
use Rattle.xc_tree.specs.Terminals.{end_paren, int_word, paren, plus_plus, semicolon}
use Rattle.xc_nonterminals.specs.declared.pars.Counts.{Counts}
use Rattle.xc_nonterminals.specs.Reading.{Reads}
use Rattle.xc_nonterminals.specs.RowReading.{ReadsRow}
use Rattle.xc_nonterminals.specs.Values.{numeral_of}

abbrev pub bound_row : ℕ → List Symbol
bound_row o = a_name ∷ sym o ∷ a_number ∷ semicolon ∷ []

abbrev pub step_row : List Symbol
step_row = a_name ∷ plus_plus ∷ end_paren ∷ []

-- what stands between the word of a replicated `par`, which stands at i, and its branch was read up to j
pub record ReadsCounts (toks : List Tok) (i j : ℕ) (c : Counts) : Type 0 where
  pub int_at : ℕ
  pub first_at : ℕ
  pub second_at : ℕ
  pub third_at : ℕ
  pub bracket : Pos
  pub int : Pos
  pub opens : (room : ℕ) → Reads toks room paren (i + 1) int_at bracket
  pub types : (room : ℕ) → Reads toks room int_word int_at first_at int
  pub firsts : (p : Pos) × (q : Pos) × ((room : ℕ) → ReadsRow toks room (bound_row 22) first_at second_at (c.first.name, (p, (numeral_of c.first.number, (q, tt)))))
  pub seconds : (p : Pos) × (q : Pos) × ((room : ℕ) → ReadsRow toks room (bound_row 20) second_at third_at (c.second.name, (p, (numeral_of c.second.number, (q, tt)))))
  pub thirds : (p : Pos) × (q : Pos) × ((room : ℕ) → ReadsRow toks room step_row third_at j (c.third, (p, (q, tt))))
