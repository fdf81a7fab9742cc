-- Rows that are read with the room inside a statement.
use Rattle.std.proofs.Common.{◌≡◌, ℕ, ◌+◌, List, subst, arith}
use Rattle.xc_tree.specs.declared.token.Tok.{Tok}
use Rattle.xc_tree.specs.Symbol.{Symbol, Values}
use Rattle.xc_nonterminals.specs.declared.stop.Stop.{Stop}
use Rattle.xc_nonterminals.specs.RowReading.{ReadsRow, StoppedRow}
use Rattle.xc_nonterminals.proofs.Rests.Rests.{left}

one_left : (room : ℕ) → room ≡ left (room + 1) 1
one_left room = omega arith

pub inner_row : {toks : List Tok} (room : ℕ) {ss : List Symbol} {i j : ℕ} {vs : Values ss} → ReadsRow toks room ss i j vs → ReadsRow toks (left (room + 1) 1) ss i j vs
inner_row {toks} room {ss} {i} {j} {vs} r = subst (λ (n : ℕ). ReadsRow toks n ss i j vs) (one_left room) r

pub inner_row_stopped : (toks : List Tok) (room : ℕ) (ss : List Symbol) (i : ℕ) (e : Stop) → StoppedRow toks room ss i e → StoppedRow toks (left (room + 1) 1) ss i e
inner_row_stopped toks room ss i e r = subst (λ (n : ℕ). StoppedRow toks n ss i e) (one_left room) r
