-- What stands between the brackets of a `for`, as it was read or stopped.
use Rattle.std.specs.Prelude.{◌≡◌, ℕ, ◌+◌, ◌-◌, ◌⊎◌, List, [], ◌∷◌, Option, Some, None, option_map}
use Rattle.xw_words.specs.declared.pos.Pos.{Pos}
use Rattle.xc_tree.specs.declared.token.Tok.{Tok}
use Rattle.xc_tree.specs.declared.token.Kind.TheVariants.{Sym}
use Rattle.xc_tree.specs.declared.tree.Stmt.{Stmt}
use Rattle.xc_tree.specs.Symbol.{Symbol, sym, maybe, expr, for_start, for_step}
use Rattle.xc_tree.specs.Terminals.{int_word, unsigned_word}
use Rattle.xc_tree.specs.Derives.{On}
use Rattle.xc_tree.specs.Trees.{statement_of, expression_of}
use Rattle.xc_nonterminals.specs.declared.iterations.Parts.{Parts}
use Rattle.xc_nonterminals.specs.declared.stop.Stop.{Stop}
use Rattle.xc_nonterminals.specs.declared.stop.Stop.TheVariants.{Wrong, Deep, Memory}
use Rattle.xc_nonterminals.specs.Follows.{OneOf}
use Rattle.xc_nonterminals.specs.Reading.{Reads, Unfit}
use Rattle.xc_nonterminals.specs.Stops.{Stopped}

-- this symbol doesn't stand at a place
abbrev pub Lacks : List Tok → ℕ → ℕ → Type 0
Lacks toks i o = (p : Pos) → On toks i (Sym o) p → ⊥

-- no type stands at a place
abbrev pub NoType : List Tok → ℕ → Type 0
NoType toks i = OneOf toks i (int_word ∷ unsigned_word ∷ []) → ⊥

-- what may be absent before this symbol isn't, and reading it stopped
pub record StopsMaybe (toks : List Tok) (room : ℕ) (s : Symbol) (o i : ℕ) (e : Stop) : Type 0 where
  pub lacks : Lacks toks i o
  pub stops : Stopped toks room s i e

-- what there was no room for up to j is too deep where a `;` stands behind it, else no reading goes on there
abbrev pub IsEnded : List Tok → ℕ → Stop → Type 0
IsEnded toks j (Deep m) = (m ≡ j) × ((p : Pos) × On toks j (Sym 6) p)
IsEnded toks j (Wrong m) = (m ≡ j) × Lacks toks j 6
IsEnded toks j Memory = Unit {0}

-- the start of a `for` isn't absent, and was not read with room
pub record StopsStart (toks : List Tok) (room i : ℕ) (e : Stop) : Type 0 where
  pub lacks : Lacks toks i 6
  pub stops : Stopped toks room for_start i e ⊎ ((j : ℕ) × Unfit toks room for_start i j × IsEnded toks j e)

-- the start of a `for` is read, or only where there were room
abbrev pub ReadsStart : List Tok → ℕ → ℕ → ℕ → Option Stmt → Type 0
ReadsStart toks room i j None = Unfit toks room for_start i j
ReadsStart toks room i j (Some s) = Reads toks room for_start i j (statement_of s)

-- this symbol was read
abbrev pub ReadsSymbol : List Tok → ℕ → ℕ → ℕ → Pos → Type 0
ReadsSymbol toks o i j p = (room : ℕ) → Reads toks room (sym o) i j p

-- the parts between the brackets of a `for` whose word stands at i were read up to j
pub record ReadsParts (toks : List Tok) (room i j : ℕ) (a : Parts) : Type 0 where
  pub start_at : ℕ
  pub start_end : ℕ
  pub test_at : ℕ
  pub test_end : ℕ
  pub step_at : ℕ
  pub step_end : ℕ
  pub paren : Pos
  pub first : Pos
  pub second : Pos
  pub close : Pos
  pub opens : ReadsSymbol toks 0 (i + 1) start_at paren
  pub starts : Reads toks room (maybe for_start) start_at start_end (option_map statement_of a.start)
  pub ends_start : ReadsSymbol toks 6 start_end test_at first
  pub tests : Reads toks room (maybe expr) test_at test_end (option_map expression_of a.test)
  pub ends_test : ReadsSymbol toks 6 test_end step_at second
  pub steps : Reads toks room (maybe for_step) step_at step_end (option_map statement_of a.step)
  pub closes : ReadsSymbol toks 1 step_end j close
  pub held : a.held ≡ start_end - start_at + (step_end - step_at)
