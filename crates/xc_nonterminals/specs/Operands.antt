-- Operands that were read, and what tells the brackets of an expression from those of a cast.
use Rattle.std.specs.Prelude.{◌≡◌, ℕ, ◌+◌, ◌≤◌, ◌⊎◌, List, length}
use Rattle.xw_words.specs.declared.pos.Pos.{Pos}
use Rattle.xc_tree.specs.declared.token.Tok.{Tok}
use Rattle.xc_tree.specs.declared.token.Kind.TheVariants.{Key, Sym}
use Rattle.xc_tree.specs.Derives.{On}
use Rattle.xc_tree.specs.Depth.{of_expression}
use Rattle.xc_tree.specs.Symbol.{expr, level}
use Rattle.xc_tree.specs.Trees.{expression_of}
use Rattle.xc_nonterminals.specs.declared.expressions.Operand.{Operand}
use Rattle.xc_nonterminals.specs.Reading.{Reads}

-- this symbol stands at a place
abbrev pub IsSymbol : List Tok → ℕ → ℕ → Type 0
IsSymbol toks i o = (p : Pos) × On toks i (Sym o) p

-- `int` or `unsigned` stands at a place
abbrev pub IsType : List Tok → ℕ → Type 0
IsType toks i = ((p : Pos) × On toks i (Key 11) p) ⊎ ((p : Pos) × On toks i (Key 26) p)

-- a cast begins at a place
pub record IsCast (toks : List Tok) (i : ℕ) : Type 0 where
  pub paren : IsSymbol toks i 0
  pub type : IsType toks (i + 1)

-- a bracket stands at a place, and no cast begins there
pub record IsBracket (toks : List Tok) (i : ℕ) : Type 0 where
  pub paren : IsSymbol toks i 0
  pub no_type : IsType toks (i + 1) → ⊥

-- it ends among the tokens, its depth is that of its tree, and there is room for it
pub record IsSized (toks : List Tok) (room : ℕ) (o : Operand) : Type 0 where
  pub within : o.end ≤ length toks
  pub depth : o.depth ≡ of_expression (expression_of o.tree)
  pub fits : o.depth ≤ room

-- from a place on it is read as an expression of a level, up to its end
abbrev pub ReadsLevel : List Tok → ℕ → ℕ → ℕ → Operand → Type 0
ReadsLevel toks room m i o = Reads toks room (level m) i o.end (expression_of o.tree)

-- as a whole expression
abbrev pub ReadsExpression : List Tok → ℕ → ℕ → Operand → Type 0
ReadsExpression toks room i o = Reads toks room expr i o.end (expression_of o.tree)
