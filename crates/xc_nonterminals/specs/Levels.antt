-- The operators between operands, by how strongly they bind.
use Rattle.std.specs.Prelude.{◌≡◌, ℕ, suc, ◌<◌, List, [], ◌∷◌, get_or}
use Rattle.xc_tree.specs.declared.token.Tok.{Tok}
use Rattle.xc_tree.specs.declared.token.Kind.TheVariants.{Sym}
use Rattle.xc_tree.specs.Derives.{On}
use Rattle.xc_tree.specs.Symbol.{Marked}

-- of each symbol, by its place in `SYMBOLS`: its level as an operator, and 0 where it is none
abbrev pub levels : List ℕ
levels =
    0 ∷ 0 ∷ 0 ∷ 0 ∷ 0 ∷ 0 ∷ 0 ∷ 0 ∷ 0 ∷ 0 ∷ 6 ∷ 8 ∷ 7 ∷ 0 ∷ 0 ∷ 2 ∷ 2 ∷ 1 ∷ 1 ∷ 1 ∷ 4 ∷ 4 ∷ 0 ∷ 0 ∷ 0 ∷ 0 ∷ 0 ∷ 5 ∷ 5 ∷ 4 ∷ 4 ∷
    9 ∷ 10 ∷ 3 ∷ 3 ∷ 0 ∷ 0 ∷ 0 ∷ 0 ∷ 0 ∷ 0 ∷ 0 ∷ 0 ∷ 0 ∷ 0 ∷ 0 ∷ 0 ∷ []

abbrev pub level_of : ℕ → ℕ
level_of symbol = get_or levels symbol 0

-- an operator of this level stands at a place
pub record IsOperator (toks : List Tok) (i l : ℕ) (o : Marked) : Type 0 where
  pub on : On toks i (Sym o.mark) o.pos
  pub binds : level_of o.mark ≡ l

-- no operator of a level up to m stands at a place
pub record NoOperator (toks : List Tok) (i m : ℕ) : Type 0 where
  pub none : (l : ℕ) (o : Marked) → l < m → IsOperator toks i (suc l) o → ⊥
