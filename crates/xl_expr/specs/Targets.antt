-- Where the targets of code lie.
use Rattle.std.specs.Prelude.{◌≡◌, ℕ, ◌+◌, ◌<◌, false, List, [], ◌∷◌, length}
use Rattle.xs_instr.specs.Lines.{Line}
use Rattle.xs_instr.specs.Valid.{IsGoodInstr}

-- each instruction may stand where it does in code of this size, and has no open target
abbrev pub AreGoodLines : (size i : ℕ) → List Line → Type 0
AreGoodLines size i [] = Unit {0}
AreGoodLines size i (l ∷ ls) = IsGoodInstr size i l.instr × (l.is_open ≡ false) × AreGoodLines size (i + 1) ls

-- the lines may stand in any code that goes on behind them: no target is open, each lies on its instruction's side, and none lies beyond
-- the index behind them
pub record AreAimed (pc : ℕ) (lines : List Line) : Type 0 where
  pub by : (size : ℕ) → pc + length lines < size → AreGoodLines size pc lines
