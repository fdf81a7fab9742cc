-- The jumps to the end of a block or select land where it ends, and the starts of branches and cases where these begin.
use Rattle.std.specs.Prelude.{◌≡◌, ℕ, Bool, true, false, List, [], ◌∷◌, ◌++◌}
use Rattle.xs_instr.specs.Lines.{Line, IsOpen, landed}
use Rattle.xl_statements.specs.declared.leaving.JumpTarget.{JumpTarget}
use Rattle.xl_statements.specs.declared.leaving.Leaving.{Leaving}
use Rattle.xl_statements.specs.Cells.{same_target}

-- `closed_lines`, by cases
abbrev pub closed_line : List Line → (index end : ℕ) → Bool → List Line
closed_line ls k end true = landed ls k end
closed_line ls k end false = ls

-- the lines once the jumps to the end of a block or select have landed
abbrev pub closed_lines : List Line → (ended : JumpTarget) → (end : ℕ) → List Leaving → List Line
closed_lines ls ended end [] = ls
closed_lines ls ended end (l ∷ more) = closed_lines (closed_line ls l.hole.index end (same_target l.target ended)) ended end more

-- `others_leaving`, by cases
abbrev pub kept_leaving : Bool → Leaving → List Leaving → List Leaving
kept_leaving true l more = more
kept_leaving false l more = l ∷ more

-- the jumps to other ends
abbrev pub others_leaving : (ended : JumpTarget) → List Leaving → List Leaving
others_leaving ended [] = []
others_leaving ended (l ∷ more) = kept_leaving (same_target l.target ended) l (others_leaving ended more)

abbrev pub OpenWhere : Bool → List Line → ℕ → Type 0
OpenWhere true ls k = IsOpen ls k
OpenWhere false ls k = Unit {0}

-- each of them is open when it lands
abbrev pub Closable : List Line → (ended : JumpTarget) → (end : ℕ) → List Leaving → Type 0
Closable ls ended end [] = Unit {0}
Closable ls ended end (l ∷ more) =
    OpenWhere (same_target l.target ended) ls l.hole.index
    × Closable (closed_line ls l.hole.index end (same_target l.target ended)) ended end more

-- Starts of branches and of cases.

-- the lines once open ones have got targets, one after the other, as many as there are
abbrev pub all_landed : List Line → (holes targets : List ℕ) → List Line
all_landed ls [] targets = ls
all_landed ls (h ∷ hs) [] = ls
all_landed ls (h ∷ hs) (n ∷ ns) = all_landed (landed ls h n) hs ns

-- each of them is open when it gets one
abbrev pub AreLandable : List Line → (holes : List ℕ) → Type 0
AreLandable ls [] = Unit {0}
AreLandable ls (h ∷ hs) = IsOpen ls h × ((n : ℕ) → AreLandable (landed ls h n) hs)

-- some have got one, and there may be further lines
pub record Lands (holes : List ℕ) (old new : List Line) : Type 0 where
  pub targets : List ℕ
  pub more : List Line
  pub is : new ≡ all_landed old holes targets ++ more
