-- What is read of a `#` line.
use Rattle.std.specs.Prelude.{◌≡◌, ℕ, ◌<◌, ◌≤◌, List, length}
use Rattle.xc_tree.specs.Bytes.{start_at}
use Rattle.xc_tree.specs.Places.{pos_at}
use Rattle.xc_tree.specs.HashLines as spec
use Rattle.xc_lexer.specs.Places.{IsPlace}
use Rattle.xc_lexer.specs.declared.lines.Definition.{Definition}
use Rattle.xc_lexer.specs.declared.lines.Ending.{Ending}
use Rattle.xc_lexer.specs.declared.lines.Ending.TheVariants.{At, Unclosed}
use Rattle.xc_lexer.specs.declared.lines.Step.{Step}
use Rattle.xc_lexer.specs.declared.lines.Step.TheVariants.{On, Stop, Junk}

-- a `#define` stands at i
pub record DefineIs (text : List ℕ) (i : ℕ) (d : Definition) : Type 0 where
  pub form : spec.Define text i d.name.now d.number_at d.end
  pub number : i < d.number_at
  pub some : d.number_at < d.end
  pub within : d.end ≤ length text

-- one step behind the form of a line ends it so
abbrev pub StopIs : List ℕ → ℕ → Ending → Type 0
StopIs text i (At j) = spec.TailStop text i (start_at text i) j spec.ends × (i ≤ j) × (j ≤ length text)
StopIs text i (Unclosed p) = spec.TailStop text i (start_at text i) (length text) (spec.unclosed i) × (i < length text) × (p ≡ pos_at text i)

-- one step behind the form of a line
abbrev pub StepIs : List ℕ → ℕ → Step → Type 0
StepIs text i (On p) = spec.TailStep text i (start_at text i) p.at × (i < p.at) × IsPlace text p
StepIs text i (Stop e) = StopIs text i e
StepIs text i Junk = ((k : ℕ) → spec.TailStep text i (start_at text i) k → ⊥) × ((j : ℕ) (e : spec.Ending) → spec.TailStop text i (start_at text i) j e → ⊥)

-- the line of a form that ends at i ends so
abbrev pub TailIs : List ℕ → ℕ → Ending → Type 0
TailIs text i (At j) = spec.Tail text i j spec.ends × (i ≤ j) × (j ≤ length text)
TailIs text i (Unclosed p) = (u : ℕ) × spec.Tail text i (length text) (spec.unclosed u) × (i ≤ u) × (u < length text) × (p ≡ pos_at text u)
