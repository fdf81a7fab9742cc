-- What is known of a text before its names are looked up.
use Rattle.std.specs.Prelude.{◌≡◌, ◌<◌, ◌≤◌, ◌^◌, ℕ, List, length}
use Rattle.xc_tree.specs.declared.token.Tok.{Tok}
use Rattle.xc_tree.specs.Depth as depth
use Rattle.xc_tree.specs.Derives.{IsProgram, deepest}
use Rattle.xc_tree.specs.Lexes.{Lexes}
use Rattle.xc_tree.specs.Parses.{BreaksRule}
use Rattle.xc_tree.specs.Plain.{Item}
use Rattle.xc_tree.specs.Programs.{Rise}
use Rattle.xc_today.specs.Today.{IsSupported}

-- a text has these tokens, which are this program alone, and it breaks no rule up to names
pub record IsReadAs (text : List ℕ) (items : List Item) : Type 0 where
  pub toks : List Tok
  pub lexes : Lexes text toks
  pub rising : Rise toks
  pub few : length toks < 2 ^ 32
  pub derives : IsProgram toks items
  pub only : (v : List Item) → IsProgram toks v → v ≡ items
  pub unbroken : (rule i : ℕ) → BreaksRule toks rule i → ⊥
  pub shallow : depth.of_program items ≤ deepest
  pub form : IsSupported toks
