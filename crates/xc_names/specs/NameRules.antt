-- The rules 301 and 302 at one place.
use Rattle.std.specs.Prelude.{◌≡◌, ℕ, ◌<◌, List, slice_get, nat_eq, if◌then◌else◌, Option, Some, None}
use Rattle.xw_words.specs.declared.pos.Pos.{Pos}
use Rattle.xw_words.specs.declared.pos.Broken.{Broken}
use Rattle.xc_tree.specs.declared.tree.Id.{Id}
use Rattle.xc_tree.specs.declared.names.Decl.{Decl}
use Rattle.xc_tree.specs.declared.names.Mark.{Mark}
use Rattle.xc_tree.specs.declared.names.Mark.TheVariants.{Opens, Closes, Declares, Uses, Calls}
use Rattle.xc_tree.specs.Names.Scopes.{end_of, DeclaresAt, IsKnown}
use Rattle.xc_tree.specs.Names.Uses.{IsUse}

-- the name at place i breaks one of them
pub data IsBrokenAt (ms : List Mark) (i : ℕ) : Broken → Type 0 where
  unknown : {n : Id} → IsUse ms i n → ((d : ℕ) → DeclaresAt ms d n.text → IsKnown ms d i → ⊥) → IsBrokenAt ms i (record { rule = 301; pos = n.pos })
  again : {d : Decl} (first : ℕ) → slice_get ms i ≡ Some (Declares d) → DeclaresAt ms first d.name.text → first < i → end_of ms first ≡ end_of ms i → IsBrokenAt ms i (record { rule = 302; pos = d.name.pos })

-- a name before place i breaks one of them
pub record IsBrokenBefore (ms : List Mark) (i : ℕ) (b : Broken) : Type 0 where
  pub place : ℕ
  pub before : place < i
  pub broken : IsBrokenAt ms place b

abbrev pub at_use : Pos → Option ℕ → Option Broken
at_use p None = Some (record { rule = 301; pos = p })
at_use p (Some d) = None

abbrev pub at_declaration : Pos → ℕ → Option ℕ → Option Broken
at_declaration p i None = None
at_declaration p i (Some d) = if nat_eq d i then None else Some (record { rule = 302; pos = p })

-- the rule that a mark breaks, by what its name means
abbrev pub broken_by : Mark → ℕ → Option ℕ → Option Broken
broken_by Opens i meant = None
broken_by Closes i meant = None
broken_by (Declares d) i meant = at_declaration d.name.pos i meant
broken_by (Uses n) i meant = at_use n.pos meant
broken_by (Calls n) i meant = at_use n.pos meant
