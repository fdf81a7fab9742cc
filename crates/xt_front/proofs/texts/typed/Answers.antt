use Rattle.std.proofs.Common.{◌≡◌, ◌≤◌, Bool, List, sym, subst}
use Rattle.xw_words.specs.declared.pos.Broken.{Broken}
use Rattle.xc_tree.specs.declared.names.Named.{Named}
use Rattle.xc_tree.specs.declared.tree.Tree.{Tree}
use Rattle.xc_tree.specs.Checks as checks
use Rattle.xc_tree.specs.Depth as depth
use Rattle.xc_tree.specs.Derives.{deepest}
use Rattle.xc_tree.specs.Names.Rules as names
use Rattle.xc_tree.specs.Plain.{Item}
use Rattle.xc_tree.specs.Trees.{program_of}
use Rattle.xc_tree.specs.Types.Named.{IsNamed, named_of}
use Rattle.xc_tree.specs.Types.Sites.{unsigned_at}
use Rattle.xc_kernel.specs.Sound.{IsOfText, IsTyped}
use Rattle.xt_front.proofs.texts.typed.Goals as goal

-- a program that was read and breaks no rule of names, with what its names mean
record AreNamed (program : List Item) (named : Named) : Type 0 where
  text : IsOfText program
  is_named : IsNamed program (named_of named)
  unbroken : (b : Broken) → names.Breaks program b → ⊥

-- where it breaks no rule of types and shapes either, it is typed by the types of its expressions
typed_by : (named : Named) (types : List Bool) → AreNamed (program_of named.tree) named → types ≡ unsigned_at (named_of named) → ((b : Broken) → checks.Breaks (named_of named) b → ⊥) → IsTyped (program_of named.tree) (named_of named) types
typed_by named types known are sound = record {
  text = known.text;
  is_named = known.is_named;
  names = known.unbroken;
  types_and_shapes = sound;
  types_are = are;
}

-- the same of a tree and of names that are equal to these
typed_too : (tree : Tree) (named same : Named) (types : List Bool) → named.tree ≡ tree → same ≡ named → AreNamed (program_of tree) named → types ≡ unsigned_at (named_of named) → ((b : Broken) → checks.Breaks (named_of named) b → ⊥) → IsTyped (program_of same.tree) (named_of same) types
typed_too tree named same types its_tree is known are sound =
    subst (λ n. IsTyped (program_of n.tree) (named_of n) types) (sym is)
    (typed_by named types (subst (λ t. AreNamed (program_of t) named) (sym its_tree) known) are sound)

-- so the depth of a tree is that of names that are equal to its own
shallow_too : (tree : Tree) (named same : Named) → named.tree ≡ tree → same ≡ named → depth.of_program (program_of tree) ≤ deepest → depth.of_program (program_of same.tree) ≤ deepest
shallow_too tree named same its_tree is shallow =
    subst (λ n. depth.of_program (program_of n.tree) ≤ deepest) (sym is)
    (subst (λ t. depth.of_program (program_of t) ≤ deepest) (sym its_tree) shallow)

-- src/texts.rt:20:1
pub returns-in-Ok-check-clause-typed : goal.returns-in-Ok-check-clause-typed
returns-in-Ok-check-clause-typed c =
    typed_too c.in_ok-tree.tree c.in-Ok.named c.in-Ok-check.typed.named c.in-Ok-check.typed.unsigned_at
    c.in-Ok.ensures.tree c.in-Ok-check.ensures.named
    (record { text = c.in_ok-tree.ensures.text; is_named = c.in-Ok.ensures.named; unbroken = c.in-Ok.ensures.unbroken })
    c.in-Ok-check.ensures.types c.in-Ok-check.ensures.unbroken

-- src/texts.rt:20:1
pub returns-in-Ok-check-clause-shallow : goal.returns-in-Ok-check-clause-shallow
returns-in-Ok-check-clause-shallow c =
    shallow_too c.in_ok-tree.tree c.in-Ok.named c.in-Ok-check.typed.named c.in-Ok.ensures.tree c.in-Ok-check.ensures.named c.in_ok-tree.ensures.shallow
