-- The named program of a tree.
use Rattle.std.proofs.Common.{◌≡◌, List}
use Rattle.xc_tree.specs.Plain.{Item}
use Rattle.xc_tree.specs.Types.Named.{NamedProgram}
use Rattle.xc_names.proofs.OneNaming.{one_naming}
use Rattle.xr_front.specs.Rules.{IsResolved}

-- a tree has one named program
pub named_one : (items : List Item) (a b : NamedProgram) → IsResolved items a → IsResolved items b → a ≡ b
named_one items a b x y = one_naming items a b x.named y.named
