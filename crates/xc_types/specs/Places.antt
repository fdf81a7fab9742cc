-- Which names are indices of replicated `par`s, and which expressions may be places.
use Rattle.std.specs.Prelude.{ℕ, ◌+◌, ◌-◌, zero, suc, Bool, true, ◌&&◌, slice_get}
use Rattle.xc_tree.specs.Types.Entities.{is_index}
use Rattle.xc_tree.specs.declared.names.Named.{Named}
use Rattle.xc_tree.specs.declared.tree.Expr.{Expr}
use Rattle.xc_tree.specs.Shapes.Places.{is_made_of_these}
use Rattle.xc_tree.specs.Trees.{expression_of}
use Rattle.xc_tree.specs.Types.Named.{NamedProgram, named_of, what_at}

-- so many names, before the first of which there are k
abbrev pub all_indices : NamedProgram → (k number : ℕ) → Bool
all_indices n k zero = true
all_indices n k (suc m) = is_index (what_at n (slice_get n.uses k)) && all_indices n (k + 1) m

-- an expression is made as a place is, of names of which the first has this number and the last comes before that
abbrev pub has_form_of_place : Named → Expr → (first last : ℕ) → Bool
has_form_of_place named e first last =
    is_made_of_these (expression_of e) && all_indices (named_of named) first (last - first)
