-- The statements of main's block.
use Rattle.std.specs.Prelude.{Bool, true, false, not, ◌&&◌, List, map, if◌then◌else◌}
use Rattle.xc_tree.specs.Plain as plain
use Rattle.xc_tree.specs.Shapes.Enclosing.{is_main}
use Rattle.xc_tree.specs.Shapes.Main.{has_placed, is_placed, are_channels, is_channels_par_return, place_branches, statements_in}
use Rattle.xc_tree.specs.declared.tree.FuncItem.{FuncItem}
use Rattle.xc_tree.specs.declared.tree.Stmt.{Stmt}
use Rattle.xc_tree.specs.Trees.{head_of, statement_of}
use Rattle.xc_types.specs.declared.main_function.Part.{Part}
use Rattle.xc_types.specs.declared.main_function.Part.TheVariants.{Channels, Par, Return, Other}

abbrev pub statements_of : List Stmt → plain.Statements
statements_of ss = plain.statements (map statement_of ss)

abbrev pub action_part : plain.Action → Part
action_part (plain.declare ds) = if are_channels ds then Channels else Other
action_part (plain.par bs) = Par (has_placed bs)
action_part (plain.replicated a b c from until body) = Par (is_placed body)
action_part (plain.return_with r) = Return
action_part other = Other

-- what it is in the form of a block with placed branches
abbrev pub part_of : plain.Statement → Part
part_of (plain.statement a p c own) = action_part a

-- it is a `par` with a placed branch
abbrev pub places : Part → Bool
places (Par has_placed) = has_placed
places _ = false

abbrev pub is_return_part : Part → Bool
is_return_part Return = true
is_return_part _ = false

-- it is `main`, and its block has a placed branch and another form
abbrev pub breaks_form_of_main : FuncItem → Bool
breaks_form_of_main f =
    is_main (head_of f) && (place_branches (statements_in (statement_of f.body)) && not (is_channels_par_return (statements_in (statement_of f.body))))
