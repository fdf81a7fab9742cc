-- Calls: the result's word becomes 0, the arguments are passed, and then the function's body is done.
use Rattle.std.specs.Prelude.{ℕ, Bool, List, [], ◌∷◌, Option, Some, None}
use Rattle.xw_words.specs.declared.pos.Pos.{Pos}
use Rattle.xc_tree.specs.declared.tree.Param.{Param}
use Rattle.xc_tree.specs.Plain as tree
use Rattle.xc_kernel.specs.Plain as kernel
use Rattle.xc_kernel.specs.Paths.{Path}
use Rattle.xc_kernel.specs.Numbering.{variable_number}
use Rattle.xc_kernel.specs.Scopes.{Scope}
use Rattle.xc_kernel.specs.Programs.{Function}
use Rattle.xc_kernel.specs.Context.{Context, in_function}
use Rattle.xc_kernel.specs.Parameters.{passed, all_passed}
use Rattle.xc_kernel.specs.Calls.{path_of_call, path_of_result, called, value_of}
use Rattle.xc_meaning.specs.States.Items.{bound, Item, does, says, todo}
use Rattle.xc_meaning.specs.States.Worlds.{World, with_zeros}
use Rattle.xc_meaning.specs.Settings.Setting.{Setting, goes_to}
use Rattle.xc_meaning.specs.Settings.Stores.{Spot, assigned_at}
use Rattle.xc_meaning.specs.Texts.Words.{value_in}
use Rattle.xc_meaning.specs.Texts.Items.{body_item}

-- a parameter: what is stored for it, or it stands for its argument
abbrev pub passing_items : List kernel.Statement → List Item → List Item
passing_items [] rest = says bound ∷ rest
passing_items (s ∷ ss) rest = todo (kernel.statements (s ∷ ss)) rest

-- the parameters in order, for a call of this path
abbrev pub parameter_items : Context → Scope → Path → List Param → List tree.Argument → List Item → List Item
parameter_items c scope own [] args rest = rest
parameter_items c scope own (p ∷ ps) [] rest = rest
parameter_items c scope own (p ∷ ps) (a ∷ args) rest =
    passing_items (passed c scope own p.name.pos p.kind a.value).code (parameter_items c scope own ps args rest)

-- the parameters, and then the body in the block that `return` leaves
abbrev pub call_items : Context → Scope → Path → Function → List tree.Argument → List Item → List Item
call_items c scope own f args rest =
    parameter_items c scope own f.head.params args
    (body_item own f.body (in_function c own f) (all_passed c scope own f.head.params args).scope ∷ rest)

-- the word of a result becomes 0; a `void` function has none
abbrev pub with_result : Option Bool → World → (variable : ℕ) → World
with_result None x variable = x
with_result (Some is_unsigned) x variable = with_zeros x variable

-- a call by the function that it calls; where there is none, nothing is done
abbrev pub begins_call : Setting → Context → Scope → Pos → List tree.Argument → List Item → Option Function → Option World
begins_call s c scope pos args rest None = Some (goes_to s rest)
begins_call s c scope pos args rest (Some f) =
    Some (with_result f.head.result (goes_to s (call_items c scope (path_of_call c pos) f args rest))
    (variable_number c.numbering (path_of_result c pos (Some f))))

-- a call, and what is done behind it
abbrev pub calls : Setting → Context → Scope → tree.Call → List Item → Option World
calls s c scope call rest = begins_call s c scope call.called.pos call.arguments rest (called c call)

-- the right side's value is stored at a spot, or the result of its call once that is done, at its place
abbrev pub stores_right : Setting → Context → Scope → Spot → kernel.Place → tree.RightSide → Option World
stores_right s c scope spot place (tree.value e) = assigned_at s spot (value_in c scope s.world.store e)
stores_right s c scope spot place (tree.result call) =
    calls s c scope call (does (kernel.set place (value_of c scope (tree.result call))) ∷ s.rest)
