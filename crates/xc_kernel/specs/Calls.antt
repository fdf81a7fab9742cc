-- The copy of a call: its function's body over instances of its own.
use Rattle.std.specs.Prelude.{Bool, false, List, [], ◌∷◌, length, Option, Some, None}
use Rattle.xw_words.specs.declared.pos.Pos.{Pos}
use Rattle.xc_tree.specs.Plain as tree
use Rattle.xc_kernel.specs.Plain as kernel
use Rattle.xc_kernel.specs.Paths.{Path, path_at}
use Rattle.xc_kernel.specs.Scopes.{Scope, is_unsigned}
use Rattle.xc_kernel.specs.Programs.{Function, function_named}
use Rattle.xc_kernel.specs.Copy.{Copy, no_copy, one_statement, joined, followed_by, in_scope_of, with_code, with_variable, with_block}
use Rattle.xc_kernel.specs.Context.{Context, in_function, expression, word_at, set_zero, block_at, word_variable}
use Rattle.xc_kernel.specs.Parameters.{all_passed}

-- how statements are copied, and how calls are: by the function's name's place at the call, and the arguments
abbrev pub CopiesStatement : Type 0
CopiesStatement = tree.Statement → Context → Scope → Copy

abbrev pub CopiesCall : Type 0
CopiesCall = Context → Scope → Function → Pos → List tree.Argument → Copy

-- an instance of a function, on the core of the call
abbrev pub instance_of : Context → Function → Scope → Copy
instance_of c f scope = record (no_copy scope) { instances = record { core = c.core; params = length f.head.params } ∷ [] }

-- the result's word becomes 0; a `void` function has none
abbrev pub result_copy : Context → (result : Path) → Pos → Scope → Option Bool → Copy
result_copy c result pos scope None = no_copy scope
result_copy c result pos scope (Some u) = with_variable (one_statement scope (set_zero c result)) (word_variable c false result pos)

-- a copy as a block of its own
abbrev pub as_block : Context → Path → Copy → Copy
as_block c path copy = with_block (with_code copy (block_at c path copy.code ∷ [])) path

-- the function's body, in the block that `return` leaves
abbrev pub body_copy : CopiesStatement → Context → Path → Function → Scope → Copy
body_copy copies c own f scope = as_block c own (copies f.body (in_function c own f) scope)

-- a call's channels aren't named by the caller
abbrev pub naming_none : Copy → Copy
naming_none copy = record copy { named = [] }

-- a function's instance of this path: its result, its parameters, and its body
abbrev pub function_copy : CopiesStatement → Context → Scope → Path → Function → List tree.Argument → Copy
function_copy copies c scope own f args =
    in_scope_of scope (naming_none (joined (instance_of c f scope)
    (joined (result_copy c (path_at own f.head.name.pos) f.head.name.pos scope f.head.result)
    (followed_by (all_passed c scope own f.head.params args) (body_copy copies c own f)))))

-- the path of a call whose function's name stands at a place
abbrev pub path_of_call : Context → Pos → Path
path_of_call c pos = path_at c.path pos

-- the variable of a call's result
abbrev pub path_of_result : Context → Pos → Option Function → Path
path_of_result c pos None = []
path_of_result c pos (Some f) = path_at (path_of_call c pos) f.head.name.pos

-- the function that a call calls
abbrev pub called : Context → tree.Call → Option Function
called c call = function_named c.functions call.called.text

-- what the right side of a statement stands for once its call, if it is one, is done
abbrev pub value_of : Context → Scope → tree.RightSide → kernel.Expression
value_of c scope (tree.value e) = expression c scope e
value_of c scope (tree.result call) = kernel.read (word_at c (path_of_result c call.called.pos (called c call)))

-- whether a right side is `unsigned`; behind an operator that assigns there is never a call
abbrev pub right_is_unsigned : Scope → tree.RightSide → Bool
right_is_unsigned scope (tree.value e) = is_unsigned scope e
right_is_unsigned scope (tree.result call) = false

-- the call of a function, where there is one
abbrev pub call_by : CopiesCall → Context → Scope → Pos → List tree.Argument → Option Function → Copy
call_by copies c scope pos args None = no_copy scope
call_by copies c scope pos args (Some f) = copies c scope f pos args

-- a call by the name of its function
abbrev pub call_copy : CopiesCall → Context → Scope → tree.Call → Copy
call_copy copies c scope call = call_by copies c scope call.called.pos call.arguments (called c call)

-- the call that a right side is, if it is one
abbrev pub right_copy : CopiesCall → Context → Scope → tree.RightSide → Copy
right_copy copies c scope (tree.value e) = no_copy scope
right_copy copies c scope (tree.result call) = call_copy copies c scope call
