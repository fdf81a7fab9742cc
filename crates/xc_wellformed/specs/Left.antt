-- Which blocks `break`, `continue` and `return` leave.
use Rattle.std.specs.Prelude.{◌≡◌, List, [], ◌∷◌, Option}
use Rattle.xw_words.specs.declared.pos.Pos.{Pos}
use Rattle.xc_tree.specs.Plain as tree
use Rattle.xc_kernel.specs.Plain as kernel
use Rattle.xc_kernel.specs.Paths.{Path}
use Rattle.xc_kernel.specs.Scopes.{Scope}
use Rattle.xc_kernel.specs.Programs.{Function}
use Rattle.xc_kernel.specs.Copy.{Copy, code_of}
use Rattle.xc_kernel.specs.Context.{Context, in_loop, in_case, in_function, expression, maybe_expression, leave, block_at}
use Rattle.xc_kernel.specs.Calls.{CopiesStatement, body_copy}
use Rattle.xc_kernel.specs.Flow.{test_or_true, while_copy, do_while_copy, for_copy, case_body}

-- in a loop's body `break` leaves the block around the loop,
abbrev pub around_loop : Context → Pos → List kernel.Statement → List kernel.Statement
around_loop c pos code = block_at c (in_loop c pos).breaks code ∷ []

-- and `continue` the block around the body, inside the loop
abbrev pub around_turn : Context → Pos → List kernel.Statement → kernel.Statement
around_turn c pos code = block_at c (in_loop c pos).continues code

abbrev pub WhileIsLeft : Type 0
WhileIsLeft =
    (c : Context) (pos : Pos) (test : kernel.Expression) (body : Copy) →
    (while_copy c pos test body).code
    ≡ around_loop c pos (kernel.loop test (kernel.statements (around_turn c pos body.code ∷ [])) kernel.no_more ∷ [])

-- a `do` is left behind its body, where its test is 0
abbrev pub DoIsLeft : Type 0
DoIsLeft =
    (c : Context) (pos : Pos) (test : tree.Expression) (body : Copy) →
    (do_while_copy c pos test body).code
    ≡ around_loop c pos (kernel.loop (kernel.number 1)
    (kernel.statements (around_turn c pos body.code
    ∷ kernel.if_then (expression c body.scope test) kernel.no_more (kernel.statements (leave c (in_loop c pos).breaks ∷ [])) ∷ []))
    kernel.no_more ∷ [])

-- what follows each turn of a `for` stands behind what `continue` leaves
abbrev pub ForIsLeft : Type 0
ForIsLeft =
    (c : Context) (pos : Pos) (scope : Scope) (test : Option tree.Expression) (next body : Copy) →
    (for_copy c pos scope test next body).code
    ≡ around_loop c pos (kernel.loop (test_or_true (maybe_expression c scope test))
    (kernel.statements (around_turn c pos body.code ∷ [])) (code_of next) ∷ [])

-- in a case's body `break` leaves the body, and `continue` what it left around the select
abbrev pub CaseIsLeft : Type 0
CaseIsLeft =
    (c : Context) (pos : Pos) (body : Copy) →
    (case_body c pos body ≡ kernel.statements (block_at c (in_case c pos).breaks body.code ∷ []))
    × ((in_case c pos).continues ≡ c.continues)

-- `return` leaves the body of its function
abbrev pub FunctionIsLeft : Type 0
FunctionIsLeft =
    (copies : CopiesStatement) (c : Context) (own : Path) (f : Function) (scope : Scope) →
    (body_copy copies c own f scope).code
    ≡ block_at c (in_function c own f).returns (copies f.body (in_function c own f) scope).code ∷ []
