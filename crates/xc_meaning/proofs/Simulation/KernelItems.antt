-- The items of a kernel that the items of a text stand for.
use Rattle.std.proofs.Common.{◌≡◌, ℕ, Bool, true, false, List, [], ◌∷◌, ◌++◌, map, Option, option_map, nat_eq, refl, sym, ◌∙◌, ap, append-nil}
use Rattle.xw_words.specs.declared.pos.Pos.{Pos}
use Rattle.xc_tree.specs.declared.tree.Param.{Param}
use Rattle.xc_tree.specs.Plain as tree
use Rattle.xc_kernel.specs.Plain as kernel
use Rattle.xc_kernel.specs.Paths.{Path, path_at}
use Rattle.xc_kernel.specs.Scopes.{Scope}
use Rattle.xc_kernel.specs.Programs.{Function}
use Rattle.xc_kernel.specs.Copy.{Copy, joined, code_of}
use Rattle.xc_kernel.specs.Context.{Context, in_function, maybe_expression, set_word, leave, block_at}
use Rattle.xc_kernel.specs.Parameters.{passed, all_passed}
use Rattle.xc_kernel.specs.Calls.{body_copy}
use Rattle.xc_kernel.specs.Declarations.{declaration_copy, declarations_copy}
use Rattle.xc_kernel.specs.Flow.{iteration, leave_unless, test_or_true}
use Rattle.xc_kernel.specs.Statements.{statement_copy, maybe_copy, statements_copy}
use Rattle.xc_meaning.specs.States.Items.{Loop, TextItem, statement, name, bound, body, first_test, again, again_do, returned, Body, of_kernel, of_text, Choice, Item, does, says, stores, stamps, mark, awaits, transaction_end, chooses, fixed, ends, todo, body_items}
use Rattle.xc_meaning.specs.Settings.Flow.{from_mark_by, items_from_mark}
use Rattle.xc_meaning.specs.Texts.Copied.{calls_in, behind, behind_name, code_in}
use Rattle.xc_meaning.specs.Texts.Items.{name_items, statement_items, maybe_items, statements_items, only, as_body, body_item}
use Rattle.xc_meaning.specs.Texts.Calls.{passing_items, parameter_items, call_items}
use Rattle.xc_meaning.specs.Texts.Loops.{turn_context}

-- the kernel's test of a loop
abbrev pub test_in : Context → Scope → Option tree.Expression → kernel.Expression
test_in c scope test = test_or_true (maybe_expression c scope test)

-- the path of a loop's block, and the copy of its body
abbrev pub loop_path : Loop → Path
loop_path l = path_at l.context.path l.pos

abbrev pub loop_body : Loop → Copy
loop_body l = statement_copy (calls_in l.context) l.body (turn_context l) l.scope

-- the kernel's loop of a `while` or `for`, and that of a `do` with the test that ends each turn
abbrev pub loop_of : Loop → kernel.Statement
loop_of l =
    kernel.loop (test_in l.context l.scope l.test) (iteration l.context (loop_path l) (loop_body l).code [])
    (code_of (maybe_copy (calls_in l.context) l.next l.context l.scope))

abbrev pub do_test : Loop → kernel.Statement
do_test l = leave_unless l.context (loop_path l) (test_in l.context (loop_body l).scope l.test)

abbrev pub do_loop_of : Loop → kernel.Statement
do_loop_of l = kernel.loop (kernel.number 1) (iteration l.context (loop_path l) (loop_body l).code (do_test l ∷ [])) kernel.no_more

-- the code that an item of a text stands for
abbrev pub code_of_item : TextItem → kernel.Statements
code_of_item (statement t c scope) = code_in t c scope
code_of_item (name d c scope) = code_of (declaration_copy (calls_in c) c scope d)
code_of_item bound = kernel.no_more
code_of_item (body block ss c scope) = kernel.statements (block_at c block (statements_copy (calls_in c) ss c scope).code ∷ [])
code_of_item (first_test l) = kernel.statements (block_at l.context (loop_path l) (loop_of l ∷ []) ∷ [])
code_of_item (again l) = kernel.statements (loop_of l ∷ [])
code_of_item (again_do l) = kernel.statements (do_test l ∷ do_loop_of l ∷ [])
code_of_item (returned e c) = kernel.statements (set_word c c.result e ∷ leave c c.returns ∷ [])

abbrev pub kernel_body : Body → Body
kernel_body (of_kernel ss) = of_kernel ss
kernel_body (of_text i) = of_kernel (code_of_item i)

abbrev pub kernel_choice : Choice → Choice
kernel_choice c = record c { body = kernel_body c.body }

abbrev pub kernel_items : List Item → List Item
kernel_items [] = []
kernel_items (does s ∷ rest) = does s ∷ kernel_items rest
kernel_items (says i ∷ rest) = todo (code_of_item i) (kernel_items rest)
kernel_items (stores place v ∷ rest) = stores place v ∷ kernel_items rest
kernel_items (stamps resource place v ∷ rest) = stamps resource place v ∷ kernel_items rest
kernel_items (mark n ∷ rest) = mark n ∷ kernel_items rest
kernel_items (awaits c pos ∷ rest) = awaits c pos ∷ kernel_items rest
kernel_items (transaction_end c is_master pos ∷ rest) = transaction_end c is_master pos ∷ kernel_items rest
kernel_items (chooses choices otherwise ∷ rest) = chooses (map kernel_choice choices) (option_map kernel_body otherwise) ∷ kernel_items rest
kernel_items (fixed i v counter ∷ rest) = fixed i v counter ∷ kernel_items rest
kernel_items (ends ∷ rest) = ends ∷ kernel_items rest

-- Code and items.

pub todo_all : (xs ys : List kernel.Statement) (rest : List Item) → todo (kernel.statements (xs ++ ys)) rest ≡ todo (kernel.statements xs) (todo (kernel.statements ys) rest)
todo_all [] ys rest = refl
todo_all (x ∷ xs) ys rest = λ i. does x ∷ todo_all xs ys rest i

pub of_todo : (code : kernel.Statements) (rest : List Item) → kernel_items (todo code rest) ≡ todo code (kernel_items rest)
of_todo kernel.no_more rest = refl
of_todo (kernel.more s ss) rest = λ i. does s ∷ of_todo ss rest i

pub of_body : (b : Body) (rest : List Item) → kernel_items (body_items b rest) ≡ body_items (kernel_body b) (kernel_items rest)
of_body (of_kernel ss) rest = of_todo ss rest
of_body (of_text i) rest = refl

-- What lays out statements, declared names and bodies.

pub of_names : (ds : List tree.Declaration) (c : Context) (scope : Scope) (rest : List Item) → kernel_items (name_items ds c scope rest) ≡ todo (code_of (declarations_copy (calls_in c) c ds scope)) (kernel_items rest)
of_names [] c scope rest = refl
of_names (d ∷ ds) c scope rest =
    ap (todo (code_of (declaration_copy (calls_in c) c scope d))) (of_names ds c (behind_name d c scope) rest)
    ∙ sym (todo_all (declaration_copy (calls_in c) c scope d).code (declarations_copy (calls_in c) c ds (behind_name d c scope)).code (kernel_items rest))

of_action : (a : tree.Action) (pos close : Pos) (own : ℕ) (c : Context) (scope : Scope) (rest : List Item) → kernel_items (statement_items (tree.statement a pos close own) c scope rest) ≡ todo (code_in (tree.statement a pos close own) c scope) (kernel_items rest)
of_action tree.empty pos close own c scope rest = refl
of_action (tree.block ss) pos close own c scope rest = refl
of_action (tree.declare ds) pos close own c scope rest = of_names ds c scope rest
of_action (tree.assign to symbol sign r) pos close own c scope rest = refl
of_action (tree.step to symbol) pos close own c scope rest = refl
of_action (tree.perform r) pos close own c scope rest = refl
of_action (tree.output o) pos close own c scope rest = refl
of_action (tree.input i) pos close own c scope rest = refl
of_action (tree.if_then test a b) pos close own c scope rest = refl
of_action (tree.while_loop test a) pos close own c scope rest = refl
of_action (tree.do_while a test) pos close own c scope rest = refl
of_action (tree.for_loop first test next a) pos close own c scope rest = refl
of_action (tree.return_with r) pos close own c scope rest = refl
of_action tree.break_out pos close own c scope rest = refl
of_action tree.continue_on pos close own c scope rest = refl
of_action (tree.par bs) pos close own c scope rest = refl
of_action (tree.replicated first second third from until b) pos close own c scope rest = refl
of_action (tree.select cs) pos close own c scope rest = refl
of_action (tree.transaction is_master ss) pos close own c scope rest = refl

pub of_statement : (s : tree.Statement) (c : Context) (scope : Scope) (rest : List Item) → kernel_items (statement_items s c scope rest) ≡ todo (code_in s c scope) (kernel_items rest)
of_statement (tree.statement a pos close own) c scope rest = of_action a pos close own c scope rest

pub of_maybe : (s : tree.Maybe) (c : Context) (scope : Scope) (rest : List Item) → kernel_items (maybe_items s c scope rest) ≡ todo (code_of (maybe_copy (calls_in c) s c scope)) (kernel_items rest)
of_maybe tree.absent c scope rest = refl
of_maybe (tree.present s) c scope rest = of_statement s c scope rest

pub of_statements : (ss : tree.Statements) (c : Context) (scope : Scope) (rest : List Item) → kernel_items (statements_items ss c scope rest) ≡ todo (code_of (statements_copy (calls_in c) ss c scope)) (kernel_items rest)
of_statements tree.no_more c scope rest = refl
of_statements (tree.more s ss) c scope rest =
    of_statement s c scope (statements_items ss c (behind s c scope) rest)
    ∙ ap (todo (code_in s c scope)) (of_statements ss c (behind s c scope) rest)
    ∙ sym (todo_all (statement_copy (calls_in c) s c scope).code (statements_copy (calls_in c) ss c (behind s c scope)).code (kernel_items rest))

-- a statement as a body: alone, or what a block holds

of_only : (block : Path) (s : tree.Statement) (c : Context) (scope : Scope) → code_of_item (body block (only s) c scope) ≡ kernel.statements (block_at c block (statement_copy (calls_in c) s c scope).code ∷ [])
of_only block s c scope = λ i. kernel.statements (block_at c block (append-nil (statement_copy (calls_in c) s c scope).code i) ∷ [])

of_action_body : (block : Path) (a : tree.Action) (pos close : Pos) (own : ℕ) (c : Context) (scope : Scope) → code_of_item (body block (as_body (tree.statement a pos close own)) c scope) ≡ kernel.statements (block_at c block (statement_copy (calls_in c) (tree.statement a pos close own) c scope).code ∷ [])
of_action_body block (tree.block ss) pos close own c scope = refl
of_action_body block tree.empty pos close own c scope = of_only block (tree.statement tree.empty pos close own) c scope
of_action_body block (tree.declare ds) pos close own c scope = of_only block (tree.statement (tree.declare ds) pos close own) c scope
of_action_body block (tree.assign to symbol sign r) pos close own c scope = of_only block (tree.statement (tree.assign to symbol sign r) pos close own) c scope
of_action_body block (tree.step to symbol) pos close own c scope = of_only block (tree.statement (tree.step to symbol) pos close own) c scope
of_action_body block (tree.perform r) pos close own c scope = of_only block (tree.statement (tree.perform r) pos close own) c scope
of_action_body block (tree.output o) pos close own c scope = of_only block (tree.statement (tree.output o) pos close own) c scope
of_action_body block (tree.input i) pos close own c scope = of_only block (tree.statement (tree.input i) pos close own) c scope
of_action_body block (tree.if_then test a b) pos close own c scope = of_only block (tree.statement (tree.if_then test a b) pos close own) c scope
of_action_body block (tree.while_loop test a) pos close own c scope = of_only block (tree.statement (tree.while_loop test a) pos close own) c scope
of_action_body block (tree.do_while a test) pos close own c scope = of_only block (tree.statement (tree.do_while a test) pos close own) c scope
of_action_body block (tree.for_loop first test next a) pos close own c scope = of_only block (tree.statement (tree.for_loop first test next a) pos close own) c scope
of_action_body block (tree.return_with r) pos close own c scope = of_only block (tree.statement (tree.return_with r) pos close own) c scope
of_action_body block tree.break_out pos close own c scope = of_only block (tree.statement tree.break_out pos close own) c scope
of_action_body block tree.continue_on pos close own c scope = of_only block (tree.statement tree.continue_on pos close own) c scope
of_action_body block (tree.par bs) pos close own c scope = of_only block (tree.statement (tree.par bs) pos close own) c scope
of_action_body block (tree.replicated first second third from until b) pos close own c scope = of_only block (tree.statement (tree.replicated first second third from until b) pos close own) c scope
of_action_body block (tree.select cs) pos close own c scope = of_only block (tree.statement (tree.select cs) pos close own) c scope
of_action_body block (tree.transaction is_master ss) pos close own c scope = of_only block (tree.statement (tree.transaction is_master ss) pos close own) c scope

pub of_statement_body : (block : Path) (s : tree.Statement) (c : Context) (scope : Scope) → code_of_item (body block (as_body s) c scope) ≡ kernel.statements (block_at c block (statement_copy (calls_in c) s c scope).code ∷ [])
of_statement_body block (tree.statement a pos close own) c scope = of_action_body block a pos close own c scope

-- Parameters and calls.

of_passing : (code : List kernel.Statement) (rest : List Item) → kernel_items (passing_items code rest) ≡ todo (kernel.statements code) (kernel_items rest)
of_passing [] rest = refl
of_passing (s ∷ ss) rest = of_todo (kernel.statements (s ∷ ss)) rest

pub of_parameters : (c : Context) (scope : Scope) (own : Path) (ps : List Param) (args : List tree.Argument) (rest : List Item) → kernel_items (parameter_items c scope own ps args rest) ≡ todo (code_of (all_passed c scope own ps args)) (kernel_items rest)
of_parameters c scope own [] args rest = refl
of_parameters c scope own (p ∷ ps) [] rest = refl
of_parameters c scope own (p ∷ ps) (a ∷ args) rest =
    let code : List kernel.Statement = (passed c scope own p.name.pos p.kind a.value).code in
    of_passing code (parameter_items c scope own ps args rest)
    ∙ ap (todo (kernel.statements code)) (of_parameters c scope own ps args rest)
    ∙ sym (todo_all code (all_passed c scope own ps args).code (kernel_items rest))

-- the code of a call behind its result: the parameters, and the body's block
abbrev pub call_code : Context → Scope → Path → Function → List tree.Argument → List kernel.Statement
call_code c scope own f args =
    (joined (all_passed c scope own f.head.params args)
    (body_copy (statement_copy (calls_in c)) c own f (all_passed c scope own f.head.params args).scope)).code

pub of_call : (c : Context) (scope : Scope) (own : Path) (f : Function) (args : List tree.Argument) (rest : List Item) → kernel_items (call_items c scope own f args rest) ≡ todo (kernel.statements (call_code c scope own f args)) (kernel_items rest)
of_call c scope own f args rest =
    let made : Copy = all_passed c scope own f.head.params args in
    of_parameters c scope own f.head.params args (body_item own f.body (in_function c own f) made.scope ∷ rest)
    ∙ ap (λ code. todo (code_of made) (todo code (kernel_items rest))) (of_statement_body own f.body (in_function c own f) made.scope)
    ∙ sym (todo_all made.code (body_copy (statement_copy (calls_in c)) c own f made.scope).code (kernel_items rest))

-- Marks.

no_mark_in : (n : ℕ) (code : kernel.Statements) (rest : List Item) → items_from_mark n (todo code rest) ≡ items_from_mark n rest
no_mark_in n kernel.no_more rest = refl
no_mark_in n (kernel.more s ss) rest = no_mark_in n ss rest

of_mark_by : (b : Bool) (m : ℕ) (rest : List Item) (behind behind' : List Item) → behind ≡ kernel_items behind' → from_mark_by b (mark m ∷ kernel_items rest) behind ≡ kernel_items (from_mark_by b (mark m ∷ rest) behind')
of_mark_by true m rest behind behind' e = refl
of_mark_by false m rest behind behind' e = e

pub of_mark : (n : ℕ) (items : List Item) → items_from_mark n (kernel_items items) ≡ kernel_items (items_from_mark n items)
of_mark n [] = refl
of_mark n (does s ∷ rest) = of_mark n rest
of_mark n (says i ∷ rest) = no_mark_in n (code_of_item i) (kernel_items rest) ∙ of_mark n rest
of_mark n (stores place v ∷ rest) = of_mark n rest
of_mark n (stamps resource place v ∷ rest) = of_mark n rest
of_mark n (mark m ∷ rest) = of_mark_by (nat_eq n m) m rest (items_from_mark n (kernel_items rest)) (items_from_mark n rest) (of_mark n rest)
of_mark n (awaits c pos ∷ rest) = of_mark n rest
of_mark n (transaction_end c is_master pos ∷ rest) = of_mark n rest
of_mark n (chooses choices otherwise ∷ rest) = of_mark n rest
of_mark n (fixed i v counter ∷ rest) = of_mark n rest
of_mark n (ends ∷ rest) = of_mark n rest
