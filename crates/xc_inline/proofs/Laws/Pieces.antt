-- The copies of statements, by those of their parts.
use Rattle.std.proofs.Common.{◌≡◌, ℕ, Bool, List, [], ◌∷◌, ◌++◌, Some, ap, ◌∙◌}
use Rattle.xw_words.specs.declared.pos.Pos.{Pos}
use Rattle.xc_tree.specs.Plain as tree
use Rattle.xc_kernel.specs.Plain as kernel
use Rattle.xc_kernel.specs.Numbering.{channel_number}
use Rattle.xc_kernel.specs.Paths.{Path, path_at}
use Rattle.xc_kernel.specs.Scopes.{Scope}
use Rattle.xc_kernel.specs.Programs.{Function}
use Rattle.xc_kernel.specs.Copy.{Copy, no_copy, one_statement, joined, followed_by, in_scope_of, with_code, code_of}
use Rattle.xc_kernel.specs.Context.{Context, in_function, expression, place, set_word, leave}
use Rattle.xc_kernel.specs.Parameters.{all_passed}
use Rattle.xc_kernel.specs.Calls.{CopiesCall, CopiesStatement, instance_of, result_copy, as_block, naming_none, function_copy, right_copy, value_of}
use Rattle.xc_kernel.specs.Flow.{if_copy, if_parts, loop_at, iteration, while_copy, do_while_copy, leave_unless, first_of, transaction_copy}
use Rattle.xc_kernel.specs.Statements.{set_copy, return_copy}

-- an `if`
pub if_done : {test e : kernel.Expression} {first a b r : Copy} (second : Scope → Copy) → e ≡ test → a ≡ first → b ≡ second a.scope → r ≡ if_copy e a b → r ≡ if_parts test first second
if_done second e a b r = r ∙ λ i. if_copy (e i) (a i) ((b ∙ λ j. second (a j).scope) i)

-- loops, with their word at a place
pub while_done : (c : Context) (pos : Pos) {test e : kernel.Expression} {path : Path} {n r : Copy} (scope : Scope) (body : Copy) → e ≡ test → path ≡ path_at c.path pos → n ≡ no_copy scope → r ≡ loop_at c path e (iteration c path body.code []) (code_of n) (joined n body) → r ≡ while_copy c pos test body
while_done c pos scope body e path n r = r ∙ λ i. loop_at c (path i) (e i) (iteration c (path i) body.code []) (code_of (n i)) (joined (n i) body)

pub do_done : (c : Context) (pos : Pos) (test : tree.Expression) {e : kernel.Expression} {last : kernel.Statement} {path : Path} {body b r : Copy} (scope : Scope) → e ≡ expression c b.scope test → path ≡ path_at c.path pos → b ≡ body → last ≡ leave_unless c path e → r ≡ loop_at c path (kernel.number 1) (iteration c path b.code (last ∷ [])) (code_of (no_copy scope)) (joined (no_copy scope) b) → r ≡ do_while_copy c pos test body
do_done c pos test scope e path b last r =
    r ∙ λ i. loop_at c (path i) (kernel.number 1) (iteration c (path i) (b i).code ((last ∙ λ j. leave_unless c (path j) ((e ∙ λ k. expression c (b k).scope test) j)) i ∷ [])) (code_of (no_copy scope)) (joined (no_copy scope) (b i))

-- a `for`, which is a scope
-- an assignment by `=`
pub set_done : (copies : CopiesCall) (c : Context) (scope : Scope) (to : tree.Expression) (right : tree.RightSide) {called one r : Copy} {s : kernel.Statement} → called ≡ right_copy copies c scope right → s ≡ kernel.set (place c scope to) (value_of c scope right) → one ≡ one_statement scope s → r ≡ joined called one → r ≡ set_copy copies c scope to right
set_done copies c scope to right called s one r = r ∙ λ i. joined (called i) ((one ∙ ap (one_statement scope) s) i)

-- a `return` of a value
pub return_done : (copies : CopiesCall) (c : Context) (scope : Scope) (right : tree.RightSide) {called one left both r : Copy} {s t : kernel.Statement} → called ≡ right_copy copies c scope right → s ≡ set_word c c.result (value_of c scope right) → one ≡ one_statement scope s → t ≡ leave c c.returns → left ≡ one_statement scope t → both ≡ joined one left → r ≡ joined called both → r ≡ return_copy copies c scope (Some right)
return_done copies c scope right called s one t left both r =
    r ∙ λ i. joined (called i) ((both ∙ λ j. joined ((one ∙ ap (one_statement scope) s) j) ((left ∙ ap (one_statement scope) t) j)) i)

-- a function's instance
pub function_done : (copies : CopiesStatement) (c : Context) (scope : Scope) (own : Path) (f : Function) (args : List tree.Argument) {made zeroed passed body block inside rest all r : Copy} →
    made ≡ instance_of c f scope → zeroed ≡ result_copy c (path_at own f.head.name.pos) f.head.name.pos scope f.head.result → passed ≡ all_passed c scope own f.head.params args →
    body ≡ copies f.body (in_function c own f) passed.scope → block ≡ as_block c own body → inside ≡ joined passed block → rest ≡ joined zeroed inside → all ≡ joined made rest → r ≡ in_scope_of scope (naming_none all) →
    r ≡ function_copy copies c scope own f args
function_done copies c scope own f args made zeroed passed body block inside rest all r =
    let block = block ∙ λ i. as_block c own ((body ∙ λ j. copies f.body (in_function c own f) (passed j).scope) i) in
    let inside = inside ∙ λ i. joined (passed i) (block i) in
    let rest = rest ∙ λ i. joined (zeroed i) (inside i) in
    let all = all ∙ λ i. joined (made i) (rest i) in
    r ∙ λ i. in_scope_of scope (naming_none (all i))

-- a transaction
pub transaction_done : (c : Context) (scope : Scope) (master : Bool) (start close : Pos) {body b left r : Copy} {s : kernel.Statement} {code : List kernel.Statement} {channel : ℕ} {first : Path} → b ≡ body → first ≡ first_of b.named → channel ≡ channel_number c.numbering first → code ≡ b.code → left ≡ with_code b [] → s ≡ kernel.transaction channel master (kernel.statements code) start close → r ≡ in_scope_of scope (with_code left (left.code ++ s ∷ [])) → r ≡ transaction_copy c scope master start close body
transaction_done c scope master start close {b = b} b' first channel code left s r =
    let channel = channel ∙ ap (channel_number c.numbering) first in
    let s = s ∙ λ i. kernel.transaction (channel i) master (kernel.statements (code i)) start close in
    r ∙ (λ i. in_scope_of scope (with_code (left i) ((left i).code ++ s i ∷ []))) ∙ λ i. transaction_copy c scope master start close (b' i)

-- a copy, and behind it what knows its names
pub followed_done : {first a b r : Copy} (next : Scope → Copy) → a ≡ first → b ≡ next a.scope → r ≡ joined a b → r ≡ followed_by first next
followed_done next a b r = r ∙ λ i. joined (a i) ((b ∙ λ j. next (a j).scope) i)
