-- Copies that are built step by step.
use Rattle.std.proofs.Common.{◌≡◌, List, [], ◌∷◌, ◌++◌, ap, ◌∙◌}
use Rattle.xc_kernel.specs.declared.kernel.Var.{Var}
use Rattle.xc_kernel.specs.Plain as kernel
use Rattle.xc_kernel.specs.Paths.{Path, path_of_turn}
use Rattle.xc_kernel.specs.Scopes.{Scope}
use Rattle.xc_kernel.specs.Copy.{Copy, one_statement, joined, with_code, with_variable, with_block, code_of}
use Rattle.xc_kernel.specs.Context.{Context, block_at}
use Rattle.xc_kernel.specs.Calls.{as_block}
use Rattle.xc_kernel.specs.Flow.{if_copy, loop_at, iteration}

-- a copy as a block
pub block_made : (c : Context) {own path : Path} {copy : Copy} {code : List kernel.Statement} {block : kernel.Statement} {taken added whole : Copy} → code ≡ copy.code → taken ≡ with_code copy [] → path ≡ own → block ≡ block_at c path code → added ≡ with_code taken (taken.code ++ block ∷ []) → whole ≡ with_block added own → whole ≡ as_block c own copy
block_made c {own} code taken path block added whole =
    whole ∙ ap (λ x. with_block x own) (added ∙ λ i. with_code (taken i) ((taken i).code ++ (block ∙ λ j. block_at c (path j) (code j)) i ∷ []))

-- an `if`
pub if_made : {test : kernel.Expression} {first second : Copy} {then otherwise : List kernel.Statement} {statement : kernel.Statement} {left right both added : Copy} → then ≡ first.code → otherwise ≡ second.code → left ≡ with_code first [] → right ≡ with_code second [] → both ≡ joined left right → statement ≡ kernel.if_then test (kernel.statements then) (kernel.statements otherwise) → added ≡ with_code both (both.code ++ statement ∷ []) → added ≡ if_copy test first second
if_made {test} then otherwise left right both statement added =
    added ∙ λ i. with_code ((both ∙ λ j. joined (left j) (right j)) i) (((both ∙ λ j. joined (left j) (right j)) i).code ++ (statement ∙ λ j. kernel.if_then test (kernel.statements (then j)) (kernel.statements (otherwise j))) i ∷ [])

-- a loop
pub loop_made : (c : Context) {path own : Path} {test : kernel.Expression} {next : Copy} (body : Copy) {followed inside : List kernel.Statement} {last : List kernel.Statement} {whole loop : kernel.Statement} {left right both added inner outer : Copy} →
    followed ≡ next.code → inside ≡ block_at c own body.code ∷ last → own ≡ path_of_turn path →
    left ≡ with_code next [] → right ≡ with_code body [] → both ≡ joined left right →
    loop ≡ kernel.loop test (kernel.statements inside) (kernel.statements followed) → whole ≡ block_at c path (loop ∷ []) →
    added ≡ with_code both (both.code ++ whole ∷ []) → inner ≡ with_block added own → outer ≡ with_block inner path →
    outer ≡ loop_at c path test (iteration c path body.code last) (code_of next) (joined next body)
loop_made c {path} {own} {test} {next} body {followed} {inside} {last} f i o l r b loop w a inner outer =
    let both = b ∙ λ j. joined (l j) (r j) in
    let block = w ∙ λ j. block_at c path ((loop ∙ λ k. kernel.loop test (kernel.statements ((i ∙ λ m. block_at c (o m) body.code ∷ last) k)) (kernel.statements (f k))) j ∷ []) in
    outer ∙ ap (λ x. with_block x path) (inner ∙ λ j. with_block ((a ∙ λ k. with_code (both k) ((both k).code ++ block k ∷ [])) j) (o j))

-- a statement and a variable
pub stored_made : {scope : Scope} {s t : kernel.Statement} {v w : Var} {one both : Copy} → s ≡ t → one ≡ one_statement scope s → v ≡ w → both ≡ with_variable one v → both ≡ with_variable (one_statement scope t) w
stored_made {scope} s one v both = both ∙ λ i. with_variable ((one ∙ ap (one_statement scope) s) i) (v i)
