use Rattle.std.proofs.Common.{[], true, false, ap, sym, ◌∙◌}
use Rattle.std.specs.Option.{option_map}
use Rattle.xc_tree.specs.Trees.{expression_of, place_of}
use Rattle.xc_kernel.specs.Eval.{eval}
use Rattle.xc_kernel.specs.Expressions.{expression_in}
use Rattle.xc_kernel.specs.Numbering.{no_numbering}
use Rattle.xc_kernel.specs.Ports.{core_of}
use Rattle.xc_inline.specs.Scopes.{scope_of}
use Rattle.xc_inline.specs.Words.{word_in}
use Rattle.xc_inline.proofs.Laws.Cores.{beyond, core_found, core_missing, within}
use Rattle.xc_inline.proofs.roots.core_of.Goals as goal

pub returns-then-number-le-LAST_CORE : goal.returns-then-number-le-LAST_CORE
returns-then-number-le-LAST_CORE c =
    let place = c.in-Some.place in
    let scope = scope_of c.args.scope.now in
    let value = (rw c.in_ok-value-in-Some.was at c.word-read.ensures.value) ∙ ap (λ n. expression_in n scope (expression_of place.value)) c.none-none.ensures in
    let found = c.in-Some-number.ensures ∙ ap (λ x. word_in (eval [] x)) value in
    core_found (eval [] (expression_in no_numbering scope (expression_of place.value))) c.in-Some-number.number true found (within _ _ c.if-number-le-LAST_CORE.true) ∙ ap (λ p. core_of scope (option_map place_of p)) (sym c.in-Some.is)

pub returns-else-number-le-LAST_CORE : goal.returns-else-number-le-LAST_CORE
returns-else-number-le-LAST_CORE c =
    let place = c.in-Some.place in
    let scope = scope_of c.args.scope.now in
    let value = (rw c.in_ok-value-in-Some.was at c.word-read.ensures.value) ∙ ap (λ n. expression_in n scope (expression_of place.value)) c.none-none.ensures in
    let found = c.in-Some-number.ensures ∙ ap (λ x. word_in (eval [] x)) value in
    core_found (eval [] (expression_in no_numbering scope (expression_of place.value))) c.in-Some-number.number false found (beyond _ _ c.if-number-le-LAST_CORE.false) ∙ ap (λ p. core_of scope (option_map place_of p)) (sym c.in-Some.is)

pub returns-in-None-number : goal.returns-in-None-number
returns-in-None-number c =
    let place = c.in-Some.place in
    let scope = scope_of c.args.scope.now in
    let value = (rw c.in_ok-value-in-Some.was at c.word-read.ensures.value) ∙ ap (λ n. expression_in n scope (expression_of place.value)) c.none-none.ensures in
    let found = c.in-None-number.ensures ∙ ap (λ x. word_in (eval [] x)) value in
    core_missing (eval [] (expression_in no_numbering scope (expression_of place.value))) found ∙ ap (λ p. core_of scope (option_map place_of p)) (sym c.in-Some.is)
