use Rattle.std.proofs.Common.{◌||◌, ap, refl, ◌∙◌}
use Rattle.xc_tree.specs.Symbols as symbols
use Rattle.xc_tree.specs.Trees.{expression_of}
use Rattle.xc_tree.proofs.Forms.{form-Num, form-Name, form-Index, form-Un, form-Bin, form-Cond, form-Cast}
use Rattle.xc_kernel.proofs.Forms.{expression-Num}
use Rattle.xc_kernel.specs.Expressions as spec
use Rattle.xc_kernel.specs.Kernels as kernel
use Rattle.xc_kernel.specs.Operators as operators
use Rattle.xc_kernel.specs.Plain as plain
use Rattle.xc_kernel.specs.Scopes as scopes
use Rattle.xc_kernel.specs.Types as types
use Rattle.xc_inline.specs.Numbers.{numbering_of}
use Rattle.xc_inline.specs.Scopes.{scope_of}
use Rattle.xc_inline.proofs.Laws.Forms.{sign_by_form, word_by_form}
use Rattle.xc_inline.proofs.Laws.Results.{given_on}
use Rattle.xc_inline.proofs.expressions.+word.Goals as goal

pub returns-in-Num-clause-value : goal.returns-in-Num-clause-value
returns-in-Num-clause-value t c =
    word_by_form (scope_of c.args.scope.now) c.args.e.now c.in-Num.is (form-Num c.in-Num.value c.in-Num.unsigned) (numbering_of c.args.numbers.now) (expression-Num c.in-Num.value)

pub returns-in-Num-clause-unsigned : goal.returns-in-Num-clause-unsigned
returns-in-Num-clause-unsigned t c =
    sign_by_form (scope_of c.args.scope.now) c.args.e.now c.in-Num.is (form-Num c.in-Num.value c.in-Num.unsigned) refl

pub returns-in-Name-clause-value : goal.returns-in-Name-clause-value
returns-in-Name-clause-value t c = given_on c.named.result c.named.ensures.value (λ _ h.
    let scope = scope_of c.args.scope.now in
    let n = numbering_of c.args.numbers.now in
    let found = c.entity.ensures ∙ ap (scopes.entity_of scope) c.as_slice.ensures in
    word_by_form scope c.args.e.now c.in-Name.is (form-Name c.in-Name.name) n (h ∙ ap (spec.word_of_entity n c.args.e.now.pos) found))

pub returns-in-Name-clause-unsigned : goal.returns-in-Name-clause-unsigned
returns-in-Name-clause-unsigned t c = given_on c.named.result c.named.ensures.unsigned (λ _ h.
    let scope = scope_of c.args.scope.now in
    let found = c.entity.ensures ∙ ap (scopes.entity_of scope) c.as_slice.ensures in
    sign_by_form scope c.args.e.now c.in-Name.is (form-Name c.in-Name.name) (h ∙ ap (λ x. types.word_is_unsigned (scopes.type_of_entity x)) found))

pub returns-in_ok-index-in-Index-clause-value : goal.returns-in_ok-index-in-Index-clause-value
returns-in_ok-index-in-Index-clause-value t c = given_on c.read_element.result c.read_element.ensures.value (λ _ h.
    let scope = scope_of c.args.scope.now in
    let n = numbering_of c.args.numbers.now in
    let pos = c.args.e.now.pos in
    let found = c.entity-in-Index.ensures ∙ ap (scopes.entity_of scope) c.as_slice-in-Index.ensures in
    let index = c.in_ok-index-in-Index.ensures.value ∙ ap (λ b. spec.expression_in n scope (expression_of b)) c.deref.ensures in
    word_by_form scope c.args.e.now c.in-Index.is (form-Index c.in-Index.name c.in-Index.index) n (h ∙ λ i. plain.read (plain.element (spec.array_number n (found i)) (index i) pos)))

pub returns-in_ok-index-in-Index-clause-unsigned : goal.returns-in_ok-index-in-Index-clause-unsigned
returns-in_ok-index-in-Index-clause-unsigned t c = given_on c.read_element.result c.read_element.ensures.unsigned (λ _ h.
    let scope = scope_of c.args.scope.now in
    let found = c.entity-in-Index.ensures ∙ ap (scopes.entity_of scope) c.as_slice-in-Index.ensures in
    sign_by_form scope c.args.e.now c.in-Index.is (form-Index c.in-Index.name c.in-Index.index) (h ∙ ap (λ x. types.elements_are_unsigned (scopes.type_of_entity x)) found))

pub returns-in_ok-operand-in-Un-clause-value : goal.returns-in_ok-operand-in-Un-clause-value
returns-in_ok-operand-in-Un-clause-value t c = given_on c.unary.result c.unary.ensures.value (λ _ h.
    let scope = scope_of c.args.scope.now in
    let n = numbering_of c.args.numbers.now in
    let value = c.in_ok-operand-in-Un.ensures.value ∙ ap (λ b. spec.expression_in n scope (expression_of b)) c.deref-in-Un.ensures in
    let sign = c.in_ok-operand-in-Un.ensures.unsigned ∙ ap (λ b. scopes.is_unsigned scope (expression_of b)) c.deref-in-Un.ensures in
    word_by_form scope c.args.e.now c.in-Un.is (form-Un c.in-Un.symbol c.in-Un.operand) n (h ∙ λ i. plain.operation c.in-Un.symbol (sign i) (spec.one_operand (value i)) c.args.e.now.pos))

pub returns-in_ok-operand-in-Un-clause-unsigned : goal.returns-in_ok-operand-in-Un-clause-unsigned
returns-in_ok-operand-in-Un-clause-unsigned t c = given_on c.unary.result c.unary.ensures.unsigned (λ _ h.
    let scope = scope_of c.args.scope.now in
    let sign = c.in_ok-operand-in-Un.ensures.unsigned ∙ ap (λ b. scopes.is_unsigned scope (expression_of b)) c.deref-in-Un.ensures in
    sign_by_form scope c.args.e.now c.in-Un.is (form-Un c.in-Un.symbol c.in-Un.operand) (h ∙ ap (types.sign_is_unsigned (operators.operator_at c.in-Un.symbol)) sign))

pub returns-in_ok-left-in-Bin-clause-value : goal.returns-in_ok-left-in-Bin-clause-value
returns-in_ok-left-in-Bin-clause-value t c = given_on c.binary.result c.binary.ensures.value (λ _ h.
    let scope = scope_of c.args.scope.now in
    let n = numbering_of c.args.numbers.now in
    let both = c.in_ok-left-in-Bin.ensures in
    let a = (rw both.first at c.word-left.ensures.value) ∙ ap (λ b. spec.expression_in n scope (expression_of b)) c.deref-in-Bin.ensures in
    let b = (rw both.second at c.word-right.ensures.value) ∙ ap (λ b. spec.expression_in n scope (expression_of b)) c.deref-in-Bin-2.ensures in
    let u = (rw both.first at c.word-left.ensures.unsigned) ∙ ap (λ b. scopes.is_unsigned scope (expression_of b)) c.deref-in-Bin.ensures in
    let v = (rw both.second at c.word-right.ensures.unsigned) ∙ ap (λ b. scopes.is_unsigned scope (expression_of b)) c.deref-in-Bin-2.ensures in
    word_by_form scope c.args.e.now c.in-Bin.is (form-Bin c.in-Bin.symbol c.in-Bin.left c.in-Bin.right) n
    (h ∙ λ i. plain.operation c.in-Bin.symbol (types.operation_is_unsigned (operators.operator_at c.in-Bin.symbol) (u i) (v i)) (spec.two_operands (a i) (b i)) c.args.e.now.pos))

pub returns-in_ok-left-in-Bin-clause-unsigned : goal.returns-in_ok-left-in-Bin-clause-unsigned
returns-in_ok-left-in-Bin-clause-unsigned t c = given_on c.binary.result c.binary.ensures.unsigned (λ _ h.
    let scope = scope_of c.args.scope.now in
    let both = c.in_ok-left-in-Bin.ensures in
    let u = (rw both.first at c.word-left.ensures.unsigned) ∙ ap (λ b. scopes.is_unsigned scope (expression_of b)) c.deref-in-Bin.ensures in
    let v = (rw both.second at c.word-right.ensures.unsigned) ∙ ap (λ b. scopes.is_unsigned scope (expression_of b)) c.deref-in-Bin-2.ensures in
    sign_by_form scope c.args.e.now c.in-Bin.is (form-Bin c.in-Bin.symbol c.in-Bin.left c.in-Bin.right)
    (h ∙ λ i. types.result_is_unsigned (operators.operator_at c.in-Bin.symbol) (u i) (v i)))

pub returns-in_ok-test-in-Cond-clause-value : goal.returns-in_ok-test-in-Cond-clause-value
returns-in_ok-test-in-Cond-clause-value t c = given_on c.choice.result c.choice.ensures.value (λ _ h.
    let scope = scope_of c.args.scope.now in
    let n = numbering_of c.args.numbers.now in
    let both = c.in_ok-test-in-Cond.ensures in
    let first = rw both.second at c.zip_ok-choices.ensures.first in
    let second = rw both.second at c.zip_ok-choices.ensures.second in
    let test = (rw both.first at c.word-test.ensures.value) ∙ ap (λ b. spec.expression_in n scope (expression_of b)) c.deref-in-Cond.ensures in
    let a = (rw first at c.word-first.ensures.value) ∙ ap (λ b. spec.expression_in n scope (expression_of b)) c.deref-in-Cond-2.ensures in
    let b = (rw second at c.word-second.ensures.value) ∙ ap (λ b. spec.expression_in n scope (expression_of b)) c.deref-in-Cond-3.ensures in
    let u = (rw first at c.word-first.ensures.unsigned) ∙ ap (λ b. scopes.is_unsigned scope (expression_of b)) c.deref-in-Cond-2.ensures in
    let v = (rw second at c.word-second.ensures.unsigned) ∙ ap (λ b. scopes.is_unsigned scope (expression_of b)) c.deref-in-Cond-3.ensures in
    word_by_form scope c.args.e.now c.in-Cond.is (form-Cond c.in-Cond.test c.in-Cond.first c.in-Cond.second) n
    (h ∙ λ i. plain.operation symbols.question (u i || v i) (plain.more_operands (test i) (spec.two_operands (a i) (b i))) c.args.e.now.pos))

pub returns-in_ok-test-in-Cond-clause-unsigned : goal.returns-in_ok-test-in-Cond-clause-unsigned
returns-in_ok-test-in-Cond-clause-unsigned t c = given_on c.choice.result c.choice.ensures.unsigned (λ _ h.
    let scope = scope_of c.args.scope.now in
    let both = c.in_ok-test-in-Cond.ensures in
    let first = rw both.second at c.zip_ok-choices.ensures.first in
    let second = rw both.second at c.zip_ok-choices.ensures.second in
    let u = (rw first at c.word-first.ensures.unsigned) ∙ ap (λ b. scopes.is_unsigned scope (expression_of b)) c.deref-in-Cond-2.ensures in
    let v = (rw second at c.word-second.ensures.unsigned) ∙ ap (λ b. scopes.is_unsigned scope (expression_of b)) c.deref-in-Cond-3.ensures in
    sign_by_form scope c.args.e.now c.in-Cond.is (form-Cond c.in-Cond.test c.in-Cond.first c.in-Cond.second) (h ∙ λ i. u i || v i))

pub returns-in_ok-operand-in-Cast-clause-value : goal.returns-in_ok-operand-in-Cast-clause-value
returns-in_ok-operand-in-Cast-clause-value t c =
    let scope = scope_of c.args.scope.now in
    let n = numbering_of c.args.numbers.now in
    let value = c.in_ok-operand-in-Cast.ensures.value ∙ ap (λ b. spec.expression_in n scope (expression_of b)) c.deref-in-Cast.ensures in
    word_by_form scope c.args.e.now c.in-Cast.is (form-Cast c.in-Cast.unsigned c.in-Cast.operand) n (ap kernel.expression_of c.cast.ensures.value ∙ value)

pub returns-in_ok-operand-in-Cast-clause-unsigned : goal.returns-in_ok-operand-in-Cast-clause-unsigned
returns-in_ok-operand-in-Cast-clause-unsigned t c =
    sign_by_form (scope_of c.args.scope.now) c.args.e.now c.in-Cast.is (form-Cast c.in-Cast.unsigned c.in-Cast.operand) c.cast.ensures.unsigned
