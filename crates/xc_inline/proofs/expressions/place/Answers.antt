use Rattle.std.proofs.Common.{ap, ◌∙◌}
use Rattle.xc_tree.specs.Trees.{expression_of}
use Rattle.xc_tree.proofs.Forms.{form-Num, form-Name, form-Index, form-Un, form-Bin, form-Cond, form-Cast}
use Rattle.xc_kernel.proofs.Forms.{place-Word}
use Rattle.xc_kernel.specs.Expressions as spec
use Rattle.xc_kernel.specs.Plain as plain
use Rattle.xc_kernel.specs.Scopes as scopes
use Rattle.xc_inline.specs.Numbers.{numbering_of}
use Rattle.xc_inline.specs.Scopes.{scope_of}
use Rattle.xc_inline.proofs.Laws.Forms.{place_by_form}
use Rattle.xc_inline.proofs.Laws.Results.{given_on}
use Rattle.xc_inline.proofs.expressions.place.Goals as goal

pub returns-in-Num : goal.returns-in-Num
returns-in-Num c = place_by_form (scope_of c.args.scope.now) c.args.e.now c.in-Num.is (form-Num _ _) (numbering_of c.args.numbers.now) (place-Word 0)

pub returns-in-Name : goal.returns-in-Name
returns-in-Name c = given_on c.place_of_name.result c.place_of_name.ensures (λ _ h.
    let scope = scope_of c.args.scope.now in
    let n = numbering_of c.args.numbers.now in
    let found = c.entity.ensures ∙ ap (scopes.entity_of scope) c.as_slice.ensures in
    place_by_form scope c.args.e.now c.in-Name.is (form-Name c.in-Name.name) n (h ∙ ap (spec.place_of_entity n c.args.e.now.pos) found))

pub returns-in_ok-index-in-Index : goal.returns-in_ok-index-in-Index
returns-in_ok-index-in-Index c = given_on c.element.result c.element.ensures (λ _ h.
    let scope = scope_of c.args.scope.now in
    let n = numbering_of c.args.numbers.now in
    let pos = c.args.e.now.pos in
    let found = c.entity-in-Index.ensures ∙ ap (scopes.entity_of scope) c.as_slice-in-Index.ensures in
    let array = c.array_number-array.ensures ∙ ap (spec.array_number n) found in
    let index = c.in_ok-index-in-Index.ensures.value ∙ ap (λ b. spec.expression_in n scope (expression_of b)) c.deref.ensures in
    place_by_form scope c.args.e.now c.in-Index.is (form-Index c.in-Index.name c.in-Index.index) n (h ∙ λ i. plain.element (array i) (index i) pos))

pub returns-in-Un : goal.returns-in-Un
returns-in-Un c = place_by_form (scope_of c.args.scope.now) c.args.e.now c.in-Un.is (form-Un _ _) (numbering_of c.args.numbers.now) (place-Word 0)

pub returns-in-Bin : goal.returns-in-Bin
returns-in-Bin c = place_by_form (scope_of c.args.scope.now) c.args.e.now c.in-Bin.is (form-Bin _ _ _) (numbering_of c.args.numbers.now) (place-Word 0)

pub returns-in-Cond : goal.returns-in-Cond
returns-in-Cond c = place_by_form (scope_of c.args.scope.now) c.args.e.now c.in-Cond.is (form-Cond _ _ _) (numbering_of c.args.numbers.now) (place-Word 0)

pub returns-in-Cast : goal.returns-in-Cast
returns-in-Cast c = place_by_form (scope_of c.args.scope.now) c.args.e.now c.in-Cast.is (form-Cast _ _) (numbering_of c.args.numbers.now) (place-Word 0)
