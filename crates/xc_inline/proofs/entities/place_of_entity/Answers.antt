use Rattle.std.proofs.Common.{ap, sym, ◌∙◌}
use Rattle.xc_kernel.proofs.Forms.{place-Word, place-Elem, expression-Read}
use Rattle.xc_kernel.specs.Expressions as spec
use Rattle.xc_kernel.specs.Kernels as kernel
use Rattle.xc_kernel.specs.Numbering.{variable_number}
use Rattle.xc_kernel.specs.Plain as plain
use Rattle.xc_inline.specs.Numbers.{numbering_of}
use Rattle.xc_inline.specs.Scopes.{entity_meant}
use Rattle.xc_inline.proofs.entities.place_of_entity.Goals as goal

pub returns-in-Word : goal.returns-in-Word
returns-in-Word c =
    let n = numbering_of c.args.numbers.now in
    place-Word c.variable.result ∙ ap plain.word (c.variable.ensures ∙ ap (variable_number n) c.as_slice.ensures)
    ∙ ap (λ e. spec.place_of_entity n c.args.pos (entity_meant e)) (sym c.in-Word.is)

pub returns-in-Array : goal.returns-in-Array
returns-in-Array c = place-Word 0 ∙ ap (λ e. spec.place_of_entity (numbering_of c.args.numbers.now) c.args.pos (entity_meant e)) (sym c.in-Array.is)

pub returns-in-Channel : goal.returns-in-Channel
returns-in-Channel c = place-Word 0 ∙ ap (λ e. spec.place_of_entity (numbering_of c.args.numbers.now) c.args.pos (entity_meant e)) (sym c.in-Channel.is)

pub returns-in-Timer : goal.returns-in-Timer
returns-in-Timer c = place-Word 0 ∙ ap (λ e. spec.place_of_entity (numbering_of c.args.numbers.now) c.args.pos (entity_meant e)) (sym c.in-Timer.is)

pub returns-in-Port : goal.returns-in-Port
returns-in-Port c = place-Word 0 ∙ ap (λ e. spec.place_of_entity (numbering_of c.args.numbers.now) c.args.pos (entity_meant e)) (sym c.in-Port.is)

pub returns-in-Constant : goal.returns-in-Constant
returns-in-Constant c = place-Word 0 ∙ ap (λ e. spec.place_of_entity (numbering_of c.args.numbers.now) c.args.pos (entity_meant e)) (sym c.in-Constant.is)

pub returns-in-Unknown : goal.returns-in-Unknown
returns-in-Unknown c = place-Word 0 ∙ ap (λ e. spec.place_of_entity (numbering_of c.args.numbers.now) c.args.pos (entity_meant e)) (sym c.in-Unknown.is)

pub returns-in_ok-index-in-Element : goal.returns-in_ok-index-in-Element
returns-in_ok-index-in-Element c =
    let n = numbering_of c.args.numbers.now in
    let array = c.variable-in-Element-2.ensures ∙ ap (variable_number n) c.as_slice-in-Element-2.ensures in
    let index = c.variable-in-Element.ensures ∙ ap (variable_number n) c.as_slice-in-Element.ensures in
    let read = ap kernel.expression_of c.in_ok-index-in-Element.ensures ∙ expression-Read _ ∙ ap plain.read (place-Word c.variable-in-Element.result ∙ ap plain.word index) in
    place-Elem c.variable-in-Element-2.result c.in_ok-index-in-Element.index c.args.pos
    ∙ (λ i. plain.element (array i) (read i) c.args.pos)
    ∙ ap (λ e. spec.place_of_entity n c.args.pos (entity_meant e)) (sym c.in-Element.is)
