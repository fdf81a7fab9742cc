use Rattle.std.proofs.Common.{ap, ◌∙◌}
use Rattle.std.proofs.lemmas.Result.{IfOk-from_err}
use Rattle.xc_kernel.proofs.Forms.{expression-Read, place-Word}
use Rattle.xc_kernel.specs.Plain as plain
use Rattle.xc_kernel.specs.Calls.{path_of_result}
use Rattle.xc_kernel.specs.Numbering.{variable_number}
use Rattle.xc_kernel.specs.Programs.{function_named}
use Rattle.xc_kernel.specs.declared.statement.Place.TheVariants.{Word}
use Rattle.xc_inline.specs.Contexts.{context_of}
use Rattle.xc_inline.proofs.context.Context.typed.Goals as goal

pub returns-in_err-path-in-Call-clause-value : goal.returns-in_err-path-in-Call-clause-value
returns-in_err-path-in-Call-clause-value c = IfOk-from_err c.from_residual.result _ c.from_residual.ensures.0

pub returns-in_err-path-in-Call-clause-unsigned : goal.returns-in_err-path-in-Call-clause-unsigned
returns-in_err-path-in-Call-clause-unsigned c = IfOk-from_err c.from_residual.result _ c.from_residual.ensures.0

pub returns-in-Value-clause-value : goal.returns-in-Value-clause-value
returns-in-Value-clause-value c = rw c.in-Value.is c.word.ensures.value

pub returns-in-Value-clause-unsigned : goal.returns-in-Value-clause-unsigned
returns-in-Value-clause-unsigned c = rw c.in-Value.is c.word.ensures.unsigned

pub returns-in_ok-path-in-Call-clause-unsigned : goal.returns-in_ok-path-in-Call-clause-unsigned
returns-in_ok-path-in-Call-clause-unsigned c = rw c.in-Call.is

pub returns-in_ok-path-in-Call-clause-value : goal.returns-in_ok-path-in-Call-clause-value
returns-in_ok-path-in-Call-clause-value c =
    let all = context_of c.args.self.now in
    let name = ap (λ t. path_of_result all c.in-Call.pos (function_named all.functions t)) c.as_slice.ensures in
    let path = c.as_slice-in-Call.ensures ∙ c.in_ok-path-in-Call.ensures ∙ name in
    let number = c.variable.ensures ∙ ap (variable_number all.numbering) path in
    rw c.in-Call.is (expression-Read (Word c.variable.result) ∙ ap plain.read (place-Word c.variable.result ∙ ap plain.word number))
