use Rattle.std.proofs.Common.{◌∙◌, length, refl, sym, Some, None}
use Rattle.xc_kernel.specs.Kernels.{expression_of}
use Rattle.xl_expr.specs.declared.plan.VarAt.TheVariants.{Near, Far, Through}
use Rattle.xl_expr.specs.Code.{expression_code, fixed_index}
use Rattle.xl_expr.proofs.Denoted.{element_stored_at}
use Rattle.xl_expr.proofs.Emitted.{on_code}
use Rattle.xl_expr.proofs.store.emit_element_write.Goals as goal

pub returns-in-Near-Some-clause-code : goal.returns-in-Near-Some-clause-code
returns-in-Near-Some-clause-code c = on_code _ _ _ _ _ (element_stored_at c.args.found.place (Near c.in-Near-Some.n) c.args.found.words (fixed_index (expression_of c.args.index.now) c.args.found.words) (Some c.in-Near-Some.i) c.args.from c.args.pos (λ n. expression_code c.args.plan.now.vars (expression_of c.args.index.now) 1 n c.args.pos) (length c.args.e.now) c.in-Near-Some.is-0 (sym c.fixed_index.ensures ∙ c.in-Near-Some.is-1)) c.put_all.ensures.ok

pub returns-in-Near-Some-clause-refused : goal.returns-in-Near-Some-clause-refused
returns-in-Near-Some-clause-refused c = c.put_all.ensures.refused

pub returns-in-Near-None-clause-code : goal.returns-in-Near-None-clause-code
returns-in-Near-None-clause-code c = on_code _ _ _ _ _ (element_stored_at c.args.found.place (Near c.in-Near-None.n) c.args.found.words (fixed_index (expression_of c.args.index.now) c.args.found.words) None c.args.from c.args.pos (λ n. expression_code c.args.plan.now.vars (expression_of c.args.index.now) 1 n c.args.pos) (length c.args.e.now) c.in-Near-None.is-0 (sym c.fixed_index.ensures ∙ c.in-Near-None.is-1)) c.emit_indexed_write.ensures.code

pub returns-in-Near-None-clause-refused : goal.returns-in-Near-None-clause-refused
returns-in-Near-None-clause-refused c = c.emit_indexed_write.ensures.refused

pub returns-in-Far-Some-clause-code : goal.returns-in-Far-Some-clause-code
returns-in-Far-Some-clause-code c = on_code _ _ _ _ _ (element_stored_at c.args.found.place (Far c.in-Far-Some.n) c.args.found.words (fixed_index (expression_of c.args.index.now) c.args.found.words) (Some c.in-Far-Some.i) c.args.from c.args.pos (λ n. expression_code c.args.plan.now.vars (expression_of c.args.index.now) 1 n c.args.pos) (length c.args.e.now) c.in-Far-Some.is-0 (sym c.fixed_index.ensures ∙ c.in-Far-Some.is-1)) c.put_held_write.ensures.code

pub returns-in-Far-Some-clause-refused : goal.returns-in-Far-Some-clause-refused
returns-in-Far-Some-clause-refused c = c.put_held_write.ensures.refused

pub returns-in-Far-None-clause-code : goal.returns-in-Far-None-clause-code
returns-in-Far-None-clause-code c = on_code _ _ _ _ _ (element_stored_at c.args.found.place (Far c.in-Far-None.n) c.args.found.words (fixed_index (expression_of c.args.index.now) c.args.found.words) None c.args.from c.args.pos (λ n. expression_code c.args.plan.now.vars (expression_of c.args.index.now) 1 n c.args.pos) (length c.args.e.now) c.in-Far-None.is-0 (sym c.fixed_index.ensures ∙ c.in-Far-None.is-1)) c.emit_indexed_write-in-Far-None.ensures.code

pub returns-in-Far-None-clause-refused : goal.returns-in-Far-None-clause-refused
returns-in-Far-None-clause-refused c = c.emit_indexed_write-in-Far-None.ensures.refused

pub returns-in-Through-default-clause-code : goal.returns-in-Through-default-clause-code
returns-in-Through-default-clause-code c = on_code _ _ _ _ _ (element_stored_at c.args.found.place (Through c.in-Through-default.n) c.args.found.words (fixed_index (expression_of c.args.index.now) c.args.found.words) (fixed_index (expression_of c.args.index.now) c.args.found.words) c.args.from c.args.pos (λ n. expression_code c.args.plan.now.vars (expression_of c.args.index.now) 1 n c.args.pos) (length c.args.e.now) c.in-Through-default.is-0 refl) c.put_held_write-in-Through-default.ensures.code

pub returns-in-Through-default-clause-refused : goal.returns-in-Through-default-clause-refused
returns-in-Through-default-clause-refused c = c.put_held_write-in-Through-default.ensures.refused
