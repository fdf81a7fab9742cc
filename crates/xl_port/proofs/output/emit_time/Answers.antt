use Rattle.std.proofs.Common.{[], refl, ◌+◌, ◌*◌, ◌^◌, ◌<◌, ◌≤◌, Option, length, option_map, sym, subst, arith, append-nil}
use Rattle.xc_kernel.specs.declared.statement.Kx.{Kx}
use Rattle.xc_kernel.specs.Kernels.{expression_of}
use Rattle.xs_instr.specs.Adds.{Adds}
use Rattle.xl_port.specs.Timings.{time_depth, time_nodes}
use Rattle.xl_port.specs.Waits.{TimeEvaluates}
use Rattle.xl_expr.proofs.Emitted.{on_err}
use Rattle.xl_expr.proofs.GoodCode.{nothing_aimed}
use Rattle.xl_port.proofs.output.emit_time.Goals as goal

pub returns-in-None-clause-aimed : goal.returns-in-None-clause-aimed
returns-in-None-clause-aimed c = nothing_aimed c.args.e.now

pub emit_expr-requires-clause-room : goal.emit_expr-requires-clause-room
emit_expr-requires-clause-room c =
    subst (λ (o : Option Kx). length c.args.e.now + 8 * time_nodes (option_map expression_of o) < 2 ^ 32) c.in-Some.is c.requires.room

pub emit_expr-requires-clause-shallow : goal.emit_expr-requires-clause-shallow
emit_expr-requires-clause-shallow c = subst (λ (o : Option Kx). time_depth (option_map expression_of o) ≤ 400) c.in-Some.is
    c.requires.shallow

pub returns-in_ok-emit_expr-in-Some-clause-size : goal.returns-in_ok-emit_expr-in-Some-clause-size
returns-in_ok-emit_expr-in-Some-clause-size c =
    subst (λ (o : Option Kx). length c.emit_expr.new.e ≤ length c.args.e.now + 8 * time_nodes (option_map expression_of o))
    (sym c.in-Some.is)
    c.in_ok-emit_expr-in-Some.ensures.size

pub returns-in_ok-emit_expr-in-Some-clause-adds : goal.returns-in_ok-emit_expr-in-Some-clause-adds
returns-in_ok-emit_expr-in-Some-clause-adds c =
    let e = c.args.e.now in
    subst (λ (o : Option Kx). Adds e c.emit_expr.new.e (TimeEvaluates c.args.plan.now.vars (option_map expression_of o) (length e)))
    (sym c.in-Some.is) c.in_ok-emit_expr-in-Some.ensures.evaluates

pub returns-in_ok-emit_expr-in-Some-clause-aimed : goal.returns-in_ok-emit_expr-in-Some-clause-aimed
returns-in_ok-emit_expr-in-Some-clause-aimed c = c.in_ok-emit_expr-in-Some.ensures.aimed

pub returns-in-None-clause-size : goal.returns-in-None-clause-size
returns-in-None-clause-size c = omega arith

pub returns-in-None-clause-adds : goal.returns-in-None-clause-adds
returns-in-None-clause-adds c =
    subst (λ (o : Option Kx). Adds c.args.e.now c.args.e.now
    (TimeEvaluates c.args.plan.now.vars (option_map expression_of o) (length c.args.e.now)))
    (sym c.in-None.is) (record { lines = []; is = sym (append-nil c.args.e.now); so = refl })

pub returns-in_err-emit_expr-in-Some-clause-refused : goal.returns-in_err-emit_expr-in-Some-clause-refused
returns-in_err-emit_expr-in-Some-clause-refused c = on_err _ _ c.in_err-emit_expr-in-Some.ensures.refused
