use Rattle.std.proofs.Common.{ap, arith, length, length-append, [], ◌∷◌, option_map, ℕ}
use Rattle.xs_instr.specs.declared.instr.Instr.TheVariants.{Brff}
use Rattle.xs_instr.specs.declared.instr.Reg.TheVariants.{R0}
use Rattle.xs_instr.specs.Lines.{open_line}
use Rattle.xc_kernel.specs.Kernels.{expression_of, input_of}
use Rattle.xl_select.specs.OpeningCode.{timed_lines}
use Rattle.xl_select.proofs.Opened.{bare_joined, case_longer, guarded_inner, guarded_joined, on_ok, past_open}
use Rattle.xl_select.proofs.opening.put_case.Goals as goal

pub put_timed-requires-clause-room : goal.put_timed-requires-clause-room
put_timed-requires-clause-room c = omega (arith, c.in_ok-put_guard.ensures.size, c.requires.room)

pub put_timed-requires-in-Some-clause-room : goal.put_timed-requires-in-Some-clause-room
put_timed-requires-in-Some-clause-room c =
    omega (arith, c.in_ok-put_guard.ensures.size, c.requires.room, ap length c.in_ok-past-in-Some.ensures.ok, length-append c.put_guard.new.e (open_line (Brff R0 0) c.args.head.now.pos ∷ []))

pub land-requires : goal.land-requires
land-requires c =
    let i = input_of c.args.head.now in
    let plan = c.args.plan.now in
    let end = c.args.end in
    let front = c.put_guard.new.e in
    let held = c.hole.new.self in
    let behind = c.put_timed-in-Some.new.e in
    past_open (Brff R0 0) i.pos front held behind behind (λ (n : ℕ). timed_lines plan end c.args.flag i n i.pos) c.in_ok-past-in-Some.past.index c.in_ok-past-in-Some.ensures.index c.in_ok-past-in-Some.ensures.ok
    (guarded_inner plan end c.args.flag i c.args.e.now front held behind c.in_ok-past-in-Some.ensures.ok c.in_ok-start-in-Some.ensures.code)

pub returns-in-None-clause-code : goal.returns-in-None-clause-code
returns-in-None-clause-code c =
    let i = input_of c.args.head.now in
    on_ok c.put_timed.result _ _ (λ h. bare_joined c.args.plan.now c.args.end c.args.flag i c.args.e.now c.put_guard.new.e c.put_timed.new.e (option_map expression_of c.args.guard.now) (ap (option_map expression_of) c.in-None.is) c.in_ok-put_guard.ensures.code h) c.put_timed.ensures.code

pub returns-in-None-clause-size : goal.returns-in-None-clause-size
returns-in-None-clause-size c =
    let i = input_of c.args.head.now in
    let guard = option_map expression_of c.args.guard.now in
    on_ok c.put_timed.result _ _ (λ h. case_longer c.args.plan.now c.args.end i c.args.flag guard c.args.e.now c.put_timed.new.e (bare_joined c.args.plan.now c.args.end c.args.flag i c.args.e.now c.put_guard.new.e c.put_timed.new.e guard (ap (option_map expression_of) c.in-None.is) c.in_ok-put_guard.ensures.code h)) c.put_timed.ensures.code

pub returns-in_ok-start-in-Some-clause-code : goal.returns-in_ok-start-in-Some-clause-code
returns-in_ok-start-in-Some-clause-code c =
    let i = input_of c.args.head.now in
    guarded_joined c.args.plan.now c.args.end c.args.flag i c.args.e.now c.put_guard.new.e c.hole.new.self c.put_timed-in-Some.new.e c.land.new.self c.in_ok-past-in-Some.past.index (option_map expression_of c.args.guard.now) (expression_of c.in-Some.field-0)
    (ap (option_map expression_of) c.in-Some.is) c.in_ok-past-in-Some.ensures.index c.in_ok-put_guard.ensures.code c.in_ok-past-in-Some.ensures.ok c.in_ok-start-in-Some.ensures.code c.land.ensures

pub returns-in_ok-start-in-Some-clause-size : goal.returns-in_ok-start-in-Some-clause-size
returns-in_ok-start-in-Some-clause-size c =
    let i = input_of c.args.head.now in
    let guard = option_map expression_of c.args.guard.now in
    case_longer c.args.plan.now c.args.end i c.args.flag guard c.args.e.now c.land.new.self
    (guarded_joined c.args.plan.now c.args.end c.args.flag i c.args.e.now c.put_guard.new.e c.hole.new.self c.put_timed-in-Some.new.e c.land.new.self c.in_ok-past-in-Some.past.index guard (expression_of c.in-Some.field-0)
    (ap (option_map expression_of) c.in-Some.is) c.in_ok-past-in-Some.ensures.index c.in_ok-put_guard.ensures.code c.in_ok-past-in-Some.ensures.ok c.in_ok-start-in-Some.ensures.code c.land.ensures)
