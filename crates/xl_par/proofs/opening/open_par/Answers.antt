use Rattle.std.proofs.Common.{◌-◌, ◌++◌, ◌∙◌, ap, arith, length, length-append}
use Rattle.xs_instr.specs.Lines.{at_pos}
use Rattle.xl_par.specs.Opening.{beginning_instrs, indices_of, opening_lines, slaves_lines, starts_from}
use Rattle.xl_par.proofs.Listed.{opening_aimed, opening_joined, opening_length, slaves_length}
use Rattle.xl_expr.proofs.Emitted.{behind_extends, on_err, same_extends}
use Rattle.xl_par.proofs.SettingOff.{opening_opens}
use Rattle.xl_par.proofs.opening.open_par.Goals as goal

pub put-requires : goal.put-requires
put-requires c =
    let n = c.args.branches - 1 in
    let first = length-append c.args.e.now (at_pos c.args.pos beginning_instrs) in
    let second = length-append c.put_beginning.new.e (slaves_lines c.stack_offset.result c.args.pos n) in
    omega (arith, ap length c.in_ok-put_beginning.ensures.code, first, ap length c.in_ok-put_slaves.ensures.code, second, slaves_length c.stack_offset.result c.args.pos n, c.requires.room, c.requires.several)

pub returns-clause-size : goal.returns-clause-size
returns-clause-size c =
    let n = c.args.branches - 1 in
    let joined = opening_joined c.args.plan.now.first_stack c.stack_offset.result c.args.pos n c.args.e.now c.put_beginning.new.e c.put_slaves.new.e c.put.new.self c.stack_offset.ensures c.in_ok-put_beginning.ensures.code c.in_ok-put_slaves.ensures.code c.in_ok-put.ensures.ok in
    omega (arith, ap length joined, length-append c.args.e.now (opening_lines c.args.plan.now.first_stack c.args.pos n), opening_length c.args.plan.now.first_stack c.args.pos n, c.requires.several)

pub returns-clause-opens : goal.returns-clause-opens
returns-clause-opens c =
    let n = c.args.branches - 1 in
    record {
      lines = opening_lines c.args.plan.now.first_stack c.args.pos n;
      is = opening_joined c.args.plan.now.first_stack c.stack_offset.result c.args.pos n c.args.e.now c.put_beginning.new.e c.put_slaves.new.e c.put.new.self c.stack_offset.ensures c.in_ok-put_beginning.ensures.code c.in_ok-put_slaves.ensures.code c.in_ok-put.ensures.ok;
      so = opening_opens c.args.plan.now.first_stack n c.args.pos (length c.args.e.now) c.requires.inside;
    }

pub returns-clause-aimed : goal.returns-clause-aimed
returns-clause-aimed c =
    let n = c.args.branches - 1 in
    record {
      lines = opening_lines c.args.plan.now.first_stack c.args.pos n;
      is = opening_joined c.args.plan.now.first_stack c.stack_offset.result c.args.pos n c.args.e.now c.put_beginning.new.e c.put_slaves.new.e c.put.new.self c.stack_offset.ensures c.in_ok-put_beginning.ensures.code c.in_ok-put_slaves.ensures.code c.in_ok-put.ensures.ok;
      so = opening_aimed c.args.plan.now.first_stack n c.args.pos (length c.args.e.now);
    }

pub put_slaves-requires : goal.put_slaves-requires
put_slaves-requires c =
    let first = length-append c.args.e.now (at_pos c.args.pos beginning_instrs) in
    omega (arith, ap length c.in_ok-put_beginning.ensures.code, first, c.requires.room, c.requires.several)

pub returns-in_err-put_beginning-clause-refused : goal.returns-in_err-put_beginning-clause-refused
returns-in_err-put_beginning-clause-refused c = on_err _ _ c.in_err-put_beginning.ensures.refused

pub returns-in_err-put_slaves-clause-refused : goal.returns-in_err-put_slaves-clause-refused
returns-in_err-put_slaves-clause-refused c =
    on_err _ _ (behind_extends _ _ _ _ c.in_ok-put_beginning.ensures.code c.in_err-put_slaves.ensures.refused)

pub returns-in_err-put-clause-refused : goal.returns-in_err-put-clause-refused
returns-in_err-put-clause-refused c =
    let last = same_extends _ _ c.in_err-put.ensures.refused in
    on_err _ _ (behind_extends _ _ _ _ c.in_ok-put_beginning.ensures.code (behind_extends _ _ _ _ c.in_ok-put_slaves.ensures.code last))

pub returns-clause-code : goal.returns-clause-code
returns-clause-code c =
    let n = c.args.branches - 1 in
    opening_joined c.args.plan.now.first_stack c.stack_offset.result c.args.pos n c.args.e.now c.put_beginning.new.e c.put_slaves.new.e
    c.put.new.self c.stack_offset.ensures c.in_ok-put_beginning.ensures.code c.in_ok-put_slaves.ensures.code c.in_ok-put.ensures.ok

pub returns-clause-holes : goal.returns-clause-holes
returns-clause-holes c =
    let n = c.args.branches - 1 in
    let begun = c.put_beginning.new.e in
    let first = length-append c.args.e.now (at_pos c.args.pos beginning_instrs) in
    ap indices_of c.from_vec.ensures
    ∙ c.in_ok-put_slaves.ensures.starts
    ∙ ap (λ holes. indices_of holes ++ starts_from (length begun) n) c.new-starts.ensures.items
    ∙ ap (λ pc. starts_from pc n) (ap length c.in_ok-put_beginning.ensures.code ∙ first)
