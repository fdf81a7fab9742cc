use Rattle.std.proofs.Common.{◌+◌, ◌*◌, ◌++◌, ◌∷◌, [], ◌∙◌, ap, append_assoc, arith, length, length-append, ◌≡◌}
use Rattle.xl_par.specs.Opening.{indices_of, slave_lines, slaves_lines, starts_from}
use Rattle.xl_par.proofs.Listed.{indices_append, next_slave, next_start, slaves_length}
use Rattle.xl_expr.proofs.Emitted.{behind_extends, on_err}
use Rattle.xl_par.proofs.opening.put_slaves.Goals as goal

pub put_slave-requires : goal.put_slave-requires
put_slave-requires c =
    omega (arith, ap length c.slaves.invariant.0, length-append c.args.e.now (slaves_lines c.args.offset c.args.pos c.slaves.counter), slaves_length c.args.offset c.args.pos c.slaves.counter, c.requires, c.slaves-test.true)

pub slaves-preserved : goal.slaves-preserved
slaves-preserved c =
    let n = c.slaves.counter in
    let old = c.args.e.now in
    let grown = slaves_lines c.args.offset c.args.pos n in
    let here : length c.slaves.e + 1 ≡ length old + 7 * n + 1 = omega (arith, ap length c.slaves.invariant.0, length-append old grown, slaves_length c.args.offset c.args.pos n) in (
      c.in_ok-start.ensures.code
          ∙ ap (λ ls. ls ++ slave_lines c.args.offset c.args.pos) c.slaves.invariant.0
          ∙ append_assoc old grown (slave_lines c.args.offset c.args.pos)
          ∙ ap (λ ls. old ++ ls) (next_slave c.args.offset c.args.pos n),
      ap indices_of c.in-Ok.ensures.items
          ∙ indices_append c.slaves.starts.items c.in_ok-start.start
          ∙ ap (λ ks. ks ++ c.in_ok-start.start.index ∷ []) c.slaves.invariant.1
          ∙ append_assoc (indices_of c.args.starts.now.items) (starts_from (length old) n) (c.in_ok-start.start.index ∷ [])
          ∙ ap (λ k. indices_of c.args.starts.now.items ++ (starts_from (length old) n ++ k ∷ [])) (c.in_ok-start.ensures.start ∙ here)
          ∙ ap (λ ks. indices_of c.args.starts.now.items ++ ks) (next_start (length old) n),
    )

pub returns-in_err-start-clause-refused : goal.returns-in_err-start-clause-refused
returns-in_err-start-clause-refused c = on_err _ _ (behind_extends _ _ _ _ c.slaves.invariant.0 c.in_err-start.ensures.refused)

pub returns-in-Err-clause-refused : goal.returns-in-Err-clause-refused
returns-in-Err-clause-refused c =
    behind_extends _ _ _ _ c.slaves.invariant.0 (record { more = slave_lines c.args.offset c.args.pos; is = c.in_ok-start.ensures.code })

pub returns-clause-code : goal.returns-clause-code
returns-clause-code c =
    let all : c.slaves.counter ≡ c.args.slaves = omega (arith, c.slaves-test.false, c.slaves.auto.counter-end) in
    c.slaves.invariant.0 ∙ ap (λ n. c.args.e.now ++ slaves_lines c.args.offset c.args.pos n) all

pub returns-clause-starts : goal.returns-clause-starts
returns-clause-starts c =
    let all : c.slaves.counter ≡ c.args.slaves = omega (arith, c.slaves-test.false, c.slaves.auto.counter-end) in
    c.slaves.invariant.1 ∙ ap (λ n. indices_of c.args.starts.now.items ++ starts_from (length c.args.e.now) n) all
