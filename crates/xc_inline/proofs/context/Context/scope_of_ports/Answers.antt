use Rattle.std.proofs.Common.{arith, ap, sym, ◌∙◌, ◌-◌, ◌<◌, ◌≡◌, [], drop, length, get_or}
use Rattle.xc_kernel.specs.Scopes.{a_port, with_name}
use Rattle.xc_inline.specs.Contexts.{ports_from}
use Rattle.xc_inline.proofs.Laws.Parameters.{get_or_itself, ports_end, ports_step}
use Rattle.xc_inline.proofs.context.Context.scope_of_ports.Goals as goal

pub ports-init : goal.ports-init
ports-init c = (omega arith, c.new-scope.ensures ∙ sym (ports_end c.args.self.now.ports.now))

pub ports-preserved : goal.ports-preserved
ports-preserved c =
    let names = c.args.self.now.ports.now in
    let m = c.ports.left - 1 in
    let x = get_or names m (record { ref_ptr = (0, 0); now = [] }) in
    let inv = c.ports.invariant in
    let below : m < length names = omega (arith, inv.0, c.ports-test.true) in (
      omega (arith, inv.0),
      c.in_ok-declare.ensures ∙ (λ i. with_name (inv.1 i) x.now (a_port m))
          ∙ ports_step names c.ports.left m x (omega (arith, c.ports-test.true)) (get_or_itself names m (record { ref_ptr = (0, 0); now = [] }) below) below,
    )

pub returns : goal.returns
returns c =
    let names = c.args.self.now.ports.now in
    let z : c.ports.left ≡ 0 = omega (arith, c.ports-test.false) in
    c.ports.invariant.1 ∙ ap (λ n. ports_from n (drop n names)) z
