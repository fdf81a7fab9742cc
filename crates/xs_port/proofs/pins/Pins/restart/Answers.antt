use Rattle.std.proofs.Common.{sym, ap, ◌∙◌}
use Rattle.std.proofs.lemmas.List.{get_or-replicate}
use Rattle.xs_instr.specs.Ports.{pins_from}
use Rattle.xs_port.proofs.pins.Pins.restart.Goals as goal

pub invariant_of-self : goal.invariant_of-self
invariant_of-self c =
    let advanced = c.advance-self-inside.ensures in
    record {
      good = c.self.invariant.good;
      later = rw (← c.as_slice.ensures) advanced.later;
      current = λ t id due named.
          rw (← c.as_slice.ensures)
          (ap (λ x. pins_from c.as_slice.result.now c.self.inside.core id t x) (sym (get_or-replicate 256 id 0 0 named))
          ∙ advanced.used.same t id due named);
    }
