use Rattle.std.proofs.Common.{sym, ap, subst, ◌∙◌}
use Rattle.std.proofs.lemmas.List.{get_or-replicate}
use Rattle.xs_instr.specs.Ports.{pins_from}
use Rattle.xs_instr.specs.Valid.{AreGoodLines}
use Rattle.xs_port.proofs.pins.Pins.new.Goals as goal

pub invariant_of-result : goal.invariant_of-result
invariant_of-result c =
    record {
      good = subst (AreGoodLines 0) (sym c.in_ok-lines.ensures) c.requires;
      later = rw (← c.as_slice.ensures) c.advance-used.ensures.later;
      current = λ t id due named.
          rw (← c.as_slice.ensures)
          (ap (λ x. pins_from c.as_slice.result.now c.args.core id t x) (sym (get_or-replicate 256 id 0 0 named))
          ∙ c.advance-used.ensures.used.same t id due named);
    }
