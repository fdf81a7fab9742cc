use Rattle.std.proofs.Common.{ap, sym, ◌∙◌}
use Rattle.xc_inline.proofs.Laws.Words.{other_second}
use Rattle.xc_inline.specs.Words.{word_in}
use Rattle.xc_inline.proofs.eval.with_second.Goals as goal

pub returns-in_ok-second-in_default : goal.returns-in_ok-second-in_default
returns-in_ok-second-in_default c = λ pos v e.
    c.of_two.ensures pos
    ∙ sym (ap word_in (other_second c.args.operator c.args.unsigned pos c.args.a c.in_ok-second-in_default.field-0 v c.in_default.not-And c.in_default.not-Or (sym c.in_ok-second-in_default.was ∙ e)))
