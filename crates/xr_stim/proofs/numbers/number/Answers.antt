use Rattle.std.proofs.Common.{◌≡◌, true, get_or, sym, ◌∙◌, lit<}
use Rattle.std.specs.Char.{is_ascii_digit}
use Rattle.xr_stim.proofs.DigitLemmas.{all-more, up_to-more}
use Rattle.xr_stim.proofs.numbers.number.Goals as goal

pub loop-digit-preserved : goal.loop-digit-preserved
loop-digit-preserved c =
    let ds = c.args.word.now in
    let i = c.loop-digit.digit-index in
    let digit : is_ascii_digit (get_or ds i 0) ≡ true = sym c.is_ascii_digit.ensures.value ∙ c.if-not-is_ascii_digit.false in
    record {
      digits = all-more ds i c.loop-digit-test.true digit c.loop-digit.invariant.digits;
      value = c.saturating_add-value.ensures
          ∙ up_to-more ds i 18446744073709551615 c.loop-digit.value c.saturating_mul.result c.loop-digit-test.true digit (lit< tt) c.loop-digit.invariant.value c.saturating_mul.ensures;
    }
