use Rattle.std.proofs.Common.{◌≡◌, ℕ, ◌+◌, true, sym, refl, subst, ◌∙◌, arith}
use Rattle.xc_tree.specs.Bytes.{Span, is_blank, byte, is_digit}
use Rattle.xc_lexer.proofs.Spans.{longer}
use Rattle.xc_lexer.proofs.Forms.{no_some, digit_of_word}
use Rattle.xc_lexer.proofs.lines.definition_at.Goals as goal

pub returns-clause-some : goal.returns-clause-some
returns-clause-some c =
    let name_at = c.blanks_end-name_at.result in
    let opened : c.in_ok-opened.opened ≡ c.args.at + 7 = c.in_ok-opened.ensures.some.1 in
    let blanks : Span is_blank c.args.text.now (c.args.at + 7) name_at = subst (λ (n : ℕ). Span is_blank c.args.text.now n name_at) opened c.blanks_end-name_at.ensures.span in
    let a = c.blanks_end-name_at.ensures.span.after in
    let b = c.run_end-name_end.ensures.span.after in
    let d = c.blanks_end-number_at.ensures.span.after in
    let digit : is_digit (byte c.args.text.now c.blanks_end-number_at.result) ≡ true = sym c.has_digit.ensures ∙ c.if-not-has_digit.false in
    record {
      form = record {
        opens = c.in_ok-opened.ensures.some.0;
        name_at = name_at;
        name_end = c.run_end-name_end.result;
        blanks = blanks;
        parted = omega (arith, opened, c.if-name_at-opened.false);
        letter = sym c.has_letter.ensures ∙ c.if-not-has_letter.false;
        run = c.run_end-name_end.ensures.span;
        spells = refl;
        no_word = sym c.word_place.ensures ∙ no_some c.word_place.result (sym c.is_some.ensures ∙ c.if-is_some.false);
        more_blanks = c.blanks_end-number_at.ensures.span;
        parted_too = omega (arith, c.if-number_at-name_end.false);
        digit = digit;
        number = c.run_end-end.ensures.span;
      };
      number = omega (arith, opened);
      some = longer c.run_end-end.ensures.span (digit_of_word (byte c.args.text.now c.blanks_end-number_at.result) digit);
      within = c.run_end-end.ensures.within;
    }
