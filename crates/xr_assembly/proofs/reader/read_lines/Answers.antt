use Rattle.std.proofs.Common.{◌≡◌, ◌+◌, ◌++◌, ◌∷◌, [], Some, None, false, length, length-append, append_assoc, sym, ap, ◌∙◌, arith}
use Rattle.xr_assembly.proofs.Reading.{broken-here, broken-later, broken-none, lines-more}
use Rattle.xr_assembly.proofs.reader.read_lines.Goals as goal
use Rattle.xr_assembly.specs.Cuts.{parts}
use Rattle.xr_assembly.specs.Forms.{form_of_line}
use Rattle.xr_assembly.specs.Reading.{broken_listing_rule, first_broken, is_trace, listing_lines}

pub returns-in-Err-clause-broken : goal.returns-in-Err-clause-broken
returns-in-Err-clause-broken c =
    sym c.lines.invariant.unbroken
    ∙ broken-here c.lines.here (c.lines.number + 1) c.in-Err.rule c.lines.rest.now c.in-Some.bytes.now c.in-Some.behind.now c.in-Some.ensures.parts
    (ap (broken_listing_rule c.lines.here) (sym c.form_of.ensures) ∙ c.in-Err.ensures.broken)

pub returns-then-is_trace-clause-unbroken : goal.returns-then-is_trace-clause-unbroken
returns-then-is_trace-clause-unbroken c =
    let f = c.in-Ok.form in
    sym c.lines.invariant.unbroken
    ∙ broken-none c.lines.here (c.lines.number + 1) f c.lines.rest.now c.in-Some.bytes.now c.in-Some.behind.now c.in-Some.ensures.parts
    (sym c.form_of.ensures ∙ c.in-Ok.ensures.form) (ap (broken_listing_rule c.lines.here) (sym c.in-Ok.ensures.form) ∙ c.in-Ok.ensures.unbroken)
    (sym c.is_trace.ensures ∙ c.if-is_trace.true)

pub lines-preserved : goal.lines-preserved
lines-preserved c =
    let f = c.in-Ok.form in
    let here = c.lines.here in
    let rest = c.lines.rest.now in
    let bytes = c.in-Some.bytes.now in
    let behind = c.in-Some.behind.now in
    let later = listing_lines (parts 10 behind) in
    let is : form_of_line bytes ≡ Some f = sym c.form_of.ensures ∙ c.in-Ok.ensures.form in
    let good : broken_listing_rule here (Some f) ≡ None = ap (broken_listing_rule here) (sym c.in-Ok.ensures.form) ∙ c.in-Ok.ensures.unbroken in
    let no : is_trace f.line ≡ false = sym c.is_trace.ensures ∙ c.if-is_trace.false in
    record {
      room = omega (arith, c.lines.invariant.room, c.in-Some.ensures.shorter);
      few = omega (arith, c.lines.invariant.few, ap length c.in_ok-push.ensures.ok, length-append c.lines.lines (f.line ∷ []));
      read = ap (λ ls. ls ++ later) c.in_ok-push.ensures.ok ∙ append_assoc c.lines.lines (f.line ∷ []) later
          ∙ ap (λ ls. c.lines.lines ++ ls) (sym (lines-more f rest bytes behind c.in-Some.ensures.parts is no)) ∙ c.lines.invariant.read;
      unbroken = ap (λ h. first_broken h (c.lines.number + 1 + 1) (parts 10 behind)) c.behind_line-here.ensures
          ∙ sym (broken-later here (c.lines.number + 1) f rest bytes behind c.in-Some.ensures.parts is good no) ∙ c.lines.invariant.unbroken;
    }
