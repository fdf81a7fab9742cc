use Rattle.std.proofs.Common.{◌≡◌, ◌+◌, ap, subst, sym, ◌∙◌, None, Some}
use Rattle.xr_stim.proofs.Goods.{few_lines, good-append, line_fits}
use Rattle.xr_stim.proofs.Reading.{all-read, line-broken, line-found, line-skipped, SoFar}
use Rattle.xr_stim.proofs.reader.read_stim.Goals as goal
use Rattle.xr_stim.specs.Forms.{form}
use Rattle.xr_stim.specs.Stimulus.{broken_rule, line_of}
use Rattle.xs_instr.specs.Valid.{AreGoodLines}

pub returns-in-Err-clause-broken : goal.returns-in-Err-clause-broken
returns-in-Err-clause-broken c =
    line-broken c.args.text.now c.lines.rest.now c.lines.number c.lines.last c.lines.lines c.in-Some.line.now c.in-Some.behind.now c.in-Err.rule
    c.lines.invariant.so_far c.in-Some.ensures.line (ap (broken_rule c.lines.last (c.lines.number + 1)) (sym c.form_of.ensures) ∙ c.in-Err.ensures.broken)

pub lines-preserved-in_ok-push-in-Ok-Some : goal.lines-preserved-in_ok-push-in-Ok-Some
lines-preserved-in_ok-push-in-Ok-Some c =
    let line = c.in-Some.line.now in
    let unbroken : broken_rule c.lines.last (c.lines.number + 1) (form line) ≡ None =
    ap (broken_rule c.lines.last (c.lines.number + 1)) (sym c.form_of.ensures) ∙ c.in-Ok-Some.ensures.unbroken in
    let says : line_of (form line) ≡ Some c.in-Ok-Some.line =
    ap line_of (sym c.form_of.ensures) ∙ sym c.in-Ok-Some.ensures.line ∙ c.in-Ok-Some.field-0-is in
    record {
      few = few_lines c.lines.last (c.lines.number + 1) (form line) unbroken;
      good = subst (AreGoodLines 0) (sym c.in_ok-push-in-Ok-Some.ensures.ok)
          (good-append 0 c.lines.last c.lines.lines c.in-Ok-Some.line c.lines.invariant.good c.lines.invariant.so_far.last
          (line_fits line c.lines.last (c.lines.number + 1) c.in-Ok-Some.line unbroken says));
      so_far = subst (SoFar c.args.text.now c.in-Some.behind.now (c.lines.number + 1) c.in-Ok-Some.line.tick) (sym c.in_ok-push-in-Ok-Some.ensures.ok)
          (line-found c.args.text.now c.lines.rest.now c.lines.number c.lines.last c.lines.lines line c.in-Some.behind.now c.in-Ok-Some.line
          c.lines.invariant.so_far c.in-Some.ensures.line unbroken says);
    }

pub lines-preserved : goal.lines-preserved
lines-preserved c =
    let line = c.in-Some.line.now in
    let unbroken : broken_rule c.lines.last (c.lines.number + 1) (form line) ≡ None =
    ap (broken_rule c.lines.last (c.lines.number + 1)) (sym c.form_of.ensures) ∙ c.in-Ok-None.ensures.unbroken in
    let says : line_of (form line) ≡ None = ap line_of (sym c.form_of.ensures) ∙ sym c.in-Ok-None.ensures.line ∙ c.in-Ok-None.field-0-is in
    record {
      few = few_lines c.lines.last (c.lines.number + 1) (form line) unbroken;
      good = c.lines.invariant.good;
      so_far = line-skipped c.args.text.now c.lines.rest.now c.lines.number c.lines.last c.lines.lines line c.in-Some.behind.now
          c.lines.invariant.so_far c.in-Some.ensures.line unbroken says;
    }

pub returns-clause-means : goal.returns-clause-means
returns-clause-means c =
    all-read c.args.text.now c.lines.rest.now c.lines.number c.lines.last c.lines.lines c.lines.invariant.so_far c.in_default.ensures.line
