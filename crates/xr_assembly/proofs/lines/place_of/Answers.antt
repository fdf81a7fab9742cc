use Rattle.std.proofs.Common.{sym, ap, ◌∙◌}
use Rattle.std.specs.Prelude.{option_and_then}
use Rattle.xr_assembly.proofs.Cutting.{place-of_three}
use Rattle.xr_assembly.proofs.lines.place_of.Goals as goal
use Rattle.xr_assembly.specs.Cuts.{parts}
use Rattle.xr_assembly.specs.Forms.{place_of_parts}

pub returns-in-Some : goal.returns-in-Some
returns-in-Some c =
    let last = c.in-Some.field-0 in
    sym (ap (option_and_then (λ w. place_of_parts (parts 58 w))) c.in_ok-word.ensures
    ∙ place-of_three c.in_ok-word.word.now c.in_ok-line.line.now c.in_ok-line.col.now last.0.now last.1.now c.in_ok-line.ensures.parts c.in-Some.ensures.parts)
