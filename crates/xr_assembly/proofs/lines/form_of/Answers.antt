use Rattle.std.proofs.Common.{◌∷◌, sym, ap, ◌∙◌}
use Rattle.xr_assembly.proofs.Cutting.{form-of_seven}
use Rattle.xr_assembly.proofs.lines.form_of.Goals as goal

pub returns-in-Some-split-5 : goal.returns-in-Some-split-5
returns-in-Some-split-5 c =
    let first = c.in-Some.first.now in
    let second = c.in-Some-split.second.now in
    let third = c.in-Some-split-2.third.now in
    let fourth = c.in-Some-split-3.fourth.now in
    let fifth = c.in-Some-split-4.fifth.now in
    let last = c.in-Some-split-5.field-0 in
    sym (form-of_seven c.args.line.now last.1.now first second third fourth fifth last.0.now
    (c.in-Some.ensures.parts ∙ ap (λ ps. first ∷ ps) (c.in-Some-split.ensures.parts ∙ ap (λ ps. second ∷ ps) (c.in-Some-split-2.ensures.parts
    ∙ ap (λ ps. third ∷ ps) (c.in-Some-split-3.ensures.parts ∙ ap (λ ps. fourth ∷ ps) (c.in-Some-split-4.ensures.parts
    ∙ ap (λ ps. fifth ∷ ps) c.in-Some-split-5.ensures.parts))))))
