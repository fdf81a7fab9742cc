use Rattle.std.proofs.Common.{◌+◌, ◌++◌, [], ◌∷◌, List, Option, ℕ, drop, sym, ap, ◌∙◌, append_assoc}
use Rattle.xc_size.specs.Callees.{called_numbers}
use Rattle.xc_size.specs.Numbers.{number_of}
use Rattle.xc_size.proofs.Called.{numbers_step}
use Rattle.xc_size.proofs.callees.callees.Goals as goal

pub loop-mark-preserved : goal.loop-mark-preserved
loop-mark-preserved c =
    let number = number_of c.args.names.now in
    let marks = c.as_slice-mark-items.result.now in
    let mark = c.mark-item.result in
    let here = called_numbers number (mark ∷ []) in
    let rest = called_numbers number (drop (c.loop-mark.mark-index + 1) marks) in
    c.loop-mark.invariant
    ∙ ap (λ (ns : List (Option ℕ)). c.loop-mark.list ++ ns) (numbers_step number marks c.loop-mark.mark-index mark c.mark-item.is c.loop-mark-test.true)
    ∙ sym (append_assoc c.loop-mark.list here rest)
    ∙ ap (λ (ns : List (Option ℕ)). ns ++ rest) (sym c.in_ok-add.ensures)
