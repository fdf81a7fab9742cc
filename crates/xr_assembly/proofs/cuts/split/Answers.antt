use Rattle.std.proofs.Common.{◌≡◌, ℕ, Bool, length, unwrap_or, arith, ap, ◌∙◌}
use Rattle.std.specs.List.{position_or_len}
use Rattle.std.specs.Prelude.{◌==◌}
use Rattle.xr_assembly.proofs.Cutting.{cut-at}
use Rattle.xr_assembly.proofs.cuts.split.Goals as goal
use Rattle.xr_stim.proofs.PartLemmas.{one_part, place-found}

pub returns-in-Some-clause-parts : goal.returns-in-Some-clause-parts
returns-in-Some-clause-parts c =
    let text = c.args.text.now in
    let p : ℕ → Bool = λ b. b == c.args.byte in
    cut-at p text c.in-Some.place (ap (λ o. unwrap_or o (length text)) c.in-Some.ensures.place ∙ place-found p text) c.in-Some.ensures.within

pub returns-in-None-clause-parts : goal.returns-in-None-clause-parts
returns-in-None-clause-parts c =
    let text = c.args.text.now in
    let p : ℕ → Bool = λ b. b == c.args.byte in
    let all : length text ≡ position_or_len p text = ap (λ o. unwrap_or o (length text)) c.in-None.ensures.place ∙ place-found p text in
    one_part p text (omega arith)
