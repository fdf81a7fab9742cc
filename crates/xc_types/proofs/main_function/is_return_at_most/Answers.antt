use Rattle.std.proofs.Common.{Bool, ◌&&◌, nat_eq, length, sym, ap, ◌∙◌}
use Rattle.std.specs.Option.{option_copied}
use Rattle.xc_types.proofs.Mains.{first_left}
use Rattle.xc_types.proofs.main_function.is_return_at_most.Goals as goal

pub returns-in-Some : goal.returns-in-Some
returns-in-Some c =
    c.both.ensures
    ∙ ap (λ (b : Bool). nat_eq (length c.args.ss.now) 1 && b) c.is_return.ensures
    ∙ sym (first_left c.args.ss.now c.in-Some.first.now (sym c.first.ensures.value ∙ ap option_copied c.in-Some.is))
