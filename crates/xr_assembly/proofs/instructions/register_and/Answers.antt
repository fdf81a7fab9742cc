use Rattle.std.proofs.Common.{sym, ap, ◌∙◌}
use Rattle.xr_assembly.proofs.instructions.register_and.Goals as goal
use Rattle.xr_assembly.specs.Cuts.{the_one_named}
use Rattle.xr_assembly.specs.Instructions.{on_register_and, on_register_and_number}
use Rattle.xr_text.specs.Names.{name_of}

pub returns-in-Register : goal.returns-in-Register
returns-in-Register c =
    c.two_register_instr.ensures ∙ ap (λ b. the_one_named name_of (on_register_and c.args.a b) c.args.name.now) (sym c.in-Register.is)

pub returns-in-Number : goal.returns-in-Number
returns-in-Number c =
    c.register_and_number_instr.ensures
    ∙ ap (λ n. the_one_named name_of (on_register_and_number c.args.a n) c.args.name.now) c.unwrap_or.ensures
    ∙ ap (λ b. the_one_named name_of (on_register_and c.args.a b) c.args.name.now) (sym c.in-Number.is)
