use Rattle.std.proofs.Common.{sym, ap, ◌∙◌}
use Rattle.xr_assembly.proofs.instructions.two_registers_and.Goals as goal
use Rattle.xr_assembly.specs.Cuts.{the_one_named}
use Rattle.xr_assembly.specs.Instructions.{on_two_registers_and}
use Rattle.xr_text.specs.Names.{name_of}

pub returns-in-Register : goal.returns-in-Register
returns-in-Register c =
    c.three_register_instr.ensures
    ∙ ap (λ d. the_one_named name_of (on_two_registers_and c.args.a c.args.b d) c.args.name.now) (sym c.in-Register.is)
