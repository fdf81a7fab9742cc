use Rattle.std.proofs.Common.{Bool, List, map, if◌then◌else◌, refl, sym, ap, ◌∙◌}
use Rattle.xc_tree.specs.declared.tree.Declared.{Declared}
use Rattle.xc_tree.specs.Shapes.Main.{are_channels}
use Rattle.xc_tree.specs.Trees.{declaration_of}
use Rattle.xc_tree.proofs.Forms.{statement-Stmt, action-Decl, action-Par, action-Repl, action-Return}
use Rattle.xc_types.specs.declared.main_function.Part.TheVariants.{Channels, Par, Other}
use Rattle.xc_types.proofs.Mains.{other_part}
use Rattle.xc_types.proofs.main_function.part_of.Goals as goal

-- whether some declarations are of channels alone
abbrev channels : List Declared → Bool
channels ds = are_channels (map declaration_of ds)

pub returns-then-are_channels : goal.returns-then-are_channels
returns-then-are_channels c =
    rw (statement-Stmt, ← c.deref.ensures, c.in-Decl.is, action-Decl)
    (sym (ap (λ b. if b then Channels else Other) (ap channels (sym c.as_slice.ensures) ∙ sym c.are_channels.ensures ∙ c.if-are_channels.true)))

pub returns-else-are_channels : goal.returns-else-are_channels
returns-else-are_channels c =
    rw (statement-Stmt, ← c.deref.ensures, c.in-Decl.is, action-Decl)
    (sym (ap (λ b. if b then Channels else Other) (ap channels (sym c.as_slice.ensures) ∙ sym c.are_channels.ensures ∙ c.if-are_channels.false)))

pub returns-in-Par : goal.returns-in-Par
returns-in-Par c = rw (statement-Stmt, ← c.deref.ensures, c.in-Par.is, action-Par, ← c.as_slice-in-Par.ensures) (ap Par c.has_placed.ensures)

pub returns-in-Repl : goal.returns-in-Repl
returns-in-Repl c = rw (statement-Stmt, ← c.deref.ensures, c.in-Repl.is, action-Repl, ← c.deref-in-Repl.ensures) (ap Par c.is_placed.ensures)

pub returns-in-Return : goal.returns-in-Return
returns-in-Return c = rw (statement-Stmt, ← c.deref.ensures, c.in-Return.is, action-Return) refl

pub returns-in_default : goal.returns-in_default
returns-in_default c = other_part c.args.s.now c.deref.result.now c.deref.ensures c.in_default.not-Decl c.in_default.not-Par c.in_default.not-Repl c.in_default.not-Return
