use Rattle.std.proofs.Common.{ap, sym, ◌∙◌, ◌++◌, ◌∷◌, [], map, append-nil}
use Rattle.xc_tree.specs.Trees.{item_of}
use Rattle.xc_kernel.specs.Ports.{port_use}
use Rattle.xc_kernel.specs.Programs.{ports}
use Rattle.xc_flat.proofs.program.add_port_use.Goals as goal

pub returns-in-Func : goal.returns-in-Func
returns-in-Func c =
    sym (append-nil c.args.ports.now)
    ∙ ap (λ item. c.args.ports.now ++ map port_use (ports (item_of item ∷ []))) (sym c.in-Func.is)

pub returns-in_ok-push-in-Port : goal.returns-in_ok-push-in-Port
returns-in_ok-push-in-Port c =
    c.in_ok-push-in-Port.ensures.ok
    ∙ ap (λ entry. c.args.ports.now ++ entry ∷ []) c.in_ok-entry-in-Port.ensures
    ∙ ap (λ item. c.args.ports.now ++ map port_use (ports (item_of item ∷ []))) (sym c.in-Port.is)
