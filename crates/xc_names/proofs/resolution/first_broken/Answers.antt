use Rattle.std.proofs.Common.{List, length, subst}
use Rattle.xc_tree.specs.declared.names.Mark.{Mark}
use Rattle.xc_tree.specs.Trees.{program_of}
use Rattle.xc_tree.specs.Least.{IsLeastOf}
use Rattle.xc_names.specs.Meanings.{AreMeanings}
use Rattle.xc_names.specs.Searches.{IsBackToOne}
use Rattle.xc_names.proofs.Cycles.{cycle_rule}
use Rattle.xc_names.proofs.Together.{are_within, together}
use Rattle.xc_names.proofs.resolution.first_broken.Goals as goal

pub broken_call-requires-clause-starts : goal.broken_call-requires-clause-starts
broken_call-requires-clause-starts c = are_within (program_of c.args.tree.now) c.args.marks.now c.args.starts.now c.requires.marks c.requires.starts

pub returns : goal.returns
returns c =
    let program = program_of c.args.tree.now in
    rw (c.earlier-2.ensures, c.earlier.ensures, c.earlier-names_and_ports.ensures)
    (together program c.args.marks.now c.requires.marks c.broken_name.result c.in_ok-broken_port.field-0 c.in_ok-calls.calls c.broken_main.result c.broken_name.ensures c.in_ok-broken_port.ensures
    (cycle_rule program c.args.meant.now c.args.starts.now (subst (λ (ms : List Mark). AreMeanings ms c.args.meant.now) c.requires.marks c.requires.meant) c.requires.starts c.in_ok-calls.calls
    (subst (λ (ms : List Mark). IsLeastOf (IsBackToOne ms c.args.meant.now c.args.starts.now (length c.args.starts.now)) c.in_ok-calls.calls) c.requires.marks c.in_ok-calls.ensures))
    c.broken_main.ensures)
