use Rattle.std.proofs.Common.{◌≡◌, drop, map}
use Rattle.xc_tree.specs.Plain as plain
use Rattle.xc_tree.specs.Shapes.Main.{is_channels_par_return}
use Rattle.xc_tree.specs.Trees.{statement_of}
use Rattle.xc_types.proofs.main_function.is_channels_par_return.Given as goal

abbrev pub invariant-loop-i : goal.invariant-loop-i
invariant-loop-i l = is_channels_par_return (plain.statements (map statement_of l.ss)) ≡ is_channels_par_return (plain.statements (map statement_of (drop l.i l.ss)))
