use Rattle.std.proofs.Common.{arith}
use Rattle.std.proofs.lemmas.List.{length-map}
use Rattle.xc_tree.specs.Trees.{program_of, item_of}
use Rattle.xc_names.proofs.Bounds.{few_items, few_names}
use Rattle.xc_names.proofs.resolution.names_of.Goals as goal

pub marks_of-requires : goal.marks_of-requires
marks_of-requires c =
    let a = few_items (program_of c.args.tree.now) in
    let b = few_names (program_of c.args.tree.now) c.requires in
    let e = length-map c.args.tree.now.items item_of in
    omega arith

pub uses_in-uses-requires-clause-few_items : goal.uses_in-uses-requires-clause-few_items
uses_in-uses-requires-clause-few_items c =
    let a = few_items (program_of c.args.tree.now) in
    let b = few_names (program_of c.args.tree.now) c.requires in
    let d = c.in_ok-all.ensures.starts.one_more in
    rw c.as_slice-2.ensures (omega arith)

pub uses_in-uses-requires-clause-few_names : goal.uses_in-uses-requires-clause-few_names
uses_in-uses-requires-clause-few_names c = rw (c.as_slice.ensures, c.in_ok-all.ensures.all) (few_names (program_of c.args.tree.now) c.requires)
