-- How many names a program declares.
use Rattle.std.proofs.Common.{ℕ, ◌+◌, ◌<◌, ◌≤◌, ◌^◌, List, [], ◌∷◌, length, arith}
use Rattle.xc_tree.specs.Plain as plain
use Rattle.xc_tree.specs.Names.Marks.{of_item, of_items, of_program, optional, of_place, declares}
use Rattle.xc_tree.specs.declared.names.What.TheVariants as what
use Rattle.xc_tree.specs.Derives.{unlimited}
use Rattle.xc_tree.specs.Programs.{IsParsed}
use Rattle.xc_names.proofs.Declared.{count, count_append, program_bounded}

item_counts : (k : ℕ) (i : plain.Item) → 1 ≤ count (of_item k i)
item_counts k (plain.port p) = let e = count_append (optional of_place p.place) (declares p.name (what.Port p.dir) ∷ []) in omega arith
item_counts k (plain.function h b) = omega arith

items_count : (k : ℕ) (is : List plain.Item) → length is ≤ count (of_items k is)
items_count k [] = omega arith
items_count k (i ∷ is) =
    let e = count_append (of_item k i) (of_items (k + 1) is) in
    let h = items_count (k + 1) is in
    let g = item_counts k i in
    omega arith

pub few_items : (program : List plain.Item) → length program ≤ count (of_program program)
unfolding of_program
few_items program = items_count 0 program

pub few_names : (program : List plain.Item) → IsParsed program → count (of_program program) < 2 ^ 32
unfolding of_program
few_names program p = let e = program_bounded p.toks unlimited program p.derived in let f = p.few in omega arith
