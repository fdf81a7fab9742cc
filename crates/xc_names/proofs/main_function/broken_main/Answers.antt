use Rattle.std.proofs.Common.{ℕ, ◌<◌, ◌≤◌, List, length, map, sym, ◌∙◌, arith}
use Rattle.std.proofs.lemmas.List.{length-map}
use Rattle.std.proofs.lemmas.Option.{slice_get_within}
use Rattle.xc_tree.specs.declared.tree.Item.{Item}
use Rattle.xc_tree.specs.Trees.{item_of}
use Rattle.xc_tree.specs.Names.Rules.{IsMain}
use Rattle.xc_names.proofs.Mains.{found_main, no_main, item_at, with_main, without_main, none_so_far}
use Rattle.xc_names.proofs.main_function.broken_main.Goals as goal

pub returns-then-is_main : goal.returns-then-is_main
returns-then-is_main c =
    let items = c.as_slice-item-items.result.now in
    let m = found_main (map item_of items) c.loop-item.item-index (item_of c.item-item.result) (item_at items c.loop-item.item-index c.item-item.result c.item-item.is c.loop-item-test.true) (sym c.is_main.ensures ∙ c.if-is_main.true) in
    rw (sym c.as_slice-item-items.ensures) (with_main (map item_of items) c.loop-item.item-index m)

pub loop-item-preserved : goal.loop-item-preserved
loop-item-preserved c =
    let items = c.as_slice-item-items.result.now in
    none_so_far (map item_of items) c.loop-item.item-index c.loop-item.invariant (no_main (map item_of items) c.loop-item.item-index (item_of c.item-item.result) (item_at items c.loop-item.item-index c.item-item.result c.item-item.is c.loop-item-test.true) (sym c.is_main.ensures ∙ c.if-is_main.false))

all_seen : (items : List Item) (n : ℕ) → length items ≤ n → ((k : ℕ) → k < n → IsMain (map item_of items) k → ⊥) → (k : ℕ) → IsMain (map item_of items) k → ⊥
all_seen items n h none k m =
    let less = slice_get_within (map item_of items) k _ m.there in
    let long = length-map items item_of in
    none k (omega arith) m

pub returns : goal.returns
returns c =
    let items = c.as_slice-item-items.result.now in
    rw (sym c.as_slice-item-items.ensures) (without_main (map item_of items) (all_seen items c.loop-item.item-index c.loop-item-test.false c.loop-item.invariant))
