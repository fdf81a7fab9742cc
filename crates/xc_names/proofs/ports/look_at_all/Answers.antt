use Rattle.std.proofs.Common.{ℕ, ◌≤◌, List, length, map, sym, arith}
use Rattle.std.proofs.lemmas.List.{length-map}
use Rattle.xc_tree.specs.declared.tree.Item.{Item}
use Rattle.xc_tree.specs.Trees.{item_of}
use Rattle.xc_names.specs.Taken.{is_taken}
use Rattle.xc_names.proofs.Mains.{item_at}
use Rattle.xc_names.proofs.PortRules.{none_seen, see_item, all_seen}
use Rattle.xc_names.proofs.ports.look_at_all.Goals as goal

pub loop-item-init : goal.loop-item-init
loop-item-init c = none_seen _ (is_taken c.args.taken.now) c.requires

pub loop-item-preserved : goal.loop-item-preserved
loop-item-preserved c =
    let items = c.as_slice-item-items.result.now in
    rw (c.earlier-best.ensures, c.in_ok-look_at.ensures.rule)
    (see_item (map item_of items) c.loop-item.item-index (item_of c.item-item.result) (is_taken c.loop-item.taken) (is_taken c.look_at.new.taken) c.loop-item.best (item_at items c.loop-item.item-index c.item-item.result c.item-item.is c.loop-item-test.true) c.loop-item.invariant c.in_ok-look_at.ensures.taken)

long : (items : List Item) (n : ℕ) → length items ≤ n → length (map item_of items) ≤ n
long items n h = let e = length-map items item_of in omega arith

pub returns : goal.returns
returns c =
    let items = c.as_slice-item-items.result.now in
    rw (sym c.as_slice-item-items.ensures) (all_seen (map item_of items) c.loop-item.item-index (is_taken c.loop-item.taken) c.loop-item.best (long items c.loop-item.item-index c.loop-item-test.false) c.loop-item.invariant)
