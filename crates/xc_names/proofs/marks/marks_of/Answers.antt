use Rattle.std.proofs.Common.{◌≡◌, ℕ, ◌≤◌, List, length, map, sym, ◌∙◌, arith}
use Rattle.std.proofs.lemmas.List.{length-map}
use Rattle.xc_tree.specs.declared.tree.Item.{Item}
use Rattle.xc_tree.specs.Trees.{item_of}
use Rattle.xc_names.proofs.Starts.{begin, onward, at_end}
use Rattle.xc_names.proofs.marks.marks_of.Goals as goal

pub loop-k-init : goal.loop-k-init
loop-k-init c = rw (c.new-all.ensures, c.new-starts.ensures) (begin _)

pub loop-k-preserved : goal.loop-k-preserved
loop-k-preserved c =
    let next = onward c.as_slice-item-items.result.now c.loop-k.k c.loop-k.all c.loop-k.starts c.item-item.result c.item-item.is c.loop-k-test.true c.loop-k.invariant in
    rw (c.in_ok-add_item.ensures, c.in_ok-push.ensures.ok, c.len.ensures) next

reached : (items : List Item) (k : ℕ) → k ≤ length items → length items ≤ k → k ≡ length (map item_of items)
reached items k h g = let e : k ≡ length items = omega arith in e ∙ sym (length-map items item_of)

pub returns-clause-all : goal.returns-clause-all
returns-clause-all c =
    let done = at_end _ c.loop-k.k c.loop-k.all c.loop-k.starts (reached c.as_slice-item-items.result.now c.loop-k.k (omega arith) c.loop-k-test.false) c.loop-k.invariant in
    rw (sym c.as_slice-item-items.ensures) done.0

pub returns-clause-starts : goal.returns-clause-starts
returns-clause-starts c =
    let done = at_end _ c.loop-k.k c.loop-k.all c.loop-k.starts (reached c.as_slice-item-items.result.now c.loop-k.k (omega arith) c.loop-k-test.false) c.loop-k.invariant in
    rw (sym c.as_slice-item-items.ensures, c.in_ok-push-2.ensures.ok, c.len-2.ensures) done.1
