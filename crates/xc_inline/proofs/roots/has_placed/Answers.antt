use Rattle.std.proofs.Common.{ap, sym, ◌∙◌, is_some}
use Rattle.xc_tree.specs.declared.tree.Branch.{Branch}
use Rattle.xc_tree.specs.Trees.{action_of}
use Rattle.xc_tree.proofs.Forms.{action-Par, action-Repl}
use Rattle.xc_kernel.specs.Roots.{action_has_placed}
use Rattle.xc_inline.proofs.Laws.Kinds.{placeless}
use Rattle.xc_inline.proofs.Laws.Roots.{is_placed_as}
use Rattle.xc_inline.proofs.roots.has_placed.Goals as goal

pub returns-in_default : goal.returns-in_default
returns-in_default c = placeless c.deref.result.now c.in_default.not-Par c.in_default.not-Repl ∙ ap (λ k. action_has_placed (action_of k)) c.deref.ensures

pub returns-in-Par : goal.returns-in-Par
returns-in-Par c = rw (← c.deref.ensures, c.in-Par.is, action-Par, ← c.as_slice.ensures) c.some_placed.ensures

pub returns-then-is_some : goal.returns-then-is_some
returns-then-is_some c =
    let placed = is_placed_as c.in-Repl.body.value ∙ sym (c.if-is_some.ensures ∙ ap (λ (b : Branch). is_some b.place) c.deref-in-Repl.ensures) in
    rw (← c.deref.ensures, c.in-Repl.is, action-Repl, placed)

pub returns-else-is_some : goal.returns-else-is_some
returns-else-is_some c =
    let unplaced = is_placed_as c.in-Repl.body.value ∙ sym (c.if-is_some.ensures ∙ ap (λ (b : Branch). is_some b.place) c.deref-in-Repl.ensures) in
    rw (← c.deref.ensures, c.in-Repl.is, action-Repl, unplaced) c.if-is_some.false
