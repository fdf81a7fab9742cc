use Rattle.std.proofs.Common.{◌≡◌, ◌+◌, ◌∙◌, ◌++◌, List, Vec, Global, ap, append-nil, drop, get_or, refl, subst, sym}
use Rattle.std.proofs.Math.ListN.{drop_of_length-le}
use Rattle.xl_statements.specs.declared.leaving.JumpTarget.TheVariants.{BlockEnd}
use Rattle.xl_statements.specs.declared.leaving.Leaving.{Leaving}
use Rattle.xl_statements.specs.Landing.{others_leaving}
use Rattle.xl_statements.proofs.Closing.{other_dropped, other_kept, unseen_at}
use Rattle.xl_statements.proofs.leaving.push_others.Goals as goal
use Rattle.xl_statements.proofs.leaving.push_others.Goals.{then-not-is_same+in-Ok, else-not-is_same}

abbrev none : Leaving
none = record { target = BlockEnd 0; hole = record { index = 0 } }

pub loop-jump-init : goal.loop-jump-init
loop-jump-init c = refl

pub loop-jump-preserved : goal.loop-jump-preserved
loop-jump-preserved c =
    let all = c.args.inner.now in
    let i = c.loop-jump.jump-index in
    let ended = c.args.ended in
    let x = get_or all i none in
    let unseen = drop (i + 1) all in
    let held = c.loop-jump.left.items in
    let whole = c.args.left.now.items ++ others_leaving ended all in
    let h = subst (λ (l : List Leaving). whole ≡ held ++ others_leaving ended l) (unseen_at all i none c.loop-jump-test.true) c.loop-jump.invariant in
    elim c.if-not-is_same.branch [
      | then-not-is_same+in-Ok w ↦
          other_kept ended whole held x unseen h (sym c.is_same.ensures ∙ w.if-not-is_same.true)
          ∙ ap (λ (l : List Leaving). l ++ others_leaving ended unseen) (sym (ap (λ (v : Vec Leaving Global). v.items) w.left-is ∙ w.in-Ok.ensures.items))
      | else-not-is_same w ↦
          other_dropped ended whole held x unseen h (sym c.is_same.ensures ∙ w.if-not-is_same.false)
          ∙ ap (λ (v : Vec Leaving Global). v.items ++ others_leaving ended unseen) (sym w.left-is)
    ]

pub returns : goal.returns
returns c =
    sym (c.loop-jump.invariant
    ∙ ap (λ (l : List Leaving). c.loop-jump.left.items ++ others_leaving c.args.ended l) (drop_of_length-le c.args.inner.now c.loop-jump-test.false)
    ∙ append-nil c.loop-jump.left.items)
