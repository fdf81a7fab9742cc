use Rattle.std.proofs.Common.{◌+◌, length, drop, get_or, sym, ◌∙◌, subst}
use Rattle.xl_statements.specs.declared.leaving.JumpTarget.TheVariants.{BlockEnd}
use Rattle.xl_statements.specs.declared.leaving.Leaving.{Leaving}
use Rattle.xl_statements.proofs.Closing.{Closing, unseen_at, open_here, after_land, after_skip}
use Rattle.xl_statements.proofs.leaving.land_jumps.Goals as goal
use Rattle.xl_statements.proofs.leaving.land_jumps.Goals.{then-is_same, else-is_same}

abbrev none : Leaving
none = record { target = BlockEnd 0; hole = record { index = 0 } }

pub land-requires : goal.land-requires
land-requires c =
    let all = c.args.inner.now in
    let i = c.loop-jump.jump-index in
    let h = subst (Closing c.args.e.now c.args.ended (length c.args.e.now) all c.loop-jump.e) (unseen_at all i none c.loop-jump-test.true) c.loop-jump.invariant in
    open_here c.args.e.now c.args.ended (length c.args.e.now) all c.loop-jump.e (get_or all i none) (drop (i + 1) all) h (sym c.is_same.ensures ∙ c.if-is_same.true)

pub loop-jump-preserved : goal.loop-jump-preserved
loop-jump-preserved c =
    let all = c.args.inner.now in
    let i = c.loop-jump.jump-index in
    let first = c.args.e.now in
    let x = get_or all i none in
    let ended = c.args.ended in
    let h = subst (Closing first ended (length first) all c.loop-jump.e) (unseen_at all i none c.loop-jump-test.true) c.loop-jump.invariant in
    let unseen = drop (i + 1) all in
    elim c.if-is_same.branch [
      | then-is_same w ↦
          subst (λ ls. Closing first ended (length first) all ls unseen) (sym (w.e-is ∙ w.land.ensures))
          (after_land first ended (length first) all c.loop-jump.e x unseen h (sym c.is_same.ensures ∙ w.if-is_same.true) h.size)
      | else-is_same w ↦
          subst (λ ls. Closing first ended (length first) all ls unseen) (sym w.e-is)
          (after_skip first ended (length first) all c.loop-jump.e x unseen h (sym c.is_same.ensures ∙ w.if-is_same.false))
    ]
