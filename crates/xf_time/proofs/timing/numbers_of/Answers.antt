use Rattle.std.proofs.Common.{◌+◌, MatchOption, refl, sym, subst, get_or}
use Rattle.xf_time.proofs.Numbers.{NumbersTo, next_held, one_more}
use Rattle.xf_time.proofs.timing.numbers_of.Goals as goal
use Rattle.xf_time.specs.Bounds.{IsHeld, IsNumberOf}

pub returns-in-None-clause-held : goal.returns-in-None-clause-held
returns-in-None-clause-held c =
    let route = (get_or c.args.routes.now c.loop-line.line-index _).route in (
      refl,
      next_held c.args.image.now c.args.routes.now c.loop-line.numbers c.loop-line.line-index _ c.loop-line-test.true c.loop-line.invariant
          (subst (λ r. MatchOption r (IsHeld c.args.image.now route) (λ n. IsNumberOf c.args.image.now route n)) c.in-None.is c.in_ok-number.ensures),
    )

pub loop-line-preserved : goal.loop-line-preserved
loop-line-preserved c =
    let route = (get_or c.args.routes.now c.loop-line.line-index _).route in
    subst (λ ns. NumbersTo c.args.image.now c.args.routes.now ns (c.loop-line.line-index + 1)) (sym c.in_ok-push-in-Some.ensures.ok)
    (one_more c.args.image.now c.args.routes.now c.loop-line.numbers c.loop-line.line-index c.in-Some.number _ c.loop-line.invariant
    (subst (λ r. MatchOption r (IsHeld c.args.image.now route) (λ n. IsNumberOf c.args.image.now route n)) c.in-Some.is c.in_ok-number.ensures))
