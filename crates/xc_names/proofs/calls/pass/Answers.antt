use Rattle.std.proofs.Common.{◌≡◌, ℕ, ◌≤◌, subst, arith}
use Rattle.xc_tree.specs.Least.{IsLeastOf}
use Rattle.xc_names.specs.Searches.{Adds, IsBackBefore}
use Rattle.xc_names.proofs.Searches.{pass_on, passed_adds, passed_back}
use Rattle.xc_names.proofs.calls.pass.Goals as goal

pub loop-at-preserved : goal.loop-at-preserved
loop-at-preserved c =
    rw c.earlier-best.ensures
    (pass_on c.args.marks.now c.args.meant.now c.body-first.result.0 c.loop-at.at c.args.goal c.args.reached.now.keys c.loop-at.reached.keys c.follow.new.reached.keys c.loop-at.best c.in_ok-follow.field-0 c.loop-at.invariant c.in_ok-follow.ensures.adds c.in_ok-follow.ensures.back)

reached : (a b c : ℕ) → a ≤ b → a ≤ c → c ≤ b → b ≤ c → c ≡ b
reached a b c h i j k = omega arith

pub returns-clause-adds : goal.returns-clause-adds
returns-clause-adds c =
    let e : c.loop-at.at ≡ c.body-first.result.1 = let h = c.body-first.ensures.ordered in omega arith in
    passed_adds c.args.marks.now c.args.meant.now c.args.starts.now _ c.args.f c.body-first.result.0 c.body-first.result.1 c.body-first.ensures c.args.reached.now.keys c.loop-at.reached.keys
    (subst (λ (u : ℕ). Adds c.args.marks.now c.args.meant.now c.body-first.result.0 u c.args.reached.now.keys c.loop-at.reached.keys) e c.loop-at.invariant.adds)

pub returns-clause-back : goal.returns-clause-back
returns-clause-back c =
    let e : c.loop-at.at ≡ c.body-first.result.1 = let h = c.body-first.ensures.ordered in omega arith in
    passed_back c.args.marks.now c.args.meant.now c.args.starts.now _ c.args.f c.body-first.result.0 c.body-first.result.1 c.body-first.ensures c.args.goal c.loop-at.best
    (subst (λ (u : ℕ). IsLeastOf (IsBackBefore c.args.marks.now c.args.meant.now c.body-first.result.0 u c.args.goal) c.loop-at.best) e c.loop-at.invariant.back)
