use Rattle.std.proofs.Common.{◌≡◌, ◌∙◌, ◌+◌, ℕ, Bool, true, List, [], ◌∷◌, ◌++◌, ap, arith, cond, replicate}
use Rattle.std.proofs.lemmas.List.{replicate_more}
use Rattle.std.specs.Result.{is_ok}
use Rattle.xs_instr.specs.declared.state.ChanEnd.{ChanEnd}
use Rattle.xs_instr.specs.Machine.{boot_end}
use Rattle.xs_chanend.proofs.ends.Ends.new.Goals as goal

-- one more end as it starts
one_more : (old new : List ChanEnd) (n : ℕ) (end : ChanEnd) (ok : Bool) → old ≡ replicate n boot_end → end ≡ boot_end → ok ≡ true →
    new ≡ cond ok (old ++ end ∷ []) old → new ≡ replicate (n + 1) boot_end
one_more old new n end ok before starts e is =
    is
    ∙ ap (λ b. cond b (old ++ end ∷ []) old) e
    ∙ ap (λ ends. ends ++ end ∷ []) before
    ∙ ap (λ x. replicate n boot_end ++ x ∷ []) starts
    ∙ replicate_more n boot_end

pub loop-init : goal.loop-init
loop-init c = c.new-all.ensures.items

pub loop-smaller : goal.loop-smaller
loop-smaller c = omega arith

pub loop-preserved : goal.loop-preserved
loop-preserved c =
    one_more c.loop.all.items _ c.loop.counter _ _ c.loop.invariant c.in_ok-end.ensures (ap is_ok c.in-Ok.is) c.push.ensures.items

pub returns : goal.returns
returns c = c.loop.invariant ∙ ap (λ n. replicate n boot_end) (omega arith)
