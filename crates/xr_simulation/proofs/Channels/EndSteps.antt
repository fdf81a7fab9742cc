-- What a step on a channel's end leaves of the core: the thread goes on, and of the rest the ends alone are others.
use Rattle.std.proofs.Common.{◌≡◌, ℕ, ◌+◌, List, Some, None, length, refl, ap, sym, ◌∙◌}
use Rattle.std.specs.Prelude.{slice_get}
use Rattle.std.proofs.lemmas.List.{length-set}
use Rattle.std.proofs.lemmas.Option.{same_Some}
use Rattle.xs_instr.specs.declared.state.ChanEnd.{ChanEnd}
use Rattle.xs_instr.specs.declared.state.CoreState.{CoreState}
use Rattle.xs_instr.specs.declared.state.Regs.{Regs}
use Rattle.xs_instr.specs.declared.state.Thread.{Thread}
use Rattle.xs_instr.specs.Rows.{goes_on, put_ends}
use Rattle.xc_meaning.specs.States.Worlds.{World}
use Rattle.xl_expr.proofs.Lists.{get_set_same, get_set_other}
use Rattle.xl_expr.proofs.ResourceParts.{others_same}
use Rattle.xr_simulation.specs.Runners.{Runner, Setting}
use Rattle.xr_simulation.specs.ThreadViews.{Guarantee, running}
use Rattle.xr_simulation.proofs.Channels.Advances.{Advance}
use Rattle.xr_simulation.proofs.Relation.Sizes.{ends_sized}

module _ (g : Setting) (r : Runner) (a : CoreState) (pc : ℕ) (regs regs' : Regs) (here : slice_get a.threads r.thread ≡ Some (running r.tie pc regs)) (ends : List ChanEnd) where
  abbrev pub left : CoreState
  left = goes_on (put_ends a ends) r.thread (running r.tie pc regs) regs'

  -- the thread is at the next instruction
  pub gone_on : slice_get left.threads r.thread ≡ Some (running r.tie (pc + 1) regs')
  gone_on = get_set_same a.threads r.thread (running r.tie pc regs) (running r.tie (pc + 1) regs') here

  pub touches : length ends ≡ length a.ends → (x : World) → Guarantee g r (record { core = a; world = x; hand = None }) (record { core = left; world = x; hand = None })
  touches size x = record {
    clock = refl;
    others = λ u ne free. get_set_other a.threads r.thread u (running r.tie (pc + 1) regs') ne;
    as_many = length-set a.threads r.thread (running r.tie (pc + 1) regs');
    words = λ w n. refl;
    sizes = ends_sized a ends size;
    resources = others_same _ _ _ _ refl refl refl;
  }

  pub tied_still : (thread : Thread) → slice_get left.threads r.thread ≡ Some thread → thread.tie ≡ r.tie
  tied_still thread there = ap (λ (k : Thread). k.tie) (same_Some thread (running r.tie (pc + 1) regs') (sym there ∙ gone_on))

  pub advance : length ends ≡ length a.ends → Advance g r a left
  advance size = record { guarantee = touches size; syncs = refl; roots = refl; tied = tied_still }
