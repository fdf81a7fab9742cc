-- The identifiers by which a runner's code finds its ports, its timers and its channels' ends: the code's plan says where they are to be
-- had, and they name these. A timer is there, too.
use Rattle.std.proofs.Common.{◌≡◌, ℕ, zero, suc, ◌*◌, ◌<◌, List, [], ◌∷◌, length, Some, refl, ap, arith}
use Rattle.std.specs.Prelude.{slice_get}
use Rattle.xs_instr.specs.Resources.{AnEnd, APort, ATimer, named}
use Rattle.xc_kernel.specs.declared.kernel.PortUse.{PortUse}
use Rattle.xc_kernel.specs.declared.kernel.Timer.{Timer}
use Rattle.xc_meaning.specs.States.Channels.{Side}
use Rattle.xl_expr.specs.declared.plan.ResAt.{ResAt}
use Rattle.xl_expr.specs.declared.plan.ResAt.TheVariants.{Fixed}
use Rattle.xl_expr.specs.Identifiers.{IsIdentifier}
use Rattle.xl_expr.specs.Plans.{end_in, resource_at}
use Rattle.xl_plan.specs.Layout.{core_of, end_name, port_name, timer_name}
use Rattle.xl_ends.specs.Ends.{end_of_side}
use Rattle.xr_simulation.specs.Runners.{Setting, Runner, IsChannel, IsLaidOut, IsPort, IsTimer, end_place, home, plan, port_place, relied, timer_place}
use Rattle.xr_simulation.specs.Sizes.{Sizes}
use Rattle.xr_simulation.specs.ThreadViews.{ThreadView}
use Rattle.xr_simulation.specs.NextStep.{IsSized, TimerIs}

-- what is at a place below the length of a list
pub listed_at : {A : Type 0} (xs : List A) (n : ℕ) → n < length xs → (x : A) × (slice_get xs n ≡ Some x)
listed_at [] n lt = absurd (omega arith)
listed_at (x ∷ xs) zero lt = (x, refl)
listed_at (x ∷ xs) (suc n) lt = listed_at xs n (omega arith)

module _ (g : Setting) (r : Runner) where
  -- an identifier that stands where the plan says names a port
  pub record PortIsNamed (p : ℕ) (z : ThreadView) : Type 0 where
    pub at : ResAt
    pub planned : resource_at (plan g r).ports p ≡ Some at
    pub is : IsIdentifier (relied g r) r.stack (4 * r.block.base) z.core.words at (port_name r.core (port_place g r p))
    pub names : named (home g r).number (port_name r.core (port_place g r p)) ≡ APort (port_place g r p)

  -- or a timer
  pub record TimerIsNamed (t : ℕ) (z : ThreadView) : Type 0 where
    pub at : ResAt
    pub planned : resource_at (plan g r).timers t ≡ Some at
    pub is : IsIdentifier (relied g r) r.stack (4 * r.block.base) z.core.words at (timer_name r.core (timer_place g r t))
    pub names : named (home g r).number (timer_name r.core (timer_place g r t)) ≡ ATimer (timer_place g r t)

  -- or a side's end
  pub record EndIsNamed (c : ℕ) (side : Side) (z : ThreadView) : Type 0 where
    pub end : ℕ
    pub is_end : end_of_side (slice_get (plan g r).channels c) (Some side) ≡ Some end
    pub at : ResAt
    pub planned : end_in (plan g r).ends end ≡ Some at
    pub is : IsIdentifier (relied g r) r.stack (4 * r.block.base) z.core.words at (end_name r.core (end_place g r c side))
    pub names : named (home g r).number (end_name r.core (end_place g r c side)) ≡ AnEnd (end_place g r c side)

  -- in the outermost block all of them are fixed

  pub port_named : IsLaidOut g r → (z : ThreadView) (p : ℕ) (listed : PortUse) → IsPort g r p listed → PortIsNamed p z
  port_named laid z p listed is = record {
    at = Fixed (port_name r.core (port_place g r p));
    planned = laid.identifiers p listed is;
    is = refl;
    names = laid.names p listed is;
  }

  pub timer_named : IsLaidOut g r → (z : ThreadView) (t : ℕ) (listed : Timer) → IsTimer g r t listed → TimerIsNamed t z
  timer_named laid z t listed is = record {
    at = Fixed (timer_name r.core (timer_place g r t));
    planned = laid.timer_identifiers t listed is;
    is = refl;
    names = laid.timer_names t listed is;
  }

  -- where the core has as many timers as the image gives it, the runner's are there
  pub timer_there : IsLaidOut g r → (z : ThreadView) (t : ℕ) (listed : Timer) → IsTimer g r t listed → IsSized g r z → TimerIs g r t z
  timer_there laid z t listed is sized =
      let few = laid.timers t listed is in
      let many = ap (λ (s : Sizes). s.timers) sized in
      let at = listed_at z.core.timers (timer_place g r t) (omega (arith, few, many)) in
      record { timer = at.0; there = at.1 }

  pub end_named : IsLaidOut g r → (z : ThreadView) (c : ℕ) (side : Side) → IsChannel g r c → core_of g.program c side ≡ r.core →
      EndIsNamed c side z
  end_named laid z c side used here =
      let planned = laid.ends c side used here in
      record {
        end = planned.place;
        is_end = planned.is;
        at = Fixed (end_name r.core (end_place g r c side));
        planned = planned.identifier;
        is = refl;
        names = planned.names;
      }
