-- A select of one case over a timer that is set up for thread 0: nothing that is asked of one is too much.
use Rattle.std.proofs.Common.{◌≡◌, ℕ, zero, suc, [], ◌∷◌, Some, refl, sym, subst}
use Rattle.std.specs.Prelude.{slice_get}
use Rattle.std.proofs.lemmas.Option.{same_Some}
use Rattle.xs_instr.specs.declared.state.CoreState.{CoreState}
use Rattle.xs_instr.specs.declared.state.Res.{Res}
use Rattle.xs_instr.specs.declared.state.Res.TheVariants.{Port as ResPort, Timer as ResTimer, End as ResEnd}
use Rattle.xs_instr.specs.declared.state.Timer.{Timer}
use Rattle.xc_meaning.specs.States.Items.{Body, Choice, after_time}
use Rattle.xc_kernel.specs.declared.statement.KRes.TheVariants.{Timer as OnTimer}
use Rattle.xc_kernel.specs.Plain as kernel
use Rattle.xl_expr.specs.ResourceParts.{IsEnabledFor}
use Rattle.xl_port.specs.Timings.{timer_set}
use Rattle.xr_events.specs.Armed.{IsArmed, IsOfCase, IsSetFor, Places, res_of}

module _ (core : CoreState) (timer : Timer) (input : kernel.Input) (on : input.resource ≡ OnTimer 3) (body : Body) where
  -- timer 3 of the program stands at place 0 of the core
  abbrev places : Places
  places = record { port = λ p. p; timer = λ t. 0; end = λ c. c }

  abbrev choice : Choice
  choice = record { input = input; when = after_time 5; body = body }

  abbrev armed : CoreState
  armed = record core {
    timers = timer_set (after_time 5) timer ∷ [];
    events = record { ports = []; timers = record { vector = 7; owner = Some 0 } ∷ []; ends = [] };
  }

  pub is_armed : IsArmed places 0 (choice ∷ []) armed
  is_armed = record { only = only; enabled = enabled; set = set }
    where
      only : (res : Res) → IsEnabledFor 0 armed.events res → IsOfCase places (choice ∷ []) res
      only (ResTimer zero) h = (0, choice, refl, subst (λ r. ResTimer 0 ≡ res_of places r) (sym on) refl)
      only (ResTimer (suc n)) h = cc
      only (ResPort n) h = cc
      only (ResEnd n) h = cc

      enabled : (n : ℕ) (c : Choice) → slice_get (choice ∷ []) n ≡ Some c → IsEnabledFor 0 armed.events (res_of places c.input.resource)
      enabled zero c h =
          subst
          (λ (d : Choice). IsEnabledFor 0 armed.events (res_of places d.input.resource))
          (same_Some choice c h)
          (subst (λ r. IsEnabledFor 0 armed.events (res_of places r)) (sym on) refl)
      enabled (suc n) c h = cc

      set : (n : ℕ) (c : Choice) → slice_get (choice ∷ []) n ≡ Some c → IsSetFor places armed c.when c.input.resource
      set zero c h =
          subst
          (λ (d : Choice). IsSetFor places armed d.when d.input.resource)
          (same_Some choice c h)
          (subst (λ r. IsSetFor places armed (after_time 5) r) (sym on) (timer, refl))
      set (suc n) c h = cc
