-- Where a run of a kernel has one of its text beside it, so it is of both with the actions of their families.
use Rattle.std.proofs.Common.{◌≡◌, ℕ, ◌+◌, List, [], ◌∷◌, ◌++◌, Option, Some, None, refl, sym, subst, ap, ◌∙◌, arith}
use Rattle.std.specs.Prelude.{IsSome}
use Rattle.xs_instr.specs.declared.image.Stim.{Stim}
use Rattle.xs_instr.specs.Machine.{and_then}
use Rattle.xc_tree.specs.Plain as tree
use Rattle.xc_kernel.specs.Copies.{copy_of}
use Rattle.xc_kernel.specs.Plain as kernel
use Rattle.xc_meaning.specs.Counts.Families.{steps_of}
use Rattle.xc_meaning.specs.Follows.{StandAlike, StandAlong, HasBeside}
use Rattle.xc_meaning.specs.Runs.{Allowed, AllowedKernel, acts, acts_all, kernel_run, kernel_start, program_start}
use Rattle.xc_meaning.specs.States.Worlds.{World, Action}
use Rattle.xc_meaning.proofs.Simulation.TextSteps.{counted_on, moves_append}
use Rattle.xr_match.specs.Meanings.{of_kernel, of_text, of_worlds}
use Rattle.xr_match.specs.Sources.{Counted, allowed, counted_of, counted_start}
use Rattle.xr_match.specs.Systems.{SomeIs, IsRun, leads, Along, Beside, Refines}
use Rattle.xr_match.proofs.Counted.{counted_steps, uncounted}
use Rattle.xr_match.proofs.Through.{there_get, there_put}

-- the runs of the meaning are those of the system
pub same_run : (K : kernel.Kernel) (s : Stim) (start : World) (bound : ℕ) (actions : List Action) (x : World) → acts_all K s (Some x) actions ≡ allowed (of_worlds K start bound) s x actions
same_run K s start bound [] x = refl
same_run K s start bound (a ∷ actions) x = go (same_run K s start bound actions) (acts K s x a)
  where
    go : ((y : World) → acts_all K s (Some y) actions ≡ allowed (of_worlds K start bound) s y actions) → (o : Option World) → acts_all K s o actions ≡ and_then o (λ y. allowed (of_worlds K start bound) s y actions)
    go next None = refl
    go next (Some y) = next y

-- from a state that a run leads to
acts_on : (K : kernel.Kernel) (s : Stim) (before behind : List Action) (o : Option World) (x : World) → acts_all K s o before ≡ Some x →
    acts_all K s o (before ++ behind) ≡ acts_all K s (Some x) behind
acts_on K s before behind o x e = moves_append K s o before behind ∙ ap (λ p. acts_all K s p behind) e

is_some : (o : Option World) (x : World) → o ≡ Some x → IsSome o
is_some o x e = subst IsSome (sym e) refl

-- a run of a meaning with its families' actions is one without them
led_by : (K : kernel.Kernel) (s : Stim) (start : World) (bound : ℕ) (ms : List Action) → IsRun (counted_of (of_worlds K start bound) s) ms → IsSome (acts_all K s (Some start) ms)
led_by K s start bound ms run =
    let source = of_worlds K start bound in
    let there = there_get (λ z. Unit {0}) (leads (counted_of source s) (counted_start source) ms) run in
    is_some (acts_all K s (Some start) ms) there.0.state (same_run K s start bound ms start ∙ uncounted source s ms (counted_start source) there.0 there.1)

pub kernel_allowed : (K : kernel.Kernel) (s : Stim) (ms : List Action) → IsRun (counted_of (of_kernel K) s) ms → AllowedKernel K s ms
kernel_allowed K s ms run = record { leads = led_by K s (kernel_start K) (of_kernel K).bound ms run }

pub text_allowed : (P : List tree.Item) (s : Stim) (ms : List Action) → IsRun (counted_of (of_text P) s) ms → Allowed P s ms
text_allowed P s ms run = record { leads = led_by (copy_of P) s (program_start P) (of_text P).bound ms run }

-- A state with the actions of its families, behind these actions from the start on.
pub record IsBehind (K : kernel.Kernel) (s : Stim) (start : World) (bound : ℕ) (ms : List Action) (x : Counted (of_worlds K start bound)) : Type 0 where
  pub led : acts_all K s (Some start) ms ≡ Some x.state
  pub told : (f : ℕ) → x.actions f ≡ steps_of K s f (Some start) ms

module _ (K : kernel.Kernel) (s : Stim) (start : World) (bound : ℕ) where
  none_behind : IsBehind K s start bound [] (counted_start (of_worlds K start bound))
  none_behind = record { led = refl; told = λ f. refl }

  -- and behind some more
  more_behind : (ms piece : List Action) (x : Counted (of_worlds K start bound)) (y : World) → IsBehind K s start bound ms x → acts_all K s (Some start) (ms ++ piece) ≡ Some y →
      (z : Counted (of_worlds K start bound)) × (leads (counted_of (of_worlds K start bound) s) x piece ≡ Some z) × IsBehind K s start bound (ms ++ piece) z
  more_behind ms piece x y h e =
      let went : acts_all K s (Some x.state) piece ≡ Some y = sym (acts_on K s ms piece (Some start) x.state h.led) ∙ e in
      let z = counted_steps K s start bound piece x y went in (
        z.0,
        z.1,
        record {
          led = e ∙ ap Some (sym z.2);
          told = λ f.
              let p : z.0.actions f ≡ x.actions f + steps_of K s f (Some x.state) piece = z.3 f in
              let q : x.actions f ≡ steps_of K s f (Some start) ms = h.told f in
              let r : steps_of K s f (Some start) (ms ++ piece) ≡ steps_of K s f (Some start) ms + steps_of K s f (acts_all K s (Some start) ms) piece = counted_on K s f (Some start) ms piece in
              let t : steps_of K s f (acts_all K s (Some start) ms) piece ≡ steps_of K s f (Some x.state) piece = ap (λ o. steps_of K s f o piece) h.led in
              omega (arith, p, q, r, t);
        },
      )

  only : (o : Option (Counted (of_worlds K start bound))) → and_then o (λ z. Some z) ≡ o
  only None = refl
  only (Some z) = refl

module _ (P : List tree.Item) (K : kernel.Kernel) (s : Stim) where
  abbrev pub IsOfKernel : List Action → Counted (of_kernel K) → Type 0
  IsOfKernel ms x = IsBehind K s (kernel_start K) (of_kernel K).bound ms x

  abbrev pub IsOfText : List Action → Counted (of_text P) → Type 0
  IsOfText ns y = IsBehind (copy_of P) s (program_start P) (of_text P).bound ns y

  -- of two runs that lead to alike states, and stand in a further relation
  module _
      (Stand : List Action → List Action → Type 0) (R : Counted (of_kernel K) → Counted (of_text P) → Type 0)
      (alike : (ms ns : List Action) → Stand ms ns → StandAlike P K s ms ns)
      (related : (ms ns : List Action) (x : Counted (of_kernel K)) (y : Counted (of_text P)) → IsOfKernel ms x → IsOfText ns y → Stand ms ns → R x y) where
    now : (further : List Action) (pieces : List (List Action)) (ms ns : List Action) → StandAlong Stand ms ns further pieces → Stand ms ns
    now [] [] ms ns h = h
    now [] (piece ∷ pieces) ms ns h = absurd h
    now (m ∷ further) [] ms ns h = absurd h
    now (m ∷ further) (piece ∷ pieces) ms ns h = h.0

    along : (further : List Action) (pieces : List (List Action)) (ms ns : List Action) (x : Counted (of_kernel K)) (y : Counted (of_text P)) → IsOfKernel ms x → IsOfText ns y → StandAlong Stand ms ns further pieces → Along (counted_of (of_kernel K) s) (counted_of (of_text P) s) R x y further pieces
    along [] [] ms ns x y e f h = related ms ns x y e f h
    along [] (piece ∷ pieces) ms ns x y e f h = absurd h
    along (m ∷ further) [] ms ns x y e f h = absurd h
    along (m ∷ further) (piece ∷ pieces) ms ns x y e f h =
        let next = alike (ms ++ m ∷ []) (ns ++ piece) (now further pieces (ms ++ m ∷ []) (ns ++ piece) h.1) in
        let x' = more_behind K s (kernel_start K) (of_kernel K).bound ms (m ∷ []) x next.of_kernel e next.kernel_leads in
        let y' = more_behind (copy_of P) s (program_start P) (of_text P).bound ns piece y next.of_text f next.text_leads in
        let rest = along further pieces (ms ++ m ∷ []) (ns ++ piece) x'.0 y'.0 x'.2 y'.2 h.1 in
        let acted = sym (only K s (kernel_start K) (of_kernel K).bound ((counted_of (of_kernel K) s).next x m)) ∙ x'.1 in (
          related ms ns x y e f h.0,
          there_put
              (λ z. SomeIs (leads (counted_of (of_text P) s) y piece) (λ w. Along (counted_of (of_kernel K) s) (counted_of (of_text P) s) R z w further pieces))
              ((counted_of (of_kernel K) s).next x m)
              x'.0
              acted
              (there_put (λ w. Along (counted_of (of_kernel K) s) (counted_of (of_text P) s) R x'.0 w further pieces) (leads (counted_of (of_text P) s) y piece) y'.0 y'.1 rest),
        )

    beside : (ms : List Action) → HasBeside Stand ms → Beside (counted_of (of_kernel K) s) (counted_of (of_text P) s) R ms
    beside ms h =
        let start = alike [] h.first (now ms h.pieces [] h.first h.along) in
        let y = more_behind (copy_of P) s (program_start P) (of_text P).bound [] h.first (counted_start (of_text P)) start.of_text (none_behind (copy_of P) s (program_start P) (of_text P).bound) start.text_leads in
        record {
          first = h.first;
          pieces = h.pieces;
          along =
              there_put
              (λ z. Along (counted_of (of_kernel K) s) (counted_of (of_text P) s) R (counted_start (of_kernel K)) z ms h.pieces)
              (leads (counted_of (of_text P) s) (counted_start (of_text P)) h.first)
              y.0
              y.1
              (along ms h.pieces [] h.first (counted_start (of_kernel K)) y.0 (none_behind K s (kernel_start K) (of_kernel K).bound) y.2 h.along);
        }

    -- each run of the kernel has one of the text beside it
    pub refines_so : ((ms : List Action) → IsSome (kernel_run K s ms) → HasBeside Stand ms) → Refines (counted_of (of_kernel K) s) (counted_of (of_text P) s) R
    refines_so follows = record { by = λ ms run. beside ms (follows ms (kernel_allowed K s ms run).leads) }
