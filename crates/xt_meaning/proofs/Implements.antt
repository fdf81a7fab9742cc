-- Listings that don't keep all promises for a program that ends at once: one that goes on and on, and one that waits.
use Rattle.std.proofs.Common.{◌≡◌, ◌⊎◌, inl, inr, ⊎_elim, ℕ, zero, suc, ◌+◌, ◌-◌, ◌*◌, ◌≤◌, ◌<◌, Bool, true, false, List, [], ◌∷◌, ◌++◌, Option, Some, None, slice_get, slice_set, nat_eq, nat_lt, refl, sym, subst, ap, ◌∙◌, true≢false, arith}
use Rattle.std.specs.Prelude.{IsSome, IsTrue, unwrap_or, replicate, codes}
use Rattle.std.proofs.lemmas.Option.{same_Some}
use Rattle.std.proofs.Math.Nat.{mul-le-mul_left}
use Rattle.xs_instr.specs.declared.image.Home.{Home}
use Rattle.xs_instr.specs.declared.image.Image.{Image}
use Rattle.xs_instr.specs.declared.image.Stim.{Stim}
use Rattle.xs_instr.specs.declared.instr.Instr.{Instr}
use Rattle.xs_instr.specs.declared.instr.Instr.TheVariants.{Brbu, Waiteu}
use Rattle.xs_instr.specs.declared.state.CoreState.{CoreState}
use Rattle.xs_instr.specs.Did.{Idle}
use Rattle.xs_instr.specs.Machine.{Machine, Event, Step, and_then, boot, boot_core, boot_threads, parts_in, home_of, items_in, link_of, no_links, stepped, move_at, does, runs}
use Rattle.xs_instr.specs.Slot.{last_clock, turn_at}
use Rattle.xc_tree.specs.Plain as tree
use Rattle.xc_kernel.specs.Copies.{copy_of}
use Rattle.xc_kernel.proofs.Written.{at, id}
use Rattle.xc_meaning.specs.Counts.Families.{counted_for, mover, one_if, steps_of}
use Rattle.xc_meaning.specs.Counts.TextCounts.{program_bound}
use Rattle.xc_meaning.specs.Quiet.{is_idle, IsQuiet}
use Rattle.xc_meaning.specs.Runs.{acts, acts_all, goes, selects, program_start, program_run}
use Rattle.xc_meaning.specs.Settings.Select.{takes, takes_default}
use Rattle.xc_meaning.specs.Settings.Time.{ticks}
use Rattle.xc_meaning.proofs.Basics.{none_given}
use Rattle.xc_meaning.specs.States.Branches.{Branch, all_ended}
use Rattle.xc_meaning.specs.States.Worlds.{World, Action, clock, go, take, default, only_if}
use Rattle.xr_match.specs.Implements.{AllRootsEnded, IsQuietMachine, QuietAgree, ImplementsWholly}
use Rattle.xr_match.specs.Lives.{Watched, machine_of, watched_start, watched_after}
use Rattle.xr_match.specs.Matching.{steps_by}
use Rattle.xr_match.specs.Meanings.{of_text}
use Rattle.xr_match.specs.Sources.{Source}
use Rattle.xr_match.specs.Systems.{concat, leads}
use Rattle.xr_match.proofs.Matching.{runs_match_wholly}
use Rattle.xt_meaning.proofs.Running.{no_stimulus, steps}

-- Where the machine is quiet now, so is the program.
pub quiet_now : (L : Image) (P : Source) (s : Stim) (m : Machine) (x : P.State) → QuietAgree L P s m x → IsQuietMachine L s m →
    P.IsQuiet s x
quiet_now L P s m x agree still = agree [] (record { quiet = λ later e. subst (IsQuietMachine L s) (same_Some _ _ e) still }) x refl

-- int main(void) { }
abbrev empty_main : List tree.Item
empty_main =
    (tree.function (record { result = Some false; name = id (codes "main") 1 5; params = []; own = 4 })
    (tree.statement (tree.block (tree.statements [])) (at 1 16) (at 1 18) 2))
    ∷ []

-- The program's one branch ends in four steps. Its branches where so many are left:
abbrev left : ℕ → List Branch
left n = (unwrap_or (program_run empty_main no_stimulus (steps (4 - n) 0)) (program_start empty_main)).branches

abbrev here : World → ℕ → World
here w n = record w { branches = left n }

abbrev step_here : World → ℕ → Action → Option World
step_here w n m = acts (copy_of empty_main) no_stimulus (here w n) m

-- a step that is a clock's leaves the branches, and is no family's
abbrev Stays : World → ℕ → Action → World → Type 0
Stays w n m y = (y.branches ≡ left n) × ((f : ℕ) → counted_for f (mover (here w n) m) ≡ 0)

ticked : (x : World) (c : ℕ) (y : World) → and_then (slice_get x.clocks c) (ticks x c) ≡ Some y → y.branches ≡ x.branches
ticked x c y e = by (slice_get x.clocks c) e
  where
    below : (b : Bool) (z : World) → z.branches ≡ x.branches → only_if b z ≡ Some y → y.branches ≡ x.branches
    below true z g h = ap (λ (w : World). w.branches) (sym (same_Some _ _ h)) ∙ g
    below false z g h = none_given h

    by : (o : Option ℕ) → and_then o (ticks x c) ≡ Some y → y.branches ≡ x.branches
    by None h = none_given h
    by (Some k) h = below (nat_lt k last_clock) (record x { clocks = slice_set x.clocks c (k + 1) }) refl h

-- With one step more than these left the branch can go on, and doesn't idle where it does. Nothing else is possible but a clock's step.
record Stage (n : ℕ) : Type 0 where
  goes_on : (w : World) → IsSome (step_here w (suc n) (go 0))
  busy : (w : World) → is_idle (here w (suc n)) (go 0) ≡ false
  leads : (w : World) (m : Action) (y : World) → step_here w (suc n) m ≡ Some y → Stays w (suc n) m y ⊎ (y.branches ≡ left n)

stage_by : (n : ℕ) → ((w : World) → (z : World) × (step_here w (suc n) (go 0) ≡ Some z) × (z.branches ≡ left n)) →
    ((w : World) → is_idle (here w (suc n)) (go 0) ≡ false) → ((b : ℕ) → slice_get (left (suc n)) (suc b) ≡ None) →
    ((w : World) (c : ℕ) → step_here w (suc n) (take 0 c) ≡ None) → ((w : World) → step_here w (suc n) (default 0) ≡ None) → Stage n
stage_by n own busy one no_case no_default = record { goes_on = λ w. subst IsSome (sym (own w).1) refl; busy = busy; leads = by }
  where
    by : (w : World) (m : Action) (y : World) → step_here w (suc n) m ≡ Some y → Stays w (suc n) m y ⊎ (y.branches ≡ left n)
    by w (clock c) y e = inl (ticked (here w (suc n)) c y e, λ f. refl)
    by w (go zero) y e = inr (ap (λ (z : World). z.branches) (sym (same_Some _ _ (sym (own w).1 ∙ e))) ∙ (own w).2)
    by w (go (suc b)) y e = none_given (sym (ap (λ o. and_then o (goes (copy_of empty_main) no_stimulus (here w (suc n)) (suc b))) (one b)) ∙ e)
    by w (take zero c) y e = none_given (sym (no_case w c) ∙ e)
    by w (take (suc b) c) y e = none_given (sym (ap (λ o. and_then o (selects (copy_of empty_main) no_stimulus (here w (suc n)) (suc b) (λ step. takes step c))) (one b)) ∙ e)
    by w (default zero) y e = none_given (sym (no_default w) ∙ e)
    by w (default (suc b)) y e = none_given (sym (ap (λ o. and_then o (selects (copy_of empty_main) no_stimulus (here w (suc n)) (suc b) takes_default)) (one b)) ∙ e)

stage : (n : ℕ) → n < 4 → Stage n
unfolding copy_of
stage zero l = stage_by 0 (λ w. (unwrap_or (step_here w 1 (go 0)) w, refl, refl)) (λ w. refl) (λ b. refl) (λ w c. refl) (λ w. refl)
stage (suc zero) l = stage_by 1 (λ w. (unwrap_or (step_here w 2 (go 0)) w, refl, refl)) (λ w. refl) (λ b. refl) (λ w c. refl) (λ w. refl)
stage (suc (suc zero)) l = stage_by 2 (λ w. (unwrap_or (step_here w 3 (go 0)) w, refl, refl)) (λ w. refl) (λ b. refl) (λ w c. refl) (λ w. refl)
stage (suc (suc (suc zero))) l = stage_by 3 (λ w. (unwrap_or (step_here w 4 (go 0)) w, refl, refl)) (λ w. refl) (λ b. refl) (λ w c. refl) (λ w. refl)
stage (suc (suc (suc (suc n)))) l = absurd (omega (arith, l))

-- once it has ended, clocks alone go on
last : (w : World) (m : Action) (y : World) → step_here w 0 m ≡ Some y → Stays w 0 m y
unfolding copy_of
last w (clock c) y e = (ticked (here w 0) c y e, λ f. refl)
last w (go zero) y e = none_given e
last w (go (suc b)) y e = none_given e
last w (take zero c) y e = none_given e
last w (take (suc b) c) y e = none_given e
last w (default zero) y e = none_given e
last w (default (suc b)) y e = none_given e

one_at_most : (f : ℕ) (o : Option ℕ) → counted_for f o ≤ 1
one_at_most f None = omega arith
one_at_most f (Some g) = by (nat_eq f g)
  where
    by : (b : Bool) → one_if b ≤ 1
    by true = omega arith
    by false = omega arith

-- Along a run of the program its branch has so many steps left in the end, and no family does more steps than the branch has done.
record Led (n : ℕ) (x z : World) (ms : List Action) : Type 0 where
  rest : ℕ
  few : rest ≤ n
  stands : z.branches ≡ left rest
  counted : (f : ℕ) → steps_of (copy_of empty_main) no_stimulus f (Some x) ms + rest ≤ n

there : (x : World) (n : ℕ) → x.branches ≡ left n → x ≡ here x n
there x n e = λ i. record x { branches = e i }

led : (ms : List Action) (n : ℕ) → n ≤ 4 → (x z : World) → x.branches ≡ left n →
    acts_all (copy_of empty_main) no_stimulus (Some x) ms ≡ Some z → Led n x z ms
led [] n l x z e h = record {
  rest = n;
  few = omega arith;
  stands = ap (λ (w : World). w.branches) (sym (same_Some _ _ h)) ∙ e;
  counted = λ f. omega arith;
}
led (m ∷ ms) n l x z e h = go (led ms) (acts (copy_of empty_main) no_stimulus x m) refl h
  where
    one_step : (y : World) → acts (copy_of empty_main) no_stimulus x m ≡ Some y → (k : ℕ) → Led k y z ms → k ≤ n →
        ((f : ℕ) → counted_for f (mover x m) + k ≤ n) → Led n x z (m ∷ ms)
    one_step y acted k r few paid = record {
      rest = r.rest;
      few = let p = r.few in omega (arith, p, few);
      stands = r.stands;
      counted = λ f.
          let p = r.counted f in
          let q = paid f in
          let t = ap (λ o. steps_of (copy_of empty_main) no_stimulus f o ms) acted in
          omega (arith, p, q, t);
    }

    by_stage : (k : ℕ) → n ≡ k →
        ((y : World) → (j : ℕ) → j ≤ 4 → y.branches ≡ left j → acts_all (copy_of empty_main) no_stimulus (Some y) ms ≡ Some z → Led j y z ms) →
        (y : World) → acts (copy_of empty_main) no_stimulus x m ≡ Some y →
        acts_all (copy_of empty_main) no_stimulus (Some y) ms ≡ Some z → Led n x z (m ∷ ms)
    by_stage zero is next y acted h =
        let same = there x 0 (e ∙ ap left is) in
        let s = last x m y (ap (λ w. acts (copy_of empty_main) no_stimulus w m) (sym same) ∙ acted) in
        one_step y acted 0 (next y 0 (omega arith) s.0 h) (omega arith)
        (λ f. let p = s.1 f in let q = ap (λ w. counted_for f (mover w m)) same in omega (arith, p, q))
    by_stage (suc k) is next y acted h =
        let same = there x (suc k) (e ∙ ap left is) in
        let below : suc k ≤ 4 = subst (λ j. j ≤ 4) is l in
        let s = (stage k (omega (arith, below))).leads x m y (ap (λ w. acts (copy_of empty_main) no_stimulus w m) (sym same) ∙ acted) in
        ⊎_elim
        (λ stays. one_step y acted (suc k) (next y (suc k) below stays.0 h) (omega (arith, is))
        (λ f. let p = stays.1 f in let q = ap (λ w. counted_for f (mover w m)) same in omega (arith, p, q, is)))
        (λ on. one_step y acted k (next y k (omega (arith, below)) on h) (omega (arith, is))
        (λ f. let p = one_at_most f (mover x m) in omega (arith, p, is)))
        s

    go : ((j : ℕ) → j ≤ 4 → (y z' : World) → y.branches ≡ left j → acts_all (copy_of empty_main) no_stimulus (Some y) ms ≡ Some z' → Led j y z' ms) →
        (o : Option World) → acts (copy_of empty_main) no_stimulus x m ≡ o → acts_all (copy_of empty_main) no_stimulus o ms ≡ Some z →
        Led n x z (m ∷ ms)
    go next None acted h = none_given h
    go next (Some y) acted h = by_stage n refl (λ y j l e h. next j l y z e h) y acted h

starts : (program_start empty_main).branches ≡ left 4
starts = refl

led_from_start : (ms : List Action) (z : World) → program_run empty_main no_stimulus ms ≡ Some z → Led 4 (program_start empty_main) z ms
led_from_start ms z h = led ms 4 (omega arith) (program_start empty_main) z starts h

-- A listing of one core with one root.
abbrev listing : List Instr → Image
listing instrs = record {
  cores = record { number = 0; words = 0; timers = 0; ends = 0; ports = []; roots = 0 ∷ []; code = record { instrs = instrs; «at» = [] } } ∷ [];
  chans = [];
}

-- One that branches to itself goes on and on.

abbrev goes_on_and_on : Image
goes_on_and_on = listing (Brbu 0 ∷ [])

abbrev turns : ℕ → List Event
turns n = replicate n (Step 0 0)

turns_once : does goes_on_and_on no_stimulus (boot goes_on_and_on) (Step 0 0) ≡ Some (boot goes_on_and_on)
turns_once = refl

keeps_turning : (n : ℕ) → runs goes_on_and_on no_stimulus (boot goes_on_and_on) (turns n) ≡ Some (boot goes_on_and_on)
keeps_turning zero = refl
keeps_turning (suc n) = ap (λ o. and_then o (λ m. runs goes_on_and_on no_stimulus m (turns n))) turns_once ∙ keeps_turning n

abbrev watched_turns : ℕ → Watched → Watched
watched_turns zero w = w
watched_turns (suc n) w = watched_turns n (watched_after w (Step 0 0) (boot goes_on_and_on))

turns_lead : (n : ℕ) (w : Watched) → w.machine ≡ boot goes_on_and_on →
    leads (machine_of goes_on_and_on no_stimulus) w (turns n) ≡ Some (watched_turns n w)
turns_lead zero w e = refl
turns_lead (suc n) w e =
    ap (λ o. and_then (and_then o (λ m. Some (watched_after w (Step 0 0) m))) (λ v. leads (machine_of goes_on_and_on no_stimulus) v (turns n)))
    (ap (λ m. does goes_on_and_on no_stimulus m (Step 0 0)) e ∙ turns_once)
    ∙ turns_lead n (watched_after w (Step 0 0) (boot goes_on_and_on)) refl

-- its life does a step in each turn
steps_of_turns : (n : ℕ) (w : Watched) → ((watched_turns n w).lives 0 0).steps ≡ (w.lives 0 0).steps + n
steps_of_turns zero w = omega arith
steps_of_turns (suc n) w =
    let rest = steps_of_turns n (watched_after w (Step 0 0) (boot goes_on_and_on)) in
    let one : ((watched_after w (Step 0 0) (boot goes_on_and_on)).lives 0 0).steps ≡ (w.lives 0 0).steps + 1 = refl in
    omega (arith, rest, one)

-- So it does too many steps for a program that ends.
goes_on_too_long : ImplementsWholly goes_on_and_on (of_text empty_main) → ⊥
goes_on_too_long h =
    let n = suc (program_bound empty_main * 5) in
    let r = runs_match_wholly goes_on_and_on empty_main no_stimulus h tt (turns n) (boot goes_on_and_on) (keeps_turning n) in
    let w = watched_turns n (watched_start goes_on_and_on) in
    let bounded = r.bounded w (turns_lead n (watched_start goes_on_and_on) refl) 0 0 in
    let actions = r.run.first ++ concat r.run.pieces in
    let led = led_from_start actions r.run.state r.run.is_run in
    refuted (program_bound empty_main) ((w.lives 0 0).steps) _ bounded (steps_of_turns n (watched_start goes_on_and_on)) (few actions led _)
  where
    few : (actions : List Action) {z : World} → Led 4 (program_start empty_main) z actions → (o : Option ℕ) →
        steps_by empty_main no_stimulus actions o ≤ 4
    few actions led None = omega arith
    few actions led (Some f) = let p = led.counted f in omega (arith, p)

    refuted : (bound done actions : ℕ) → done ≤ bound * (actions + 1) → done ≡ 0 + suc (bound * 5) → actions ≤ 4 → ⊥
    refuted bound done actions l is few =
        let five : actions + 1 ≤ 5 = omega (arith, few) in
        let most = mul-le-mul_left bound five in
        omega (arith, l, is, most)

-- One that waits for events, none of which is enabled, does nothing.

abbrev waits_at_once : Image
waits_at_once = listing (Waiteu ∷ [])

unused_idle : (home : Home) (core : CoreState) (u n t : ℕ) → turn_at home core u (slice_get (boot_threads [] n) t) ≡ Idle
unused_idle home core u zero t = refl
unused_idle home core u (suc n) zero = refl
unused_idle home core u (suc n) (suc t) = unused_idle home core u n t

none_there : (n t : ℕ) → items_in (slice_get (replicate n []) t) ≡ []
none_there zero t = refl
none_there (suc n) zero = refl
none_there (suc n) (suc t) = none_there n t

none_on_way : (from to : ℕ) → link_of no_links from to ≡ []
none_on_way zero to = none_there 4 to
none_on_way (suc zero) to = none_there 4 to
none_on_way (suc (suc zero)) to = none_there 4 to
none_on_way (suc (suc (suc zero))) to = none_there 4 to
none_on_way (suc (suc (suc (suc from)))) to = refl

nothing_enabled : IsQuietMachine waits_at_once no_stimulus (boot waits_at_once)
nothing_enabled = record { steps = none_steps; moves = λ from to. ap (move_at (boot waits_at_once) from to) (none_on_way from to) }
  where
    none_steps : (c t : ℕ) → does waits_at_once no_stimulus (boot waits_at_once) (Step c t) ≡ None
    none_steps zero zero = refl
    none_steps zero (suc t) =
        ap (stepped (home_of waits_at_once no_stimulus 0) (boot waits_at_once) 0 (suc t) (boot_core (parts_in waits_at_once.cores 0)))
        (unused_idle (home_of waits_at_once no_stimulus 0) (boot_core (parts_in waits_at_once.cores 0)) (suc t) 7 t)
    none_steps (suc zero) t =
        ap (stepped (home_of waits_at_once no_stimulus 1) (boot waits_at_once) 1 t (boot_core (parts_in waits_at_once.cores 1)))
        (unused_idle (home_of waits_at_once no_stimulus 1) (boot_core (parts_in waits_at_once.cores 1)) t 8 t)
    none_steps (suc (suc zero)) t =
        ap (stepped (home_of waits_at_once no_stimulus 2) (boot waits_at_once) 2 t (boot_core (parts_in waits_at_once.cores 2)))
        (unused_idle (home_of waits_at_once no_stimulus 2) (boot_core (parts_in waits_at_once.cores 2)) t 8 t)
    none_steps (suc (suc (suc zero))) t =
        ap (stepped (home_of waits_at_once no_stimulus 3) (boot waits_at_once) 3 t (boot_core (parts_in waits_at_once.cores 3)))
        (unused_idle (home_of waits_at_once no_stimulus 3) (boot_core (parts_in waits_at_once.cores 3)) t 8 t)
    none_steps (suc (suc (suc (suc c)))) t = refl

-- Where this program is quiet it has ended, and a listing whose root waits hasn't.
waits_too_early : ImplementsWholly waits_at_once (of_text empty_main) → ⊥
waits_too_early h =
    let r = runs_match_wholly waits_at_once empty_main no_stimulus h tt [] (boot waits_at_once) refl in
    let x = r.run.state in
    let quiet = quiet_now waits_at_once (of_text empty_main) no_stimulus (boot waits_at_once) x r.run.last.quiet nothing_enabled in
    let led = led_from_start (r.run.first ++ concat r.run.pieces) x r.run.is_run in
    by x quiet r.run.last.agree.ended.1 led.rest led.few led.stands
  where
    not_both : (roots : ℕ) → roots ≡ 1 → roots ≡ 0 → ⊥
    not_both roots one none = omega (arith, one, none)

    by : (x : World) → IsQuiet (copy_of empty_main) no_stimulus x →
        (all_ended x.branches ≡ true → AllRootsEnded (boot waits_at_once).cores) →
        (n : ℕ) → n ≤ 4 → x.branches ≡ left n → ⊥
    by x quiet ended zero l e = not_both 1 refl (ended (ap all_ended e)).0
    by x quiet ended (suc n) l e =
        let s = stage n (omega (arith, l)) in
        let same = there x (suc n) e in
        let possible = subst (λ w. IsSome (acts (copy_of empty_main) no_stimulus w (go 0))) (sym same) (s.goes_on x) in
        let idle = subst (λ w. IsTrue (is_idle w (go 0))) same (quiet.idle (go 0) possible) in
        true≢false (sym idle ∙ s.busy x)
