-- No two runners are in each other's way.
use Rattle.std.proofs.Common.{◌≡◌, ◌≢◌, inl, ⊎_elim, ℕ, ◌+◌, ◌<◌, ◌≤◌, Bool, true, false, true≢false, length, Option, Some, None, slice_get, slice_index_or, refl, sym, ap, subst, ◌∙◌, arith}
use Rattle.std.proofs.lemmas.Option.{same_Some}
use Rattle.xs_instr.specs.Machine.{parts_in}
use Rattle.xs_instr.specs.OwnSteps.{temporary}
use Rattle.xs_instr.specs.declared.state.Res.TheVariants.{End as ResEnd, Port as ResPort, Timer as ResTimer}
use Rattle.xs_instr.specs.declared.state.Res.{Res}
use Rattle.xc_kernel.specs.declared.kernel.PortUse.{PortUse}
use Rattle.xc_kernel.specs.Plain as kernel
use Rattle.xc_kernel.specs.Things.{timer, variable, change, port}
use Rattle.xc_kernel.specs.declared.kernel.Timer.{Timer}
use Rattle.xc_meaning.specs.States.Branches.{side_of}
use Rattle.xc_meaning.specs.States.Channels.{Side, first, second}
use Rattle.xc_meaning.specs.States.Worlds.{World}
use Rattle.xc_meaning.proofs.Basics.{or_cases}
use Rattle.xc_disjoint.specs.Clashes.{changed, of_port, of_timer}
use Rattle.xc_disjoint.specs.Needs.{threads_on}
use Rattle.xc_invariants.specs.Lawful.{Lawful}
use Rattle.xc_invariants.specs.Rules.{AreApart}
use Rattle.xc_invariants.specs.Sided.{Differ}
use Rattle.xc_invariants.proofs.Always.{none_clash, one_on_each_side}
use Rattle.xl_expr.specs.declared.plan.VarPlan.{VarPlan}
use Rattle.xl_expr.specs.Frames.{IsNear}
use Rattle.xl_par.specs.Acquired.{Acquired}
use Rattle.xl_plan.specs.Layout.{core_of, core_of_port, core_of_timer, end_number, temporary_of, port_number, timer_number}
use Rattle.xr_simulation.specs.Images.{AreLines, IsImageOf}
use Rattle.xr_simulation.specs.Roles.{AreRoles, Role, Roles, unused, used_by}
use Rattle.xr_simulation.specs.Runners.{Footprint, IsEnd, IsMine, IsTimer, Setting, Runner, IsLaidOut, IsPort, MayChange, end_place, of_stack, of_variable, is_among_words, is_word_among, places, port_place, relied, timer_place}
use Rattle.xr_simulation.proofs.RelyGuarantee.Footprints.{changed_used_items}
use Rattle.xr_simulation.proofs.Image.Places.{IsWord, among_found, numbers_differ, word_found}
use Rattle.xr_simulation.proofs.OwnSteps.Branch.{Works}
use Rattle.xl_image.specs.Images.{pair_of}
use Rattle.xr_channels.specs.Channels.{end_of_side}
use Rattle.xr_match.specs.Sides.{two_sided}

pub not_true : (b : Bool) → (b ≡ true → ⊥) → b ≡ false
not_true true h = absurd (h refl)
not_true false h = refl

-- what one runner of a core may change is nothing that another one relies on, and they have no resource in common
pub record IsApart (g : Setting) (r s : Runner) : Type 0 where
  pub words : (w : ℕ) → relied g s w ≡ true → MayChange g r w → ⊥
  pub resources : (res : Res) → IsMine g s res → IsMine g r res → ⊥

-- nobody differs from himself
both_sides : (side : Side) → Differ (Some side) (Some side) → ⊥
both_sides first h = h
both_sides second h = h

-- where the end of a side stands
place_is : (K : kernel.Kernel) (c : ℕ) (side : Side) (core : ℕ) → core_of K c side ≡ core →
    end_of_side (pair_of K c) side ≡ record { core = core; end = end_number K core c side }
place_is K c first core here = ap (λ d. record { core = d; end = end_number K d c first }) here
place_is K c second core here = ap (λ d. record { core = d; end = end_number K d c second }) here

-- one that is used is not unused
pub not_unused : (o : Role) (r : Runner) (hand : Option Acquired) → o ≡ used_by r hand → o ≢ unused
not_unused o r hand e f = let z : used_by r hand ≡ unused = sym e ∙ f in absurd cc

pub role_inside : (g : Setting) (who : Roles) → AreRoles g who → (c t : ℕ) (r : Runner) (hand : Option Acquired) → who c t ≡ used_by r hand → t < threads_on g.program c
role_inside g who roles c t r hand e = roles.inside c t (not_unused (who c t) r hand e)

-- each runner is laid out, and its temporary words are there
pub laid_of_role : (g : Setting) (start who : Roles) → IsImageOf g start → AreRoles g who → (c t : ℕ) (r : Runner) (hand : Option Acquired) →
    who c t ≡ used_by r hand →
    (x : World) → Works g x r hand → IsLaidOut g r
laid_of_role g start who image roles c t r hand e x works =
    let inside = role_inside g who roles c t r hand e in
    let core = image.cores c (roles.there c t r hand e) (omega (arith, inside)) in
    core.laid r (roles.core c t r hand e) (subst (λ n. n < threads_on g.program c) (sym (roles.thread c t r hand e)) inside)
    (roles.block c t r hand e)
    (roles.stack c t r hand e ∙ ap (temporary_of g.program c) (sym (roles.thread c t r hand e)))
    (λ v. subst (λ (f : Footprint). f.changes v ≡ true → f.uses v ≡ true) (sym works.footprint) (changed_used_items works.branch.items v))

pub room_of_role : (g : Setting) (start who : Roles) → IsImageOf g start → AreRoles g who → (c t : ℕ) (r : Runner) (hand : Option Acquired) →
    who c t ≡ used_by r hand →
    r.stack + temporary ≤ (parts_in g.image.cores c).words
room_of_role g start who image roles c t r hand e =
    let inside = role_inside g who roles c t r hand e in
    let core = image.cores c (roles.there c t r hand e) (omega (arith, inside)) in
    let room = core.room t inside in
    let stack = roles.stack c t r hand e in
    omega (arith, room, stack)

module _ (g : Setting) (who : Roles) (x : World) (lawful : Lawful g.program x) (roles : AreRoles g who) where
  -- Two runners.
  module _ (c t c' t' : ℕ) (r s : Runner) (hand other : Option Acquired) (e : who c t ≡ used_by r hand) (f : who c' t' ≡ used_by s other)
      (differ : (c' ≡ c) × (t' ≡ t) → ⊥) (works : Works g x r hand) (works' : Works g x s other) where
    -- they run two branches
    pub other_branch : r.branch ≢ s.branch
    other_branch same = differ (roles.branches c t c' t' r.branch r s hand other e f (inl refl) (inl same))

    clear : AreApart works.branch.items works'.branch.items
    clear = none_clash g.program x lawful r.branch s.branch works.branch works'.branch works.known works'.known other_branch works.goes works'.goes

    -- what one uses the other one doesn't change, on whatever cores they are
    pub own_variables : (v : ℕ) → s.footprint.uses v ≡ true → r.footprint.changes v ≡ false
    own_variables v uses =
        not_true (r.footprint.changes v)
        (λ changes.
        clear.clash (change v) (variable v) (changed v)
        (subst (λ (k : Footprint). k.changes v ≡ true) works.footprint changes)
        (subst (λ (k : Footprint). k.uses v ≡ true) works'.footprint uses))

    -- nor do they have a port both
    pub own_ports : (p : ℕ) → s.footprint.ports p ≡ true → r.footprint.ports p ≡ false
    own_ports p has =
        not_true (r.footprint.ports p)
        (λ mine.
        clear.clash (port p) (port p) (of_port p)
        (subst (λ (k : Footprint). k.ports p ≡ true) works.footprint mine)
        (subst (λ (k : Footprint). k.ports p ≡ true) works'.footprint has))

    -- nor a timer
    pub own_timers : (n : ℕ) → s.footprint.timers n ≡ true → r.footprint.timers n ≡ false
    own_timers n has =
        not_true (r.footprint.timers n)
        (λ mine.
        clear.clash (timer n) (timer n) (of_timer n)
        (subst (λ (k : Footprint). k.timers n ≡ true) works.footprint mine)
        (subst (λ (k : Footprint). k.timers n ≡ true) works'.footprint has))

    -- nor a side of a channel
    pub own_sides : (n : ℕ) (side : Side) → n < length g.program.channels → r.footprint.channels n ≡ true →
        s.footprint.channels n ≡ true → slice_index_or r.sides n None ≡ Some side → slice_index_or s.sides n None ≡ Some side → ⊥
    own_sides n side lt mine has here there =
        both_sides side
        (subst (λ o. Differ (Some side) o) (ap (λ l. slice_index_or l n None) works'.sides ∙ there)
        (subst (λ o. Differ o (side_of works'.branch n)) (ap (λ l. slice_index_or l n None) works.sides ∙ here)
        (one_on_each_side g.program x lawful r.branch s.branch works.branch works'.branch works.known works'.known other_branch works.goes
        works'.goes n lt
        (subst (λ (k : Footprint). k.channels n ≡ true) works.footprint mine)
        (subst (λ (k : Footprint). k.channels n ≡ true) works'.footprint has))))

  -- Two of one core.
  module _ (lines : AreLines g) (c t t' : ℕ) (r s : Runner) (hand other : Option Acquired) (e : who c t ≡ used_by r hand)
      (f : who c t' ≡ used_by s other)
      (differ : t' ≢ t) (works : Works g x r hand) (works' : Works g x s other) (laid : IsLaidOut g r) (laid' : IsLaidOut g s) where
    cores : r.core ≡ s.core
    cores = roles.core c t r hand e ∙ sym (roles.core c t' s other f)

    near_here : (v n : ℕ) (found : VarPlan) → IsNear (places g r.core) v n found → IsNear (places g s.core) v n found
    near_here v n found near = subst (λ k. IsNear (places g k) v n found) cores near

    -- a word of a variable is no temporary one of either
    not_temporary : (q : Runner) → IsLaidOut g q → (v n i k w : ℕ) (found : VarPlan) → IsNear (places g q.core) v n found →
        i < found.words → k < temporary → w ≡ 0 + n + i → w ≡ q.stack + k → ⊥
    not_temporary q is v n i k w found near lt lk is_at is_in =
        ⊎_elim
        (λ h. let z : ⊥ = omega (arith, h, lk, is_at, is_in) in z)
        (λ h. let z : ⊥ = omega (arith, h, lk, is_at, is_in) in z)
        (is.frame.apart v n i found near lt)

    -- two threads share no temporary word
    stacks_apart : (k l w : ℕ) → k < temporary → l < temporary → w ≡ s.stack + k → w ≡ r.stack + l → ⊥
    stacks_apart k l w lk ll is_in is_in' =
        let a = roles.stack c t r hand e in
        let b = roles.stack c t' s other f in
        let same : temporary_of g.program c t' + k ≡ temporary_of g.program c t + l = omega (arith, a, b, is_in, is_in') in
        differ (omega (arith, same, lk, ll))

    of_stack_words : (w : ℕ) → is_among_words s.stack temporary w ≡ true → MayChange g r w → ⊥
    of_stack_words w h (of_variable v n k found near changes lt is) =
        let m = among_found s.stack temporary w h in
        not_temporary s laid' v n k m.0 w found (near_here v n found near) lt m.1 (omega (arith, is)) m.2
    of_stack_words w h (of_stack k lt is) =
        let m = among_found s.stack temporary w h in
        stacks_apart m.0 k w m.1 lt m.2 is

    of_variable_words : (w : ℕ) → IsWord 0 (places g s.core) s.footprint.uses w → MayChange g r w → ⊥
    of_variable_words w h (of_variable v n k found near changes lt is) =
        let p = h.is in
        let same : h.variable ≡ v = laid'.frame.disjoint h.variable h.first h.place v n k h.found found h.near (near_here v n found near)
        h.within lt (omega (arith, p, is)) in
        let unchanged = own_variables c t c t' r s hand other e f (λ q. differ q.1) works works' h.variable h.meant in
        true≢false (sym changes ∙ ap r.footprint.changes (sym same) ∙ unchanged)
    of_variable_words w h (of_stack k lt is) =
        let p = h.is in
        not_temporary r laid h.variable h.first h.place k w h.found
        (subst (λ m. IsNear (places g m) h.variable h.first h.found) (sym cores) h.near) h.within lt (omega (arith, p)) is

    words_apart : (w : ℕ) → relied g s w ≡ true → MayChange g r w → ⊥
    words_apart w h may =
        ⊎_elim
        (λ q. of_stack_words w q may)
        (λ q. of_variable_words w (word_found 0 (places g s.core) s.footprint.uses (length (places g s.core)) w q) may)
        (or_cases (is_among_words s.stack temporary w) (is_word_among 0 (places g s.core) s.footprint.uses (length (places g s.core)) w) h)

    ports_apart : (p q : ℕ) (listed listed' : PortUse) → IsPort g r p listed → IsPort g s q listed' → port_place g s q ≢ port_place g r p
    ports_apart p q listed listed' is is' same =
        let here : port_place g r q ≡ port_place g r p = ap (λ k. port_number k g.program.ports q) cores ∙ same in
        let one = numbers_differ core_of_port g.program.ports r.core q p listed' listed is'.known is.known (is'.core ∙ sym cores)
        is.core here in
        let unused_here = own_ports c t c t' r s hand other e f (λ k. differ k.1) works works' q is'.mine in
        true≢false (sym is.mine ∙ ap r.footprint.ports (sym one) ∙ unused_here)

    timers_apart : (p q : ℕ) (listed listed' : Timer) → IsTimer g r p listed → IsTimer g s q listed' → timer_place g s q ≢ timer_place g r p
    timers_apart p q listed listed' is is' same =
        let here : timer_place g r q ≡ timer_place g r p = ap (λ k. timer_number k g.program.timers q) cores ∙ same in
        let one = numbers_differ core_of_timer g.program.timers r.core q p listed' listed is'.known is.known (is'.core ∙ sym cores)
        is.core here in
        let unused_here = own_timers c t c t' r s hand other e f (λ k. differ k.1) works works' q is'.mine in
        true≢false (sym is.mine ∙ ap r.footprint.timers (sym one) ∙ unused_here)

    ends_apart : (p q : ℕ) (side side' : Side) → IsEnd g r p side → IsEnd g s q side' → end_place g r p side ≢ end_place g s q side'
    ends_apart p q side side' is is' same =
        let line = lines.used r.core p is.channel.known is.channel.used in
        let line' = lines.used s.core q is'.channel.known is'.channel.used in
        let there : end_of_side (pair_of g.program p) side ≡ end_of_side (pair_of g.program q) side' =
        place_is g.program p side r.core is.here
        ∙ ap (λ n. record { core = r.core; end = n }) same
        ∙ ap (λ k. record { core = k; end = end_place g s q side' }) cores
        ∙ sym (place_is g.program q side' s.core is'.here) in
        let one = lines.wired.once line.0 (pair_of g.program p) side line'.0 (pair_of g.program q) side' (lines.line line.0 p line.1)
        (lines.line line'.0 q line'.1) there in
        let channel : p ≡ q = same_Some p q (sym line.1 ∙ ap (slice_get (two_sided g.program)) one.0 ∙ line'.1) in
        own_sides c t c t' r s hand other e f (λ k. differ k.1) works works' p side is.channel.known is.channel.mine
        (ap s.footprint.channels channel ∙ is'.channel.mine) is.stands_in
        (ap (λ k. slice_index_or s.sides k None) channel ∙ is'.stands_in ∙ ap Some (sym one.1))

    resources_apart : (res : Res) → IsMine g s res → IsMine g r res → ⊥
    resources_apart (ResPort n) m k = ports_apart k.port m.port k.listed m.listed k.is m.is (sym m.place ∙ k.place)
    resources_apart (ResTimer n) m k = timers_apart k.timer m.timer k.listed m.listed k.is m.is (sym m.place ∙ k.place)
    resources_apart (ResEnd n) m k = ends_apart k.channel m.channel k.side m.side k.is m.is (sym k.place ∙ m.place)

    pub apart_of_runners : IsApart g r s
    apart_of_runners = record { words = words_apart; resources = resources_apart }
