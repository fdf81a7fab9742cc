-- What becomes of the program's branches where a thread at rest does an item without an instruction.
use Rattle.std.proofs.Common.{◌≡◌, ℕ, zero, suc, ◌-◌, ◌<◌, ◌≢◌, ◌⊎◌, inl, inr, [], ◌∷◌, List, length, Some, None, refl, sym, ap, ◌∙◌, subst, ⊎_elim, arith}
use Rattle.std.proofs.lemmas.Bool.{or_right}
use Rattle.std.proofs.lemmas.Option.{same_Some}
use Rattle.std.specs.Prelude.{true, false, ◌&&◌, nat_eq, not, slice_get, slice_set}
use Rattle.xw_words.specs.declared.pos.Pos.{Pos}
use Rattle.xc_kernel.specs.Plain as kernel
use Rattle.xc_kernel.specs.Things.{variable}
use Rattle.xc_invariants.proofs.Lookups.{Behind, at_itself, at_other, behind, itself, new, there}
use Rattle.xc_invariants.specs.Lawful.{Lawful}
use Rattle.xc_invariants.specs.Tree.{IsChild}
use Rattle.xc_meaning.specs.Runs.{acts, acts_all}
use Rattle.xc_meaning.specs.States.Branches.{Branch, Mode, has_ended, runs, waits}
use Rattle.xc_meaning.specs.States.Items.{Item, does}
use Rattle.xc_meaning.specs.States.Worlds.{World, go}
use Rattle.xc_meaning.specs.Uses.{by_item, by_items}
use Rattle.xl_expr.proofs.Lists.{get_set_other}
use Rattle.xl_par.specs.Acquired.{IsAmong}
use Rattle.xr_simulation.specs.Parents.{Parent, branches_of, sync_before, syncs_of}
use Rattle.xr_simulation.specs.Roles.{IsParent, ParentWaits, outermost, own_branches}
use Rattle.xr_simulation.specs.Runners.{Footprint, Runner, Setting, footprint_of}
use Rattle.xr_simulation.specs.MatchStates.{IsMade, counts, is_of_root, one_where, living_on}
use Rattle.xr_simulation.specs.NextStep.{finished}
use Rattle.xr_simulation.proofs.Relation.Counts.{ended_counts, living_same, living_with, made_counts}
use Rattle.xr_simulation.proofs.Settling.Steps.{IsSettled}
use Rattle.xr_simulation.proofs.Settling.Items.{child_of, maker_of, one_action, risen, risen_branch, under, waiting_one, with_child, with_risen}
use Rattle.xr_simulation.proofs.Relation.Lasting.{get_set_cases}
use Rattle.xr_simulation.proofs.Relation.Waiting.{waits_otherwise}

-- a branch is made as before where who waits for it does so still
made_by : (roots : ℕ) (bs bs' : List Branch) (n : ℕ) → ((m : ℕ) → IsChild bs m n → slice_get bs' m ≡ slice_get bs m) → IsMade roots bs n → IsMade roots bs' n
made_by roots bs bs' n same (inl lt) = inl lt
made_by roots bs bs' n same (inr (m, child)) =
    inr (m, record { parent = child.parent; is = same m child ∙ child.is; from = child.from; count = child.count; waiting = child.waiting; least = child.least; less = child.less })

-- how a branch counts, by its mode
counts_so : (d : ℕ) (branch : Branch) (m k : Mode) → branch.mode ≡ m → has_ended k ≡ has_ended m → counts d (record branch { mode = k }) ≡ counts d branch
counts_so d branch m k mode same =
    ap (λ b. one_where (nat_eq branch.core d && (not b && is_of_root branch.birth))) (same ∙ ap has_ended (sym mode))

module _ (g : Setting) (r : Runner) (x : World) (branch : Branch) (known : slice_get x.branches r.branch ≡ Some branch) (running : branch.mode ≡ runs) where
  -- one that waits is another one
  waits_other : (m n : ℕ) → IsChild x.branches m n → m ≢ r.branch
  waits_other m n child f =
      let same : branch ≡ child.parent = same_Some branch child.parent (sym known ∙ ap (slice_get x.branches) (sym f) ∙ child.is) in
      let modes : runs ≡ waits child.from child.count = sym running ∙ ap (λ (b : Branch). b.mode) same ∙ child.waiting in
      cc

  goes_on : has_ended branch.mode ≡ false
  goes_on = ap has_ended running

  -- 1. The branch alone is another one.
  module _ (next : Branch) (core : next.core ≡ branch.core) (living : (d : ℕ) → counts d next ≡ counts d branch) (footprint : Footprint) where
    set_cases : (n : ℕ) (b : Branch) → slice_get (slice_set x.branches r.branch next) n ≡ Some b → ((n ≡ r.branch) × (b ≡ next)) ⊎ ((n ≢ r.branch) × (slice_get x.branches n ≡ Some b))
    set_cases n b at = get_set_cases x.branches r.branch n branch next b known at

    set_made : (n : ℕ) → IsMade (length g.program.roots) x.branches n → IsMade (length g.program.roots) (slice_set x.branches r.branch next) n
    set_made n made = made_by (length g.program.roots) x.branches (slice_set x.branches r.branch next) n (λ m child. get_set_other x.branches r.branch m next (waits_other m n child)) made

    pub settled_set : acts g.program g.stimulus x (go r.branch) ≡ Some (record x { branches = slice_set x.branches r.branch next }) →
        IsSettled g r x (record r { footprint = footprint }) None (go r.branch ∷ []) (record x { branches = slice_set x.branches r.branch next })
    settled_set acted = record {
      acted = one_action g x (record x { branches = slice_set x.branches r.branch next }) (go r.branch) acted;
      clocks = refl;
      trace = refl;
      store = refl;
      inboxes = refl;
      transfer = refl;
      seated = record {
        core = refl;
        thread = refl;
        tie = refl;
        family = refl;
        block = refl;
        stack = refl;
        outermost_is = refl;
        syncs = refl;
        there = λ p n e h. h;
        still = λ p n e h. h;
      };
      held = refl;
      sync = refl;
      own = λ b m. inl m;
      branches = λ n b ne at. get_set_other x.branches r.branch n next (λ e. ne (inl e)) ∙ at;
      living = λ d. living_same d x.branches r.branch branch next known (living d);
      placed = λ placed n b at.
          ⊎_elim
          (λ (h : (n ≡ r.branch) × (b ≡ next)). subst (λ k. k < 4) (sym (ap (λ (i : Branch). i.core) h.1 ∙ core)) (placed r.branch branch known))
          (λ (h : (n ≢ r.branch) × (slice_get x.branches n ≡ Some b)). placed n b h.1)
          (set_cases n b at);
      run = λ n b at on.
          ⊎_elim
          (λ (h : (n ≡ r.branch) × (b ≡ next)). inl (inl h.0))
          (λ (h : (n ≢ r.branch) × (slice_get x.branches n ≡ Some b)). inr (b, h.1, on, λ m. m))
          (set_cases n b at);
      made = λ made n b at on.
          ⊎_elim
          (λ (h : (n ≡ r.branch) × (b ≡ next)). subst (IsMade (length g.program.roots) (slice_set x.branches r.branch next)) (sym h.0) (set_made r.branch (made r.branch branch known goes_on)))
          (λ (h : (n ≢ r.branch) × (slice_get x.branches n ≡ Some b)). set_made n (made n b h.1 on))
          (set_cases n b at);
      wants = λ p v m uses. inl m;
    }

  -- 2. Another one is made, for which it waits.
  module _ (ss : kernel.Statements) (pos : Pos) (rest : List Item) (footprint : r.footprint ≡ footprint_of (does (kernel.par (kernel.more_branches (kernel.branch ss pos) kernel.no_branch)) ∷ rest)) where
    abbrev maker : Branch
    maker = maker_of branch (length x.branches) rest

    abbrev child : Branch
    child = child_of branch ss

    abbrev under_world : World
    under_world = with_child x r.branch branch ss rest

    only_child : (j : ℕ) (b : Branch) → slice_get (child ∷ []) j ≡ Some b → (j ≡ 0) × (child ≡ b)
    only_child zero b at = (refl, same_Some child b at)
    only_child (suc j) b at = absurd (cc)

    under_made : (n : ℕ) → IsMade (length g.program.roots) x.branches n → IsMade (length g.program.roots) under_world.branches n
    under_made n made =
        made_by (length g.program.roots) x.branches under_world.branches n
        (λ m c. at_other x.branches r.branch maker (child ∷ []) m c.parent (waits_other m n c) c.is ∙ sym c.is) made

    new_made : IsMade (length g.program.roots) under_world.branches (length x.branches)
    new_made = inr (
      r.branch,
      record {
        parent = maker;
        is = at_itself x.branches r.branch branch maker (child ∷ []) known;
        from = length x.branches;
        count = 1;
        waiting = refl;
        least = omega arith;
        less = omega arith;
      },
    )

    under_living : (d : ℕ) → living_on d under_world.branches ≡ living_on d x.branches
    under_living d =
        let one = living_with d (slice_set x.branches r.branch maker) (child ∷ []) in
        let two = living_same d x.branches r.branch branch maker known (counts_so d branch runs (waits (length x.branches) 1) running refl) in
        let three = made_counts d child (record { family = branch.family; index = 0; among = 1 }) refl in
        omega (arith, one, two, three)

    under_placed : ((n : ℕ) (b : Branch) → slice_get x.branches n ≡ Some b → b.core < 4) → (n : ℕ) (b : Branch) → Behind x.branches r.branch maker (child ∷ []) n b → b.core < 4
    under_placed placed n b (itself e f) = subst (λ (k : Branch). k.core < 4) (sym f) (placed r.branch branch known)
    under_placed placed n b (there ne at) = placed n b at
    under_placed placed n b (new j e at) = subst (λ (k : Branch). k.core < 4) (only_child j b at).1 (placed r.branch branch known)

    under_run : (n : ℕ) (b : Branch) → has_ended b.mode ≡ false → Behind x.branches r.branch maker (child ∷ []) n b →
        IsAmong (own_branches (under r (length x.branches) ss rest)) n
        ⊎ ((old : Branch) × (slice_get x.branches n ≡ Some old) × (has_ended old.mode ≡ false) × (IsAmong (own_branches r) n → IsAmong (own_branches (under r (length x.branches) ss rest)) n))
    under_run n b on (itself e f) = inl (inr (inl e))
    under_run n b on (there ne at) = inr (b, at, on, λ m. inr m)
    under_run n b on (new j e at) = let zero_is = (only_child j b at).0 in inl (inl (omega (arith, e, zero_is)))

    under_all_made : ((n : ℕ) (b : Branch) → slice_get x.branches n ≡ Some b → has_ended b.mode ≡ false → IsMade (length g.program.roots) x.branches n) → (n : ℕ) (b : Branch) → has_ended b.mode ≡ false →
        Behind x.branches r.branch maker (child ∷ []) n b → IsMade (length g.program.roots) under_world.branches n
    under_all_made made n b on (itself e f) = subst (IsMade (length g.program.roots) under_world.branches) (sym e) (under_made r.branch (made r.branch branch known goes_on))
    under_all_made made n b on (there ne at) = under_made n (made n b at on)
    under_all_made made n b on (new j e at) =
        let zero_is = (only_child j b at).0 in
        let last : n ≡ length x.branches = omega (arith, e, zero_is) in
        subst (IsMade (length g.program.roots) under_world.branches) (sym last) new_made

    none_sync : (p : Parent) (n : ℕ) → p.sync ≡ Some n → p ≢ waiting_one r.branch (length x.branches) rest r.sides r.inside
    none_sync p n sync e = let both : None ≡ Some n = sym (ap (λ (k : Parent). k.sync) e) ∙ sync in cc

    pub settled_under : acts g.program g.stimulus x (go r.branch) ≡ Some under_world → IsSettled g r x (under r (length x.branches) ss rest) None (go r.branch ∷ []) under_world
    settled_under acted = record {
      acted = one_action g x under_world (go r.branch) acted;
      clocks = refl;
      trace = refl;
      store = refl;
      inboxes = refl;
      transfer = refl;
      seated = record {
        core = refl;
        thread = refl;
        tie = refl;
        family = refl;
        block = refl;
        stack = refl;
        outermost_is = refl;
        syncs = refl;
        there = λ p n sync h. ⊎_elim (λ (e : p ≡ waiting_one r.branch (length x.branches) rest r.sides r.inside). absurd
            (none_sync p n sync e)) (λ (m : IsParent r.parents p). m) h;
        still = λ p n sync h. inr h;
      };
      held = refl;
      sync = refl;
      own = λ b h. ⊎_elim (λ (e : b ≡ length x.branches). inr e) (λ (m : IsAmong (own_branches r) b). inl m) h;
      branches = λ n b ne at. at_other x.branches r.branch maker (child ∷ []) n b (λ e. ne (inl e)) at;
      living = under_living;
      placed = λ placed n b at. under_placed placed n b (behind x.branches r.branch branch maker (child ∷ []) n b known at);
      run = λ n b at on. under_run n b on (behind x.branches r.branch branch maker (child ∷ []) n b known at);
      made = λ made n b at on. under_all_made made n b on (behind x.branches r.branch branch maker (child ∷ []) n b known at);
      wants = λ p v h uses.
          ⊎_elim
          (λ (e : p ≡ waiting_one r.branch (length x.branches) rest r.sides r.inside).
          let item = does (kernel.par (kernel.more_branches (kernel.branch ss pos) kernel.no_branch)) in
          let mine : by_items (variable v) rest ≡ true = subst (λ (k : Parent). by_items (variable v) k.items ≡ true) e uses in
          inr (ap (λ (f : Footprint). f.uses v) footprint ∙ or_right (by_item (variable v) item) (by_items (variable v) rest) mine))
          (λ (m : IsParent r.parents p). inl m)
          h;
    }

  -- 3. It ends, and the one goes on that waits for it alone.
  module _ (p : Parent) (ps : List Parent) (parents : r.parents ≡ p ∷ ps) (none : p.sync ≡ None) (w : ParentWaits g x r.core r.family p r.branch) (lawful : Lawful g.program x) where
    abbrev ended_branches : List Branch
    ended_branches = slice_set x.branches r.branch (finished branch)

    abbrev risen_world : World
    risen_world = with_risen x r.branch branch p.branch w.branch

    other_one : p.branch ≢ r.branch
    other_one = waits_otherwise g r.core r.family x p r.branch r.branch branch w known running

    waits_there : slice_get ended_branches p.branch ≡ Some w.branch
    waits_there = get_set_other x.branches r.branch p.branch (finished branch) other_one ∙ w.known

    -- an old branch, or one of the two
    pub data Risen (n : ℕ) (b : Branch) : Type 0 where
      rose : n ≡ p.branch → b ≡ risen_branch w.branch → Risen n b
      over : n ≡ r.branch → b ≡ finished branch → Risen n b
      beside : n ≢ p.branch → n ≢ r.branch → slice_get x.branches n ≡ Some b → Risen n b

    risen_cases : (n : ℕ) (b : Branch) → slice_get risen_world.branches n ≡ Some b → Risen n b
    risen_cases n b at =
        ⊎_elim
        (λ (h : (n ≡ p.branch) × (b ≡ risen_branch w.branch)). rose h.0 h.1)
        (λ (h : (n ≢ p.branch) × (slice_get ended_branches n ≡ Some b)).
        ⊎_elim
        (λ (k : (n ≡ r.branch) × (b ≡ finished branch)). over k.0 k.1)
        (λ (k : (n ≢ r.branch) × (slice_get x.branches n ≡ Some b)). beside h.0 k.0 k.1)
        (get_set_cases x.branches r.branch n branch (finished branch) b known h.1))
        (get_set_cases ended_branches p.branch n w.branch (risen_branch w.branch) b waits_there at)

    risen_other : (n : ℕ) → n ≢ p.branch → n ≢ r.branch → slice_get risen_world.branches n ≡ slice_get x.branches n
    risen_other n ne ne' = get_set_other ended_branches p.branch n (risen_branch w.branch) ne ∙ get_set_other x.branches r.branch n (finished branch) ne'

    -- it waits for the one branch alone
    only_own : (n : ℕ) → IsChild x.branches p.branch n → n ≡ r.branch
    only_own n c =
        let same : w.branch ≡ c.parent = same_Some w.branch c.parent (sym w.known ∙ c.is) in
        let modes : waits p.from p.count ≡ waits c.from c.count = sym w.mode ∙ ap (λ (b : Branch). b.mode) same ∙ c.waiting in
        let from : c.from ≡ p.from = cc in
        let count : c.count ≡ p.count = cc in
        let one = w.one none in
        let starts = w.first_is in
        let least = c.least in
        let less = c.less in
        omega (arith, from, count, one, starts, least, less)

    risen_made : (n : ℕ) → n ≢ r.branch → IsMade (length g.program.roots) x.branches n → IsMade (length g.program.roots) risen_world.branches n
    risen_made n ne made =
        made_by (length g.program.roots) x.branches risen_world.branches n
        (λ m c. risen_other m (λ e. ne (only_own n (subst (λ k. IsChild x.branches k n) e c))) (waits_other m n c)) made

    -- it was made
    has_birth : branch.birth ≡ Some (record { family = w.branch.family; index = r.branch - p.from; among = p.count })
    has_birth =
        let starts = w.first_is in
        let one = w.one none in
        (lawful.forest.own p.branch r.branch w.branch branch p.from p.count w.known w.mode (omega (arith, starts)) (omega (arith, starts, one)) known).birth

    risen_living : (d : ℕ) → living_on d risen_world.branches ≡ living_on d x.branches
    risen_living d =
        living_same d ended_branches p.branch w.branch (risen_branch w.branch) waits_there (counts_so d w.branch (waits p.from p.count) runs w.mode refl)
        ∙ living_same d x.branches r.branch branch (finished branch) known
        (ended_counts d (finished branch) refl ∙ sym (made_counts d branch (record { family = w.branch.family; index = r.branch - p.from; among = p.count }) has_birth))

    risen_placed : ((n : ℕ) (b : Branch) → slice_get x.branches n ≡ Some b → b.core < 4) → (n : ℕ) (b : Branch) → Risen n b → b.core < 4
    risen_placed placed n b (rose e f) = subst (λ (k : Branch). k.core < 4) (sym f) (placed p.branch w.branch w.known)
    risen_placed placed n b (over e f) = subst (λ (k : Branch). k.core < 4) (sym f) (placed r.branch branch known)
    risen_placed placed n b (beside ne ne' at) = placed n b at

    own_risen : (n : ℕ) → n ≢ r.branch → IsAmong (own_branches r) n → IsAmong (own_branches (risen r p ps)) n
    own_risen n ne (inl e) = absurd (ne e)
    own_risen n ne (inr m) = subst (λ l. IsAmong (branches_of l) n) parents m

    risen_run : (n : ℕ) (b : Branch) → has_ended b.mode ≡ false → Risen n b →
        IsAmong (own_branches (risen r p ps)) n
        ⊎ ((old : Branch) × (slice_get x.branches n ≡ Some old) × (has_ended old.mode ≡ false) × (IsAmong (own_branches r) n → IsAmong (own_branches (risen r p ps)) n))
    risen_run n b on (rose e f) = inl (inl e)
    risen_run n b on (over e f) = let both : true ≡ false = sym (ap (λ (k : Branch). has_ended k.mode) f) ∙ on in absurd (cc)
    risen_run n b on (beside ne ne' at) = inr (b, at, on, own_risen n ne')

    risen_all_made : ((n : ℕ) (b : Branch) → slice_get x.branches n ≡ Some b → has_ended b.mode ≡ false → IsMade (length g.program.roots) x.branches n) → (n : ℕ) (b : Branch) → has_ended b.mode ≡ false → Risen n b → IsMade (length g.program.roots) risen_world.branches n
    risen_all_made made n b on (rose e f) = risen_made n (λ k. other_one (sym e ∙ k)) (subst (IsMade (length g.program.roots) x.branches) (sym e) (made p.branch w.branch w.known (ap has_ended w.mode)))
    risen_all_made made n b on (over e f) = let both : true ≡ false = sym (ap (λ (k : Branch). has_ended k.mode) f) ∙ on in absurd (cc)
    risen_all_made made n b on (beside ne ne' at) = risen_made n ne' (made n b at on)

    none_there : (q : Parent) (n : ℕ) → q.sync ≡ Some n → q ≢ p
    none_there q n sync e = let both : None ≡ Some n = sym none ∙ sym (ap (λ (k : Parent). k.sync) e) ∙ sync in cc

    parent_before : (q : Parent) → IsParent ps q → IsParent r.parents q
    parent_before q m = subst (λ l. IsParent l q) (sym parents) (inr m)

    pub settled_risen : acts_all g.program g.stimulus (Some x) (go r.branch ∷ go p.branch ∷ []) ≡ Some risen_world → IsSettled g r x (risen r p ps) None (go r.branch ∷ go p.branch ∷ []) risen_world
    settled_risen acted = record {
      acted = acted;
      clocks = refl;
      trace = refl;
      store = refl;
      inboxes = refl;
      transfer = refl;
      seated = record {
        core = refl;
        thread = refl;
        tie = refl;
        family = refl;
        block = refl;
        stack = refl;
        outermost_is = sym (ap (outermost r.branch) parents);
        syncs = sym (ap syncs_of parents ∙ ap (λ o. sync_before o (syncs_of ps)) none);
        there = λ q n sync h. parent_before q h;
        still = λ q n sync h. ⊎_elim (λ (e : q ≡ p). absurd (none_there q n sync e)) (λ (m : IsParent ps q). m) (subst (λ l. IsParent l q) parents h);
      };
      held = refl;
      sync = refl;
      own = λ b m. inl (inr (subst (λ l. IsAmong (branches_of l) b) (sym parents) m));
      branches = λ n b ne at. risen_other n (λ e. ne (inr (subst (λ l. IsAmong (branches_of l) n) (sym parents) (inl e)))) (λ e. ne (inl e)) ∙ at;
      living = risen_living;
      placed = λ placed n b at. risen_placed placed n b (risen_cases n b at);
      run = λ n b at on. risen_run n b on (risen_cases n b at);
      made = λ made n b at on. risen_all_made made n b on (risen_cases n b at);
      wants = λ q v m uses. inl (parent_before q m);
    }
