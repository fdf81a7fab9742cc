-- What a runner's branch finds in memory and at the ports: what nobody may change is as the program has it.
use Rattle.std.proofs.Common.{◌≡◌, ◌≢◌, ◌⊎◌, inl, inr, ⊎_elim, ℕ, ◌+◌, ◌<◌, ◌≤◌, Bool, true, false, true≢false, List, [], ◌∷◌, length, Option, Some, None, refl, sym, ap, ◌∙◌, subst, arith}
use Rattle.std.specs.Prelude.{slice_get}
use Rattle.std.proofs.lemmas.Option.{slice_get_within}
use Rattle.xs_instr.specs.declared.state.CoreState.{CoreState}
use Rattle.xs_instr.specs.OwnSteps.{temporary}
use Rattle.xs_instr.specs.declared.state.Res.TheVariants.{Port as ResPort}
use Rattle.xc_disjoint.specs.Clashes.{of_port, used}
use Rattle.xc_kernel.specs.declared.kernel.PortUse.{PortUse}
use Rattle.xc_kernel.specs.Eval.{Store, words_of}
use Rattle.xc_kernel.specs.Things.{change, port, variable}
use Rattle.xc_invariants.specs.Lawful.{Lawful}
use Rattle.xc_invariants.specs.Rules.{AreApart}
use Rattle.xc_invariants.specs.Tree.{Above, IsChild, IsWaiting, directly, further}
use Rattle.xc_invariants.proofs.Trees.{above_first, above_waits, waiting_is}
use Rattle.xc_meaning.specs.States.Branches.{Branch, Mode, runs, waits, ended, erred}
use Rattle.xc_meaning.specs.States.Worlds.{World}
use Rattle.xc_meaning.specs.Uses.{by_items}
use Rattle.xc_meaning.proofs.Basics.{some_given}
use Rattle.xl_expr.specs.declared.plan.VarPlan.{VarPlan}
use Rattle.xl_expr.specs.Frames.{Holds, IsNear}
use Rattle.xl_expr.specs.ResourceParts.{OtherPartsStay}
use Rattle.xl_par.specs.Acquired.{Acquired}
use Rattle.xl_plan.specs.Layout.{core_of_port, port_number}
use Rattle.xr_simulation.specs.Parents.{Parent}
use Rattle.xr_simulation.specs.Roles.{IsParent, ParentsWait, ParentWaits, Roles, used_by}
use Rattle.xr_simulation.specs.Runners.{HoldsPlaces, Footprint, IsMine, Setting, Runner, IsLaidOut, IsPort, MayChange, anyone, footprint_of, of_stack, of_variable, places, port_place}
use Rattle.xr_simulation.specs.MatchStates.{AreLoose, IsWanted, NobodyChanges, NobodyHas, only}
use Rattle.xr_simulation.specs.NextStep.{HoldsStore, PortIs, PortsStand}
use Rattle.xr_simulation.proofs.RelyGuarantee.Apartness.{not_true}
use Rattle.xr_simulation.proofs.Image.Places.{numbers_differ}
use Rattle.xr_simulation.proofs.OwnSteps.Branch.{Works}
use Rattle.xl_expr.proofs.ResourceParts.{port_same}

-- the branches for which one waits have ended
abbrev pub HaveEnded : World → (from count : ℕ) → Type 0
HaveEnded x from count = (k : ℕ) (b : Branch) → from ≤ k → k < from + count → slice_get x.branches k ≡ Some b → b.mode ≡ ended

-- Variables one by one.

only_same : (v w : ℕ) → only v w ≡ true → v ≡ w
only_same v w e = grind arith

only_itself : (v : ℕ) → only v v ≡ true
only_itself v = grind arith

holds_only : (vars : List (Option VarPlan)) (uses : ℕ → Bool) (words : List ℕ) (store : Store) (v : ℕ) → uses v ≡ true →
    Holds vars uses 0 words store → Holds vars (only v) 0 words store
holds_only vars uses words store v meant h = record {
  lengths = λ w n found near is. h.lengths w n found near (ap uses (sym (only_same v w is)) ∙ meant);
  values = λ w n i x found near is there. h.values w n i x found near (ap uses (sym (only_same v w is)) ∙ meant) there;
}

holds_all : (vars : List (Option VarPlan)) (uses : ℕ → Bool) (words : List ℕ) (store : Store) →
    ((v : ℕ) → uses v ≡ true → Holds vars (only v) 0 words store) → Holds vars uses 0 words store
holds_all vars uses words store each = record {
  lengths = λ w n found near is. (each w is).lengths w n found near (only_itself w);
  values = λ w n i x found near is there. (each w is).values w n i x found near (only_itself w) there;
}

-- it goes on to hold where both sides have the same words
pub holds_on : (vars : List (Option VarPlan)) (v : ℕ) (words words' : List ℕ) (store store' : Store) → words_of store' v ≡ words_of store v →
    ((n i : ℕ) (found : VarPlan) → IsNear vars v n found → i < found.words → slice_get words' (0 + n + i) ≡ slice_get words (0 + n + i)) →
    Holds vars (only v) 0 words store → Holds vars (only v) 0 words' store'
holds_on vars v words words' store store' same there h = record {
  lengths = λ w n found near is. let e = only_same v w is in h.lengths w n found near is ∙ ap length (subst (λ k. words_of store k ≡ words_of store' k) e (sym same));
  values = λ w n i x found near is at.
      let e = only_same v w is in
      let old : slice_get (words_of store w) i ≡ Some x = ap (λ l. slice_get l i) (subst (λ k. words_of store k ≡ words_of store' k) e (sym same)) ∙ at in
      let within = slice_get_within (words_of store w) i x old in
      let long = h.lengths w n found near is in
      there n i found (subst (λ k. IsNear vars k n found) (sym e) near) (omega (arith, within, long)) ∙ h.values w n i x found near is old;
}

-- The branches of two runners, of which one is waited for.

-- one of those that wait, with what is known of it
pub parent_known : (g : Setting) (x : World) (core family : ℕ) (ps : List Parent) (first : ℕ) (p : Parent) → ParentsWait g x core family ps first → IsParent ps p →
    (k : ℕ) × ParentWaits g x core family p k
parent_known g x core family [] first p h i = absurd i
parent_known g x core family (q ∷ qs) first p h (inl e) = (first, subst (λ k. ParentWaits g x core family k first) (sym e) h.0)
parent_known g x core family (q ∷ qs) first p h (inr i) = parent_known g x core family qs q.branch p h.1 i

-- the numbers of those for which a branch waits
abbrev from_of : Mode → ℕ
from_of runs = 0
from_of (waits from count) = from
from_of ended = 0
from_of erred = 0

abbrev count_of : Mode → ℕ
count_of runs = 0
count_of (waits from count) = count
count_of ended = 0
count_of erred = 0

module _ (g : Setting) (x : World) (lawful : Lawful g.program x) where
  -- one above another is on its core
  above_core : (n m : ℕ) (b d : Branch) → slice_get x.branches n ≡ Some b → slice_get x.branches m ≡ Some d → Above x.branches n m → d.core ≡ b.core
  above_core n m b d at_n at_m (directly c) =
      let own = lawful.forest.own n m c.parent d c.from c.count c.is c.waiting c.least c.less at_m in
      own.core ∙ ap (λ (k : Branch). k.core) (some_given (sym c.is ∙ at_n))
  above_core n m b d at_n at_m (further {k = k} c h) =
      let f = above_first x.branches h in
      let own = lawful.forest.own n k c.parent f.0 c.from c.count c.is c.waiting c.least c.less f.1 in
      above_core k m f.0 d f.1 at_m h ∙ own.core ∙ ap (λ (q : Branch). q.core) (some_given (sym c.is ∙ at_n))

  -- where those for which one waits have ended, no other branch that goes on has to do with what is left to it
  module _ (n from count : ℕ) (p : Branch) (known : slice_get x.branches n ≡ Some p) (mode : p.mode ≡ waits from count) (all : HaveEnded x from count) where
    -- those for which it waits
    child_within : (k : ℕ) → IsChild x.branches n k → (from ≤ k) × (k < from + count)
    child_within k c =
        let same : c.parent ≡ p = some_given (sym c.is ∙ known) in
        let modes : waits c.from c.count ≡ waits from count = sym c.waiting ∙ ap (λ (q : Branch). q.mode) same ∙ mode in
        let f : c.from ≡ from = ap from_of modes in
        let e : c.count ≡ count = ap count_of modes in
        let a = c.least in
        let b = c.less in
        (omega (arith, f, a), omega (arith, f, e, b))

    below_ended : (m : ℕ) (b : Branch) → slice_get x.branches m ≡ Some b → Above x.branches n m → b.mode ≡ ended
    below_ended m b at_m (directly c) = let w = child_within m c in all m b w.0 w.1 at_m
    below_ended m b at_m (further {k = k} c h) =
        let f = above_first x.branches h in
        let w = child_within k c in
        let e = all k f.0 w.0 w.1 f.1 in
        absurd (subst IsWaiting e f.2)

    apart_or_done : (m : ℕ) (b : Branch) → slice_get x.branches m ≡ Some b → (IsWaiting b.mode → ⊥) → AreApart p.items b.items ⊎ (b.items ≡ [])
    apart_or_done m b at_m goes =
        ⊎_elim
        (λ (h : Above x.branches n m). inr (lawful.forest.stopped m b at_m (inl (below_ended m b at_m h))))
        (λ more. ⊎_elim (λ (h : Above x.branches m n). absurd (goes (above_waits x.branches m n b at_m h))) (λ (h : AreApart p.items b.items). inl h) more)
        (lawful.apart.pair n m p b known at_m (λ e. goes (subst (λ (q : Branch). IsWaiting q.mode) (some_given (sym known ∙ ap (slice_get x.branches) e ∙ at_m)) (waiting_is mode))))

-- Once the branches of a `par` have ended, nobody may change what is left to their maker, on any core.
module _ (g : Setting) (who : Roles) (x : World) (lawful : Lawful g.program x)
    (works : (c t : ℕ) (r : Runner) (hand : Option Acquired) → who c t ≡ used_by r hand → Works g x r hand) where
  module _ (c t : ℕ) (r : Runner) (hand : Option Acquired) (p : Parent) (ps : List Parent) (runs : who c t ≡ used_by r hand) (parents : r.parents ≡ p ∷ ps) (all : HaveEnded x p.from p.count) where
    waiting : ParentWaits g x r.core r.family p r.branch
    waiting = (subst (λ qs. ParentsWait g x r.core r.family qs r.branch) parents (works c t r hand runs).parents).0

    -- what each other runner has to do is apart from it
    apart_of : (u : ℕ) (s : Runner) (other : Option Acquired) → (runs' : who c u ≡ used_by s other) → AreApart p.items (works c u s other runs').branch.items ⊎ ((works c u s other runs').branch.items ≡ [])
    apart_of u s other runs' =
        let w = waiting in
        let k = works c u s other runs' in
        subst (λ items. AreApart items k.branch.items ⊎ (k.branch.items ≡ [])) w.items
        (apart_or_done g x lawful p.branch p.from p.count w.branch w.known w.mode all s.branch k.branch k.known k.goes)

    pub nobody_changes : (v : ℕ) → (footprint_of p.items).uses v ≡ true → NobodyChanges who c v
    nobody_changes v uses u s other runs' =
        let k = works c u s other runs' in
        not_true (s.footprint.changes v)
        (λ changes.
        let mine : by_items (change v) k.branch.items ≡ true = subst (λ (f : Footprint). f.changes v ≡ true) k.footprint changes in
        ⊎_elim
        (λ (h : AreApart p.items k.branch.items). h.clash (variable v) (change v) (used v) uses mine)
        (λ (e : k.branch.items ≡ []). true≢false (sym (subst (λ items. by_items (change v) items ≡ true) e mine)))
        (apart_of u s other runs'))

    pub nobody_has : (q : ℕ) → (footprint_of p.items).ports q ≡ true → NobodyHas who c q
    nobody_has q has u s other runs' =
        let k = works c u s other runs' in
        not_true (s.footprint.ports q)
        (λ too.
        let mine : by_items (port q) k.branch.items ≡ true = subst (λ (f : Footprint). f.ports q ≡ true) k.footprint too in
        ⊎_elim
        (λ (h : AreApart p.items k.branch.items). h.clash (port q) (port q) (of_port q) has mine)
        (λ (e : k.branch.items ≡ []). true≢false (sym (subst (λ items. by_items (port q) items ≡ true) e mine)))
        (apart_of u s other runs'))

    -- so its runner finds all as the program has it
    module _ (s : Runner) (a : CoreState) (loose : AreLoose g who c a x) (on : s.core ≡ c) (has : s.footprint ≡ footprint_of p.items)
        (room : s.stack + temporary ≤ length a.words) where
      wanted : (v : ℕ) → (footprint_of p.items).uses v ≡ true → IsWanted who c v
      wanted v uses = record { thread = t; runner = r; hand = hand; runs = runs; parent = p; waits = subst (λ qs. IsParent qs p) (sym parents) (inl refl); uses = uses }

      pub holds_behind : (hand' : Option Acquired) → HoldsStore g s (record { core = a; world = x; hand = hand' })
      holds_behind hand' = record {
        holds = subst (λ k. HoldsPlaces g k s.footprint.uses a.words x.store) (sym on)
            (holds_all (places g c) s.footprint.uses a.words x.store
            (λ v uses.
            let mine = subst (λ (f : Footprint). f.uses v ≡ true) has uses in
            loose.variables v (nobody_changes v mine) (wanted v mine)));
        room = room;
      }

      pub ports_behind : (hand' : Option Acquired) → PortsStand g s (record { core = a; world = x; hand = hand' })
      ports_behind hand' q listed is =
          let mine = subst (λ (f : Footprint). f.ports q ≡ true) has is.mine in
          let any : IsPort g (anyone c) q listed = record { mine = refl; known = is.known; core = is.core ∙ on } in
          let at = loose.ports q listed any (nobody_has q mine) in
          record { port = at.port; there = ap (λ k. slice_get a.ports (port_number k g.program.ports q)) on ∙ at.there; declared = at.declared }

-- What an event of a runner leaves: words and ports of its core, the words of variables in the store.
pub record LeavesLoose (g : Setting) (r : Runner) (a b : CoreState) (x y : World) : Type 0 where
  pub words : (w : ℕ) → (MayChange g r w → ⊥) → slice_get b.words w ≡ slice_get a.words w
  pub resources : OtherPartsStay (IsMine g r) r.thread a b
  pub store : (v : ℕ) → r.footprint.changes v ≡ false → words_of y.store v ≡ words_of x.store v

-- The runner's core: what it no longer changes, or has, is as the program has it, where it held what it had.
module _ (g : Setting) (who who' : Roles) (c : ℕ) (a b : CoreState) (x y : World) (r : Runner) (on : r.core ≡ c) (laid : IsLaidOut g r)
    (loose : AreLoose g who c a x) (leaves : LeavesLoose g r a b x y)
    (holds : HoldsStore g r (record { core = b; world = y; hand = None })) (ports : PortsStand g r (record { core = b; world = y; hand = None }))
    (changes : (v : ℕ) → NobodyChanges who' c v → r.footprint.changes v ≡ false → NobodyChanges who c v)
    (wants : (v : ℕ) → IsWanted who' c v → IsWanted who c v ⊎ (r.footprint.uses v ≡ true))
    (has : (q : ℕ) → NobodyHas who' c q → r.footprint.ports q ≡ false → NobodyHas who c q) where
  -- what it used it holds
  used_holds : (v : ℕ) → r.footprint.uses v ≡ true → HoldsPlaces g c (only v) b.words y.store
  used_holds v uses = subst (λ k. HoldsPlaces g k (only v) b.words y.store) on
      (holds_only (places g r.core) r.footprint.uses b.words y.store v uses holds.holds)

  -- a variable that it doesn't change has its words still
  not_its_own : (v n i w : ℕ) (found : VarPlan) → r.footprint.changes v ≡ false → IsNear (places g r.core) v n found → i < found.words →
      w ≡ 0 + n + i → MayChange g r w → ⊥
  not_its_own v n i w found unchanged near lt is (of_variable v' n' i' found' near' changed' lt' is') =
      let same : v ≡ v' = laid.frame.disjoint v n i v' n' i' found found' near near' lt lt' (omega (arith, is, is')) in
      true≢false (sym changed' ∙ ap r.footprint.changes (sym same) ∙ unchanged)
  not_its_own v n i w found unchanged near lt is (of_stack k lt' is') =
      ⊎_elim
      (λ h. let z : ⊥ = omega (arith, h, lt', is, is') in z)
      (λ h. let z : ⊥ = omega (arith, h, lt', is, is') in z)
      (laid.frame.apart v n i found near lt)

  variable_behind : (v : ℕ) → NobodyChanges who' c v → IsWanted who' c v → HoldsPlaces g c (only v) b.words y.store
  variable_behind v nobody wanted = by (r.footprint.changes v) refl
    where
      by : (changed : Bool) → r.footprint.changes v ≡ changed → HoldsPlaces g c (only v) b.words y.store
      by true e = used_holds v (laid.changes v e)
      by false e =
          ⊎_elim
          (λ (w : IsWanted who c v).
          holds_on (places g c) v a.words b.words x.store y.store (leaves.store v e)
          (λ n i found near lt. leaves.words (0 + n + i)
          (not_its_own v n i (0 + n + i) found e (subst (λ k. IsNear (places g k) v n found) (sym on) near) lt (omega arith)))
          (loose.variables v (changes v nobody e) w))
          (λ (uses : r.footprint.uses v ≡ true). used_holds v uses)
          (wants v wanted)

  place_here : (q : ℕ) → port_place g (anyone c) q ≡ port_place g r q
  place_here q = ap (λ k. port_number k g.program.ports q) (sym on)

  port_behind : (q : ℕ) (listed : PortUse) → IsPort g (anyone c) q listed → NobodyHas who' c q → PortIs g (anyone c) q listed (record { core = b; world = y; hand = None })
  port_behind q listed is nobody = by (r.footprint.ports q) refl
    where
      by : (mine : Bool) → r.footprint.ports q ≡ mine → PortIs g (anyone c) q listed (record { core = b; world = y; hand = None })
      by true e =
          let at = ports q listed (record { mine = e; known = is.known; core = is.core ∙ sym on }) in
          record { port = at.port; there = ap (slice_get b.ports) (place_here q) ∙ at.there; declared = at.declared }
      by false e =
          let at = loose.ports q listed is (has q nobody e) in
          record {
            port = at.port;
            there =
                port_same a b (port_place g (anyone c) q) (leaves.resources.parts (ResPort (port_place g (anyone c) q))
                (λ m.
                let one = numbers_differ core_of_port g.program.ports r.core q m.port listed m.listed is.known m.is.known
                (is.core ∙ sym on) m.is.core (sym (place_here q) ∙ m.place) in
                true≢false (sym m.is.mine ∙ ap r.footprint.ports (sym one) ∙ e)))
                ∙ at.there;
            declared = at.declared;
          }

  pub loose_behind : AreLoose g who' c b y
  loose_behind = record { variables = variable_behind; ports = port_behind }

-- Another core, which stays as it is: what a branch there wants that waits, the runner doesn't change.
pub far_wanted : (g : Setting) (who : Roles) (x : World) → Lawful g.program x →
    ((c t : ℕ) (r : Runner) (hand : Option Acquired) → who c t ≡ used_by r hand → Works g x r hand) →
    (c t c' : ℕ) (r : Runner) (hand : Option Acquired) → who c t ≡ used_by r hand → r.core ≡ c → c' ≢ c →
    ((c t : ℕ) (s : Runner) (other : Option Acquired) → who c t ≡ used_by s other → s.core ≡ c) →
    (v : ℕ) → IsWanted who c' v → r.footprint.changes v ≡ false
far_wanted g who x lawful works c t c' r hand runs_r on ne cores v want =
    let q = want.runner in
    let p = want.parent in
    let w = works c' want.thread q want.hand want.runs in
    let k = works c t r hand runs_r in
    let pk = parent_known g x q.core q.family q.parents q.branch p w.parents want.waits in
    let pw = pk.1 in
    not_true (r.footprint.changes v)
    (λ changes.
    let mine : by_items (change v) k.branch.items ≡ true = subst (λ (f : Footprint). f.changes v ≡ true) k.footprint changes in
    let uses : by_items (variable v) pw.branch.items ≡ true = subst (λ items. by_items (variable v) items ≡ true) (sym pw.items) want.uses in
    ⊎_elim
    (λ (h : Above x.branches p.branch r.branch).
    let same : k.branch.core ≡ pw.branch.core = above_core g x lawful p.branch r.branch pw.branch k.branch pw.known k.known h in
    ne (sym (cores c' want.thread q want.hand want.runs) ∙ sym pw.on_core ∙ sym same ∙ k.core ∙ on))
    (λ more.
    ⊎_elim
    (λ (h : Above x.branches r.branch p.branch). k.goes (above_waits x.branches r.branch p.branch k.branch k.known h))
    (λ (h : AreApart pw.branch.items k.branch.items). h.clash (variable v) (change v) (used v) uses mine)
    more)
    (lawful.apart.pair p.branch r.branch pw.branch k.branch pw.known k.known
    (λ e. k.goes (subst (λ (b : Branch). IsWaiting b.mode) (some_given (sym pw.known ∙ ap (slice_get x.branches) e ∙ k.known)) (waiting_is pw.mode)))))

pub loose_far : (g : Setting) (who who' : Roles) (c : ℕ) (a : CoreState) (x y : World) → AreLoose g who c a x →
    ((t : ℕ) → who' c t ≡ who c t) → ((v : ℕ) → IsWanted who c v → words_of y.store v ≡ words_of x.store v) → AreLoose g who' c a y
loose_far g who who' c a x y loose same store = record {
  variables = λ v nobody w.
      let old : IsWanted who c v = record { thread = w.thread; runner = w.runner; hand = w.hand; runs = sym (same w.thread) ∙ w.runs; parent = w.parent; waits = w.waits; uses = w.uses } in
      holds_on (places g c) v a.words a.words x.store y.store (store v old) (λ n i found near lt. refl)
      (loose.variables v (λ t r hand e. nobody t r hand (same t ∙ e)) old);
  ports = λ p listed is nobody.
      let at = loose.ports p listed is (λ t r hand e. nobody t r hand (same t ∙ e)) in
      record { port = at.port; there = at.there; declared = at.declared };
}
