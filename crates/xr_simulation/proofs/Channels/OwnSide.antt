-- A branch inside a transfer has its side of the channel for itself, whatever the others do.
use Rattle.std.proofs.Common.{append-nil, ◌≡◌, ◌≢◌, ◌⊎◌, inl, inr, ⊎_elim, ℕ, ◌+◌, ◌<◌, IsTrue, List, [], ◌∷◌, ◌++◌, length, Option, Some, None, slice_get, slice_index_or, slice_set, refl, sym, ap, subst, ◌∙◌, true≢false, arith}
use Rattle.xs_instr.specs.declared.image.Stim.{Stim}
use Rattle.xc_kernel.specs.Plain as kernel
use Rattle.xc_kernel.specs.Things.{channel}
use Rattle.xc_invariants.specs.Every.{AllItems}
use Rattle.xc_invariants.specs.Lawful.{Lawful}
use Rattle.xc_invariants.specs.Sided.{Differ}
use Rattle.xc_invariants.specs.Tree.{Above, IsChild, IsWaiting, directly}
use Rattle.xc_invariants.proofs.Always.{branches_stay, laws_kept}
use Rattle.xc_invariants.proofs.Lookups.{Behind, at_itself, behind, front_of, itself, new, next_of, there, within}
use Rattle.xc_invariants.proofs.Pairs.{done_at}
use Rattle.xc_invariants.proofs.Sides.{sides_stay, stands_in}
use Rattle.xc_invariants.proofs.Trees.{Change, above_child, above_joined, above_stays, above_waits, change, made_length, opens, quiet, running_waits_not}
use Rattle.xc_invariants.proofs.Uses.{IsKernels, becomes_uses, made_uses, no_text}
use Rattle.xc_meaning.proofs.Basics.{none_given, same_or_not, some_given}
use Rattle.xc_meaning.proofs.Moved.{moved}
use Rattle.xc_meaning.specs.Outline.{Becomes, Moved, ends_it, enters, errs, exits, goes, joined, makes, stepped, ticked}
use Rattle.xc_meaning.specs.Runs.{acts, acts_all, step_of}
use Rattle.xc_meaning.specs.Settings.Par.{Begun, all_begun, all_done, children, codes_of}
use Rattle.xc_meaning.specs.Settings.Sides.{side_in}
use Rattle.xc_meaning.specs.States.Branches.{Branch, ended, runs, side_of, waits}
use Rattle.xc_meaning.specs.States.Channels.{Side, first, other_side, second}
use Rattle.xc_meaning.specs.States.Items.{Item}
use Rattle.xc_meaning.specs.States.Worlds.{Action, World}
use Rattle.xc_meaning.specs.Uses.{by_items}
use Rattle.xr_simulation.specs.Runners.{Setting as Given}
use Rattle.xr_simulation.specs.Wired.{HasAlone}

-- nothing leads from nowhere
from_none : {A : Type 0} (K : kernel.Kernel) (stim : Stim) (ms : List Action) (y : World) → acts_all K stim None ms ≡ Some y → A
from_none K stim [] y e = none_given e
from_none K stim (m ∷ ms) y e = none_given e

-- a state by the laws in which the branch has ended
record IsOver (K : kernel.Kernel) (x : World) (b : ℕ) : Type 0 where
  lawful : Lawful K x
  old : Branch
  was : slice_get x.branches b ≡ Some old
  over : old.mode ≡ ended

-- it has ended for ever
over_by : (K : kernel.Kernel) (stim : Stim) (ms : List Action) (o : Option World) (y : World) (b : ℕ) (own : Branch) → ((x : World) → o ≡ Some x → IsOver K x b) →
    acts_all K stim o ms ≡ Some y → slice_get y.branches b ≡ Some own → own.mode ≡ ended
over_by K stim ms None y b own h e known = from_none K stim ms y e
over_by K stim [] (Some x) y b own h e known =
    let at = h y e in
    subst (λ (d : Branch). d.mode ≡ ended) (some_given (sym at.was ∙ known)) at.over
over_by K stim (m ∷ ms) (Some x) y b own h e known =
    let at = h x refl in
    over_by K stim ms (acts K stim x m) y b own
    (λ z f.
    let next = (branches_stay K stim x z m at.lawful f).still b at.old at.was in
    record { lawful = laws_kept K stim x z m f at.lawful; old = next.0; was = next.1; over = subst (λ (d : Branch). d.mode ≡ ended) (sym (next.2.stopped (inl at.over))) at.over })
    e known

module _ (c : ℕ) (side : Side) where
  -- where it uses the channel, a branch is on the other side
  abbrev IsElsewhere : Branch → Type 0
  IsElsewhere d = IsTrue (by_items (channel c) d.items) → side_of d c ≡ Some (other_side side)

  -- the other one of two sides
  other_of : (s : Option Side) → Differ (Some side) s → s ≡ Some (other_side side)
  other_of s h = by side s h
    where
      by : (one : Side) (s : Option Side) → Differ (Some one) s → s ≡ Some (other_side one)
      by first None h = absurd h
      by first (Some first) h = absurd h
      by first (Some second) h = refl
      by second None h = absurd h
      by second (Some first) h = refl
      by second (Some second) h = absurd h

  -- A branch that uses the channel on its side has the side for itself.
  pub alone_begins : (K : kernel.Kernel) (x : World) → Lawful K x → c < length K.channels → (b : ℕ) (branch : Branch) → slice_get x.branches b ≡ Some branch →
      IsTrue (by_items (channel c) branch.items) → side_of branch c ≡ Some side → HasAlone x.branches c side b
  alone_begins K x lawful lt b branch known uses stands = record {
    others = λ n d there ne.
        ⊎_elim (λ below. inr (inl below))
        (λ other. ⊎_elim inl (λ (differ : _). inr (inr (λ u. other_of (side_of d c) (subst (λ s. Differ s (side_of d c)) stands (differ.differ uses u))))) other)
        ((lawful.other_sides c lt).pair b n branch d known there (λ e. ne (sym e)));
  }

  -- no branch that runs is elsewhere than on the other side
  pub alone_excludes : (bs : List Branch) (b n : ℕ) (branch d : Branch) → HasAlone bs c side b → slice_get bs b ≡ Some branch → (IsWaiting branch.mode → ⊥) →
      slice_get bs n ≡ Some d → (IsWaiting d.mode → ⊥) → n ≢ b → IsTrue (by_items (channel c) d.items) → side_of d c ≡ Some (other_side side)
  alone_excludes bs b n branch d h known awake at on ne uses =
      ⊎_elim (λ above. absurd (on (above_waits bs n b d at above)))
      (λ other. ⊎_elim (λ above. absurd (awake (above_waits bs b n branch known above))) (λ r. r uses) other)
      (h.others n d at ne)

  -- a side that the maker stands in is inherited
  inherits : (k : ℕ) (before : List kernel.Statements) (here : kernel.Statements) (behind : List kernel.Statements) (makers its : Option Side) (s : Side) →
      its ≡ side_in k before here behind makers → makers ≡ Some s → its ≡ Some s
  inherits k before here behind makers its s is stands = is ∙ ap (side_in k before here behind) stands

  module _ (K : kernel.Kernel) (stim : Stim) (x : World) (lawful : Lawful K x) (lt : c < length K.channels) (b : ℕ) (h : HasAlone x.branches c side b) where
    abbrev Related : List Branch → ℕ → Branch → Type 0
    Related bs n d = Above bs n b ⊎ (Above bs b n ⊎ IsElsewhere d)

    -- A branch that runs does its first item.
    module _ (n0 : ℕ) (b0 : Branch) (item : Item) (rest : List Item) (is : slice_get x.branches n0 ≡ Some b0) (em : b0.mode ≡ runs) (ei : b0.items ≡ item ∷ rest) (now : Branch) (more : List Branch) (g : Becomes (step_of K stim x n0 b0 rest) item now more) where
      abbrev then : List Branch
      then = slice_set x.branches n0 now ++ more

      stays : {a m : ℕ} → Above x.branches a m → Above then a m
      stays above = above_stays x.branches n0 b0 now more is (λ w. running_waits_not em w) above

      still : (n : ℕ) (d : Branch) → Related x.branches n d → Related then n d
      still n d (inl above) = inl (stays above)
      still n d (inr (inl above)) = inr (inl (stays above))
      still n d (inr (inr r)) = inr (inr r)

      all_kernels : AllItems IsKernels (item ∷ rest)
      all_kernels = subst (AllItems IsKernels) ei (lawful.kernels.all n0 b0 is)

      -- what it uses it used before, and its sides are what they were
      own_elsewhere : IsElsewhere b0 → IsElsewhere now
      own_elsewhere r u =
          ap (λ s. slice_index_or s c None) (sides_stay (step_of K stim x n0 b0 rest) item now more g)
          ∙ r (subst (λ i. IsTrue (by_items (channel c) i)) (sym ei) (becomes_uses (step_of K stim x n0 b0 rest) item now more g all_kernels (channel c) u))

      own_related : (ne : n0 ≢ b) → Related x.branches n0 b0 → Related then n0 now
      own_related ne (inl above) = inl (stays above)
      own_related ne (inr (inl above)) = inr (inl (stays above))
      own_related ne (inr (inr r)) = inr (inr (own_elsewhere r))

      -- a branch that it makes is below it
      made_below : Change (step_of K stim x n0 b0 rest) now more → (j : ℕ) (d : Branch) → slice_get more j ≡ Some d → IsChild then n0 (length x.branches + j)
      made_below (quiet q en) j d e = none_given (subst (λ m. slice_get m j ≡ Some d) en e)
      made_below (opens gs some en el) j d e =
          let l : length more ≡ length gs = ap length el ∙ made_length (step_of K stim x n0 b0 rest) (length gs) 0 [] gs in
          let w = within more j e in
          record {
            parent = now;
            is = at_itself x.branches n0 b0 now more is;
            from = length x.branches;
            count = length gs;
            waiting = ap (λ (k : Branch). k.mode) en;
            least = omega arith;
            less = omega (arith, l, w);
          }

      -- and stands in its maker's side
      made_side : (bs : kernel.Branches) (gs : List Begun) → all_begun bs ≡ gs → (j : ℕ) (d : Branch) → slice_get (children (step_of K stim x n0 b0 rest) (length gs) 0 [] gs) j ≡ Some d →
          (s : Side) → side_of b0 c ≡ Some s → side_of d c ≡ Some s
      made_side bs gs same j d e s stands =
          let e' = subst (λ l. slice_get (children (step_of K stim x n0 b0 rest) (length l) 0 [] l) j ≡ Some d) (sym same) e in
          let long = lawful.long.long n0 b0 is in
          let k = stands_in c (step_of K stim x n0 b0 rest) bs j d (omega (arith, lt, long)) e' in
          inherits c (front_of [] (codes_of (all_begun bs)) j) k.code (next_of (codes_of (all_begun bs)) j) (side_of b0 c) (side_of d c) s k.stands.side stands

      made_elsewhere : (j : ℕ) (d : Branch) → slice_get more j ≡ Some d → IsElsewhere b0 → IsElsewhere d
      made_elsewhere j d e r u =
          let uses0 : IsTrue (by_items (channel c) b0.items) = subst (λ i. IsTrue (by_items (channel c) i)) (sym ei) (made_uses (step_of K stim x n0 b0 rest) item now more g j d e (channel c) u) in
          by g e (r uses0)
        where
          by : {item : Item} {now : Branch} {more : List Branch} → Becomes (step_of K stim x n0 b0 rest) item now more → slice_get more j ≡ Some d → side_of b0 c ≡ Some (other_side side) → side_of d c ≡ Some (other_side side)
          by (goes one items l) e stands = none_given e
          by (enters one k items l) e stands = none_given e
          by (exits one items l) e stands = none_given e
          by (errs one) e stands = none_given e
          by ends_it e stands = none_given e
          by (makes bs first_one others f) e stands = made_side bs (first_one ∷ others) f j d e (other_side side) stands

      made_related : (j : ℕ) (d : Branch) → slice_get more j ≡ Some d → Related then (length x.branches + j) d
      made_related j d e =
          let child = made_below (change (step_of K stim x n0 b0 rest) item now more em g) j d e in
          ⊎_elim
          (λ (same : n0 ≡ b). inr (inl (subst (λ i. Above then i (length x.branches + j)) same (directly child))))
          (λ (ne : n0 ≢ b).
          ⊎_elim
          (λ above. absurd (running_waits_not em (above_waits x.branches n0 b b0 is above)))
          (λ other. ⊎_elim (λ above. inr (inl (above_child then (stays above) child))) (λ r. inr (inr (made_elsewhere j d e r))) other)
          (h.others n0 b0 is ne))
          (same_or_not n0 b)

      step_related : (n : ℕ) (d : Branch) → n ≢ b → Behind x.branches n0 now more n d → Related then n d
      step_related n d ne (itself en ed) =
          subst (λ i. Related then i d) (sym en) (subst (Related then n0) (sym ed) (own_related (λ e. ne (en ∙ e)) (h.others n0 b0 is (λ e. ne (en ∙ e)))))
      step_related n d ne (there nn e) = still n d (h.others n d e ne)
      step_related n d ne (new j en e) = subst (λ i. Related then i d) (sym en) (made_related j d e)

    -- A branch goes on behind its `par`.
    module _ (n0 : ℕ) (b0 : Branch) (from count : ℕ) (is : slice_get x.branches n0 ≡ Some b0) (ew : b0.mode ≡ waits from count) (done : IsTrue (all_done x from count))
        (own : Branch) (known : slice_get x.branches b ≡ Some own) (on : own.mode ≡ ended → ⊥) where
      abbrev later : List Branch
      later = slice_set x.branches n0 (record b0 { mode = runs }) ++ []

      its_done : (k : ℕ) (d : Branch) → IsChild x.branches n0 k → slice_get x.branches k ≡ Some d → d.mode ≡ ended
      its_done k d child e =
          let its : b0 ≡ child.parent = some_given (sym is ∙ child.is) in
          let same : waits from count ≡ waits child.from child.count = sym ew ∙ ap (λ (p : Branch). p.mode) its ∙ child.waiting in
          let e1 : from ≡ child.from = cc in
          let e2 : count ≡ child.count = cc in
          let l1 = child.least in
          let l2 = child.less in
          let q = done_at x from count k done (omega (arith, e1, l1)) (omega (arith, e1, e2, l2)) in
          subst (λ (p : Branch). p.mode ≡ ended) (some_given (sym q.1 ∙ e)) q.2

      waits_no_more : (k : ℕ) (d : Branch) → IsChild x.branches n0 k → slice_get x.branches k ≡ Some d → IsWaiting d.mode → ⊥
      waits_no_more k d child e w = subst IsWaiting (its_done k d child e) w

      kept_above : {a m : ℕ} → Above x.branches a m → Above later a m ⊎ IsChild x.branches n0 m
      kept_above above = above_joined x.branches n0 b0 (record b0 { mode = runs }) [] is waits_no_more above

      -- one that has ended uses nothing
      uses_none : (m : ℕ) (d : Branch) → slice_get x.branches m ≡ Some d → IsChild x.branches n0 m → IsElsewhere d
      uses_none m d e child u =
          let empty = lawful.forest.stopped m d e (inl (its_done m d child e)) in
          absurd (true≢false (sym (subst (λ i. IsTrue (by_items (channel c) i)) empty u)))

      join_still : (n : ℕ) (d : Branch) → slice_get x.branches n ≡ Some d → Related x.branches n d → Related later n d
      join_still n d e (inl above) = ⊎_elim inl (λ child. absurd (on (its_done b own child known))) (kept_above above)
      join_still n d e (inr (inl above)) = ⊎_elim (λ above. inr (inl above)) (λ child. inr (inr (uses_none n d e child))) (kept_above above)
      join_still n d e (inr (inr r)) = inr (inr r)

      as_joined : (n : ℕ) (d : Branch) → d ≡ record b0 { mode = runs } → Related later n b0 → Related later n d
      as_joined n d ed (inl above) = inl above
      as_joined n d ed (inr (inl above)) = inr (inl above)
      as_joined n d ed (inr (inr r)) = inr (inr (subst IsElsewhere (sym ed) r))

      join_related : (n : ℕ) (d : Branch) → n ≢ b → Behind x.branches n0 (record b0 { mode = runs }) [] n d → Related later n d
      join_related n d ne (itself en ed) =
          let at : slice_get x.branches n ≡ Some b0 = ap (slice_get x.branches) en ∙ is in
          as_joined n d ed (join_still n b0 at (h.others n b0 at ne))
      join_related n d ne (there nn e) = join_still n d e (h.others n d e ne)
      join_related n d ne (new j en e) = none_given e

    alone_moved : (own : Branch) → slice_get x.branches b ≡ Some own → (own.mode ≡ ended → ⊥) → {y : World} → Moved K stim x y → HasAlone y.branches c side b
    alone_moved own known on (ticked clocks) = record { others = h.others }
    alone_moved own known on (stepped n0 b0 item rest z is em ei o) =
        subst (λ bs. HasAlone bs c side b) (sym o.branches)
        (record { others = λ n d e ne. step_related n0 b0 item rest is em ei o.now o.more o.becomes n d ne (behind x.branches n0 b0 o.now o.more n d is e) })
    alone_moved own known on (joined n0 b0 from count is ew done) =
        subst (λ bs. HasAlone bs c side b) (append-nil (slice_set x.branches n0 (record b0 { mode = runs })))
        (record { others = λ n d e ne. join_related n0 b0 from count is ew done own known on n d ne (behind x.branches n0 b0 (record b0 { mode = runs }) [] n d is e) })

  -- a state by the laws in which a branch has its side for itself
  record IsAlone (K : kernel.Kernel) (x : World) (b : ℕ) : Type 0 where
    lawful : Lawful K x
    old : Branch
    was : slice_get x.branches b ≡ Some old
    alone : HasAlone x.branches c side b

  alone_by : (K : kernel.Kernel) (stim : Stim) (ms : List Action) (o : Option World) (y : World) (b : ℕ) (own : Branch) → c < length K.channels → ((x : World) → o ≡ Some x → IsAlone K x b) →
      acts_all K stim o ms ≡ Some y → slice_get y.branches b ≡ Some own → (own.mode ≡ ended → ⊥) → HasAlone y.branches c side b
  alone_by K stim ms None y b own lt h e known on = from_none K stim ms y e
  alone_by K stim [] (Some x) y b own lt h e known on = (h y e).alone
  alone_by K stim (m ∷ ms) (Some x) y b own lt h e known on =
      let at = h x refl in
      alone_by K stim ms (acts K stim x m) y b own lt
      (λ z f.
      let next = (branches_stay K stim x z m at.lawful f).still b at.old at.was in
      let lawful' = laws_kept K stim x z m f at.lawful in
      let not_over : at.old.mode ≡ ended → ⊥ = λ over. on (over_by K stim ms (Some z) y b own (λ z' f'. subst (λ k. IsOver K k b) (some_given f') (record { lawful = lawful'; old = next.0; was = next.1; over = subst (λ (d : Branch). d.mode ≡ ended) (sym (next.2.stopped (inl over))) over })) (ap (λ o. acts_all K stim o ms) (sym f) ∙ e) known) in
      record { lawful = lawful'; old = next.0; was = next.1; alone = alone_moved K stim x at.lawful lt b at.alone at.old at.was not_over (moved K stim x (no_text K stim x at.lawful.kernels) m f) })
      e known on

  -- any piece of a run, behind which the branch hasn't ended, leaves it its side
  pub alone_behind : (g : Given) (x : World) → Lawful g.program x → c < length g.program.channels → (b : ℕ) (old own : Branch) → slice_get x.branches b ≡ Some old → HasAlone x.branches c side b →
      (piece : List Action) (y : World) → acts_all g.program g.stimulus (Some x) piece ≡ Some y → slice_get y.branches b ≡ Some own → (own.mode ≡ ended → ⊥) → HasAlone y.branches c side b
  alone_behind g x lawful lt b old own was h piece y e known on =
      alone_by g.program g.stimulus piece (Some x) y b own lt
      (λ z f. subst (λ k. IsAlone g.program k b) (some_given f) (record { lawful = lawful; old = old; was = was; alone = h })) e known on
