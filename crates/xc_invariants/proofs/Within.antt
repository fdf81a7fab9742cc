-- A branch that has erred in a transaction keeps its side of the channel to itself, or a branch above it has the transaction's end
-- among its items.
use Rattle.std.proofs.Common.{◌≡◌, ◌≢◌, ◌⊎◌, inl, inr, ⊎_elim, ℕ, zero, suc, ◌+◌, ◌<◌, IsTrue, List, [], ◌∷◌, ◌++◌, length, Option, Some, None, slice_get, slice_set, slice_index_or, nat_eq, refl, sym, ap, subst, ◌∙◌, append-nil, true≢false, arith}
use Rattle.xs_instr.specs.declared.image.Stim.{Stim}
use Rattle.xc_kernel.specs.Plain as kernel
use Rattle.xc_kernel.specs.Things.{channel}
use Rattle.xc_meaning.specs.States.Channels.{Side, first, second, other_side}
use Rattle.xc_meaning.specs.States.Items.{Item, does, says, stores, stamps, mark, awaits, transaction_end, chooses, fixed, ends}
use Rattle.xc_meaning.specs.States.Branches.{runs, waits, ended, erred, Branch, side_of}
use Rattle.xc_meaning.specs.States.Worlds.{World}
use Rattle.xc_meaning.specs.Settings.Setting.{Setting}
use Rattle.xc_meaning.specs.Settings.Channels.{is_among}
use Rattle.xc_meaning.specs.Settings.Par.{Begun, all_done, children, codes_of}
use Rattle.xc_meaning.specs.Settings.Sides.{side_in, sides_in}
use Rattle.xc_meaning.specs.Runs.{step_of, kernel_start}
use Rattle.xc_meaning.specs.Uses.{by_items}
use Rattle.xc_meaning.specs.Outline.{Becomes, goes, enters, exits, errs, ends_it, makes, Moved, ticked, stepped, joined}
use Rattle.xc_meaning.proofs.Basics.{some_given, none_given, same_or_not, or_cases, not_false}
use Rattle.xc_invariants.specs.Every.{AllItems}
use Rattle.xc_invariants.specs.Sided.{Differ, ItemBySide}
use Rattle.xc_invariants.specs.Placed.{ends_of, IfLively}
use Rattle.xc_invariants.specs.Nested.{StandsInside, EachInside, EndIsBehind, its_own, above}
use Rattle.xc_invariants.specs.Tree.{IsChild, Above, directly, further, IsWaiting, IsForest}
use Rattle.xc_invariants.specs.Lawful.{Lawful}
use Rattle.xc_invariants.specs.Within.{StandsOpposite, KeepsSide, ErredWithin, alone, below, EachErredAlone}
use Rattle.xc_invariants.proofs.Always.{ends_use}
use Rattle.xc_invariants.proofs.Lookups.{Behind, itself, there, new, behind, within, at_itself, at_other, born, front_of, next_of}
use Rattle.xc_invariants.proofs.Trees.{waiting_is, running_waits_not, above_first, above_waits, above_stays, above_joined, Change, quiet, opens, change, resumed, Waiter, before, opener, waiter, new_runs}
use Rattle.xc_invariants.proofs.Pairs.{done_at}
use Rattle.xc_invariants.proofs.Sides.{sides_stay}
use Rattle.xc_invariants.proofs.Starts.{start_at}
use Rattle.xc_invariants.proofs.Uses.{IsKernels, becomes_uses, made_uses}
use Rattle.xc_invariants.proofs.Nested.{end_is_behind}

-- A branch stands on each side on which the branch stands that waits for it.
pub record EachInherits (c : ℕ) (bs : List Branch) : Type 0 where
  pub side : (m n : ℕ) (p d : Branch) → IsChild bs m n → slice_get bs m ≡ Some p → slice_get bs n ≡ Some d →
      (side : Side) → side_of p c ≡ Some side → side_of d c ≡ Some side

-- Sides go down.

pub sides_inherited : (k : ℕ) (front : List kernel.Statements) (here : kernel.Statements) (next : List kernel.Statements) (sides : List (Option Side)) (c : ℕ) (side : Side) → slice_index_or sides c None ≡ Some side → slice_index_or (sides_in k front here next sides) c None ≡ Some side
sides_inherited k front here next [] c side e = none_given e
sides_inherited k front here next (o ∷ sides) zero side e = ap (side_in k front here next) e
sides_inherited k front here next (o ∷ sides) (suc c) side e = sides_inherited (k + 1) front here next sides c side e

-- a branch that errs keeps its sides and its transactions
erred_by : (s : Setting) (item : Item) (now : Branch) (more : List Branch) → s.branch.mode ≡ runs → Becomes s item now more → now.mode ≡ erred → (more ≡ []) × (now.sides ≡ s.branch.sides) × (now.inside ≡ s.branch.inside)
erred_by s item now more em (goes one items l) e = let z : runs ≡ erred = sym em ∙ e in absurd cc
erred_by s item now more em (enters one c items l) e = let z : runs ≡ erred = sym em ∙ e in absurd cc
erred_by s item now more em (exits one items l) e = let z : runs ≡ erred = sym em ∙ e in absurd cc
erred_by s item now more em (errs one) e = (refl, refl, refl)
erred_by s item now more em ends_it e = absurd cc
erred_by s item now more em (makes bs b others f) e = absurd cc

module _ (c : ℕ) where
  module _ (s : Setting) (now : Branch) (more : List Branch) (is : slice_get s.world.branches s.number ≡ Some s.branch) (roots : ℕ) (f : IsForest roots s.world.branches) (ch : Change s now more) (h : EachInherits c s.world.branches) where
    abbrev then : List Branch
    then = slice_set s.world.branches s.number now ++ more

    now_side : Change s now more → side_of now c ≡ side_of s.branch c
    now_side (quiet q e) = ap (λ l. slice_index_or l c None) q.sides
    now_side (opens gs lt en em) = ap (λ (d : Branch). side_of d c) en

    module _ (m n : ℕ) (p d : Branch) (child : IsChild then m n) (ep : slice_get then m ≡ Some p) (side : Side) (e : side_of p c ≡ Some side) where
      same : child.parent ≡ p
      same = some_given (sym child.is ∙ ep)

      -- of what waited before
      old_side : slice_get s.world.branches m ≡ Some child.parent → Behind s.world.branches s.number now more n d → side_of d c ≡ Some side
      old_side e0 (there ne ed) = h.side m n child.parent d (record { parent = child.parent; is = e0; from = child.from; count = child.count; waiting = child.waiting; least = child.least; less = child.less }) e0 ed side (ap (λ (z : Branch). side_of z c) same ∙ e)
      old_side e0 (itself ek ed) =
          ap (λ (z : Branch). side_of z c) ed ∙ now_side ch
          ∙ h.side m n child.parent s.branch (record { parent = child.parent; is = e0; from = child.from; count = child.count; waiting = child.waiting; least = child.least; less = child.less }) e0 (ap (slice_get s.world.branches) ek ∙ is) side (ap (λ (z : Branch). side_of z c) same ∙ e)
      old_side e0 (new j ek ed) =
          let g = f.family m n child.parent child.from child.count e0 child.waiting in
          let l = g.3 in
          let lt = child.less in
          absurd (omega arith)

      -- of those that are made
      new_side : (gs : List Begun) → child.parent ≡ record s.branch { mode = waits (length s.world.branches) (length gs); items = s.rest } → more ≡ children s (length gs) 0 [] gs → child.from ≡ length s.world.branches → Behind s.world.branches s.number now more n d → side_of d c ≡ Some side
      new_side gs eb em ef (there ne ed) = let l = within s.world.branches n ed in let k = child.least in absurd (omega arith)
      new_side gs eb em ef (itself ek ed) = let l = within s.world.branches s.number is in let k = child.least in absurd (omega arith)
      new_side gs eb em ef (new j ek ed) =
          let b = born s (length gs) 0 [] gs j d (subst (λ z. slice_get z j ≡ Some d) em ed) in
          let makers : side_of s.branch c ≡ Some side = sym (ap (λ (z : Branch). side_of z c) eb) ∙ (ap (λ (z : Branch). side_of z c) same ∙ e) in
          ap (λ (z : Branch). side_of z c) b.is ∙ sides_inherited 0 (front_of [] (codes_of gs) j) b.begun.code (next_of (codes_of gs) j) s.branch.sides c side makers

      side_by : Waiter s now more is m child.parent child.from child.count → slice_get then n ≡ Some d → side_of d c ≡ Some side
      side_by (before ne e0) ed = old_side e0 (behind s.world.branches s.number s.branch now more n d is ed)
      side_by (opener gs pos ek eb em ef ec) ed = new_side gs eb em ef (behind s.world.branches s.number s.branch now more n d is ed)

    pub inherits_after : EachInherits c then
    inherits_after = record { side = λ m n p d child ep ed side e. side_by m n p d child ep side e (waiter s now more is ch m child.parent child.from child.count child.is child.waiting) ed }

  pub inherits_kept : (K : kernel.Kernel) (stim : Stim) (roots : ℕ) (x : World) {y : World} → IsForest roots x.branches → EachInherits c x.branches → Moved K stim x y → EachInherits c y.branches
  inherits_kept K stim roots x f h (ticked clocks) = record { side = h.side }
  inherits_kept K stim roots x f h (stepped n b item rest z is em ei o) =
      subst (EachInherits c) (sym o.branches) (inherits_after (step_of K stim x n b rest) o.now o.more is roots f (change (step_of K stim x n b rest) item o.now o.more em o.becomes) h)
  inherits_kept K stim roots x f h (joined n b from count is em d) =
      subst (EachInherits c) (append-nil (slice_set x.branches n (record b { mode = runs })))
      (inherits_after (step_of K stim x n b b.items) (record b { mode = runs }) [] is roots f (resumed (step_of K stim x n b b.items)) h)

  pub inherits_begins : (K : kernel.Kernel) → EachInherits c (kernel_start K).branches
  inherits_begins K = record {
    side = λ m n p d child ep ed side e.
        let r = start_at K m p ep in
        let q = some_given (sym child.is ∙ ep) in
        absurd (running_waits_not (ap (λ (z : Branch). z.mode) (q ∙ r.is)) (waiting_is child.waiting));
  }

  -- at any depth
  pub side_below : (bs : List Branch) → EachInherits c bs → (m n : ℕ) (p d : Branch) → Above bs m n → slice_get bs m ≡ Some p → slice_get bs n ≡ Some d → (side : Side) → side_of p c ≡ Some side → side_of d c ≡ Some side
  side_below bs h m n p d (directly child) ep ed side e = h.side m n p d child ep ed side e
  side_below bs h m n p d (further {k = k} child a) ep ed side e =
      let q = above_first bs a in
      side_below bs h k n q.0 d a q.1 ed side (h.side m k p q.0 child ep q.1 side e)

  -- where a transaction ends among a branch's items, the branch has a side
  has_side : (items : List Item) → AllItems (ItemBySide c None) items → IsTrue (is_among c (ends_of items)) → ⊥
  has_side [] h u = true≢false (sym u)
  has_side (transaction_end d is_master pos ∷ rest) h u = ⊎_elim (λ v. not_false v h.0) (λ v. has_side rest h.1 v) (or_cases (nat_eq c d) (is_among c (ends_of rest)) u)
  has_side (does s ∷ rest) h u = has_side rest h.1 u
  has_side (says i ∷ rest) h u = has_side rest h.1 u
  has_side (stores p v ∷ rest) h u = has_side rest h.1 u
  has_side (stamps resource p v ∷ rest) h u = has_side rest h.1 u
  has_side (mark n ∷ rest) h u = has_side rest h.1 u
  has_side (awaits d pos ∷ rest) h u = has_side rest h.1 u
  has_side (chooses choices otherwise ∷ rest) h u = has_side rest h.1 u
  has_side (fixed i v counter ∷ rest) h u = has_side rest h.1 u
  has_side (ends ∷ rest) h u = has_side rest h.1 u

  pub side_there : (o : Option Side) (items : List Item) → AllItems (ItemBySide c o) items → IsTrue (is_among c (ends_of items)) → (side : Side) × (o ≡ Some side)
  side_there None items h u = absurd (has_side items h u)
  side_there (Some side) items h u = (side, refl)

  -- the other one of two sides
  other_of : (side : Side) (o : Option Side) → Differ (Some side) o → o ≡ Some (other_side side)
  other_of first None h = absurd h
  other_of first (Some first) h = absurd h
  other_of first (Some second) h = refl
  other_of second None h = absurd h
  other_of second (Some first) h = refl
  other_of second (Some second) h = absurd h

  module _ (K : kernel.Kernel) (stim : Stim) (x : World) (lawful : Lawful K x) (lt : c < length K.channels) (inside : EachInside (length K.roots) x.branches) (h : EachErredAlone c x.branches) where
    -- A branch that runs does its first item.
    module _ (n0 : ℕ) (b0 : Branch) (item : Item) (rest : List Item) (is : slice_get x.branches n0 ≡ Some b0) (em : b0.mode ≡ runs) (ei : b0.items ≡ item ∷ rest) (now : Branch) (more : List Branch) (g : Becomes (step_of K stim x n0 b0 rest) item now more) where
      abbrev after : List Branch
      after = slice_set x.branches n0 now ++ more

      stays : {a m : ℕ} → Above x.branches a m → Above after a m
      stays a = above_stays x.branches n0 b0 now more is (λ w. running_waits_not em w) a

      -- a branch above another isn't the one that runs
      not_running : (k m : ℕ) (p : Branch) → Above x.branches k m → slice_get x.branches k ≡ Some p → k ≢ n0
      not_running k m p a ep e = running_waits_not em (above_waits x.branches n0 m b0 is (subst (λ z. Above x.branches z m) e a))

      all_kernels : AllItems IsKernels (item ∷ rest)
      all_kernels = subst (AllItems IsKernels) ei (lawful.kernels.all n0 b0 is)

      own_elsewhere : (side : Side) → StandsOpposite c side b0 → StandsOpposite c side now
      own_elsewhere side r u =
          ap (λ l. slice_index_or l c None) (sides_stay (step_of K stim x n0 b0 rest) item now more g)
          ∙ r (subst (λ i. IsTrue (by_items (channel c) i)) (sym ei) (becomes_uses (step_of K stim x n0 b0 rest) item now more g all_kernels (channel c) u))

      made_side : (j : ℕ) (d : Branch) → slice_get more j ≡ Some d → (side : Side) → side_of b0 c ≡ Some side → side_of d c ≡ Some side
      made_side j d e side stands = by (change (step_of K stim x n0 b0 rest) item now more em g)
        where
          by : Change (step_of K stim x n0 b0 rest) now more → side_of d c ≡ Some side
          by (quiet q en) = none_given (subst (λ z. slice_get z j ≡ Some d) en e)
          by (opens gs some en el) =
              let b = born (step_of K stim x n0 b0 rest) (length gs) 0 [] gs j d (subst (λ z. slice_get z j ≡ Some d) el e) in
              ap (λ (z : Branch). side_of z c) b.is ∙ sides_inherited 0 (front_of [] (codes_of gs) j) b.begun.code (next_of (codes_of gs) j) b0.sides c side stands

      made_elsewhere : (side : Side) (j : ℕ) (d : Branch) → slice_get more j ≡ Some d → StandsOpposite c side b0 → StandsOpposite c side d
      made_elsewhere side j d e r u =
          made_side j d e (other_side side) (r (subst (λ i. IsTrue (by_items (channel c) i)) (sym ei) (made_uses (step_of K stim x n0 b0 rest) item now more g j d e (channel c) u)))

      -- one that has erred before keeps its side
      module _ (m : ℕ) (w : Branch) (side : Side) (at : slice_get x.branches m ≡ Some w) (over : w.mode ≡ erred) (k : KeepsSide x.branches c side m) where
        not_it : n0 ≢ m
        not_it e = let z : runs ≡ erred = sym em ∙ (ap (λ (d : Branch). d.mode) (some_given (sym is ∙ (ap (slice_get x.branches) e ∙ at))) ∙ over) in absurd cc

        runner : StandsOpposite c side b0
        runner = ⊎_elim (λ a. absurd (running_waits_not em (above_waits x.branches n0 m b0 is a))) (λ r. r) (k.others n0 b0 is not_it)

        others_after : (n : ℕ) (d : Branch) → Behind x.branches n0 now more n d → n ≢ m → Above after n m ⊎ StandsOpposite c side d
        others_after n d (itself en ed) ne = inr (subst (StandsOpposite c side) (sym ed) (own_elsewhere side runner))
        others_after n d (there nn e) ne = ⊎_elim (λ a. inl (stays a)) (λ r. inr r) (k.others n d e ne)
        others_after n d (new j en e) ne = inr (made_elsewhere side j d e runner)

        keeps_after : KeepsSide after c side m
        keeps_after = record { others = λ n d e ne. others_after n d (behind x.branches n0 b0 now more n d is e) ne }

      old_erred : (m : ℕ) (w : Branch) → slice_get x.branches m ≡ Some w → w.mode ≡ erred → ErredWithin x.branches c m w → ErredWithin after c m w
      old_erred m w at over (alone side e k) = alone side e (keeps_after m w side at over k)
      old_erred m w at over (below k p a ep u) = below k p (stays a) (at_other x.branches n0 now more k p (not_running k m p a ep) ep) u

      -- one that errs now
      others_of : more ≡ [] → (n : ℕ) (d : Branch) → Behind x.branches n0 now more n d → n ≢ n0 → (side : Side) → side_of b0 c ≡ Some side → IsTrue (is_among c (ends_of b0.items)) → Above after n n0 ⊎ StandsOpposite c side d
      others_of en n d (itself ek ed) ne side e u = absurd (ne ek)
      others_of en n d (there nn at) ne side e u =
          ⊎_elim (λ a. absurd (running_waits_not em (above_waits x.branches n0 n b0 is a)))
          (λ o. ⊎_elim (λ a. inl (stays a)) (λ r. inr (λ v. other_of side (side_of d c) (subst (λ z. Differ z (side_of d c)) e (r.differ (ends_use c b0.items u) v)))) o)
          ((lawful.other_sides c lt).pair n0 n b0 d is at (λ z. ne (sym z)))
      others_of en n d (new j ek at) ne side e u = none_given (subst (λ z. slice_get z j ≡ Some d) en at)

      erring : more ≡ [] → now.sides ≡ b0.sides → EndIsBehind x.branches c n0 b0 → ErredWithin after c n0 now
      erring en es (its_own u) =
          let here = side_there (side_of b0 c) b0.items ((lawful.sided c lt).all n0 b0 is) u in
          alone here.0 (ap (λ l. slice_index_or l c None) es ∙ here.1) (record { others = λ n d e ne. others_of en n d (behind x.branches n0 b0 now more n d is e) ne here.0 here.1 u })
      erring en es (above k p a ep u) = below k p (stays a) (at_other x.branches n0 now more k p (not_running k n0 p a ep) ep) u

      now_erred : now.mode ≡ erred → IsTrue (is_among c now.inside) → ErredWithin after c n0 now
      now_erred over u =
          let r = erred_by (step_of K stim x n0 b0 rest) item now more em g over in
          let stands : StandsInside (length K.roots) x.branches n0 b0 = subst (λ z. IfLively z (StandsInside (length K.roots) x.branches n0 b0)) em (inside.each n0 b0 is) in
          erring r.0 r.1 (end_is_behind (length K.roots) x.branches lawful.forest inside n0 b0 stands c (subst (λ i. IsTrue (is_among c i)) r.2 u))

      erred_behind : (m : ℕ) (w : Branch) → Behind x.branches n0 now more m w → w.mode ≡ erred → IsTrue (is_among c w.inside) → ErredWithin after c m w
      erred_behind m w (itself ek ew) over u =
          subst (λ z. ErredWithin after c z w) (sym ek) (subst (ErredWithin after c n0) (sym ew) (now_erred (sym (ap (λ (d : Branch). d.mode) ew) ∙ over) (subst (λ (d : Branch). IsTrue (is_among c d.inside)) ew u)))
      erred_behind m w (there ne e) over u = old_erred m w e over (h.each m w e over u)
      erred_behind m w (new j ek e) over u =
          let z : runs ≡ erred = sym (new_runs (step_of K stim x n0 b0 rest) now more is (change (step_of K stim x n0 b0 rest) item now more em g) j w e) ∙ over in absurd cc

    -- A branch goes on behind its `par`.
    module _ (n0 : ℕ) (b0 : Branch) (from count : ℕ) (is : slice_get x.branches n0 ≡ Some b0) (ew : b0.mode ≡ waits from count) (done : IsTrue (all_done x from count)) where
      abbrev later : List Branch
      later = slice_set x.branches n0 (record b0 { mode = runs }) ++ []

      its_done : (k : ℕ) (d : Branch) → IsChild x.branches n0 k → slice_get x.branches k ≡ Some d → d.mode ≡ ended
      its_done k d child e =
          let its : b0 ≡ child.parent = some_given (sym is ∙ child.is) in
          let same : waits from count ≡ waits child.from child.count = sym ew ∙ ap (λ (p : Branch). p.mode) its ∙ child.waiting in
          let e1 : from ≡ child.from = cc in
          let e2 : count ≡ child.count = cc in
          let l1 = child.least in
          let l2 = child.less in
          let q = done_at x from count k done (omega (arith, e1, l1)) (omega (arith, e1, e2, l2)) in
          subst (λ (p : Branch). p.mode ≡ ended) (some_given (sym q.1 ∙ e)) q.2

      waits_no_more : (k : ℕ) (d : Branch) → IsChild x.branches n0 k → slice_get x.branches k ≡ Some d → IsWaiting d.mode → ⊥
      waits_no_more k d child e w = subst IsWaiting (its_done k d child e) w

      module _ (m : ℕ) (w : Branch) (at : slice_get x.branches m ≡ Some w) (over : w.mode ≡ erred) where
        -- those above one that has erred stay there
        kept_above : {a : ℕ} → Above x.branches a m → Above later a m
        kept_above a =
            ⊎_elim (λ k. k) (λ child. let z : ended ≡ erred = sym (its_done m w child at) ∙ over in absurd cc) (above_joined x.branches n0 b0 (record b0 { mode = runs }) [] is waits_no_more a)

        others_later : (side : Side) → KeepsSide x.branches c side m → (n : ℕ) (d : Branch) → Behind x.branches n0 (record b0 { mode = runs }) [] n d → n ≢ m → Above later n m ⊎ (IsTrue (by_items (channel c) d.items) → side_of d c ≡ Some (other_side side))
        others_later side k n d (itself en ed) ne =
            ⊎_elim (λ a. inl (kept_above a)) (λ r. inr (subst (λ (z : Branch). IsTrue (by_items (channel c) z.items) → side_of z c ≡ Some (other_side side)) (sym ed) r)) (k.others n b0 (ap (slice_get x.branches) en ∙ is) ne)
        others_later side k n d (there nn e) ne = ⊎_elim (λ a. inl (kept_above a)) (λ r. inr r) (k.others n d e ne)
        others_later side k n d (new j en e) ne = none_given e

        erred_later : ErredWithin x.branches c m w → ErredWithin later c m w
        erred_later (alone side e k) = alone side e (record { others = λ n d z ne. others_later side k n d (behind x.branches n0 b0 (record b0 { mode = runs }) [] n d is z) ne })
        erred_later (below k p a ep u) =
            ⊎_elim
            (λ (same : k ≡ n0).
            let q : p ≡ b0 = some_given (sym ep ∙ (ap (slice_get x.branches) same ∙ is)) in
            below n0 (record b0 { mode = runs }) (subst (λ z. Above later z m) same (kept_above a)) (at_itself x.branches n0 b0 (record b0 { mode = runs }) [] is) (subst (λ (z : Branch). IsTrue (is_among c (ends_of z.items))) q u))
            (λ ne. below k p (kept_above a) (at_other x.branches n0 (record b0 { mode = runs }) [] k p ne ep) u) (same_or_not k n0)

      erred_joined : (m : ℕ) (w : Branch) → Behind x.branches n0 (record b0 { mode = runs }) [] m w → w.mode ≡ erred → IsTrue (is_among c w.inside) → ErredWithin later c m w
      erred_joined m w (itself ek ed) over u = let z : runs ≡ erred = sym (ap (λ (d : Branch). d.mode) ed) ∙ over in absurd cc
      erred_joined m w (there ne e) over u = erred_later m w e over (h.each m w e over u)
      erred_joined m w (new j ek e) over u = none_given e

    pub erred_kept : {y : World} → Moved K stim x y → EachErredAlone c y.branches
    erred_kept (ticked clocks) = record { each = h.each }
    erred_kept (stepped n b item rest z is em ei o) =
        subst (EachErredAlone c) (sym o.branches) (record { each = λ m w e over u. erred_behind n b item rest is em ei o.now o.more o.becomes m w (behind x.branches n b o.now o.more m w is e) over u })
    erred_kept (joined n b from count is ew d) =
        subst (EachErredAlone c) (append-nil (slice_set x.branches n (record b { mode = runs })))
        (record { each = λ m w e over u. erred_joined n b from count is ew d m w (behind x.branches n b (record b { mode = runs }) [] m w is e) over u })

  pub erred_begins : (K : kernel.Kernel) → EachErredAlone c (kernel_start K).branches
  erred_begins K = record { each = λ m w e over u. let r = start_at K m w e in let z : runs ≡ erred = sym (ap (λ (d : Branch). d.mode) r.is) ∙ over in absurd cc }
