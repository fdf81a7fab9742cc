-- The laws of a kernel's runs, and what follows of each state.
use Rattle.std.proofs.Common.{◌≡◌, inl, inr, ⊎_elim, ℕ, ◌<◌, false, IsTrue, List, [], ◌∷◌, ◌++◌, length, Option, Some, None, slice_get, nat_eq, refl, sym, ap, subst, true≢false}
use Rattle.std.specs.Prelude.{IsSome}
use Rattle.xs_instr.specs.declared.image.Stim.{Stim}
use Rattle.xc_kernel.specs.Plain as kernel
use Rattle.xc_meaning.specs.States.Channels.{Side}
use Rattle.xc_meaning.specs.States.Items.{Choice, Item, does, says, stores, stamps, mark, awaits, transaction_end, chooses, fixed, ends}
use Rattle.xc_meaning.specs.States.Branches.{Mode, runs, Branch, side_of}
use Rattle.xc_meaning.specs.States.Worlds.{World, Action}
use Rattle.xc_meaning.specs.Settings.Channels.{is_among}
use Rattle.xc_meaning.specs.Runs.{kernel_run, acts, acts_all, kernel_start}
use Rattle.xc_kernel.specs.Things.{Thing, variable, change, port, timer, channel, by_branches}
use Rattle.xc_meaning.specs.Uses.{by_items}
use Rattle.xc_invariants.specs.Every.{AllItems, EveryItem}
use Rattle.xc_invariants.specs.Tree.{IsWaiting, Unrelated}
use Rattle.xc_invariants.specs.Rules.{AnyThing, AnyPar, AnyTransaction, AllApart}
use Rattle.xc_kernel.specs.Branches.{branches_of}
use Rattle.xc_invariants.specs.Sided.{Differ, ItemBySide, UnsidedItem, EachChoice, UnsidedInput, UnsidedStatements}
use Rattle.xc_invariants.specs.Channels.{IsListed}
use Rattle.xc_invariants.proofs.Unbroken.{unbroken_apart, unbroken_sided, used_listed}
use Rattle.xc_invariants.proofs.Here.{uses_here}
use Rattle.xc_invariants.proofs.Copied.{copies_are_placed}
use Rattle.xc_invariants.specs.Lawful.{Obeys, IsTidy, BranchesFit, BudgetsFit, BudgetsStay, BudgetsSuffice, Listed, ListedAt, ListedHolds, PortsAreHere, AcceptedObey, Lawful, LawsBegin, LawsAreKept, LawsHold, NoneClash, OneOnEachSide, some_choice_on, is_on, Tidy, MarksStandOnce, EachHasSide, InsideIsOwn, AloneInside, EachGoesOn, ThreadsSuffice, BranchesStay}
use Rattle.xc_invariants.specs.Placed.{IsPlaced, AnyBlock, AnyInside, IsDistinct, AreUnused, marks_of, ends_of, PlacedItems, IfLively}
use Rattle.xc_meaning.specs.Outline.{Moved}
use Rattle.xc_invariants.specs.Each.{EachItem}
use Rattle.xc_meaning.proofs.Basics.{some_given, none_given, not_false, or_left, or_right, or_cases}
use Rattle.xc_invariants.proofs.EveryItem.{every_branches}
use Rattle.xc_invariants.proofs.Links.{of_branches}
use Rattle.xc_meaning.proofs.Moved.{moved}
use Rattle.xc_invariants.proofs.Uses.{every_kept, no_text}
use Rattle.xc_invariants.proofs.Starts.{start_at, all_at}
use Rattle.xc_invariants.proofs.Trees.{above_waits, forest_kept}
use Rattle.xc_invariants.proofs.Apart.{apart_kept, apart_begins, pars_begin, kernels_begin}
use Rattle.xc_invariants.proofs.Sides.{long_kept, sided_kept, other_kept}
use Rattle.xc_invariants.proofs.Begins.{forest_begins, long_begins, sided_begins, other_begins}
use Rattle.xc_invariants.specs.OnSides.{side_core}
use Rattle.xc_invariants.proofs.OnSides.{on_sides_begin, on_sides_kept}
use Rattle.xc_invariants.proofs.Threads.{cores_begin, cores_kept, branches_fit_in, budgets_fit_in}
use Rattle.xc_invariants.proofs.Needs.{has_what_it_takes, needs_kept, needs_stay, needs_begin, threads_suffice}
use Rattle.xc_invariants.proofs.Placed.{among_append, placed_kept, placed_begins, alone_kept, alone_begins}
use Rattle.xc_invariants.proofs.Cores.{here_kept, here_begins, grows}

listed_thing : (K : kernel.Kernel) → ((c : ℕ) → IsTrue (by_branches (channel c) (branches_of K.roots)) → c < length K.channels) → (th : Thing) → IsTrue (by_branches th (branches_of K.roots)) → Listed K th
listed_thing K h (channel c) u = h c u
listed_thing K h (variable v) u = tt
listed_thing K h (change v) u = tt
listed_thing K h (port p) u = tt
listed_thing K h (timer t) u = tt

pub laws_begin : LawsBegin
laws_begin K k = record {
  kernels = kernels_begin K;
  forest = forest_begins K;
  pars = pars_begin K k.apart;
  apart = apart_begins K k.apart;
  long = long_begins K;
  sided = λ c lt. sided_begins K k.sided c lt;
  other_sides = λ c lt. other_begins K k.sided c lt;
  on_sides = λ c lt. on_sides_begin c K k.sided lt;
  budget = needs_begin K;
  cores = cores_begin K;
  placed = placed_begins AnyBlock AnyInside K k.placed;
  here = here_begins K k.here;
}

-- by a step's outline
pub laws_step : (K : kernel.Kernel) (s : Stim) (x y : World) → Moved K s x y → Lawful K x → Lawful K y
laws_step K s x y m h = record {
  kernels = every_kept K s x AnyThing AnyPar AnyTransaction h.kernels m;
  forest = forest_kept K s (length K.roots) x h.forest m;
  pars = every_kept K s x AnyThing AllApart AnyTransaction h.pars m;
  apart = apart_kept K s x h.kernels h.pars (length K.roots) h.forest h.apart m;
  long = long_kept K s x (length K.channels) h.long m;
  sided = λ c lt. sided_kept K s x (length K.channels) c lt h.long (h.sided c lt) m;
  other_sides = λ c lt. other_kept K s x (length K.channels) c lt h.long h.kernels (h.sided c lt) (length K.roots) h.forest (h.other_sides c lt) m;
  on_sides = λ c lt. on_sides_kept (side_core K c) c K s x h lt (h.on_sides c lt) m;
  budget = needs_kept K.roots K s x h.forest h.budget m;
  cores = cores_kept K.roots K s x h.forest h.cores m;
  placed = placed_kept AnyBlock AnyInside K s x h.placed m;
  here = here_kept K s x h.here m;
}

pub laws_kept : LawsAreKept
laws_kept K s x y m e h = laws_step K s x y (moved K s x (no_text K s x h.kernels) m e) h

laws_along : (K : kernel.Kernel) (s : Stim) (ms : List Action) (o : Option World) (y : World) → ((x : World) → o ≡ Some x → Lawful K x) → acts_all K s o ms ≡ Some y → Lawful K y
laws_along K s ms None y h e = none_given e
laws_along K s [] (Some x) y h e = h y e
laws_along K s (m ∷ ms) (Some x) y h e = laws_along K s ms (acts K s x m) y (λ z f. laws_kept K s x z m f (h x refl)) e

pub laws_hold : LawsHold
laws_hold K s ms x k e = laws_along K s ms (Some (kernel_start K)) x (λ z f. subst (Lawful K) (some_given f) (laws_begin K k)) e

-- Two branches that don't wait are unrelated.
unrelated : {R : Branch → Branch → Type 0} (bs : List Branch) → Unrelated R bs → (n m : ℕ) (b c : Branch) → slice_get bs n ≡ Some b → slice_get bs m ≡ Some c → (n ≡ m → ⊥) → (IsWaiting b.mode → ⊥) → (IsWaiting c.mode → ⊥) → R b c
unrelated bs h n m b c e f ne wb wc =
    ⊎_elim (λ a. absurd (wb (above_waits bs n m b e a))) (λ g. ⊎_elim (λ a. absurd (wc (above_waits bs m n c f a))) (λ r. r) g) (h.pair n m b c e f ne)

pub none_clash : NoneClash
none_clash K x h n m b c e f ne wb wc = unrelated x.branches h.apart n m b c e f ne wb wc

-- a channel that is used is one of the kernel's
pub one_on_each_side : OneOnEachSide
one_on_each_side K x h n m b d e f ne wb wd c lt u v = (unrelated x.branches (h.other_sides c lt) n m b d e f ne wb wd).differ u v

no_choice : (c : ℕ) (choices : List Choice) → EachChoice (UnsidedInput c) (UnsidedStatements c) choices → IsTrue (some_choice_on c choices) → ⊥
no_choice c [] h u = true≢false (sym u)
no_choice c (a ∷ others) h u = ⊎_elim (λ v. not_false v h.0) (no_choice c others h.2) (or_cases _ _ u)

-- an item that is on a channel can't be one of a branch without a side
never_on : (c : ℕ) (item : Item) → UnsidedItem c item → IsTrue (is_on c item) → ⊥
never_on c (does (kernel.output o)) h u = not_false u h
never_on c (does (kernel.input i)) h u = not_false u h
never_on c (does (kernel.transaction d is_master ss start close)) h u = not_false u h.0
never_on c (does (kernel.set_zero v)) h u = true≢false (sym u)
never_on c (does (kernel.set p e)) h u = true≢false (sym u)
never_on c (does (kernel.if_then e a b)) h u = true≢false (sym u)
never_on c (does (kernel.loop e a b)) h u = true≢false (sym u)
never_on c (does (kernel.block n a)) h u = true≢false (sym u)
never_on c (does (kernel.exit n)) h u = true≢false (sym u)
never_on c (does (kernel.select cs d pos)) h u = true≢false (sym u)
never_on c (does (kernel.par bs)) h u = true≢false (sym u)
never_on c (says i) h u = true≢false (sym u)
never_on c (stores p v) h u = true≢false (sym u)
never_on c (stamps resource p v) h u = true≢false (sym u)
never_on c (mark n) h u = true≢false (sym u)
never_on c (awaits d pos) h u = not_false u h
never_on c (transaction_end d is_master pos) h u = not_false u h
never_on c (chooses choices otherwise) h u = no_choice c choices h.0 u
never_on c (fixed i v counter) h u = true≢false (sym u)
never_on c ends h u = true≢false (sym u)

side_there : (c : ℕ) (item : Item) (side : Option Side) → ItemBySide c side item → IsTrue (is_on c item) → IsSome side
side_there c item None h u = absurd (never_on c item h u)
side_there c item (Some side) h u = refl

choice_uses : (c : ℕ) (choices : List Choice) → IsTrue (some_choice_on c choices) → IsTrue (Rattle.xc_meaning.specs.Uses.by_choices (channel c) choices)
choice_uses c [] u = absurd (true≢false (sym u))
choice_uses c (a ∷ others) u =
    ⊎_elim (λ v. or_left (Rattle.xc_kernel.specs.Things.by_input (channel c) a.input) _ (or_left (Rattle.xc_kernel.specs.Things.by_resource (channel c) a.input.resource) _ v))
    (λ v. or_right (Rattle.xc_kernel.specs.Things.by_input (channel c) a.input) _ (or_right (Rattle.xc_meaning.specs.Uses.by_body (channel c) a.body) _ (choice_uses c others v))) (or_cases _ _ u)

-- what is on a channel uses it
on_uses : (c : ℕ) (item : Item) → IsTrue (is_on c item) → IsTrue (Rattle.xc_meaning.specs.Uses.by_item (channel c) item)
on_uses c (does (kernel.output o)) u = or_left (Rattle.xc_kernel.specs.Things.by_resource (channel c) o.resource) _ u
on_uses c (does (kernel.input i)) u = or_left (Rattle.xc_kernel.specs.Things.by_resource (channel c) i.resource) _ u
on_uses c (does (kernel.transaction d is_master ss start close)) u = or_left _ _ u
on_uses c (does (kernel.set_zero v)) u = absurd (true≢false (sym u))
on_uses c (does (kernel.set p e)) u = absurd (true≢false (sym u))
on_uses c (does (kernel.if_then e a b)) u = absurd (true≢false (sym u))
on_uses c (does (kernel.loop e a b)) u = absurd (true≢false (sym u))
on_uses c (does (kernel.block n a)) u = absurd (true≢false (sym u))
on_uses c (does (kernel.exit n)) u = absurd (true≢false (sym u))
on_uses c (does (kernel.select cs d pos)) u = absurd (true≢false (sym u))
on_uses c (does (kernel.par bs)) u = absurd (true≢false (sym u))
on_uses c (says i) u = absurd (true≢false (sym u))
on_uses c (stores p v) u = absurd (true≢false (sym u))
on_uses c (stamps resource p v) u = absurd (true≢false (sym u))
on_uses c (mark n) u = absurd (true≢false (sym u))
on_uses c (awaits d pos) u = u
on_uses c (transaction_end d is_master pos) u = u
on_uses c (chooses choices otherwise) u = or_left _ _ (choice_uses c choices u)
on_uses c (fixed i v counter) u = absurd (true≢false (sym u))
on_uses c ends u = absurd (true≢false (sym u))

pub each_has_side : EachHasSide
each_has_side K x h n b item rest e ei c lt u =
    let fit : AllItems (ItemBySide c (side_of b c)) (item ∷ rest) = subst (AllItems (ItemBySide c (side_of b c))) ei ((h.sided c lt).all n b e) in
    side_there c item (side_of b c) fit.0 u

lively : {m : Mode} {A : Type 0} → m ≡ runs → IfLively m A → A
lively {m} {A} e h = subst (λ n. IfLively n A) e h

-- The tidy laws.
tidy_step : (K : kernel.Kernel) (s : Stim) (x y : World) → Moved K s x y → Lawful K x → Tidy x → Tidy y
tidy_step K s x y m h t = record { placed = placed_kept IsDistinct AreUnused K s x t.placed m; alone = alone_kept IsDistinct K s x h.kernels t.placed t.alone m }

-- what each step keeps beside the laws holds along a run
pub along : (T : World → Type 0) (K : kernel.Kernel) (s : Stim) → ((x y : World) → Moved K s x y → Lawful K x → T x → T y) →
    (ms : List Action) (o : Option World) (y : World) → ((x : World) → o ≡ Some x → Lawful K x × T x) → acts_all K s o ms ≡ Some y → T y
along T K s kept ms None y h e = none_given e
along T K s kept [] (Some x) y h e = (h y e).1
along T K s kept (m ∷ ms) (Some x) y h e =
    let g = h x refl in
    along T K s kept ms (acts K s x m) y (λ z f. (laws_kept K s x z m f g.0, kept x z (moved K s x (no_text K s x g.0.kernels) m f) g.0 g.1)) e

pub tidy_along : (K : kernel.Kernel) (s : Stim) (ms : List Action) (x : World) → Obeys K → IsTidy K → kernel_run K s ms ≡ Some x → Tidy x
tidy_along K s ms x k t e =
    along Tidy K s (tidy_step K s) ms (Some (kernel_start K)) x
    (λ z f. (subst (Lawful K) (some_given f) (laws_begin K k), subst Tidy (some_given f) (record { placed = placed_begins IsDistinct AreUnused K t.placed; alone = alone_begins IsDistinct K t.placed }))) e

pub inside_is_own : InsideIsOwn
inside_is_own x h n b e em c u =
    let w = lively em (h.alone.each n b e) in
    ⊎_elim inl (λ v. inr (w.unused c v)) (among_append c (ends_of b.items) w.outer (subst (λ i. IsTrue (is_among c i)) w.is u))

once_behind : (front rest : List Item) (k : ℕ) → PlacedItems IsDistinct AnyInside (front ++ mark k ∷ rest) → is_among k (marks_of rest) ≡ false
once_behind [] rest k h = h.0
once_behind (item ∷ front) rest k h = once_behind front rest k h.1

pub marks_stand_once : MarksStandOnce
marks_stand_once x h n b e em front rest k ei =
    let w = lively em (h.placed.each n b e) in once_behind front rest k (subst (PlacedItems IsDistinct AnyInside) ei w.placed)

-- where a transaction's end is among items, they use its channel
pub ends_use : (c : ℕ) (items : List Item) → IsTrue (is_among c (ends_of items)) → IsTrue (by_items (channel c) items)
ends_use c [] u = absurd (true≢false (sym u))
ends_use c (transaction_end d is_master pos ∷ rest) u = ⊎_elim (λ v. or_left _ _ v) (λ v. or_right (nat_eq c d) _ (ends_use c rest v)) (or_cases _ _ u)
ends_use c (does s ∷ rest) u = or_right (Rattle.xc_kernel.specs.Things.by_statement (channel c) s) _ (ends_use c rest u)
ends_use c (says i ∷ rest) u = refl
ends_use c (stores p v ∷ rest) u = or_right (Rattle.xc_kernel.specs.Things.by_target (channel c) p) _ (ends_use c rest u)
ends_use c (stamps resource p v ∷ rest) u = or_right (Rattle.xc_meaning.specs.Uses.by_item (channel c) (stamps resource p v)) _ (ends_use c rest u)
ends_use c (mark n ∷ rest) u = ends_use c rest u
ends_use c (awaits d pos ∷ rest) u = or_right (nat_eq c d) _ (ends_use c rest u)
ends_use c (chooses choices otherwise ∷ rest) u = or_right (Rattle.xc_meaning.specs.Uses.by_item (channel c) (chooses choices otherwise)) _ (ends_use c rest u)
ends_use c (fixed i v counter ∷ rest) u = or_right (Rattle.xc_kernel.specs.Things.by_input (channel c) i) _ (ends_use c rest u)
ends_use c (ends ∷ rest) u = ends_use c rest u

pub differ_not : (a b : Option Side) → a ≡ b → Differ a b → ⊥
differ_not a b e d = never_same b (subst (λ o. Differ o b) e d)
  where
    never_same : (b : Option Side) → Differ b b → ⊥
    never_same None h = h
    never_same (Some Rattle.xc_meaning.specs.States.Channels.first) h = h
    never_same (Some Rattle.xc_meaning.specs.States.Channels.second) h = h

pub alone_inside : AloneInside
alone_inside K x h n m b d e f ne wb wd c lt u es v = differ_not (side_of b c) (side_of d c) es (one_on_each_side K x h n m b d e f ne wb wd c lt (ends_use c b.items u) v)

pub each_goes_on : EachGoesOn
each_goes_on K x h n b e em =
    let w = lively em (h.placed.each n b e) in
    (w.ended, λ k rest ei. let p : PlacedItems AnyBlock AnyInside (does (kernel.exit k) ∷ rest) = subst (PlacedItems AnyBlock AnyInside) ei w.placed in p.0)

pub suffices : ThreadsSuffice
suffices K x h depth core = threads_suffice K.roots x.branches h.budget depth core

pub branches_stay : BranchesStay
branches_stay K s x y m h e = grows K s x (moved K s x (no_text K s x h.kernels) m e)

-- The channels that are used.
listed_begins : (K : kernel.Kernel) → IsListed K → EachItem (ListedAt K) (kernel_start K).branches
listed_begins K l = record {
  all = λ n b e. let r = start_at K n b e in
      subst (AllItems (EveryItem (Listed K) AnyPar AnyTransaction)) (sym (ap (λ d. d.items) r.is))
      (all_at (EveryItem (Listed K) AnyPar AnyTransaction) (branches_of K.roots) n r.root.body r.code
      (every_branches (Listed K) AnyPar AnyTransaction (branches_of K.roots) (of_branches (Listed K) (branches_of K.roots) (listed_thing K (used_listed K l)))) tt);
}

listed_along : (K : kernel.Kernel) (s : Stim) (ms : List Action) (o : Option World) (y : World) → ((x : World) → o ≡ Some x → Lawful K x × EachItem (ListedAt K) x.branches) → acts_all K s o ms ≡ Some y → EachItem (ListedAt K) y.branches
listed_along K s ms None y h e = none_given e
listed_along K s [] (Some x) y h e = (h y e).1
listed_along K s (m ∷ ms) (Some x) y h e =
    let g = h x refl in
    listed_along K s ms (acts K s x m) y
    (λ z f. (laws_kept K s x z m f g.0, every_kept K s x (Listed K) AnyPar AnyTransaction g.1 (moved K s x (no_text K s x g.0.kernels) m f))) e

pub listed_holds : ListedHolds
listed_holds K s ms x k l e =
    listed_along K s ms (Some (kernel_start K)) x
    (λ z f. (subst (Lawful K) (some_given f) (laws_begin K k), subst (λ w. EachItem (ListedAt K) w.branches) (some_given f) (listed_begins K l))) e

pub ports_are_here : PortsAreHere
ports_are_here K h = uses_here K h.own

pub accepted_obey : AcceptedObey
accepted_obey P named types typed K copies unbroken ports = record {
  apart = unbroken_apart K unbroken;
  sided = unbroken_sided K unbroken;
  placed = subst (IsPlaced AnyBlock AnyInside) (sym copies.is_copy) (copies_are_placed P named types typed);
  here = uses_here K ports.own;
}

pub branches_fit : BranchesFit
branches_fit K x h core ns once k = branches_fit_in K.roots x.branches h.forest h.cores core h.budget ns once k

pub budgets_stay : BudgetsStay
budgets_stay K s x y m budget h b e = needs_stay K.roots K s x h.forest budget b (moved K s x (no_text K s x h.kernels) m e)

pub budgets_fit : BudgetsFit
budgets_fit K x budget h b core ns once k = budgets_fit_in K.roots x.branches h.forest h.cores core budget b ns once k

pub budgets_suffice : BudgetsSuffice
budgets_suffice K x budget h n b e w = has_what_it_takes K.roots x.branches budget h n b e w
