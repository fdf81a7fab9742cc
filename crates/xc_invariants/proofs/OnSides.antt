-- A branch that stands in a side of a channel is on that side's core, and one that uses the channel and stands in no side of it is on the
-- core of both: at the start, and behind each step.
use Rattle.std.proofs.Common.{◌≡◌, ⊎_elim, ℕ, zero, suc, ◌+◌, ◌<◌, ◌≤◌, IsTrue, List, [], ◌∷◌, length, map, Option, Some, None, slice_get, slice_index_or, refl, sym, ap, subst, ◌∙◌, true≢false, arith}
use Rattle.std.specs.Prelude.{Bool, true, false, cond}
use Rattle.xs_instr.specs.declared.image.Stim.{Stim}
use Rattle.xc_kernel.specs.Plain as kernel
use Rattle.xc_kernel.specs.Things.{channel, by_statements}
use Rattle.xc_kernel.specs.Uses.{once}
use Rattle.xc_meaning.specs.States.Channels.{Side, first, second}
use Rattle.xc_meaning.specs.States.Items.{Item, does}
use Rattle.xc_meaning.specs.States.Branches.{runs, Branch, side_of}
use Rattle.xc_meaning.specs.States.Worlds.{World}
use Rattle.xc_meaning.specs.Settings.Par.{all_begun, children, codes_of}
use Rattle.xc_meaning.specs.Settings.Sides.{side_in, side_by, one_uses}
use Rattle.xc_meaning.specs.Runs.{step_of, kernel_start, kernel_root, codes_of_roots}
use Rattle.xc_meaning.specs.Uses.{by_items}
use Rattle.xc_meaning.specs.Outline.{Becomes, goes, enters, exits, errs, ends_it, makes, Moved}
use Rattle.xc_meaning.proofs.Basics.{some_given, none_given, or_left, true_or_false}
use Rattle.xc_invariants.specs.Every.{AllItems}
use Rattle.xc_invariants.specs.Each.{EachBranch}
use Rattle.xc_invariants.specs.Lawful.{Lawful}
use Rattle.xc_invariants.specs.OnSides.{first_core, last_core, side_core, OnItsSide}
use Rattle.xc_invariants.specs.Sided.{IsSided}
use Rattle.xc_invariants.proofs.Begins.{root_stands, users_of}
use Rattle.xc_invariants.proofs.Starts.{start_at}
use Rattle.xc_invariants.proofs.Lookups.{born, front_of, next_of}
use Rattle.xc_invariants.proofs.EachItems.{each_branch_kept}
use Rattle.xc_invariants.proofs.Cores.{core_stays}
use Rattle.xc_invariants.proofs.Sides.{sides_stay, stands_in, StandsIn, Stands, count, counted, front_least, uses_count}
use Rattle.xc_invariants.proofs.Uses.{IsKernels, becomes_uses, code_uses, todo_uses}

-- A step keeps it, whatever the cores of the two sides are.
module _ (at : Side → ℕ) (c : ℕ) (K : kernel.Kernel) (stim : Stim) (x : World) (lawful : Lawful K x) (lt : c < length K.channels) (h : EachBranch (OnItsSide at c) x.branches) where
  kernels : (n : ℕ) (b : Branch) (item : Item) (rest : List Item) → slice_get x.branches n ≡ Some b → b.items ≡ item ∷ rest → AllItems IsKernels (item ∷ rest)
  kernels n b item rest is ei = subst (AllItems IsKernels) ei (lawful.kernels.all n b is)

  now_on : (n : ℕ) (b : Branch) (item : Item) (rest : List Item) (now : Branch) (more : List Branch) → slice_get x.branches n ≡ Some b → b.mode ≡ runs → b.items ≡ item ∷ rest → Becomes (step_of K stim x n b rest) item now more → OnItsSide at c now
  now_on n b item rest now more is em ei g =
      let old = h.each n b is in
      let core = core_stays (step_of K stim x n b rest) item now more g in
      let side : side_of now c ≡ side_of b c = ap (λ l. slice_index_or l c None) (sides_stay (step_of K stim x n b rest) item now more g) in
      record {
        stands = λ s e. old.stands s (sym side ∙ e) ∙ sym core;
        without = λ e u s.
            old.without (sym side ∙ e)
            (subst (λ i. IsTrue (by_items (channel c) i)) (sym ei) (becomes_uses (step_of K stim x n b rest) item now more g (kernels n b item rest is ei) (channel c) u)) s
            ∙ sym core;
      }

  -- the sides of a branch that a `par` makes
  module _ (n : ℕ) (b : Branch) (bs : kernel.Branches) (rest : List Item) (is : slice_get x.branches n ≡ Some b) (ei : b.items ≡ does (kernel.par bs) ∷ rest)
      (j : ℕ) (d : Branch) (e : slice_get (children (step_of K stim x n b rest) (length (all_begun bs)) 0 [] (all_begun bs)) j ≡ Some d) where
    long : c < length b.sides
    long = let l = lawful.long.long n b is in omega (arith, lt, l)

    place : StandsIn c (step_of K stim x n b rest) bs j d
    place = stands_in c (step_of K stim x n b rest) bs j d long e

    core : d.core ≡ b.core
    core = ap (λ (a : Branch). a.core) (born (step_of K stim x n b rest) (length (all_begun bs)) 0 [] (all_begun bs) j d e).is

    -- where its code uses the channel, so does its maker
    used : IsTrue (by_statements (channel c) place.code) → IsTrue (by_items (channel c) b.items)
    used u = subst (λ i. IsTrue (by_items (channel c) i)) (sym ei) (or_left _ _ (code_uses (channel c) bs j place.code place.at_place u))

    by_maker : (makers : Option Side) → side_of b c ≡ makers → (front next : List kernel.Statements) → side_of d c ≡ side_in c front place.code next makers → OnItsSide at c d
    by_maker (Some k) f front next g = record {
      stands = λ s q. (h.each n b is).stands s (f ∙ sym g ∙ q) ∙ sym core;
      without = λ q u s. let z : Some k ≡ None = sym g ∙ q in cc;
    }
    by_maker None f front next g = record {
      stands = λ s q. by_use (by_statements (channel c) place.code) refl s (sym g ∙ q) ∙ sym core;
      without = λ q u s. (h.each n b is).without f (subst (λ i. IsTrue (by_items (channel c) i)) (sym ei) (made u)) s ∙ sym core;
    }
      where
        by_use : (here : Bool) → by_statements (channel c) place.code ≡ here → (s : Side) → side_by here (one_uses c front) (one_uses c next) ≡ Some s → at s ≡ b.core
        by_use true u s q = (h.each n b is).without f (used u) s
        by_use false u s q = let z : None ≡ Some s = q in cc

        made : IsTrue (by_items (channel c) d.items) → IsTrue (by_items (channel c) (does (kernel.par bs) ∷ rest))
        made u = or_left _ _ (code_uses (channel c) bs j place.code place.at_place (todo_uses (channel c) place.code (subst (λ i. IsTrue (by_items (channel c) i)) place.items u)))

    pub child_on : OnItsSide at c d
    child_on = by_maker (side_of b c) refl (front_of [] (codes_of (all_begun bs)) j) (next_of (codes_of (all_begun bs)) j) place.stands.side

  new_on : (n : ℕ) (b : Branch) (item : Item) (rest : List Item) (now : Branch) (more : List Branch) → slice_get x.branches n ≡ Some b → b.mode ≡ runs → b.items ≡ item ∷ rest → Becomes (step_of K stim x n b rest) item now more →
      (j : ℕ) (d : Branch) → slice_get more j ≡ Some d → OnItsSide at c d
  new_on n b item rest now more is em ei (goes one items l) j d e = none_given e
  new_on n b item rest now more is em ei (enters one k items l) j d e = none_given e
  new_on n b item rest now more is em ei (exits one items l) j d e = none_given e
  new_on n b item rest now more is em ei (errs one) j d e = none_given e
  new_on n b item rest now more is em ei ends_it j d e = none_given e
  new_on n b item rest now more is em ei (makes bs g others f) j d e =
      child_on n b bs rest is ei j d (subst (λ gs. slice_get (children (step_of K stim x n b rest) (length gs) 0 [] gs) j ≡ Some d) (sym f) e)

  pub on_sides_kept : {y : World} → Moved K stim x y → EachBranch (OnItsSide at c) y.branches
  on_sides_kept m = each_branch_kept (OnItsSide at c) K stim x h now_on new_on (λ n b from count is ew. let o = h.each n b is in record { stands = o.stands; without = o.without }) m

-- At the start the first root that uses the channel is on the core of its first side, and the last one on that of its second.
module _ (c : ℕ) where
  -- code that counts for none doesn't use the channel
  unused : (ss : kernel.Statements) → once (by_statements (channel c) ss) ≡ 0 → by_statements (channel c) ss ≡ false
  unused ss none = ⊎_elim (λ e. let o = ap once e in absurd (omega (arith, o, none))) (λ e. e) (true_or_false (by_statements (channel c) ss))

  -- how many pieces of code use it, by whether one does
  none_of : (cs : List kernel.Statements) → one_uses c cs ≡ false → count c cs ≡ 0
  none_of cs e = ⊎_elim (λ h. h.1) (λ h. absurd (true≢false (sym h.0 ∙ e))) (uses_count c cs)

  some_of : (cs : List kernel.Statements) → one_uses c cs ≡ true → 0 < count c cs
  some_of cs e = ⊎_elim (λ h. absurd (true≢false (sym e ∙ h.0))) (λ h. h.1) (uses_count c cs)

  -- the code of roots
  abbrev roots_code : List kernel.Root → List kernel.Statements
  roots_code rs = codes_of_roots (map kernel_root rs)

  abbrev uses : kernel.Root → Bool
  uses r = by_statements (channel c) r.body

  -- a root that uses the channel, with none in front of it that does
  at_first : (before : List kernel.Statements) (rs : List kernel.Root) (n : ℕ) (r : kernel.Root) → slice_get rs n ≡ Some r → uses r ≡ true → count c (front_of before (roots_code rs) n) ≡ 0 → first_core c 0 rs ≡ r.core
  at_first before [] n r e u none = none_given e
  at_first before (q ∷ rs) zero r e u none =
      let same : q ≡ r = some_given e in
      ap (λ y. cond y q.core (first_core c 0 rs)) (ap uses same ∙ u) ∙ ap (λ (y : kernel.Root). y.core) same
  at_first before (q ∷ rs) (suc n) r e u none =
      let least : once (uses q) + count c before ≤ count c (front_of (q.body ∷ before) (roots_code rs) n) = front_least c (q.body ∷ before) (roots_code rs) n in
      ap (λ y. cond y q.core (first_core c 0 rs)) (unused q.body (omega (arith, least, none))) ∙ at_first (q.body ∷ before) rs n r e u none

  -- where none of the roots uses it
  none_last : (otherwise : ℕ) (rs : List kernel.Root) → count c (roots_code rs) ≡ 0 → last_core c otherwise rs ≡ otherwise
  none_last otherwise [] none = refl
  none_last otherwise (q ∷ rs) none =
      none_last (cond (uses q) q.core otherwise) rs (omega (arith, none)) ∙ ap (λ y. cond y q.core otherwise) (unused q.body (omega (arith, none)))

  -- a root that uses it, with none behind it that does
  at_last : (otherwise : ℕ) (rs : List kernel.Root) (n : ℕ) (r : kernel.Root) → slice_get rs n ≡ Some r → uses r ≡ true → count c (next_of (roots_code rs) n) ≡ 0 → last_core c otherwise rs ≡ r.core
  at_last otherwise [] n r e u none = none_given e
  at_last otherwise (q ∷ rs) zero r e u none =
      let same : q ≡ r = some_given e in
      none_last (cond (uses q) q.core otherwise) rs none ∙ ap (λ y. cond y q.core otherwise) (ap uses same ∙ u) ∙ ap (λ (y : kernel.Root). y.core) same
  at_last otherwise (q ∷ rs) (suc n) r e u none = at_last (cond (uses q) q.core otherwise) rs n r e u none

  module _ (K : kernel.Kernel) (k : IsSided K) (lt : c < length K.channels) (n : ℕ) (b : Branch) (e : slice_get (kernel_start K).branches n ≡ Some b) where
    abbrev root : kernel.Root
    root = (start_at K n b e).root

    abbrev front : List kernel.Statements
    front = front_of [] (roots_code K.roots) n

    abbrev next : List kernel.Statements
    next = next_of (roots_code K.roots) n

    on_core : b.core ≡ root.core
    on_core = ap (λ (d : Branch). d.core) (start_at K n b e).is

    stands : Stands c (roots_code K.roots) n root.body None (side_of b c)
    stands = root_stands K k c lt n b e

    -- at most two roots use the channel
    few : count c front + (once (uses root) + count c next) ≤ 2
    few =
        let all = counted c [] (roots_code K.roots) n root.body stands.code in
        let same = users_of K k c lt K.roots in
        ⊎_elim (λ p. let one = p.0 in omega (arith, all, same, one)) (λ p. let two = p.0 in omega (arith, all, same, two)) (k.sided c lt)

    is_first : uses root ≡ true → count c front ≡ 0 → side_core K c first ≡ b.core
    is_first u none = at_first [] K.roots n root (start_at K n b e).is_there u none ∙ sym on_core

    is_last : uses root ≡ true → count c next ≡ 0 → side_core K c second ≡ b.core
    is_last u none = at_last 0 K.roots n root (start_at K n b e).is_there u none ∙ sym on_core

    stands_by : (here f g : Bool) → uses root ≡ here → one_uses c front ≡ f → one_uses c next ≡ g → (s : Side) → side_by here f g ≡ Some s → side_core K c s ≡ b.core
    stands_by false f g u v w s q = let z : None ≡ Some s = q in cc
    stands_by true true g u v w s q =
        let z : Some second ≡ Some s = q in
        let o = ap once u in
        let some = some_of front v in
        let all = few in
        subst (λ t. side_core K c t ≡ b.core) (some_given z) (is_last u (omega (arith, o, some, all)))
    stands_by true false true u v w s q = let z : Some first ≡ Some s = q in subst (λ t. side_core K c t ≡ b.core) (some_given z) (is_first u (none_of front v))
    stands_by true false false u v w s q = let z : None ≡ Some s = q in cc

    without_by : (here f g : Bool) → uses root ≡ here → one_uses c front ≡ f → one_uses c next ≡ g → side_by here f g ≡ None → uses root ≡ true → (s : Side) → side_core K c s ≡ b.core
    without_by false f g u v w q t s = absurd (true≢false (sym t ∙ u))
    without_by true true g u v w q t s = let z : Some second ≡ None = q in cc
    without_by true false true u v w q t s = let z : Some first ≡ None = q in cc
    without_by true false false u v w q t first = is_first u (none_of front v)
    without_by true false false u v w q t second = is_last u (none_of next w)

    root_on : OnItsSide (side_core K c) c b
    root_on = record {
      stands = λ s q. stands_by (uses root) (one_uses c front) (one_uses c next) refl refl refl s (sym stands.side ∙ q);
      without = λ q u s.
          without_by (uses root) (one_uses c front) (one_uses c next) refl refl refl (sym stands.side ∙ q)
          (todo_uses (channel c) root.body (subst (λ i. IsTrue (by_items (channel c) i)) (ap (λ (d : Branch). d.items) (start_at K n b e).is) u)) s;
    }

  pub on_sides_begin : (K : kernel.Kernel) → IsSided K → c < length K.channels → EachBranch (OnItsSide (side_core K c) c) (kernel_start K).branches
  on_sides_begin K k lt = record { each = λ n b e. root_on K k lt n b e }
