-- The image of a checked kernel is what the simulation asks of one.
use Rattle.std.proofs.Common.{◌≡◌, ◌⊎◌, ⊎_elim, ℕ, zero, suc, ◌<◌, ◌≤◌, List, [], ◌∷◌, Some, None, slice_get, refl, sym, ap, subst, ◌∙◌, arith}
use Rattle.std.specs.Prelude.{max, Contains}
use Rattle.xs_instr.specs.declared.image.Image.{Image}
use Rattle.xs_instr.specs.declared.image.Stim.{Stim}
use Rattle.xs_instr.specs.Machine.{parts_in}
use Rattle.xs_instr.specs.Valid.{Valid}
use Rattle.xc_kernel.specs.declared.kernel.Var.{Var}
use Rattle.xc_kernel.specs.Plain as kernel
use Rattle.xc_tree.specs.Depth.{highest}
use Rattle.xc_meaning.specs.Counts.KernelCounts.{greatest_in, greatest_in_root}
use Rattle.xc_meaning.specs.States.Items.{ends, todo}
use Rattle.xc_disjoint.specs.Checked.{IsChecked}
use Rattle.xc_disjoint.specs.Needs.{threads_on}
use Rattle.xc_disjoint.specs.Rules.{needs, threads}
use Rattle.xc_wellformed.specs.Each.{EachOf, EachRoot}
use Rattle.xc_wellformed.proofs.Formed.{of_programs}
use Rattle.xc_invariants.proofs.Checked.{checked_obey}
use Rattle.xl_expr.specs.declared.plan.Plan.{Plan}
use Rattle.xl_image.specs.Images.{IsImage, RootAt, root_sides, thread_of}
use Rattle.xl_image.specs.Roots.{KernelIsBuilt}
use Rattle.xl_plan.proofs.Lists.{some_given, none_given, contains_at}
use Rattle.xr_match.specs.Meanings.{root_among}
use Rattle.xr_simulation.specs.Fits.{FitOn}
use Rattle.xr_simulation.specs.Images.{IsCoreOf, IsImageOf, IsRoot, IsRootRole}
use Rattle.xr_simulation.specs.Roles.{Roles, used_by}
use Rattle.xr_simulation.specs.Runners.{Setting, Runner, anyone}
use Rattle.xr_simulation.proofs.Image.Footprints.{all_fit}
use Rattle.xr_simulation.proofs.Image.VariableWords.{each_has_words}
use Rattle.xr_simulation.proofs.Image.Layout.{core_is, has_all}
use Rattle.xr_simulation.proofs.Image.ChannelLines.{lines_are}
use Rattle.xr_simulation.proofs.Image.Plans.{IsImaged, counted_at, imaged_at, placed_at, plans}
use Rattle.xr_simulation.proofs.ItemCode.Items as items
use Rattle.xr_simulation.proofs.Start.Plain.{plain_begins}
use Rattle.xr_simulation.proofs.Start.Sides.{start_sides}
use Rattle.xr_simulation.proofs.Start.ProgramStart.{roots_live}
use Rattle.xr_simulation.proofs.Relation.Roots.{IsRunner, RootsThread, is_runner, needed_is, of_none, of_root, root_inside, root_runs, roles, roots_thread, runner_of, some_root}

-- what holds in the code of all roots holds in that of one
each_at : (E : kernel.Expression → Type 0) (P : kernel.Place → Type 0) (Z : ℕ → Type 0) (O : kernel.Output → Type 0) (I : kernel.Input → Type 0) (T : ℕ → Type 0) (rs : List kernel.Root) (i : ℕ) (root : kernel.Root) →
    EachRoot E P Z O I T rs → slice_get rs i ≡ Some root → EachOf E P Z O I T root.body
each_at E P Z O I T [] i root h e = absurd (none_given e)
each_at E P Z O I T (r ∷ rs) zero root h e = subst (λ (x : kernel.Root). EachOf E P Z O I T x.body) (some_given e) h.0
each_at E P Z O I T (r ∷ rs) (suc i) root h e = each_at E P Z O I T rs i root h.1 e

-- none of them counts more than the greatest count
none_higher : (vs : List Var) (rs : List kernel.Root) (i : ℕ) (root : kernel.Root) → slice_get rs i ≡ Some root → greatest_in vs root.body ≤ highest (greatest_in_root vs) rs
none_higher vs [] i root e = absurd (none_given e)
none_higher vs (r ∷ rs) zero root e =
    subst (λ (x : kernel.Root). greatest_in vs x.body ≤ highest (greatest_in_root vs) (r ∷ rs)) (some_given e)
    (let z : greatest_in vs r.body ≤ max (greatest_in vs r.body) (highest (greatest_in_root vs) rs) = grind arith in z)
none_higher vs (r ∷ rs) (suc i) root e = later (greatest_in vs root.body) (greatest_in vs r.body) (highest (greatest_in_root vs) rs) (none_higher vs rs i root e)
  where
    later : (a b c : ℕ) → a ≤ c → a ≤ max b c
    later a b c h = grind arith

-- no core needs more threads than it has
within_or_not : (n most : ℕ) → (n ≤ most) ⊎ (most < n)
within_or_not n most = grind arith

few_on : (K : kernel.Kernel) (core : ℕ) → IsChecked K → core < 4 → threads_on K core ≤ 8
few_on K core checked lt =
    ⊎_elim (λ le. le)
    (λ more. absurd (checked.unbroken _ (needs (threads (record { core = core; is_core = (let z : core ≤ 3 = omega (arith, lt) in z); more = more })))))
    (within_or_not (threads_on K core) 8)

-- The setting of each stimulus.
module _ (K : kernel.Kernel) (L : Image) (checked : IsChecked K) (is : IsImage K L) (valid : Valid L) (built : KernelIsBuilt K) where
  abbrev pub setting : Stim → Setting
  setting s = record { program = K; image = L; stimulus = s; plans = plans K L is }

  module _ (s : Stim) where
    abbrev g : Setting
    g = setting s

    in_four : (core number : ℕ) (root : kernel.Root) → slice_get K.roots number ≡ Some root → root.core ≡ core → core < 4
    in_four core number root known here = subst (λ c. c < 4) here (placed_at K L is valid number root known)

    imaged_on : (core number : ℕ) (root : kernel.Root) → slice_get K.roots number ≡ Some root → root.core ≡ core → IsImaged K core (parts_in L.cores core) (plans K L is core)
    imaged_on core number root known here = subst (λ c. IsImaged K c (parts_in L.cores c) (plans K L is c)) here (imaged_at K L is number root known)

    -- A root and its runner.
    module _ (core thread number : ℕ) (root : kernel.Root) (found : root_among core 0 K.roots thread ≡ Some number) (known : slice_get K.roots number ≡ Some root) (here : root.core ≡ core) (place : thread ≡ thread_of core K.roots number) where
      abbrev r : Runner
      r = runner_of K core thread number root

      among : Contains K.roots root
      among = contains_at K.roots number root known

      im : IsImaged K core (parts_in L.cores core) (plans K L is core)
      im = imaged_on core number root known here

      is_core : core < 4
      is_core = in_four core number root known here

      fits : FitOn g core (todo root.body (ends ∷ []))
      fits =
          let formed = of_programs K checked.of_program in
          items.all_fit g (anyone core) root.body (ends ∷ [])
          (all_fit g checked core root among here (has_all g checked core is_core im root among here) (each_has_words K checked.of_program) root.body
          (each_at _ _ _ _ _ _ K.roots number root formed.variables known) (each_at _ _ _ _ _ _ K.roots number root formed.transfers known) (λ th u. u)
          (none_higher K.variables K.roots number root known))
          (tt, tt)

      is_root : IsRoot g r root
      is_root = record {
        known = known;
        core = here;
        family = refl;
        numbered = found;
        block = refl;
        tie = refl;
        alone = refl;
        sides = refl;
        outside = refl;
        no_transfer = refl;
        footprint = refl;
        inside = subst (λ n. n < threads_on K core) (sym place) (root_inside K core number root known here);
        stack = refl;
        code = subst (λ n. RootAt K (plans K L is core) (parts_in L.cores core) core n root (root_sides K number)) (sym place) (im.roots number root known here);
        fits = fits;
      }

    abbrev who : Roles
    who = roles K

    -- each thread is unused or a root's
    is_root_role : (c t : ℕ) → IsRootRole g (who c t)
    is_root_role c t = by (roots_thread K c t)
      where
        by : RootsThread K c t → IsRootRole g (who c t)
        by (of_none none n) = subst (IsRootRole g) (sym none) tt
        by (of_root r role h) =
            let root : IsRoot g r h.root = subst (λ x. IsRoot g x h.root) (sym h.is) (is_root c t h.number h.root h.found h.known h.core_is h.thread_is) in
            subst (IsRootRole g) (sym role) (h.root, root)

    known_runner : (c t : ℕ) (r : Runner) → who c t ≡ used_by r None → IsRunner K c t r
    known_runner c t r e = is_runner K c t r e

    same_branches : (c t c' t' : ℕ) (r q : Runner) → IsRunner K c t r → IsRunner K c' t' q → q.branch ≡ r.branch → (c' ≡ c) × (t' ≡ t)
    same_branches c t c' t' r q h k e =
        let numbers : k.number ≡ h.number = sym (ap (λ (x : Runner). x.branch) k.is) ∙ e ∙ ap (λ (x : Runner). x.branch) h.is in
        let roots : k.root ≡ h.root = some_given (sym k.known ∙ ap (slice_get K.roots) numbers ∙ h.known) in
        let cores : c' ≡ c = sym k.core_is ∙ ap (λ (x : kernel.Root). x.core) roots ∙ h.core_is in
        (cores, k.thread_is ∙ ap (λ x. thread_of x K.roots k.number) cores ∙ ap (thread_of c K.roots) numbers ∙ sym h.thread_is)

    core_of : (c : ℕ) → c < 4 → 1 ≤ threads_on K c → IsCoreOf g c
    core_of c lt some =
        let root = some_root c K.roots some in
        core_is g checked c lt (imaged_on c root.0 root.1 root.2 root.3)

    pub is_image_of : IsImageOf g who
    is_image_of = record {
      obeys = checked_obey K checked;
      plain = plain_begins K built.roots;
      sides = start_sides K;
      lines = lines_are g checked is valid;
      roles = is_root_role;
      core = λ c t r e. ap (λ (x : Runner). x.core) (known_runner c t r e).is;
      thread = λ c t r e. ap (λ (x : Runner). x.thread) (known_runner c t r e).is;
      cores = core_of;
      few = λ c lt. few_on K c checked lt;
      needed = needed_is K;
      count = λ c lt. counted_at K L is c ∙ sym (roots_live K c);
      placed = λ b root known. placed_at K L is valid b root known;
      run = λ b root known. (root.core, thread_of root.core K.roots b, runner_of K root.core (thread_of root.core K.roots b) b root, root_runs K b root known, refl);
      roots_differ = λ c t c' t' r q e f same. same_branches c t c' t' r q (known_runner c t r e) (known_runner c' t' q f) same;
    }

-- The image of a checked kernel is what the simulation asks, by one plan for each core, whatever the stimulus.
pub image_is : (K : kernel.Kernel) (L : Image) → IsChecked K → IsImage K L → Valid L → KernelIsBuilt K →
    (plan : ℕ → Plan) × ((s : Stim) → IsImageOf (record { program = K; image = L; stimulus = s; plans = plan }) (roles K))
image_is K L checked is valid built = (plans K L is, is_image_of K L checked is valid built)
