-- All stand so at the start, where the roots' threads have set their stacks: each is at rest at the code of its branch's items.
use Rattle.std.proofs.Common.{◌≡◌, ℕ, zero, suc, ◌+◌, ◌*◌, ◌<◌, ◌≤◌, inl, inr, Bool, true, false, List, [], ◌∷◌, length, Option, Some, None, refl, sym, ap, ◌∙◌, subst, arith}
use Rattle.std.specs.Prelude.{slice_get, replicate}
use Rattle.std.proofs.lemmas.List.{length-replicate}
use Rattle.std.proofs.lemmas.Option.{same_Some, slice_get_within}
use Rattle.std.proofs.Math.Nat.{mul-le-mul_left}
use Rattle.xs_instr.specs.declared.image.Image.{Image}
use Rattle.xs_instr.specs.declared.state.CoreState.{CoreState}
use Rattle.xs_instr.specs.Machine.{boot_port, boot_threads, parts_in, root_thread, unused_thread}
use Rattle.xc_kernel.specs.Eval.{words_of}
use Rattle.xc_disjoint.specs.Needs.{threads_on}
use Rattle.xc_invariants.proofs.Always.{laws_begin}
use Rattle.xc_meaning.specs.Counts.KernelCounts.{greatest_count, kernel_bound, words_in}
use Rattle.xc_meaning.specs.Runs.{kernel_start}
use Rattle.xc_meaning.specs.States.Branches.{Branch, ended, runs}
use Rattle.xc_meaning.specs.States.Items.{Item, ends, todo}
use Rattle.xc_meaning.specs.States.Worlds.{World}
use Rattle.xl_image.specs.Images.{decl_of, root_sides}
use Rattle.xr_match.specs.Lives.{Life, Watched, begun, of_root}
use Rattle.xr_match.specs.Meanings.{of_kernel}
use Rattle.xr_match.specs.Sources.{counted_start}
use Rattle.xr_match.specs.Systems.{SomeIs}
use Rattle.xr_simulation.specs.Images.{IsCoreOf, IsImageOf}
use Rattle.xr_simulation.specs.Items.{EndAt, ItemsAt}
use Rattle.xr_simulation.specs.Parents.{syncs_of}
use Rattle.xr_simulation.specs.Roles.{AreUsedSo, IsParent, ParentsWait, Role, Roles, empty, got_by, unused, used_by}
use Rattle.xr_simulation.specs.Runners.{Activation, Setting, Runner, IsPort, anyone, code, footprint_of, home, plan, port_place}
use Rattle.xr_simulation.specs.Sizes.{sizes_of}
use Rattle.xr_simulation.specs.ThreadViews.{ThreadView, giving_back, running}
use Rattle.xr_simulation.specs.MatchStates.{AreLoose, HasThread, RunsBranch, MatchStates, ThreadRel, ProgressBy, ProgressWith}
use Rattle.xr_simulation.specs.Transfers.{StopsIn, spared}
use Rattle.xr_simulation.specs.NextStep.{HoldsNames, HoldsStore, IsFree, ItemsFrom, Rest, cost, is_watching}
use Rattle.xr_simulation.proofs.Start.Boot.{boot_length, boot_port_at, boot_thread_at, boot_thread_free, set_at, set_core, set_length, set_regs, set_thread}
use Rattle.xr_simulation.proofs.Relation.Reserves.{reserves_begin}
use Rattle.xr_simulation.proofs.Image.RootCode.{root_items}
use Rattle.xr_simulation.proofs.RelyGuarantee.Footprints.{fits_here}
use Rattle.xr_simulation.proofs.Start.SetMachine.{set_cores_are, set_machine}
use Rattle.xr_simulation.proofs.RelyGuarantee.Stands.{items_stand}
use Rattle.xr_simulation.proofs.Relation.Sizes.{sizes_begin}
use Rattle.xr_simulation.proofs.Start.Wires.{none_begun, wired_begin}
use Rattle.xr_simulation.proofs.Start.ProgramStart.{IsRootBranch, RunsRoot, branch_of, known_root, no_place, none_got, on_four, owns_none, roles_begin, root_of, roots_live, variable_length, variable_zero, words_zero}
use Rattle.xr_simulation.proofs.RelyGuarantee.Events.{here_at, items_unwatched}

-- a root's life has done two steps then
abbrev pub set_life : (core thread : ℕ) → Life
set_life core thread = record (begun (Some (of_root core thread))) { steps = 2 }

abbrev pub set_watched : Roles → Image → Watched
set_watched who L = record { machine = set_machine who L; lives = set_life }

abbrev pub all_rest : (core thread : ℕ) → Bool
all_rest core thread = true

-- no synchroniser is taken
pub none_taken : (n m : ℕ) → slice_get (replicate m false) n ≡ Some true → ⊥
none_taken n zero e = cc
none_taken zero (suc m) e = cc
none_taken (suc n) (suc m) e = none_taken n m e

-- the steps to the first own instruction are within the bound
start_bound : (most greatest actions : ℕ) → most ≡ 8 * (greatest + 16) → 2 + (8 * greatest + 8 + 3) ≤ most * (actions + 1)
start_bound most greatest actions is =
    let le : 1 ≤ actions + 1 = omega arith in
    let grown = mul-le-mul_left most le in
    omega (arith, grown)

module _ (g : Setting) (who : Roles) (is : IsImageOf g who) where
  abbrev start : World
  start = kernel_start g.program

  abbrev pub set_on : (c : ℕ) → CoreState
  set_on c = set_core (who c) (parts_in g.image.cores c)

  -- A root's thread.
  module _ (r : Runner) (e : who r.core r.thread ≡ used_by r None) where
    abbrev h : RunsRoot g who is r.core r.thread r None
    h = root_of g who is r.core r.thread r None e

    four : r.core < 4
    four = on_four g who is r.core r.thread r None e

    core_is : IsCoreOf g r.core
    core_is = let lt = h.is_root.inside in is.cores r.core four (omega (arith, lt))

    few : r.thread < 8
    few = let lt = h.is_root.inside in let most = is.few r.core four in omega (arith, lt, most)

    -- where it starts
    abbrev pub entry : ℕ
    entry = h.is_root.code.index

    pub starts_there : slice_get (boot_threads (parts_in g.image.cores r.core).roots 8) r.thread ≡ Some (root_thread entry)
    starts_there = boot_thread_at (parts_in g.image.cores r.core).roots 8 r.thread entry few h.is_root.code.listed

    pub set_there : slice_get (set_on r.core).threads r.thread ≡ Some (running r.tie (entry + 2) (set_regs r))
    set_there =
        set_at (who r.core) (boot_threads (parts_in g.image.cores r.core).roots 8) r.thread (root_thread entry) starts_there
        ∙ ap (λ role. Some (set_thread role (root_thread entry))) e
        ∙ ap (λ tie. Some (running tie (entry + 2) (set_regs r))) (sym h.is_root.tie)

    abbrev items : List Item
    items = todo h.root.body (ends ∷ [])

    abbrev z : ThreadView
    z = record { core = set_on r.core; world = start; hand = None }

    -- all words of memory and of the store are 0
    starts_alike : HoldsStore g r z
    starts_alike = record {
      holds = record {
        lengths = λ v n found near uses. (core_is.sizes v n found near).0 ∙ sym (variable_length g.program.variables v);
        values = λ v n i x found near uses there.
            let size = core_is.sizes v n found near in
            let some = slice_get_within (words_of start.store v) i x there in
            let many = variable_length g.program.variables v in
            let lt : i < words_in g.program.variables v = omega arith in
            let is_zero : 0 ≡ x = same_Some 0 x (sym (variable_zero g.program.variables v i lt) ∙ there) in
            let within : 0 + n + i < (home g r).parts.words = let a = size.0 in let b = size.1 in omega arith in
            words_zero (home g r).parts.words (0 + n + i) within ∙ ap Some is_zero;
      };
      room =
          let many = length-replicate {A = ℕ} (home g r).parts.words 0 in
          let enough = core_is.room r.thread h.is_root.inside in
          let stack = h.is_root.stack in
          omega (arith, many, enough, stack);
    }

    -- the root's code
    code_there : ItemsFrom g r items [] (entry + 2) 0
    code_there =
        subst (λ sides. ItemsAt (plan g r) (code g r) sides (EndAt (plan g r) (code g r) r.tie r.parents) items [] (entry + 2) 0)
        (sym h.is_root.sides)
        (subst (λ tie. ItemsAt (plan g r) (code g r) (root_sides g.program r.branch) (EndAt (plan g r) (code g r) tie r.parents) items []
        (entry + 2) 0) (sym h.is_root.tie)
        (subst (λ ps. ItemsAt (plan g r) (code g r) (root_sides g.program r.branch) (EndAt (plan g r) (code g r) None ps) items []
        (entry + 2) 0) (sym h.is_root.alone)
        (root_items g.program (plan g r) (home g r).parts r.core r.thread h.root (root_sides g.program r.branch) h.is_root.code)))

    rest_of : (branch : Branch) → slice_get start.branches r.branch ≡ Some branch → IsRootBranch h.root r.branch branch → Rest g r items 0 z
    rest_of branch known b = record {
      pc = entry + 2;
      regs = set_regs r;
      here = here_at items (items_unwatched g r items [] (entry + 2) 0 code_there) set_there;
      bases = record {
        base = ap (λ (b : Activation). 4 * b.base) (sym h.is_root.block);
        stack = refl;
        names = subst (λ l. HoldsNames r.core l (set_regs r)) (sym (ap syncs_of h.is_root.alone)) (record { by = λ place n at lt. absurd (none_there n at) });
      };
      stands = items_stand g r items [] (entry + 2) 0 (set_regs r) (set_on r.core) code_there;
      fits = fits_here g r items h.is_root.block h.is_root.fits h.is_root.footprint;
      has = record {
        branch = branch;
        runs = record { known = known; running = b.mode; items_are = b.items };
        core = b.core ∙ h.is_root.core;
        holds = starts_alike;
        ports = λ p listed its.
            let port : IsPort g (anyone r.core) p listed = record { mine = refl; known = its.known; core = its.core } in
            record { port = boot_port (decl_of listed); there = boot_port_at (home g r).parts.ports (port_place g r p) (decl_of listed) (core_is.ports p listed port); declared = refl };
      };
    }
      where
        none_there : (n : ℕ) → ◌≡◌ {A = Option ℕ} None (Some n) → ⊥
        none_there n f = cc

    stand_of : (life : Life) → life.steps ≡ 2 → (branch : Branch) → slice_get start.branches r.branch ≡ Some branch → IsRootBranch h.root r.branch branch → RunsBranch g r true None (set_on r.core) start life (λ f. 0) branch
    stand_of life two branch known b = record {
      core = b.core ∙ h.is_root.core;
      family = b.family ∙ sym h.is_root.family;
      footprint = h.is_root.footprint ∙ ap footprint_of (sym b.items);
      parents = subst (λ ps. ParentsWait g start r.core r.family ps r.branch) (sym h.is_root.alone) tt;
      thread = subst (λ m. HasThread g r m branch.items (set_on r.core)) (sym b.mode)
          (record {
            thread = running r.tie (entry + 2) (set_regs r);
            there = set_there;
            tied = refl;
            events = sym
                (ap is_watching b.items ∙ items_unwatched g r items [] (entry + 2) 0 code_there);
            is = refl;
          });
      in_hand = empty refl;
      sides = is.sides r.branch branch known ∙ sym h.is_root.sides;
      inside = is.plain.outside r.branch branch known ∙ sym h.is_root.outside;
      done = λ f. h.is_root.no_transfer;
      stops = λ f. subst StopsIn (sym h.is_root.no_transfer) tt;
      ends_tied = λ f. let both : runs ≡ ended = sym b.mode ∙ f in cc;
      left = cost g r;
      bound =
          let within = start_bound (kernel_bound g.program) (greatest_count g.program) 0 refl in
          let three = ap spared h.is_root.no_transfer in
          omega (arith, within, two, three);
      by = subst (λ m. ProgressBy g r true branch.items m (cost g r) z) (sym b.mode)
          (subst (λ o. ProgressWith g r true o branch.items (cost g r) z) (sym h.is_root.no_transfer) (inr (inr (0, omega arith, refl, subst (λ l. Rest g r l 0 z) (sym b.items) (rest_of branch known b)))));
    }

    pub root_stands : (life : Life) → life.steps ≡ 2 → ThreadRel g true (set_on r.core) start life (λ f. 0) (used_by r None)
    root_stands life two =
        let b = branch_of g who is r.branch h.root h.is_root.known in
        subst (λ o. SomeIs o (RunsBranch g r true None (set_on r.core) start life (λ f. 0))) (sym b.1) (stand_of life two b.0 b.1 b.2)

  -- each thread
  threads_stand : (life : Life) → life.steps ≡ 2 → (c t : ℕ) (role : Role) → who c t ≡ role → ThreadRel g true (set_on c) start life (λ f. 0) role
  threads_stand life two c t unused e = tt
  threads_stand life two c t (got_by u) e = absurd (none_got g who is c t u e)
  threads_stand life two c t (used_by r hand) e =
      let k = root_of g who is c t r hand e in
      let at_home : who r.core r.thread ≡ used_by r None = ap (λ d. who d r.thread) k.core ∙ ap (who c) k.thread ∙ k.runs_it in
      subst (λ o. ThreadRel g true (set_on c) start life (λ f. 0) (used_by r o)) (sym k.none)
      (subst (λ d. ThreadRel g true (set_on d) start life (λ f. 0) (used_by r None)) k.core (root_stands r at_home life two))

  -- one that is unused is free
  pub unused_there : (c u : ℕ) → c < 4 → u < 8 → who c u ≡ unused → slice_get (boot_threads (parts_in g.image.cores c).roots 8) u ≡ Some unused_thread
  unused_there c u four lt e =
      let roots = (parts_in g.image.cores c).roots in
      let le : length roots ≤ u = let few = no_place g who is c u e in let many = is.count c four in let all = roots_live g.program c in omega (arith, few, many, all) in
      boot_thread_free roots 8 u lt le

  pub unused_free : (c u : ℕ) → c < 4 → u < 8 → who c u ≡ unused → IsFree (slice_get (set_on c).threads u)
  unused_free c u four lt e =
      let there = set_at (who c) (boot_threads (parts_in g.image.cores c).roots 8) u unused_thread (unused_there c u four lt e) ∙ ap (λ role. Some (set_thread role unused_thread)) e in
      subst IsFree (sym there) (record { unused = refl; no_events = refl; untied = refl })

  used_begin : (c : ℕ) → c < 4 → AreUsedSo who c (set_on c)
  used_begin c four = record {
    threads = set_length (who c) 0 (boot_threads (parts_in g.image.cores c).roots 8) ∙ boot_length (parts_in g.image.cores c).roots 8;
    syncs = refl;
    unused = λ u lt e. unused_free c u four lt e;
    got = λ u t n r hand e f sync. absurd (none_got g who is c u t e);
    taken = λ n e. absurd (none_taken n 7 e);
    owned = λ t n r hand e owns. absurd (owns_none g who is c t n r hand e owns);
  }

  loose_begin : (c : ℕ) → c < 4 → 1 ≤ threads_on g.program c → AreLoose g who c (set_on c) start
  loose_begin c four some = record {
    variables = λ v nobody want.
        absurd (subst (λ l. IsParent l want.parent) (root_of g who is c want.thread want.runner want.hand want.runs).is_root.alone want.waits);
    ports = λ p listed its nobody.
        record {
          port = boot_port (decl_of listed);
          there = boot_port_at (parts_in g.image.cores c).ports (port_place g (anyone c) p) (decl_of listed) ((is.cores c four some).ports p listed its);
          declared = refl;
        };
  }

  -- all stand so
  pub set_standing : MatchStates g all_rest who (set_watched who g.image) (counted_start (of_kernel g.program))
  set_standing = record {
    clocks = refl;
    trace = refl;
    cores = refl;
    lawful = laws_begin g.program is.obeys;
    plain = is.plain;
    wired = wired_begin g who is;
    alone = λ c t r hand transfer runs is_in. absurd (none_begun g who is c t r hand transfer runs is_in);
    roles = roles_begin g who is;
    reserves = reserves_begin g who start (laws_begin g.program is.obeys) (λ c t n r e. some_none (root_of g who is c t r _ e).none);
    used = λ c a e. let d = set_cores_are who g.image c a e in subst (AreUsedSo who c) (sym d.1) (used_begin c d.0);
    threads = λ c t a e. let d = set_cores_are who g.image c a e in subst (λ i. ThreadRel g true i start (set_life c t) (λ f. 0) (who c t)) (sym d.1) (threads_stand (set_life c t) refl c t (who c t) refl);
    loose = λ c a e some. let d = set_cores_are who g.image c a e in subst (λ i. AreLoose g who c i start) (sym d.1) (loose_begin c d.0 some);
    sizes = λ c a e. let d = set_cores_are who g.image c a e in ap sizes_of d.1 ∙ sizes_begin (parts_in g.image.cores c);
    roots = λ c a e. let d = set_cores_are who g.image c a e in ap (λ (i : CoreState). i.roots) d.1 ∙ is.count c d.0;
    placed = λ b branch e. let root = known_root g who is b branch e in let core = root.1.core in let lt = is.placed b root.0 root.2 in omega (arith, core, lt);
    run = λ b branch e on.
        let root = known_root g who is b branch e in
        let q = is.run b root.0 root.2 in
        record { core = q.0; thread = q.1; runner = q.2; hand = None; runs = q.3; branch = inl (sym q.4) };
    made = λ b branch e on. let root = known_root g who is b branch e in inl (slice_get_within g.program.roots b root.0 root.2);
  }
    where
      some_none : {n : ℕ} → giving_back n ≡ None → ⊥
      some_none f = cc
