-- An image that has the code of a kernel's roots implements the kernel.
use Rattle.std.proofs.Common.{◌≡◌, ℕ, ◌+◌, ◌*◌, ◌≤◌, Option, Some, None, refl, sym, subst, arith}
use Rattle.std.proofs.lemmas.Option.{same_Some}
use Rattle.std.proofs.Math.Nat.{mul-le-mul_left}
use Rattle.xs_instr.specs.declared.image.Image.{Image}
use Rattle.xs_instr.specs.declared.image.Stim.{Stim}
use Rattle.xs_instr.specs.Machine.{Event, Machine, and_then, does}
use Rattle.xc_kernel.specs.Plain as kernel
use Rattle.xc_meaning.specs.Counts.KernelCounts.{greatest_count, kernel_bound}
use Rattle.xc_meaning.specs.Runs.{kernel_start}
use Rattle.xl_expr.specs.declared.plan.Plan.{Plan}
use Rattle.xr_match.specs.Implements.{AgreeNow, AgreeWholly, Implements, ImplementsWholly}
use Rattle.xr_match.specs.Lives.{Watched, machine_of, watched_after, watched_start}
use Rattle.xr_match.specs.Meanings.{of_kernel}
use Rattle.xr_match.specs.Sources.{Counted, actions_of, counted_of, counted_start}
use Rattle.xr_match.proofs.Counted.{counted_steps}
use Rattle.xr_match.proofs.Frame as frame
use Rattle.xr_simulation.specs.Images.{IsImageOf}
use Rattle.xr_simulation.specs.Living.{AreNamed}
use Rattle.xr_simulation.specs.Roles.{Roles}
use Rattle.xr_simulation.specs.Runners.{Setting}
use Rattle.xr_simulation.specs.MatchStates.{none_rests}
use Rattle.xr_simulation.proofs.Relation.Agreement.{agrees_now, quiet_agree}
use Rattle.xr_simulation.proofs.Start.AtBoot.{standing_before}
use Rattle.xr_simulation.proofs.Start.AtCode.{all_rest, set_life, set_standing, set_watched}
use Rattle.xr_simulation.proofs.Relation.EachEvent.{event_followed}
use Rattle.xr_simulation.proofs.Lives.Bound.{bounded, start_named}
use Rattle.xr_simulation.proofs.Lives.Families.{grown_same}
use Rattle.xr_simulation.proofs.Lives.Links.{alike_linked}
use Rattle.xr_simulation.proofs.Lives.Pieces.{goes_on}
use Rattle.xr_simulation.proofs.Settling.All.{standing_as}
use Rattle.xr_simulation.proofs.Settling.Start.{settles_everywhere}
use Rattle.xr_simulation.proofs.Relation.Lasting.{told_by}
use Rattle.xr_simulation.proofs.Start.Wires.{none_inside}
use Rattle.xr_simulation.proofs.Start.ProgramStart.{none_got}
use Rattle.xr_simulation.proofs.Relation.Together.{Comes, Together, named_like}

-- what an event leaves
left_by : (L : Image) (s : Stim) (w w' : Watched) (e : Event) → (machine_of L s).next w e ≡ Some w' → (m : Machine) × (does L s w.machine e ≡ Some m) × (w' ≡ watched_after w e m)
left_by L s w w' e h = go (does L s w.machine e) refl h
  where
    go : (o : Option Machine) → does L s w.machine e ≡ o → and_then o (λ m. Some (watched_after w e m)) ≡ Some w' → (m : Machine) × (does L s w.machine e ≡ Some m) × (w' ≡ watched_after w e m)
    go None d f = absurd cc
    go (Some m) d f = (m, d, sym (same_Some _ _ f))

-- two steps are within the bound
two_within : (most greatest actions : ℕ) → most ≡ 8 * (greatest + 16) → 2 ≤ most * (actions + 1)
two_within most greatest actions is =
    let le : 1 ≤ actions + 1 = omega arith in
    let grown = mul-le-mul_left most le in
    omega (arith, grown)

module _ (g : Setting) (who : Roles) (is : IsImageOf g who) where
  -- the same as the program with its families' actions has it
  follows : (x : Counted (of_kernel g.program)) (w : Watched) → Comes g x w → frame.Follows (machine_of g.image g.stimulus) (counted_of (of_kernel g.program) g.stimulus) (Together g) x w
  follows x w f =
      let z = counted_steps g.program g.stimulus (kernel_start g.program) (kernel_bound g.program) f.piece x f.world f.acted in
      let told = told_by g.program g.stimulus x f.piece f.world in
      let less : (h : ℕ) → told.actions h ≤ z.0.actions h = λ h. let e = z.3 h in omega arith in
      let t = f.together in
      let counted_told : Counted (of_kernel g.program) = record { state = f.world; actions = z.0.actions } in
      let more : Together g w counted_told = record {
        who = t.who;
        standing = standing_as g who is w none_rests none_rests t.who told t.standing z.0.actions less (λ i u s hand runs may. may);
        named = alike_linked g none_rests t.who w told t.standing t.named w counted_told (goes_on g told counted_told less (grown_same f.world.branches)) (λ d u. refl);
      } in
      (f.piece, z.0, z.1, subst (λ y. Together g w (record { state = y; actions = z.0.actions })) (sym z.2) more)

  -- the names where the stacks are set
  set_named : AreNamed g who (set_watched who g.image) (counted_start (of_kernel g.program))
  set_named =
      named_like g who (watched_start g.image) (set_watched who g.image) (counted_start (of_kernel g.program))
      (λ c t. record { family = refl; pars = refl; tyings = λ n. refl })
      (λ c u t e. absurd (none_got g who is c u t e))
      (λ c t e. two_within (kernel_bound g.program) (greatest_count g.program) (actions_of (of_kernel g.program) (counted_start (of_kernel g.program)) (set_life c t).family) refl)
      (start_named g who is)

  -- At the start the program's first piece leads to where the two stand so.
  comes_first : Comes g (counted_start (of_kernel g.program)) (watched_start g.image)
  comes_first =
      let settled = settles_everywhere g who is (set_watched who g.image) all_rest who (counted_start (of_kernel g.program)) (set_standing g who is) in
      let q = settled.follows in
      let x = told_by g.program g.stimulus (counted_start (of_kernel g.program)) q.piece q.world in
      record {
        piece = q.piece;
        world = q.world;
        acted = q.acted;
        together = record {
          who = q.who;
          standing = standing_before g who is q.who x q.standing (settled.none_inside (none_inside g who is));
          named = named_like g q.who (set_watched who g.image) (watched_start g.image) x
              (λ c t. record { family = refl; pars = refl; tyings = λ n. refl })
              (λ c u t e. refl)
              (λ c t e. omega arith)
              (q.named set_named);
        };
      }

  -- and again after each event
  event : (w w' : Watched) (x : Counted (of_kernel g.program)) (e : Event) → Together g w x → (machine_of g.image g.stimulus).next w e ≡ Some w' → frame.Follows (machine_of g.image g.stimulus) (counted_of (of_kernel g.program) g.stimulus) (Together g) x w'
  event w w' x e t h =
      let left = left_by g.image g.stimulus w w' e h in
      let q = event_followed g who is t.who w left.0 x t.standing e left.1 in
      let comes : Comes g x (watched_after w e left.0) = record {
        piece = q.piece;
        world = q.world;
        acted = q.acted;
        together = record { who = q.who; standing = q.standing; named = q.named t.named };
      } in
      follows x w' (subst (Comes g x) (sym left.2) comes)

  -- they agree in all that an image promises
  agrees : (w : Watched) (x : Counted (of_kernel g.program)) → Together g w x → AgreeWholly g.image (of_kernel g.program) g.stimulus w x
  agrees w x t = record {
    agree = agrees_now g t.who w x t.standing who is;
    quiet = quiet_agree g t.who w x t.standing who is;
    bounded = bounded g none_rests t.who w x t.standing t.named;
  }

  -- so the machine simulates the program
  pub simulates : frame.Simulates (machine_of g.image g.stimulus) (counted_of (of_kernel g.program) g.stimulus) (Together g) (AgreeWholly g.image (of_kernel g.program) g.stimulus)
  simulates = record {
    holds = agrees;
    begins = follows (counted_start (of_kernel g.program)) (watched_start g.image) comes_first;
    step = event;
  }

-- the setting of each stimulus
abbrev pub setting : kernel.Kernel → Image → (plans : (core : ℕ) → Plan) → Stim → Setting
setting K L plans s = record { program = K; image = L; stimulus = s; plans = plans }

module _ (K : kernel.Kernel) (L : Image) (who : Roles) (plans : (core : ℕ) → Plan) (is : (s : Stim) → IsImageOf (setting K L plans s) who) where
  -- the image keeps all that it promises
  pub wholly_implements : ImplementsWholly L (of_kernel K)
  wholly_implements = record {
    by = λ s good. frame.refines_by (machine_of L s) (counted_of (of_kernel K) s) (Together (setting K L plans s)) (AgreeWholly L (of_kernel K) s) (simulates (setting K L plans s) who (is s));
  }

  -- what everybody sees agrees
  agreeing : (s : Stim) → frame.Simulates (machine_of L s) (counted_of (of_kernel K) s) (Together (setting K L plans s)) (AgreeNow L (of_kernel K))
  agreeing s =
      let sim = simulates (setting K L plans s) who (is s) in
      record { holds = λ w x t. (sim.holds w x t).agree; begins = sim.begins; step = sim.step }

  -- so it implements the kernel
  pub implements : Implements L (of_kernel K)
  implements = record {
    by = λ s good. frame.refines_by (machine_of L s) (counted_of (of_kernel K) s) (Together (setting K L plans s)) (AgreeNow L (of_kernel K)) (agreeing s);
  }
