-- The words and ports of a core, as its plan lays them out for whoever runs there.
use Rattle.std.proofs.Common.{◌≡◌, inl, inr, ⊎_elim, ℕ, ◌+◌, ◌^◌, ◌<◌, ◌≤◌, true, List, length, Option, Some, Contains, slice_get, option_map, nat_eq, refl, sym, ap, subst, ◌∙◌, arith, eq-eqb}
use Rattle.std.proofs.lemmas.Option.{slice_get-map}
use Rattle.xs_instr.specs.declared.image.PortDecl.{PortDecl}
use Rattle.xs_instr.specs.Machine.{parts_in}
use Rattle.xs_instr.specs.OwnSteps.{IsApart, temporary}
use Rattle.xc_kernel.specs.declared.kernel.PortUse.{PortUse}
use Rattle.xc_kernel.specs.declared.kernel.Timer.{Timer}
use Rattle.xc_kernel.specs.declared.kernel.Var.{Var}
use Rattle.xc_kernel.specs.Plain as kernel
use Rattle.xc_meaning.specs.Counts.KernelCounts.{words_in}
use Rattle.xc_meaning.proofs.Basics.{or_right}
use Rattle.xc_disjoint.specs.Checked.{IsChecked}
use Rattle.xc_disjoint.specs.Cores.{if_so}
use Rattle.xc_disjoint.specs.Needs.{words_on, threads_on, timers_of}
use Rattle.xl_expr.specs.declared.plan.VarPlan.{VarPlan}
use Rattle.xl_expr.specs.Frames.{Frame, IsNear}
use Rattle.xl_expr.specs.Plans.{var_in}
use Rattle.xl_image.specs.Images.{IsPlan, decl_of}
use Rattle.xl_image.proofs.GoodParts.{few_timers}
use Rattle.xl_plan.specs.Layout.{first_temporary, temporary_of, word_of, ports_here, core_of_port, core_of_timer, identifier_if, named_by, port_name, timer_name}
use Rattle.xl_plan.specs.Planned.{ports_on}
use Rattle.xl_plan.proofs.FewPorts.{few_ports}
use Rattle.xl_plan.proofs.Lists.{some_given, within_all}
use Rattle.xl_plan.proofs.Numbered.{listed}
use Rattle.xl_plan.proofs.PortsDiffer.{ports_apart}
use Rattle.xl_plan.proofs.Sizes.{few_words}
use Rattle.xr_simulation.specs.Images.{IsCoreOf}
use Rattle.xr_simulation.specs.Sizes.{most_watches}
use Rattle.xr_simulation.specs.Runners.{Activation, Setting, Runner, IsLaidOut, IsPort, anyone, is_among_words, is_word_among, outside, places, plan, plan_in, port_place, relied, IsTimer, timer_place}
use Rattle.xr_simulation.proofs.Image.Footprints.{HasAll, words_there}
use Rattle.xr_simulation.proofs.Image.Ends.{ends_differ, ends_planned, few_ends_there}
use Rattle.xr_simulation.proofs.Image.Plans.{IsImaged}
use Rattle.xr_simulation.proofs.Image.ResourceNames.{port_named, timer_named}
use Rattle.xr_simulation.proofs.Image.Places.{is_there, numbers_differ}

eq_true : (a b : ℕ) → a ≡ b → nat_eq a b ≡ true
eq_true a b e = grind arith

-- A core.
module _ (g : Setting) (checked : IsChecked g.program) (core : ℕ) (is_core : core < 4) (im : IsImaged g.program core (parts_in g.image.cores core) (g.plans core)) where
  abbrev vars : List (Option VarPlan)
  vars = (g.plans core).vars

  -- a variable's plan
  pub record IsPlanned (v : ℕ) (found : VarPlan) : Type 0 where
    pub variable : Var
    pub there : slice_get g.program.variables v ≡ Some variable
    pub first : ℕ
    pub near : IsNear vars v first found
    pub words : found.words ≡ variable.words

  pub planned_at : (v : ℕ) (found : VarPlan) → var_in vars v ≡ Some found → IsPlanned v found
  planned_at v found known =
      let on = im.planned.no_other v found known in
      let at = im.planned.variables v on.variable on.there on.place in
      let same = some_given (sym known ∙ at) in
      record {
        variable = on.variable;
        there = on.there;
        first = word_of core g.program.variables v;
        near = record { known = known; place = ap (λ (f : VarPlan). f.place) same };
        words = ap (λ (f : VarPlan). f.words) same;
      }

  pub words_small : words_on g.program core ≤ 16384
  words_small = few_words g.program core checked (let z : core ≤ 3 = omega (arith, is_core) in z)

  first_below : first_temporary g.program core ≤ words_on g.program core
  first_below = omega arith

  pub below_words : (v n : ℕ) (found : VarPlan) → IsNear vars v n found → n + found.words ≤ words_on g.program core
  below_words v n found near = let a = im.planned.below v n found near in let b = first_below in omega (arith, a, b)

  pub sizes_are : (v n : ℕ) (found : VarPlan) → IsNear vars v n found → (found.words ≡ words_in g.program.variables v) × (n + found.words ≤ (parts_in g.image.cores core).words)
  sizes_are v n found near =
      let p = planned_at v found near.known in
      let a = below_words v n found near in
      let b = im.words in
      (p.words ∙ sym (words_there g.program.variables v p.variable p.there), omega (arith, a, b))

  -- what the plan has for a root of the core
  pub has_all : (root : kernel.Root) → Contains g.program.roots root → root.core ≡ core → HasAll g.program.variables vars root.body
  has_all root among here = record {
    there = λ v u. im.planned.used_variables root v among here u;
    words = λ v found x known there.
        let p = planned_at v found known in
        p.words ∙ ap (λ (y : Var). y.words) (some_given (sym p.there ∙ there));
  }

  -- each thread of which it has need has temporary words
  within_words : (t : ℕ) → t < threads_on g.program core → temporary_of g.program core t + temporary ≤ words_on g.program core
  within_words t lt = omega (arith, lt)

  pub room : (t : ℕ) → t < threads_on g.program core → temporary_of g.program core t + temporary ≤ (parts_in g.image.cores core).words
  room t lt = let a = within_words t lt in let b = im.words in omega (arith, a, b)

  -- the core's part declares the ports in their order
  pub ports_are : (p : ℕ) (x : PortUse) → IsPort g (anyone core) p x → slice_get (parts_in g.image.cores core).ports (port_place g (anyone core) p) ≡ Some (decl_of x)
  ports_are p x is =
      ap (λ (ds : List PortDecl). slice_get ds (port_place g (anyone core) p)) im.ports
      ∙ slice_get-map decl_of (ports_on core g.program.ports) (port_place g (anyone core) p)
      ∙ ap (option_map decl_of) (listed core_of_port core g.program.ports p x is.known is.core)

  -- the core's part counts the timers, and each has its number among them
  pub timers_are : (t : ℕ) (x : Timer) → IsTimer g (anyone core) t x → timer_place g (anyone core) t < (parts_in g.image.cores core).timers
  timers_are t x is =
      let all = within_all (timers_of core) g.program.timers t x is.known in
      let one : timers_of core x ≡ 1 = ap (λ b. if_so b 1) (eq-eqb x.core core is.core) in
      let many = im.timers in
      omega (arith, all, one, many)

  -- there is a watch for a port's number
  few_place : (p : ℕ) (x : PortUse) → slice_get g.program.ports p ≡ Some x → port_place g (anyone core) p < most_watches
  few_place p x e =
      let a = within_all (ports_here core) g.program.ports p x e in
      let b = few_ports core g.program.ports (ports_apart g.program core (let z : core ≤ 3 = omega (arith, is_core) in z) checked.of_program) in
      omega (arith, a, b)

  -- and for a timer's
  few_timer : (t : ℕ) (x : Timer) → IsTimer g (anyone core) t x → timer_place g (anyone core) t < most_watches
  few_timer t x is =
      let a = timers_are t x is in
      let b = im.timers in
      let c = few_timers g.program checked core (let z : core ≤ 3 = omega (arith, is_core) in z) in
      omega (arith, a, b, c)

  -- so both are small
  place_small : (p : ℕ) (x : PortUse) → slice_get g.program.ports p ≡ Some x → port_place g (anyone core) p < 2 ^ 16
  place_small p x e = let few = few_place p x e in omega (arith, few)

  timer_small : (t : ℕ) (x : Timer) → IsTimer g (anyone core) t x → timer_place g (anyone core) t < 2 ^ 16
  timer_small t x is = let few = few_timer t x is in omega (arith, few)

-- A runner on its core.
module _ (g : Setting) (checked : IsChecked g.program) (r : Runner) (is_core : r.core < 4) (im : IsImaged g.program r.core (parts_in g.image.cores r.core) (g.plans r.core))
    (inside : r.thread < threads_on g.program r.core) (block : r.block ≡ outside)
    (stack : r.stack ≡ temporary_of g.program r.core r.thread) where
  not_temporary : (v n i : ℕ) (found : VarPlan) → IsNear (places g r.core) v n found → i < found.words → IsApart r.stack (0 + n + i)
  not_temporary v n i found near lt =
      ⊎_elim
      (λ h. inl (let s = stack in omega (arith, h, s)))
      (λ h. inr (let s = stack in omega (arith, h, s)))
      (im.planned.not_temporary v n i r.thread found near lt)

  frame : Frame (places g r.core) (relied g r) r.footprint.uses r.stack 0
  frame = record {
    near = λ v found known. let p = planned_at g checked r.core is_core im v found known in (p.first, p.near);
    low = λ v n i found near lt. let a = below_words g checked r.core is_core im v n found near in let b = words_small g checked r.core
        is_core im in omega (arith, a, b, lt);
    relied_on = λ v n i found near used lt.
        or_right (is_among_words r.stack temporary (0 + n + i))
        (is_word_among 0 (places g r.core) r.footprint.uses (length (places g r.core)) (0 + n + i))
        (is_there 0 (places g r.core) r.footprint.uses (0 + n + i)
        (record { variable = v; first = n; place = i; found = found; near = near; meant = used; within = lt; is = refl }));
    apart = not_temporary;
    disjoint = im.planned.apart;
  }

  -- the plan that its code goes by is the core's
  planned : IsPlan g.program r.core (plan g r)
  planned = subst (λ (b : Activation). IsPlan g.program r.core (plan_in (g.plans r.core) b.plan)) (sym block) im.planned

  pub laid_out : ((v : ℕ) → r.footprint.changes v ≡ true → r.footprint.uses v ≡ true) → IsLaidOut g r
  laid_out used = record {
    block = block;
    frame = frame;
    changes = used;
    small = let a = within_words g checked r.core is_core im r.thread inside in let b = words_small g checked r.core is_core im in let s = stack in omega (arith, a, b, s);
    identifiers = λ p x is.
        planned.ports p
        ∙ ap (named_by (port_name r.core) core_of_port r.core g.program.ports p) is.known
        ∙ ap (λ b. identifier_if b (port_name r.core (port_place g r p))) (eq_true x.core r.core is.core);
    names = λ p x is. port_named r.core (port_place g r p) (place_small g checked r.core is_core im p x is.known);
    timer_identifiers = λ t x is.
        planned.timers t
        ∙ ap (named_by (timer_name r.core) core_of_timer r.core g.program.timers t) is.known
        ∙ ap (λ b. identifier_if b (timer_name r.core (timer_place g r t))) (eq_true x.core r.core is.core);
    timer_names = λ t x is. timer_named r.core (timer_place g r t)
        (timer_small g checked r.core is_core im t x (record { mine = refl; known = is.known; core = is.core }));
    timers = λ t x is. timers_are g checked r.core is_core im t x (record { mine = refl; known = is.known; core = is.core });
    ends = λ c side is here. ends_planned g checked r is_core planned im.ends c is side here;
    few_ports = λ p x is. few_place g checked r.core is_core im p x is.known;
    few_timers = λ t x is.
        few_timer g checked r.core is_core im t x (record { mine = refl; known = is.known; core = is.core });
    few_ends = λ c side is here. few_ends_there g checked r is_core planned im.ends c is side here;
    ports_differ = λ p q x y is is' same.
        numbers_differ core_of_port g.program.ports r.core p q x y is.known is'.known is.core is'.core same;
    timers_differ = λ t u x y is is' same.
        numbers_differ core_of_timer g.program.timers r.core t u x y is.known is'.known is.core is'.core same;
    ends_differ = λ c d side other is here is' here' same.
        ends_differ g checked r is_core planned im.ends c d side other is here is' here' same;
  }

-- What the simulation asks of a core.
pub core_is : (g : Setting) (checked : IsChecked g.program) → (core : ℕ) (is_core : core < 4) → IsImaged g.program core (parts_in g.image.cores core) (g.plans core) → IsCoreOf g core
core_is g checked core is_core im = record {
  laid = λ r on inside block stack used.
      laid_out g checked r (subst (λ c. c < 4) (sym on) is_core) (subst (λ c. IsImaged g.program c (parts_in g.image.cores c) (g.plans c)) (sym on) im)
      (subst (λ c. r.thread < threads_on g.program c) (sym on) inside) block
      (stack ∙ ap (λ c. temporary_of g.program c r.thread) (sym on)) used;
  room = room g checked core is_core im;
  stacks = im.planned.first_stack;
  sizes = sizes_are g checked core is_core im;
  ports = ports_are g checked core is_core im;
  timers = timers_are g checked core is_core im;
  ports_differ = λ p q listed other is is' same. numbers_differ core_of_port g.program.ports core p q listed other is.known is'.known
      is.core is'.core same;
}
