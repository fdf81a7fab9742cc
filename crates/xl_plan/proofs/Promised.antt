-- What the plan of a core promises, of the places and identifiers that it has.
use Rattle.std.proofs.Common.{◌≡◌, inl, ℕ, ◌+◌, ◌≤◌, List, Option, Some, nat_eq, slice_get, true, ap, ◌∙◌, arith}
use Rattle.xc_kernel.specs.Plain as kernel
use Rattle.xc_disjoint.specs.Checked.{IsChecked}
use Rattle.xc_disjoint.specs.Cores.{last_core}
use Rattle.xc_wellformed.specs.Cores.{IsOn}
use Rattle.xs_instr.specs.Resources.{name_of}
use Rattle.xl_expr.specs.declared.plan.ResAt.{ResAt}
use Rattle.xl_expr.specs.declared.plan.ResAt.TheVariants.{Fixed}
use Rattle.xl_expr.specs.declared.plan.VarAt.TheVariants.{Near}
use Rattle.xl_expr.specs.declared.plan.VarPlan.{VarPlan}
use Rattle.xl_expr.specs.Plans.{var_in}
use Rattle.xl_plan.specs.Layout.{word_of, first_temporary, places_from, core_of_port, core_of_timer, number_on, identifier_if, named_by, identifiers_from, port_name, timer_name}
use Rattle.xl_plan.specs.Planned.{HasVariables, HasNoOther, HasUsedVariables, HasUsedPorts, HasUsedTimers, StandBelow, NoneIsTemporary, HasPorts, HasTimers, NumbersAreListed}
use Rattle.xl_plan.proofs.Laid.{Stands, placed_from, stands_from, all_below}
use Rattle.xl_plan.proofs.Numbered.{named_all, listed}
use Rattle.xl_plan.proofs.UsedResources.{port_used, timer_used}
use Rattle.xl_plan.proofs.Roots.{variable_here}
use Rattle.xl_plan.proofs.Sizes.{variables_fit, port_names, timer_names, first_small}

module _ (k : kernel.Kernel) (core : ℕ) where
  abbrev places : List (Option VarPlan)
  places = places_from core 0 k.variables

  pub has_variables : HasVariables k core places
  has_variables v x e here =
      placed_from core 0 k.variables v x e here
      ∙ ap (λ w. Some (record { place = Near w; words = x.words })) (let q : 0 + word_of core k.variables v ≡ word_of core k.variables v = omega arith in q)

  pub has_no_other : HasNoOther k core places
  has_no_other v found e = by (stands_from core 0 k.variables v found e)
    where
      by : Stands core 0 k.variables v found → IsOn k.variables core v
      by h = record { variable = h.variable; there = h.there; place = h.here }

  pub numbers_listed : NumbersAreListed k core
  numbers_listed p x e here = listed core_of_port core k.ports p x e here

  module _ (checked : IsChecked k) where
    pub has_used_variables : HasUsedVariables k core places
    has_used_variables r v among here uses = by (variable_here k checked r v among uses)
      where
        by : IsOn k.variables r.core v → (found : VarPlan) × (var_in places v ≡ Some found)
        by h = (record { place = Near (word_of core k.variables v); words = h.variable.words }, has_variables v h.variable h.there (h.place ∙ here))

    pub stand_below : StandBelow (first_temporary k core) places
    stand_below v n found near =
        let a = all_below core k.variables v n found near in
        let b = variables_fit k core checked in
        omega arith

    pub none_is_temporary : NoneIsTemporary k core places
    none_is_temporary v n i thread found near within =
        let a = stand_below v n found near in
        inl (omega arith)

    pub ports_have_numbers : core ≤ last_core → HasPorts k core (identifiers_from core_of_port core (name_of core 0 0) k.ports)
    ports_have_numbers is_core p = named_all core_of_port core (name_of core 0 0) (port_name core) k.ports p (first_small core 0 is_core (omega arith)) (port_names k core checked is_core)

    pub timers_have_numbers : core ≤ last_core → HasTimers k core (identifiers_from core_of_timer core (name_of core 0 1) k.timers)
    timers_have_numbers is_core t = named_all core_of_timer core (name_of core 0 1) (timer_name core) k.timers t (first_small core 1 is_core (omega arith)) (timer_names k core checked is_core)

    identifier_there : {X : Type 0} (name : ℕ → ℕ) (core_of : X → ℕ) (xs : List X) (p : ℕ) (x : X) (y : Option X) → y ≡ Some x → core_of x ≡ core → (found : ResAt) × (named_by name core_of core xs p y ≡ Some found)
    identifier_there name core_of xs p x y e here =
        (Fixed (name (number_on core_of core xs p)), ap (named_by name core_of core xs p) e ∙ ap (λ b. identifier_if b (name (number_on core_of core xs p))) (let q : nat_eq (core_of x) core ≡ true = grind arith in q))

    pub has_used_ports : (places : List (Option ResAt)) → HasPorts k core places → HasUsedPorts k core places
    has_used_ports all has r p among here uses =
        let x = port_used k checked r among p uses in
        let i = identifier_there (port_name core) core_of_port k.ports p x.0 (slice_get k.ports p) x.1 (x.2 ∙ here) in
        (i.0, has p ∙ i.1)

    pub has_used_timers : (places : List (Option ResAt)) → HasTimers k core places → HasUsedTimers k core places
    has_used_timers all has r t among here uses =
        let x = timer_used k checked r among t uses in
        let i = identifier_there (timer_name core) core_of_timer k.timers t x.timer (slice_get k.timers t) x.there (x.place ∙ here) in
        (i.0, has t ∙ i.1)
