use Rattle.std.proofs.Common.{◌≡◌, List, length, Option, sym, ap, subst, ◌∙◌, sum_by, arith}
use Rattle.std.proofs.Common.{ℕ, Result, Ok, Err, IfOk, OnOk, IsErr}
use Rattle.xc_kernel.specs.declared.kernel.Kernel.{Kernel}
use Rattle.xc_kernel.specs.declared.kernel.PortUse.{PortUse}
use Rattle.xc_kernel.specs.declared.kernel.Timer.{Timer}
use Rattle.xc_kernel.specs.declared.kernel.Var.{Var}
use Rattle.xc_kernel.specs.Kernels.{kernel_of}
use Rattle.xc_kernel.specs.Plain as plain
use Rattle.xw_words.specs.declared.memory.Memory.{Memory}
use Rattle.xs_instr.specs.Resources.{name_of}
use Rattle.xl_expr.specs.declared.plan.Plan.{Plan}
use Rattle.xl_expr.specs.declared.plan.ResAt.{ResAt}
use Rattle.xl_expr.specs.declared.plan.VarPlan.{VarPlan}
use Rattle.xl_plan.specs.declared.channels.SideCores.{SideCores}
use Rattle.xl_plan.specs.Layout.{words_here, first_temporary, places_from, core_of_port, core_of_timer, identifiers_from, end_places_from, ends_below, ends_there}
use Rattle.xl_plan.specs.Layout.{temporary_of}
use Rattle.xl_plan.specs.Planned.{HasVariables, HasNoOther, HasUsedVariables, HasUsedPorts, HasUsedTimers, StandBelow, NoneShare, NoneIsTemporary, HasPorts, HasTimers}
use Rattle.xl_plan.specs.Planned.{HasEnds, HasChannels, NumbersAreListed, ArePortsApart, ports_on}
use Rattle.xl_plan.proofs.Ends.{few_ends}
use Rattle.xl_plan.proofs.Laid.{none_share}
use Rattle.xl_plan.proofs.Promised.{has_variables, has_no_other, has_used_variables, has_used_ports, has_used_timers, stand_below, none_is_temporary, ports_have_numbers, numbers_listed, timers_have_numbers}
use Rattle.xl_plan.proofs.PortsDiffer.{ports_apart}
use Rattle.xl_plan.proofs.Sizes.{few_variable_words}
use Rattle.xl_plan.proofs.Users.{cores_need, places_are}
use Rattle.xl_plan.proofs.layout.plan.Goals as goal

-- of an error nothing is asked of what there is where it went well
not_ok : {T E : Type 0} (r : Result T E) → IsErr r → (P : T → Type 0) → IfOk r P
not_ok (Ok x) e P = cc
not_ok (Err x) e P = tt

-- so nothing is asked of a plan
none_planned : (k : plain.Kernel) (core : ℕ) (r : Result Plan Memory) → IsErr r →
    record {
      variables : IfOk r (λ plan. HasVariables k core plan.vars);
      no_other : IfOk r (λ plan. HasNoOther k core plan.vars);
      used_variables : IfOk r (λ plan. HasUsedVariables k core plan.vars);
      below : IfOk r (λ plan. StandBelow (first_temporary k core) plan.vars);
      apart : IfOk r (λ plan. NoneShare plan.vars);
      not_temporary : IfOk r (λ plan. NoneIsTemporary k core plan.vars);
      ports : IfOk r (λ plan. HasPorts k core plan.ports);
      timers : IfOk r (λ plan. HasTimers k core plan.timers);
      used_ports : IfOk r (λ plan. HasUsedPorts k core plan.ports);
      used_timers : IfOk r (λ plan. HasUsedTimers k core plan.timers);
      listed : OnOk r (NumbersAreListed k core);
      differ : OnOk r (ArePortsApart (ports_on core k.ports));
      ends : IfOk r (λ plan. HasEnds k core plan.ends);
      channels : IfOk r (λ plan. HasChannels k core plan.channels);
      first_stack : IfOk r (λ plan. plan.first_stack ≡ temporary_of k core 0);
    }
none_planned k core r e = record {
  variables = not_ok r e _;
  no_other = not_ok r e _;
  used_variables = not_ok r e _;
  below = not_ok r e _;
  apart = not_ok r e _;
  not_temporary = not_ok r e _;
  ports = not_ok r e _;
  timers = not_ok r e _;
  used_ports = not_ok r e _;
  used_timers = not_ok r e _;
  listed = not_ok r e _;
  differ = not_ok r e _;
  ends = not_ok r e _;
  channels = not_ok r e _;
  first_stack = not_ok r e _;
}

pub variable_places-requires : goal.variable_places-requires
variable_places-requires c =
    let few = few_variable_words (kernel_of c.args.checked.now) c.args.core c.kernel-kernel.ensures.accepted c.requires.is_core in
    let same = ap (λ (vs : List Var). sum_by (words_here c.args.core) vs) (c.as_slice.ensures ∙ ap (λ (k : Kernel). k.vars) c.kernel-kernel.ensures.kernel) in
    omega arith

pub returns-clause-variables : goal.returns-clause-variables
returns-clause-variables c =
    let is : c.in_ok-vars.vars ≡ places_from c.args.core 0 c.args.checked.now.vars =
    c.in_ok-vars.ensures ∙ ap (λ (vs : List Var). places_from c.args.core 0 vs) (c.as_slice.ensures ∙ ap (λ (k : Kernel). k.vars) c.kernel-kernel.ensures.kernel) in
    subst (λ (vars : List (Option VarPlan)). HasVariables (kernel_of c.args.checked.now) c.args.core vars) (sym is) (has_variables (kernel_of c.args.checked.now) c.args.core)

pub returns-clause-no_other : goal.returns-clause-no_other
returns-clause-no_other c =
    let is : c.in_ok-vars.vars ≡ places_from c.args.core 0 c.args.checked.now.vars =
    c.in_ok-vars.ensures ∙ ap (λ (vs : List Var). places_from c.args.core 0 vs) (c.as_slice.ensures ∙ ap (λ (k : Kernel). k.vars) c.kernel-kernel.ensures.kernel) in
    subst (λ (vars : List (Option VarPlan)). HasNoOther (kernel_of c.args.checked.now) c.args.core vars) (sym is) (has_no_other (kernel_of c.args.checked.now) c.args.core)

pub returns-clause-used_variables : goal.returns-clause-used_variables
returns-clause-used_variables c =
    let is : c.in_ok-vars.vars ≡ places_from c.args.core 0 c.args.checked.now.vars =
    c.in_ok-vars.ensures ∙ ap (λ (vs : List Var). places_from c.args.core 0 vs) (c.as_slice.ensures ∙ ap (λ (k : Kernel). k.vars) c.kernel-kernel.ensures.kernel) in
    subst (λ (vars : List (Option VarPlan)). HasUsedVariables (kernel_of c.args.checked.now) c.args.core vars) (sym is) (has_used_variables (kernel_of c.args.checked.now) c.args.core c.kernel-kernel.ensures.accepted)

pub returns-clause-below : goal.returns-clause-below
returns-clause-below c =
    let is : c.in_ok-vars.vars ≡ places_from c.args.core 0 c.args.checked.now.vars =
    c.in_ok-vars.ensures ∙ ap (λ (vs : List Var). places_from c.args.core 0 vs) (c.as_slice.ensures ∙ ap (λ (k : Kernel). k.vars) c.kernel-kernel.ensures.kernel) in
    subst (λ (vars : List (Option VarPlan)). StandBelow (first_temporary (kernel_of c.args.checked.now) c.args.core) vars) (sym is) (stand_below (kernel_of c.args.checked.now) c.args.core c.kernel-kernel.ensures.accepted)

pub returns-clause-apart : goal.returns-clause-apart
returns-clause-apart c =
    let is : c.in_ok-vars.vars ≡ places_from c.args.core 0 c.args.checked.now.vars =
    c.in_ok-vars.ensures ∙ ap (λ (vs : List Var). places_from c.args.core 0 vs) (c.as_slice.ensures ∙ ap (λ (k : Kernel). k.vars) c.kernel-kernel.ensures.kernel) in
    subst (λ (vars : List (Option VarPlan)). NoneShare vars) (sym is) (none_share c.args.core c.args.checked.now.vars)

pub returns-clause-not_temporary : goal.returns-clause-not_temporary
returns-clause-not_temporary c =
    let is : c.in_ok-vars.vars ≡ places_from c.args.core 0 c.args.checked.now.vars =
    c.in_ok-vars.ensures ∙ ap (λ (vs : List Var). places_from c.args.core 0 vs) (c.as_slice.ensures ∙ ap (λ (k : Kernel). k.vars) c.kernel-kernel.ensures.kernel) in
    subst (λ (vars : List (Option VarPlan)). NoneIsTemporary (kernel_of c.args.checked.now) c.args.core vars) (sym is) (none_is_temporary (kernel_of c.args.checked.now) c.args.core c.kernel-kernel.ensures.accepted)

pub returns-clause-ports : goal.returns-clause-ports
returns-clause-ports c =
    let is : c.in_ok-ports.ports ≡ identifiers_from core_of_port c.args.core (name_of c.args.core 0 0) c.args.checked.now.ports =
    c.in_ok-ports.ensures ∙ ap (λ (ps : List PortUse). identifiers_from core_of_port c.args.core (name_of c.args.core 0 0) ps) (c.as_slice-2.ensures ∙ ap (λ (k : Kernel). k.ports) c.kernel-kernel.ensures.kernel) in
    subst (λ (places : List (Option ResAt)). HasPorts (kernel_of c.args.checked.now) c.args.core places) (sym is) (ports_have_numbers (kernel_of c.args.checked.now) c.args.core c.kernel-kernel.ensures.accepted c.requires.is_core)

pub returns-clause-timers : goal.returns-clause-timers
returns-clause-timers c =
    let is : c.in_ok-timers.timers ≡ identifiers_from core_of_timer c.args.core (name_of c.args.core 0 1) c.args.checked.now.timers =
    c.in_ok-timers.ensures ∙ ap (λ (ts : List Timer). identifiers_from core_of_timer c.args.core (name_of c.args.core 0 1) ts) (c.as_slice-3.ensures ∙ ap (λ (k : Kernel). k.timers) c.kernel-kernel.ensures.kernel) in
    subst (λ (places : List (Option ResAt)). HasTimers (kernel_of c.args.checked.now) c.args.core places) (sym is) (timers_have_numbers (kernel_of c.args.checked.now) c.args.core c.kernel-kernel.ensures.accepted c.requires.is_core)

pub returns-clause-used_ports : goal.returns-clause-used_ports
returns-clause-used_ports c =
    let is : c.in_ok-ports.ports ≡ identifiers_from core_of_port c.args.core (name_of c.args.core 0 0) c.args.checked.now.ports =
    c.in_ok-ports.ensures ∙ ap (λ (ps : List PortUse). identifiers_from core_of_port c.args.core (name_of c.args.core 0 0) ps) (c.as_slice-2.ensures ∙ ap (λ (k : Kernel). k.ports) c.kernel-kernel.ensures.kernel) in
    subst (λ (places : List (Option ResAt)). HasUsedPorts (kernel_of c.args.checked.now) c.args.core places) (sym is) (has_used_ports (kernel_of c.args.checked.now) c.args.core c.kernel-kernel.ensures.accepted _ (ports_have_numbers (kernel_of c.args.checked.now) c.args.core c.kernel-kernel.ensures.accepted c.requires.is_core))

pub returns-clause-used_timers : goal.returns-clause-used_timers
returns-clause-used_timers c =
    let is : c.in_ok-timers.timers ≡ identifiers_from core_of_timer c.args.core (name_of c.args.core 0 1) c.args.checked.now.timers =
    c.in_ok-timers.ensures ∙ ap (λ (ts : List Timer). identifiers_from core_of_timer c.args.core (name_of c.args.core 0 1) ts) (c.as_slice-3.ensures ∙ ap (λ (k : Kernel). k.timers) c.kernel-kernel.ensures.kernel) in
    subst (λ (places : List (Option ResAt)). HasUsedTimers (kernel_of c.args.checked.now) c.args.core places) (sym is) (has_used_timers (kernel_of c.args.checked.now) c.args.core c.kernel-kernel.ensures.accepted _ (timers_have_numbers (kernel_of c.args.checked.now) c.args.core c.kernel-kernel.ensures.accepted c.requires.is_core))

pub returns-clause-listed : goal.returns-clause-listed
returns-clause-listed c = numbers_listed (kernel_of c.args.checked.now) c.args.core

pub returns-clause-differ : goal.returns-clause-differ
returns-clause-differ c = ports_apart (kernel_of c.args.checked.now) c.args.core c.requires.is_core c.kernel-kernel.ensures.accepted.of_program

pub end_count-requires : goal.end_count-requires
end_count-requires c =
    let k = kernel_of c.args.checked.now in
    let few = few_ends k c.args.core c.kernel-kernel.ensures.accepted c.requires.is_core in
    let is = ap (λ (cores : List (Option SideCores)). sum_by (ends_there c.args.core) cores) (c.as_slice-4.ensures ∙ c.in_ok-cores.ensures) in
    let need = cores_need k c.args.core (length k.channels) in
    omega (arith, few, is, need)

pub end_identifiers-requires-clause-few : goal.end_identifiers-requires-clause-few
end_identifiers-requires-clause-few c =
    let k = kernel_of c.args.checked.now in
    let few = few_ends k c.args.core c.kernel-kernel.ensures.accepted c.requires.is_core in
    let is = c.end_count.ensures ∙ ap (λ (cores : List (Option SideCores)). sum_by (ends_there c.args.core) cores) (c.as_slice-4.ensures ∙ c.in_ok-cores.ensures) in
    let need = cores_need k c.args.core (length k.channels) in
    omega (arith, few, is, need)

pub returns-clause-ends : goal.returns-clause-ends
returns-clause-ends c =
    let k = kernel_of c.args.checked.now in
    let is = c.end_count.ensures ∙ ap (λ (cores : List (Option SideCores)). sum_by (ends_there c.args.core) cores) (c.as_slice-4.ensures ∙ c.in_ok-cores.ensures) in
    c.in_ok-ends.ensures ∙ ap (ends_below c.args.core) (is ∙ cores_need k c.args.core (length k.channels))

pub returns-clause-channels : goal.returns-clause-channels
returns-clause-channels c =
    let k = kernel_of c.args.checked.now in
    c.in_ok-channels.ensures
    ∙ ap (λ (cores : List (Option SideCores)). end_places_from c.args.core 0 cores) (c.as_slice-5.ensures ∙ c.in_ok-cores.ensures)
    ∙ places_are k c.args.core (length k.channels)

pub returns-in_err-vars : goal.returns-in_err-vars
returns-in_err-vars c =
    none_planned (kernel_of c.args.checked.now) c.args.core c.from_residual.result c.from_residual.ensures.0

pub returns-in_err-ports : goal.returns-in_err-ports
returns-in_err-ports c =
    none_planned (kernel_of c.args.checked.now) c.args.core c.from_residual-in_err-ports.result c.from_residual-in_err-ports.ensures.0

pub returns-in_err-timers : goal.returns-in_err-timers
returns-in_err-timers c =
    none_planned (kernel_of c.args.checked.now) c.args.core c.from_residual-in_err-timers.result c.from_residual-in_err-timers.ensures.0

pub returns-in_err-cores : goal.returns-in_err-cores
returns-in_err-cores c =
    none_planned (kernel_of c.args.checked.now) c.args.core c.from_residual-in_err-cores.result c.from_residual-in_err-cores.ensures.0

pub returns-in_err-ends : goal.returns-in_err-ends
returns-in_err-ends c =
    none_planned (kernel_of c.args.checked.now) c.args.core c.from_residual-in_err-ends.result c.from_residual-in_err-ends.ensures.0

pub returns-in_err-channels : goal.returns-in_err-channels
returns-in_err-channels c =
    none_planned (kernel_of c.args.checked.now) c.args.core c.from_residual-in_err-channels.result c.from_residual-in_err-channels.ensures.0
