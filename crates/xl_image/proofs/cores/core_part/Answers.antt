use Rattle.std.proofs.Common.{◌∙◌, List, length, map, sum_by, refl, ap, arith}
use Rattle.xc_kernel.specs.declared.kernel.Kernel.{Kernel}
use Rattle.xc_kernel.specs.declared.kernel.PortUse.{PortUse}
use Rattle.xc_kernel.specs.declared.kernel.Timer.{Timer}
use Rattle.xc_kernel.specs.Kernels.{kernel_of}
use Rattle.xc_disjoint.specs.Needs.{timers_of}
use Rattle.xl_expr.proofs.GoodCode.{good_closed}
use Rattle.xl_plan.specs.Planned.{ports_on}
use Rattle.xl_plan.proofs.Ends.{ends_are_used, few_ends}
use Rattle.xl_image.specs.Images.{decl_of}
use Rattle.xl_image.proofs.GoodParts.{few_timers}
use Rattle.xl_image.proofs.GoodPairs.{ends_listed}
use Rattle.xl_image.proofs.cores.core_part.Goals as goal

pub timer_count-requires : goal.timer_count-requires
timer_count-requires c =
    let k = kernel_of c.args.checked.now in
    let few = few_timers k c.kernel-kernel.ensures.accepted c.args.core c.requires.is_core in
    let same = ap (λ (ts : List Timer). sum_by (timers_of c.args.core) ts) (c.as_slice-2.ensures ∙ ap (λ (q : Kernel). q.timers) c.kernel-kernel.ensures.kernel) in
    omega (arith, few, same)

pub overflow_cast-result : goal.overflow_cast-result
overflow_cast-result c =
    let k = kernel_of c.args.checked.now in
    let listed = c.len.ensures ∙ ends_listed k c.args.core c.kernel-kernel.ensures.accepted c.in_ok-places.places.ends c.in_ok-places.ensures.ends in
    let used = ends_are_used k c.args.core c.kernel-kernel.ensures.accepted in
    let few = few_ends k c.args.core c.kernel-kernel.ensures.accepted c.requires.is_core in
    omega (arith, listed, used, few)

pub finish-requires : goal.finish-requires
finish-requires c =
    let e = c.emit_roots.new.e in
    good_closed (length e) 0 e (c.in_ok-roots.ensures.alone.by (length e) (omega arith))

pub returns : goal.returns
returns c =
    let k = kernel_of c.args.checked.now in
    let core = c.args.core in
    let plan = c.in_ok-places.ensures in
    record {
      part = record {
        number = refl;
        words = c.word_count.ensures;
        timers = c.timer_count.ensures ∙ ap (λ (ts : List Timer). sum_by (timers_of core) ts) (c.as_slice-2.ensures ∙ ap (λ (q : Kernel). q.timers) c.kernel-kernel.ensures.kernel);
        ends = c.len.ensures ∙ ends_listed k core c.kernel-kernel.ensures.accepted c.in_ok-places.places.ends plan.ends;
        ports = c.in_ok-ports.ensures ∙ ap (λ (ps : List PortUse). map decl_of (ports_on core ps)) (c.as_slice.ensures ∙ ap (λ (q : Kernel). q.ports) c.kernel-kernel.ensures.kernel);
        code = record {
          plan = c.in_ok-places.places;
          planned = record {
            variables = plan.variables;
            no_other = plan.no_other;
            used_variables = plan.used_variables;
            below = plan.below;
            apart = plan.apart;
            not_temporary = plan.not_temporary;
            ports = plan.ports;
            timers = plan.timers;
            used_ports = plan.used_ports;
            used_timers = plan.used_timers;
            ends = plan.ends;
            channels = plan.channels;
            first_stack = plan.first_stack;
          };
          lines = c.emit_roots.new.e;
          instrs = c.finish.ensures.instrs;
          places = c.finish.ensures.places;
          roots = c.in_ok-roots.ensures.code;
          alone = c.in_ok-roots.ensures.alone;
          few = c.in_ok-roots.ensures.few;
        };
      };
    }
