use Rattle.std.proofs.Common.{◌≡◌, ◌∙◌, ◌+◌, List, map, sym, ap, subst, arith}
use Rattle.xs_instr.specs.declared.image.Image.{Image}
use Rattle.xc_kernel.specs.declared.kernel.Kernel.{Kernel}
use Rattle.xc_kernel.specs.declared.kernel.Root.{Root}
use Rattle.xc_kernel.specs.Kernels.{kernel_of, root_of}
use Rattle.xl_image.specs.Images.{roots_on}
use Rattle.xl_image.specs.Parts.{is_some_root}
use Rattle.xl_image.proofs.Gathering.{Gathered, gathers, skips}
use Rattle.xl_image.proofs.GoodParts.{valid_image}
use Rattle.xl_image.proofs.Imaged.{imaged}
use Rattle.xl_image.proofs.Rooted.{some_core}
use Rattle.xl_image.proofs.cores.image.Goals as goal
use Rattle.xl_image.proofs.cores.image.Goals.{then-has_root+in_ok-part+in_ok-push, else-has_root}

pub loop-core-preserved : goal.loop-core-preserved
loop-core-preserved c =
    let k = kernel_of c.args.checked.now in
    let core = c.loop-core.core in
    let rooted = c.has_root.ensures ∙ ap (λ (rs : List Root). is_some_root (roots_on core (map root_of rs))) (c.as_slice-roots.ensures ∙ ap (λ (q : Kernel). q.roots) c.kernel.ensures.kernel) in
    elim c.if-has_root.branch [
      | then-has_root+in_ok-part+in_ok-push w ↦
          subst (Gathered k (core + 1)) (sym w.cores-is)
          (gathers k core c.loop-core.cores w.push.new.self w.in_ok-part.part c.loop-core.invariant (sym rooted ∙ w.if-has_root.true) w.in_ok-part.ensures.part w.in_ok-push.ensures.ok)
      | else-has_root w ↦ subst (Gathered k (core + 1)) (sym w.cores-is) (skips k core c.loop-core.cores c.loop-core.invariant (sym rooted ∙ w.if-has_root.false))
    ]

pub returns-clause-pieces : goal.returns-clause-pieces
returns-clause-pieces c =
    let k = kernel_of c.args.checked.now in
    let last : c.loop-core.core ≡ 4 = omega (arith, c.loop-core-test.false, c.loop-core.auto.core-end) in
    let h = subst (λ n. Gathered k n c.loop-core.cores) last c.loop-core.invariant in
    let whole : Image = record { cores = c.loop-core.cores; chans = c.in_ok-chans.chans } in
    imaged k c.kernel.ensures.accepted whole h.numbers h.parts c.in_ok-chans.ensures

pub returns-clause-valid : goal.returns-clause-valid
returns-clause-valid c =
    let k = kernel_of c.args.checked.now in
    let last : c.loop-core.core ≡ 4 = omega (arith, c.loop-core-test.false, c.loop-core.auto.core-end) in
    let h = subst (λ n. Gathered k n c.loop-core.cores) last c.loop-core.invariant in
    let whole : Image = record { cores = c.loop-core.cores; chans = c.in_ok-chans.chans } in
    valid_image k c.kernel.ensures.accepted whole (some_core k c.kernel.ensures.accepted) h.numbers h.parts c.in_ok-chans.ensures
