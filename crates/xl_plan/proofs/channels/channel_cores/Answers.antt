use Rattle.std.specs.List.{range_with_len}
use Rattle.std.proofs.Common.{◌≡◌, ◌∙◌, ◌++◌, ◌∷◌, [], List, Option, map, sym, ap, arith}
use Rattle.std.proofs.lemmas.List.FromFn.{map-range_with_len_more}
use Rattle.xc_kernel.specs.declared.kernel.Kernel.{Kernel}
use Rattle.xc_kernel.specs.declared.kernel.Root.{Root}
use Rattle.xc_kernel.specs.Kernels.{kernel_of, root_of}
use Rattle.xl_plan.specs.Layout.{side_cores}
use Rattle.xl_plan.specs.Users.{cores_among, uses_of_root}
use Rattle.xl_plan.specs.declared.channels.RootUses.{RootUses}
use Rattle.xl_plan.specs.declared.channels.SideCores.{SideCores}
use Rattle.xl_plan.proofs.Users.{cores_found}
use Rattle.xl_plan.proofs.channels.channel_cores.Goals as goal

pub loop-channel-preserved : goal.loop-channel-preserved
loop-channel-preserved c =
    let k = kernel_of c.args.checked.now in
    let channel = c.loop-channel.channel in
    let n = c.len-channels.result in
    let roots : c.as_slice.result.now ≡ c.args.checked.now.roots = c.as_slice.ensures ∙ ap (λ (q : Kernel). q.roots) c.kernel-kernel.ensures.kernel in
    let uses = c.as_slice-in-loop-channel.ensures ∙ c.in_ok-uses.ensures ∙ ap (λ (rs : List Root). map (uses_of_root n) (map root_of rs)) roots in
    let found : c.cores_of_sides.result ≡ side_cores channel k.roots =
    c.cores_of_sides.ensures ∙ ap (λ (us : List RootUses). cores_among channel us) uses ∙ cores_found n channel k.roots (omega (arith, c.loop-channel-test.true, c.loop-channel.auto.channel-end)) in
    c.in_ok-push.ensures.ok
    ∙ ap (λ (cores : List (Option SideCores)). cores ++ c.cores_of_sides.result ∷ []) c.loop-channel.invariant
    ∙ ap (λ (x : Option SideCores). map (λ d. side_cores d k.roots) (range_with_len 0 channel) ++ x ∷ []) found
    ∙ sym (map-range_with_len_more (λ d. side_cores d k.roots) 0 channel channel (omega arith))
