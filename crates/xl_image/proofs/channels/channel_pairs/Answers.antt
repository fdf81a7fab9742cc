use Rattle.std.proofs.Common.{◌≡◌, ◌+◌, ◌++◌, ◌∷◌, [], ◌∙◌, suc, List, length, sym, ap, arith}
use Rattle.xs_instr.specs.declared.image.Pair.{Pair}
use Rattle.xc_kernel.specs.Kernels.{kernel_of}
use Rattle.xl_image.specs.Images.{pairs_below}
use Rattle.xl_image.proofs.GoodPairs.{few_before}
use Rattle.xl_image.proofs.Users.{channel_count, cores_at, first_rooted, no_pair_more, one_pair_more, pair_is, second_rooted}
use Rattle.xl_image.proofs.channels.channel_pairs.Goals as goal
use Rattle.xl_image.proofs.channels.channel_pairs.Goals.{in-Some+in_ok-push, in_default}

pub pair-requires-clause-first : goal.pair-requires-clause-first
pair-requires-clause-first c =
    let k = kernel_of c.args.checked.now in
    let channel = c.loop-channel.channel in
    let cores = c.in-Some.cores in
    let channels = c.as_slice-channels.result.now in
    let is = c.as_slice-channels.ensures ∙ c.in_ok-channels.ensures in
    let sides = sym (cores_at k channels is channel c.loop-channel-test.true) ∙ c.in-Some.is in
    let few = few_before k c.requires.accepted channels is cores.first channel (first_rooted k channel cores sides) c.loop-channel-test.true in
    omega (arith, few)

pub pair-requires-clause-second : goal.pair-requires-clause-second
pair-requires-clause-second c =
    let k = kernel_of c.args.checked.now in
    let channel = c.loop-channel.channel in
    let cores = c.in-Some.cores in
    let channels = c.as_slice-channels.result.now in
    let is = c.as_slice-channels.ensures ∙ c.in_ok-channels.ensures in
    let sides = sym (cores_at k channels is channel c.loop-channel-test.true) ∙ c.in-Some.is in
    let few = few_before k c.requires.accepted channels is cores.second channel (second_rooted k channel cores sides) c.loop-channel-test.true in
    omega (arith, few)

pub loop-channel-preserved : goal.loop-channel-preserved
loop-channel-preserved c =
    let k = kernel_of c.args.checked.now in
    let channel = c.loop-channel.channel in
    let channels = c.as_slice-channels.result.now in
    let is = c.as_slice-channels.ensures ∙ c.in_ok-channels.ensures in
    let at = cores_at k channels is channel c.loop-channel-test.true in
    let next : suc channel ≡ channel + 1 = omega arith in
    elim c.match-cores.branch [
      | in-Some+in_ok-push w ↦
          w.pairs-is
          ∙ w.in_ok-push.ensures.ok
          ∙ ap (λ (ps : List Pair). ps ++ w.pair.result ∷ []) c.loop-channel.invariant
          ∙ ap (λ (p : Pair). pairs_below k channel ++ p ∷ []) (w.pair.ensures ∙ pair_is k channels is w.in-Some.cores channel c.loop-channel-test.true)
          ∙ sym (one_pair_more k channel w.in-Some.cores (sym at ∙ w.in-Some.is))
          ∙ ap (pairs_below k) next
      | in_default w ↦
          w.pairs-is ∙ c.loop-channel.invariant ∙ sym (no_pair_more k channel (sym at ∙ w.in_default.is)) ∙ ap (pairs_below k) next
    ]

pub returns : goal.returns
returns c =
    let k = kernel_of c.args.checked.now in
    let channels = c.as_slice-channels.result.now in
    let count = channel_count k channels (c.as_slice-channels.ensures ∙ c.in_ok-channels.ensures) in
    c.loop-channel.invariant
    ∙ ap (pairs_below k) (let z : c.loop-channel.channel ≡ length k.channels = omega (arith, count, c.loop-channel-test.false, c.loop-channel.auto.channel-end) in z)
