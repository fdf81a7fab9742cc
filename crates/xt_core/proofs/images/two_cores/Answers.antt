use Rattle.std.proofs.Common.{◌∙◌, ◌++◌, ◌∷◌, [], List, ap}
use Rattle.xt_core.proofs.TwoCores.{far_of, valid_of}
use Rattle.xt_core.proofs.images.two_cores.Goals as goal
use Rattle.xs_instr.specs.declared.image.CoreImage.{CoreImage}

pub returns : goal.returns
returns c =
    let first = c.in_ok-first.first in
    let second = c.in_ok-second.second in
    let one = c.in_ok-push.ensures.ok ∙ ap (λ (l : List CoreImage). l ++ first ∷ []) c.new-cores.ensures in
    let both = c.in_ok-push-2.ensures.ok ∙ ap (λ (l : List CoreImage). l ++ second ∷ []) one in
    record {
      valid = valid_of first second c.push-2.new.self c.in_ok-chans.chans c.in_ok-first.ensures.number c.in_ok-first.ensures.ends
          c.in_ok-second.ensures.number c.in_ok-second.ensures.ends c.in_ok-first.ensures.good c.in_ok-second.ensures.good both
          c.in_ok-chans.ensures;
      far = far_of first second c.push-2.new.self c.in_ok-chans.chans c.in_ok-first.ensures.number c.in_ok-first.ensures.ends
          c.in_ok-second.ensures.number c.in_ok-second.ensures.ends both c.in_ok-chans.ensures;
    }
