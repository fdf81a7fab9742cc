use Rattle.std.proofs.Common.{ap, sym, ◌∙◌, map, append-nil}
use Rattle.xc_kernel.specs.Copy as copies
use Rattle.xc_kernel.specs.Kernels.{root_of}
use Rattle.xc_inline.specs.Copied.{copy_of}
use Rattle.xc_inline.proofs.Laws.Results.{given_on_ok}
use Rattle.xc_inline.proofs.roots.Rooted.add_copy.Goals as goal

pub returns : goal.returns
returns c = given_on_ok c.join.result c.join.ensures (λ h. λ before behind.
    let made = h before behind ∙ ap (copies.joined (copy_of c.args.self.now.made before)) (c.take_code-code.ensures.left behind) in
    let roots = sym (append-nil (map root_of c.args.self.now.roots)) in
    λ i. record { made = made i; roots = roots i })
