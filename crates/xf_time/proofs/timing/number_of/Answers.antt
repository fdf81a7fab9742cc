use Rattle.std.proofs.Common.{◌≡◌, sym, subst, ap, ◌∙◌}
use Rattle.xf_time.proofs.Numbers.{good_code}
use Rattle.xf_time.proofs.timing.number_of.Goals as goal
use Rattle.xf_time.specs.Routes.{IsGoodCode}
use Rattle.xf_time.specs.Bounds.{code_of}
use Rattle.xs_instr.specs.Machine.{parts_in}

pub longest-requires : goal.longest-requires
longest-requires c =
    let is : c.in-Some.code.now ≡ code_of c.args.image.now c.args.route.core =
    c.in-Some.ensures ∙ ap (λ cores. (parts_in cores c.args.route.core).code) c.as_slice.ensures in
    subst IsGoodCode (sym is) (good_code c.args.image.now c.args.route.core c.requires)
