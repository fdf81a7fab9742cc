use Rattle.std.proofs.Common.{[], ◌∷◌, map, ap, sym, ◌∙◌}
use Rattle.xc_kernel.proofs.Forms.{statement-Par}
use Rattle.xc_kernel.specs.Copy as copies
use Rattle.xc_kernel.specs.Kernels as kernel
use Rattle.xc_kernel.specs.Plain as plain
use Rattle.xc_inline.specs.Copied.{copy_of}
use Rattle.xc_inline.proofs.Laws.Growth.{joined_last}
use Rattle.xc_inline.proofs.Laws.Parts.{branches_all}
use Rattle.xc_inline.proofs.Laws.Results.{given_on}
use Rattle.xc_inline.proofs.parts.Branched.as_par.Goals as goal

pub returns : goal.returns
returns c = given_on c.with_statement.result c.with_statement.ensures (λ _ h. λ behind.
    let bs = c.args.self.branches in
    let made = sym (joined_last (copy_of c.args.self.made behind)) in
    let par = statement-Par bs ∙ ap plain.par (sym (branches_all (map kernel.branch_of bs))) in
    h behind ∙ λ i. copies.with_code (made i) (par i ∷ []))
