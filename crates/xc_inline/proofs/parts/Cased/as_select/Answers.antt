use Rattle.std.proofs.Common.{[], ◌∷◌, map, sym, ◌∙◌}
use Rattle.xc_kernel.proofs.Forms.{statement-Select, select-made}
use Rattle.xc_kernel.specs.Copy as copies
use Rattle.xc_kernel.specs.Kernels as kernel
use Rattle.xc_kernel.specs.Plain as plain
use Rattle.xc_inline.specs.Copied.{copy_of}
use Rattle.xc_inline.proofs.Laws.Growth.{joined_last}
use Rattle.xc_inline.proofs.Laws.Parts.{cases_all, default_all}
use Rattle.xc_inline.proofs.Laws.Results.{given_on}
use Rattle.xc_inline.proofs.parts.Cased.as_select.Goals as goal

pub returns : goal.returns
returns c = given_on c.with_statement.result c.with_statement.ensures (λ _ h. λ behind.
    let cs = c.args.self.cases in
    let made = sym (joined_last (copy_of c.args.self.made behind)) in
    let cases = sym (cases_all (map kernel.case_of cs)) in
    let otherwise = sym (default_all c.args.self.otherwise) in
    let select = statement-Select _ ∙ select-made cs c.args.self.otherwise c.args.pos ∙ λ i. plain.select (cases i) (otherwise i) c.args.pos in
    h behind ∙ λ i. copies.with_code (made i) (select i ∷ []))
