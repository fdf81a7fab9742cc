use Rattle.std.proofs.Common.{◌≡◌, subst}
use Rattle.std.specs.Prelude.{IfOk}
use Rattle.xc_kernel.specs.Numbering.{Numbering}
use Rattle.xc_inline.specs.declared.roots.Rooted.{Rooted}
use Rattle.xc_inline.specs.Contexts.{functions_of, ports_from}
use Rattle.xc_inline.specs.Numbers.{numbering_of}
use Rattle.xc_inline.specs.Roots.{numbering_by, rooted_by, rooted_of}
use Rattle.xc_flat.proofs.Results.{known_first, known_second}
use Rattle.xc_flat.proofs.program.walked.Goals as goal

pub returns-clause-numbers : goal.returns-clause-numbers
returns-clause-numbers c =
    let functions = functions_of c.args.functions.now in
    let ports = ports_from 0 c.args.ports.now in
    known_first c.with_ok.result (λ p. p.0) numbering_of c.in_ok-numbers.numbers (numbering_by functions ports) c.with_ok.ensures.value c.in_ok-numbers.ensures

pub returns-clause-roots : goal.returns-clause-roots
returns-clause-roots c =
    let functions = functions_of c.args.functions.now in
    let ports = ports_from 0 c.args.ports.now in
    let known = subst (λ (n : Numbering). IfOk c.roots_by_numbers-rooted.result (λ (r : Rooted). rooted_of r (rooted_by functions ports n).made.scope ≡ rooted_by functions ports n)) c.in_ok-numbers.ensures c.roots_by_numbers-rooted.ensures in
    known_second c.with_ok.result (λ p. p.1) c.roots_by_numbers-rooted.result
    (λ (r : Rooted). rooted_of r (rooted_by functions ports (numbering_by functions ports)).made.scope ≡ rooted_by functions ports (numbering_by functions ports))
    c.with_ok.ensures.made known
