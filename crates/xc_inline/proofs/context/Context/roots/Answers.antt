use Rattle.std.proofs.Common.{ap, sym, ◌∙◌}
use Rattle.std.specs.Option.{option_map}
use Rattle.xc_kernel.specs.Roots as spec
use Rattle.xc_kernel.specs.Statements.{calls_copy}
use Rattle.xc_inline.specs.Contexts.{context_of}
use Rattle.xc_inline.specs.Functions.{function_of}
use Rattle.xc_inline.specs.Roots.{rooted_of}
use Rattle.xc_inline.proofs.context.Context.roots.Goals as goal

pub returns-in-None : goal.returns-in-None
returns-in-None c =
    let here = context_of c.args.self.now in
    let whole = ap (λ main. spec.roots_of (calls_copy c.args.calls) (option_map (λ f. function_of f.now) main) here) (sym c.in-None.is) in
    sym (ap (λ w. rooted_of c.none.result w.made.scope) whole) ∙ c.none.ensures here.ports ∙ whole
