use Rattle.std.proofs.Common.{ap, sym, ◌∙◌, [], length}
use Rattle.std.specs.Option.{option_map}
use Rattle.xc_kernel.specs.Context.{Context}
use Rattle.xc_kernel.specs.Roots as spec
use Rattle.xc_kernel.specs.Statements.{calls_copy}
use Rattle.xc_inline.specs.Contexts.{functions_of, ports_from}
use Rattle.xc_inline.specs.Functions.{function_of}
use Rattle.xc_inline.specs.Numbers.{numbering_of}
use Rattle.xc_inline.specs.Roots.{rooted_of}
use Rattle.xc_inline.proofs.Laws.Results.{given_on}
use Rattle.xc_inline.proofs.roots.roots_by_numbers.Goals as goal

pub returns : goal.returns
returns c = given_on c.roots.result c.roots.ensures (λ made h.
    let functions = functions_of c.args.functions.now in
    let here : Context = record { functions = functions; ports = ports_from 0 c.args.ports.now; numbering = numbering_of c.args.numbers.now; core = 0; path = []; result = []; returns = []; breaks = []; continues = [] } in
    let whole = ap (λ n. spec.roots_of (calls_copy n) (option_map (λ f. function_of f.now) c.main-main.result) here) c.len.ensures
    ∙ ap (λ main. spec.roots_of (calls_copy (length functions)) main here) c.main-main.ensures.function in
    sym (ap (λ w. rooted_of made w.made.scope) whole) ∙ h ∙ whole)
