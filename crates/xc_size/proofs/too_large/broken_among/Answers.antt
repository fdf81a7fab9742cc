use Rattle.std.proofs.Common.{◌≡◌, List, Bor, Some, ap, sym, subst, ◌∙◌}
use Rattle.std.specs.Prelude.{option_map}
use Rattle.xc_tree.specs.declared.tree.FuncItem.{FuncItem}
use Rattle.xc_tree.specs.Trees.{statement_of}
use Rattle.xc_kernel.specs.Programs.{Function, main_of}
use Rattle.xc_size.specs.Functions.{function_of}
use Rattle.xc_size.specs.Known.{IsSizeOfBody}
use Rattle.xc_size.proofs.TooLarge.{main_is, none_is_small, broken_is, small_is}
use Rattle.xc_size.proofs.too_large.broken_among.Goals as goal

pub returns-in_default-clause-small : goal.returns-in_default-clause-small
returns-in_default-clause-small c = λ program same.
    none_is_small program (main_is c.args.sizes.now program c.requires.functions same ∙ ap (option_map (λ (f : Bor FuncItem). function_of f.now)) (sym c.main_function.ensures ∙ c.in_default.is))

pub returns-clause-broken : goal.returns-clause-broken
returns-clause-broken c = λ program same.
    let main : main_of program ≡ Some (function_of c.in-Some.main.now) = main_is c.args.sizes.now program c.requires.functions same ∙ ap (option_map (λ (f : Bor FuncItem). function_of f.now)) (sym c.main_function.ensures ∙ c.in-Some.is) in
    broken_is program (function_of c.in-Some.main.now) c.in_ok-size.size main
    (subst (λ (fs : List Function). IsSizeOfBody fs (statement_of c.in-Some.main.now.body) c.in_ok-size.size) same c.in_ok-size.ensures)
    c.broken_by.result c.broken_by.ensures.broken

pub returns-clause-small : goal.returns-clause-small
returns-clause-small c = λ program same.
    let main : main_of program ≡ Some (function_of c.in-Some.main.now) = main_is c.args.sizes.now program c.requires.functions same ∙ ap (option_map (λ (f : Bor FuncItem). function_of f.now)) (sym c.main_function.ensures ∙ c.in-Some.is) in
    small_is program (function_of c.in-Some.main.now) c.in_ok-size.size main
    (subst (λ (fs : List Function). IsSizeOfBody fs (statement_of c.in-Some.main.now.body) c.in_ok-size.size) same c.in_ok-size.ensures)
    c.broken_by.result c.broken_by.ensures.small
