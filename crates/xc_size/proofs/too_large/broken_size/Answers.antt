use Rattle.std.proofs.Common.{◌≡◌, map, Bor, ap, ◌∙◌}
use Rattle.xc_tree.specs.declared.tree.FuncItem.{FuncItem}
use Rattle.xc_tree.specs.Trees.{program_of}
use Rattle.xc_kernel.specs.Programs.{functions}
use Rattle.xc_size.specs.Functions.{function_of}
use Rattle.xc_size.specs.Known.{listed}
use Rattle.xc_size.proofs.too_large.broken_size.Goals as goal

pub returns-clause-broken : goal.returns-clause-broken
returns-clause-broken c =
    let same : listed c.in_ok-sizes.sizes ≡ functions (program_of c.args.tree.now) = ap (map (λ (f : Bor FuncItem). function_of f.now)) c.in_ok-sizes.ensures.all ∙ c.in_ok-functions_of.ensures in
    c.broken_among-broken.ensures.broken (program_of c.args.tree.now) same

pub returns-clause-small : goal.returns-clause-small
returns-clause-small c =
    let same : listed c.in_ok-sizes.sizes ≡ functions (program_of c.args.tree.now) = ap (map (λ (f : Bor FuncItem). function_of f.now)) c.in_ok-sizes.ensures.all ∙ c.in_ok-functions_of.ensures in
    c.broken_among-broken.ensures.small (program_of c.args.tree.now) same
