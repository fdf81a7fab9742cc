use Rattle.std.proofs.Common.{◌≡◌, ◌<◌, ◌≤◌, ◌^◌, ℕ, List, [], length, arith, refl, ap, sym, subst, ◌∙◌}
use Rattle.std.specs.Borrow.{Bor}
use Rattle.std.proofs.lemmas.List.{length-map}
use Rattle.xc_tree.specs.Trees.{program_of}
use Rattle.xc_tree.specs.Plain as tree
use Rattle.xc_kernel.specs.Copies.{copy_of}
use Rattle.xc_kernel.specs.Counts.{of_body, of_function, statements_of}
use Rattle.xc_kernel.specs.Numbering.{no_numbering}
use Rattle.xc_kernel.specs.Programs as programs
use Rattle.xc_kernel.specs.Programs.{Function, function_named, name_of_main, count_of_call}
use Rattle.xc_kernel.specs.Scopes.{Scope}
use Rattle.xc_kernel.specs.Size.{most_statements}
use Rattle.xc_kernel.specs.Statements.{calls_copy}
use Rattle.xc_inline.specs.Contexts.{ports_from}
use Rattle.xc_inline.specs.Instances.{instance_count}
use Rattle.xc_flat.specs.Ports.{names_among, names_of_ports}
use Rattle.xc_inline.specs.Roots.{numbering_by, rooted_by}
use Rattle.xc_inline.proofs.Laws.Instances.{all_roots_few, calls_few}
use Rattle.xc_flat.proofs.Ports.{ports_named}
use Rattle.xc_flat.proofs.program.copy.Goals as goal

-- by functions and names of ports
few_by : (fs : List Function) (ports : Scope) → of_body (count_of_call of_function fs) (function_named fs name_of_main) ≤ most_statements → instance_count (rooted_by fs ports no_numbering).made < 2 ^ 32
few_by fs ports h =
    let most = all_roots_few fs (calls_copy (length fs)) (count_of_call of_function fs) (calls_few fs (length fs)) (function_named fs name_of_main)
    (record { functions = fs; ports = ports; numbering = no_numbering; core = 0; path = []; result = []; returns = []; breaks = []; continues = [] }) refl in
    omega (arith, h, most)

-- of a program that isn't too large
few_instances : (items : List tree.Item) (fs : List Function) (ports : Scope) → fs ≡ programs.functions items → statements_of items ≤ most_statements → instance_count (rooted_by fs ports no_numbering).made < 2 ^ 32
unfolding statements_of
few_instances items fs ports e h =
    few_by fs ports (subst (λ (gs : List Function). of_body (count_of_call of_function gs) (function_named gs name_of_main) ≤ most_statements) (sym e) h)

pub walked-walked-requires-clause-few : goal.walked-walked-requires-clause-few
walked-walked-requires-clause-few c =
    few_instances (program_of c.args.tree.now) _ _ (rw c.in_ok-functions.ensures.first at c.of_tree-functions.ensures) c.requires.small

-- as many names as ports
few_ports : (names slice : List (Bor (List ℕ))) (ps : List tree.Port) → names_among names ≡ names_of_ports ps → length slice ≡ length names → length ps < 2 ^ 32 → length slice < 2 ^ 32
few_ports names slice ps e same h =
    let l = ap length e in
    let m = length-map names (λ (name : Bor (List ℕ)). name.now) in
    let n = length-map ps (λ (p : tree.Port). p.name.text) in
    omega (arith, l, m, n, same, h)

pub walked-walked-requires-clause-ports : goal.walked-walked-requires-clause-ports
walked-walked-requires-clause-ports c =
    let names = rw c.in_ok-functions.ensures.second at c.port_names-names.ensures in
    let same = ap length c.as_slice.ensures.value in
    few_ports _ _ (programs.ports (program_of c.args.tree.now)) names same c.requires.ports

pub returns : goal.returns
unfolding copy_of
returns c =
    let items = program_of c.args.tree.now in
    let functions = rw c.in_ok-functions.ensures.first at c.of_tree-functions.ensures in
    let names = rw c.in_ok-functions.ensures.second at c.port_names-names.ensures in
    let known = ap (ports_from 0) c.as_slice.ensures.value ∙ ports_named 0 _ (programs.ports items) names in
    let ports = rw c.in_ok-numbers.ensures.second at c.port_uses-ports.ensures in
    let numbers = (rw c.in_ok-numbers.ensures.first at c.walked-walked.ensures.numbers) ∙ λ i. numbering_by (functions i) (known i) in
    let roots = (rw c.in_ok-numbers.ensures.first at c.walked-walked.ensures.roots) ∙ λ i. rooted_by (functions i) (known i) (numbering_by (functions i) (known i)) in
    let main = c.main_pos-main.ensures ∙ ap programs.pos_of_function (c.main.ensures.function ∙ ap (λ fs. programs.function_named fs programs.name_of_main) functions) in
    record {
      is_copy = c.kernel_by.ensures ∙ λ i. record {
        roots = (roots i).roots;
        variables = (numbers i).variables;
        channels = (numbers i).channels;
        timers = (numbers i).timers;
        ports = ports i;
        instances = (roots i).made.instances;
        main = main i;
      };
    }
