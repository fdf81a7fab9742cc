-- Typed programs that are neither too large nor too deep are copied, and their kernels are handed on.
use Rattle.std.proofs.Common.{◌≤◌, ◌<◌, ◌+◌, ◌^◌, ℕ, Bool, List, [], ◌∷◌, ◌++◌, length, inl, inr, arith}
use Rattle.std.proofs.lemmas.Bool.{cases_lt}
use Rattle.std.proofs.lemmas.List.Elements.{All-cons}
use Rattle.std.specs.List.{All}
use Rattle.xc_tree.specs.Depth as depth
use Rattle.xc_tree.specs.Derives.{deepest}
use Rattle.xc_tree.specs.Names.Marks.{each, of_body, of_item, of_items, of_param, of_program}
use Rattle.xc_tree.specs.declared.names.Mark.TheVariants.{Closes}
use Rattle.xc_tree.specs.declared.tree.Param.{Param}
use Rattle.xc_tree.specs.Plain as tree
use Rattle.xc_tree.specs.Types.Named.{NamedProgram}
use Rattle.xc_kernel.specs.Plain as kernel
use Rattle.xc_kernel.specs.Counts.{statements_of}
use Rattle.xc_kernel.specs.Programs.{functions, ports}
use Rattle.xc_kernel.specs.Copies.{Copies}
use Rattle.xc_kernel.specs.Size.{IsTooLarge, most_statements}
use Rattle.xc_kernel.specs.Sound.{IsOfProgram, IsTyped}
use Rattle.xc_inline.specs.Functions.{HasFewParameters}
use Rattle.xc_names.proofs.Bounds.{few_items, few_names}
use Rattle.xc_names.proofs.Declared.{count, count_append}

pub handed_on : {program : List tree.Item} {named : NamedProgram} {types : List Bool} {k : kernel.Kernel} →
    IsTyped program named types → depth.of_program program ≤ deepest → (IsTooLarge program → ⊥) → Copies program k → IsOfProgram k
handed_on {program} {named} {types} typed shallow small copies = record {
  program = program;
  sound = record { named = named; types = types; typed = typed; small = small };
  shallow = shallow;
  copies = copies;
}

-- what isn't too large has few statements
pub few_statements : (program : List tree.Item) → (IsTooLarge program → ⊥) → statements_of program ≤ most_statements
few_statements program small = elim (cases_lt most_statements (statements_of program)) [
  | inl h ↦ absurd (small (inl h))
  | inr h ↦ h
]

ports_among : (items : List tree.Item) → length (ports items) ≤ length items
ports_among [] = omega arith
ports_among (tree.function head body ∷ items) = let h = ports_among items in omega (arith, h)
ports_among (tree.port p ∷ items) = let h = ports_among items in omega (arith, h)

-- what was read has fewer than 2^32 ports
pub few_ports : {program : List tree.Item} {named : NamedProgram} {types : List Bool} → IsTyped program named types → length (ports program) < 2 ^ 32
few_ports {program} typed =
    let read = typed.text.read in
    let all = few_names program (record { toks = read.toks; derived = read.derived; few = read.few }) in
    let among = ports_among program in
    let items = few_items program in
    omega (arith, all, among, items)

-- a name for each parameter
params_count : (ps : List Param) → length ps ≤ count (each of_param ps)
params_count [] = omega arith
params_count (p ∷ ps) = let h = params_count ps in omega (arith, h)

-- the parameters of each function are among the names of the items
few_each : (k : ℕ) (items : List tree.Item) → count (of_items k items) < 2 ^ 32 → All HasFewParameters (functions items)
few_each k [] h = λ i d l. absurd (omega (arith, l))
few_each k (tree.port p ∷ items) h =
    let e = count_append (of_item k (tree.port p)) (of_items (k + 1) items) in
    few_each (k + 1) items (omega (arith, e, h))
few_each k (tree.function head body ∷ items) h =
    let e = count_append (of_item k (tree.function head body)) (of_items (k + 1) items) in
    let inside = count_append (each of_param head.params ++ of_body body) (Closes ∷ []) in
    let own = count_append (each of_param head.params) (of_body body) in
    let params = params_count head.params in
    All-cons HasFewParameters (record { head = head; body = body }) (functions items) (omega (arith, e, inside, own, params, h)) (few_each (k + 1) items (omega (arith, e, h)))

-- what was read has no function of 2^32 parameters
pub few_parameters : {program : List tree.Item} {named : NamedProgram} {types : List Bool} → IsTyped program named types → All HasFewParameters (functions program)
unfolding of_program
few_parameters {program} typed =
    let read = typed.text.read in
    few_each 0 program (few_names program (record { toks = read.toks; derived = read.derived; few = read.few }))
