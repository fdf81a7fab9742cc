-- A program is too large exactly where its main function is.
use Rattle.std.proofs.Common.{◌≡◌, ℕ, ◌<◌, List, Bor, Option, Some, None, refl, sym, ap, subst, ◌∙◌, arith, inl, inr}
use Rattle.std.specs.Prelude.{option_map, IfSome, IfNone}
use Rattle.std.proofs.lemmas.Option.{slice_get-map}
use Rattle.xc_tree.specs.declared.tree.FuncItem.{FuncItem}
use Rattle.xw_words.specs.declared.pos.Broken.{Broken}
use Rattle.xc_tree.specs.Plain as tree
use Rattle.xc_kernel.specs.Counts.{statements_of, of_body as body_counts, of_function as counts_of}
use Rattle.xc_kernel.specs.Depths.{depth_of, of_function as depths_of}
use Rattle.xc_kernel.specs.Nodes.{nodes_of, of_function as nodes_in}
use Rattle.xc_kernel.specs.Programs.{Function, functions, function_named, main_of, name_of_main, count_of_call, pos_of_function}
use Rattle.xc_kernel.specs.Size.{IsTooLarge, Breaks509, most_statements, most_nodes, greatest_depth}
use Rattle.xc_size.specs.declared.size.Size.{Size}
use Rattle.xc_size.specs.declared.sizes.Sizes.{Sizes}
use Rattle.xc_size.specs.Functions.{function_of, function_at}
use Rattle.xc_size.specs.Numbers.{number_of}
use Rattle.xc_size.specs.Known.{IsSizeOfBody, AreOfFunctions, listed, item_at, main_in}
use Rattle.xc_size.specs.Limits.{IsAbove, rule_509}
use Rattle.xc_size.specs.Sizes.{up_to}

above : (l x y : ℕ) → y ≡ up_to l x → l < y → l < x
unfolding up_to
above l x y e h = omega arith

is_above : (l x y : ℕ) → y ≡ up_to l x → l < x → l < y
unfolding up_to
is_above l x y e h = omega arith

-- a program without main counts nothing
pub none_is_small : (program : List tree.Item) → main_of program ≡ None → IsTooLarge program → ⊥
unfolding statements_of nodes_of depth_of
none_is_small program e (inl h) = let x = ap (body_counts (count_of_call counts_of (functions program))) e in omega arith
none_is_small program e (inr (inl h)) = let x = ap (nodes_in (count_of_call nodes_in (functions program))) e in omega arith
none_is_small program e (inr (inr h)) = let x = ap (depths_of (count_of_call depths_of (functions program))) e in omega arith

module _ (program : List tree.Item) (f : Function) (size : Size) (main : main_of program ≡ Some f) (is : IsSizeOfBody (functions program) f.body size) where
  statements_are : size.statements ≡ up_to most_statements (statements_of program)
  unfolding statements_of
  statements_are = is.statements ∙ sym (ap (λ o. up_to most_statements (body_counts (count_of_call counts_of (functions program)) o)) main)

  nodes_are : size.nodes ≡ up_to most_nodes (nodes_of program)
  unfolding nodes_of
  nodes_are = is.nodes ∙ sym (ap (λ o. up_to most_nodes (nodes_in (count_of_call nodes_in (functions program)) o)) main)

  depth_is : size.depth ≡ up_to greatest_depth (depth_of program)
  unfolding depth_of
  depth_is = is.depth ∙ sym (ap (λ o. up_to greatest_depth (depths_of (count_of_call depths_of (functions program)) o)) main)

  too_large : IsAbove size → IsTooLarge program
  too_large (inl h) = inl (above most_statements (statements_of program) size.statements statements_are h)
  too_large (inr (inl h)) = inr (inl (above most_nodes (nodes_of program) size.nodes nodes_are h))
  too_large (inr (inr h)) = inr (inr (above greatest_depth (depth_of program) size.depth depth_is h))

  pub small : (IsAbove size → ⊥) → IsTooLarge program → ⊥
  small not_above (inl h) = not_above (inl (is_above most_statements (statements_of program) size.statements statements_are h))
  small not_above (inr (inl h)) = not_above (inr (inl (is_above most_nodes (nodes_of program) size.nodes nodes_are h)))
  small not_above (inr (inr h)) = not_above (inr (inr (is_above greatest_depth (depth_of program) size.depth depth_is h)))

  pub breaks : (b : Broken) → IsAbove size → b ≡ rule_509 f.head.name.pos → Breaks509 program b
  breaks b h e = subst (Breaks509 program) (sym e) (record { too_large = too_large h; rule = refl; place = sym (ap pos_of_function main) })

  pub broken_is : (o : Option Broken) → IfSome o (λ b. IsAbove size × (b ≡ rule_509 f.head.name.pos)) → IfSome o (λ b. Breaks509 program b)
  broken_is None h = tt
  broken_is (Some b) h = breaks b h.0 h.1

  pub small_is : (o : Option Broken) → IfNone o (IsAbove size → ⊥) → IfNone o (IsTooLarge program → ⊥)
  small_is None h = small h
  small_is (Some b) h = tt

-- main is found by its number
pub main_is : (sizes : Sizes) (program : List tree.Item) → AreOfFunctions sizes → listed sizes ≡ functions program → main_of program ≡ option_map (λ (f : Bor FuncItem). function_of f.now) (main_in sizes)
main_is sizes program of same = ap (λ fs. function_named fs name_of_main) (sym same) ∙ of.numbers.named name_of_main ∙ by (number_of sizes.names name_of_main)
  where
    by : (o : Option ℕ) → function_at (listed sizes) o ≡ option_map (λ (f : Bor FuncItem). function_of f.now) (item_at sizes.all o)
    by None = refl
    by (Some number) = slice_get-map (λ (f : Bor FuncItem). function_of f.now) sizes.all number
