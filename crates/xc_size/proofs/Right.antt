-- Sizes of functions that are right, and what they make right.
use Rattle.std.proofs.Common.{◌≡◌, ℕ, zero, suc, ◌≤◌, List, [], ◌∷◌, length, Option, Some, None, refl, sym, ap, subst, ◌∙◌}
use Rattle.std.specs.Prelude.{slice_get}
use Rattle.xc_tree.specs.Plain as tree
use Rattle.xc_kernel.specs.Counts as counts
use Rattle.xc_kernel.specs.Depths as depths
use Rattle.xc_kernel.specs.Nodes as nodes
use Rattle.xc_kernel.specs.Programs.{Function, function_named, count_within}
use Rattle.xc_kernel.specs.Size.{most_statements, most_nodes, greatest_depth}
use Rattle.xc_size.specs.declared.size.Size.{Size}
use Rattle.xc_size.specs.declared.sizes.Sizes.{Sizes}
use Rattle.xc_size.proofs.CalledParts as callees
use Rattle.xc_size.specs.Functions.{function_at}
use Rattle.xc_size.specs.Known.{IsKnown, AreKnown, IsSizeOfCall, IsSizeOfFunction, IsSizeOfBody, AreOfFunctions, AreSizesFrom, AreSizesAt, listed}
use Rattle.xc_size.specs.Numbers.{number_of}
use Rattle.xc_size.specs.Sizes.{up_to, no_size, known_size, size_by, size_called, statements_called, nodes_called, depth_called}
use Rattle.xc_size.proofs.Same.{Each, same_sum}
use Rattle.xc_size.proofs.UpTo.{up_to_none, up_to_again}
use Rattle.xc_size.proofs.AgreeCounts as agree_counts
use Rattle.xc_size.proofs.AgreeNodes as agree_nodes
use Rattle.xc_size.proofs.AgreeDepths as agree_depths

-- at each call of the function with this number, the size that is known is what the call adds
pub record Right (sizes : Sizes) (deep : ℕ) (callee : Option ℕ) : Type 0 where
  pub is : (call : tree.Call) → number_of sizes.names call.called.text ≡ callee → IsSizeOfCall (listed sizes) deep call (size_called sizes call.called.text)

-- what no function has as its name adds nothing
nothing : (F : (tree.Call → ℕ) → Option Function → ℕ) → ((g : tree.Call → ℕ) → F g None ≡ 0) → (l : ℕ) (fs : List Function) (n : ℕ) (call : tree.Call) → function_named fs call.called.text ≡ None → 0 ≡ up_to l (count_within F fs n call)
nothing F none l fs zero call e = sym (up_to_none l)
nothing F none l fs (suc n) call e = sym (ap (up_to l) (ap (F (count_within F fs n)) e ∙ none (count_within F fs n)) ∙ up_to_none l)

none_is_right : (sizes : Sizes) (n : ℕ) → AreOfFunctions sizes → Right sizes n None
none_is_right sizes n of = record {
  is = λ call e.
      let named : function_named (listed sizes) call.called.text ≡ None = of.numbers.named call.called.text ∙ ap (function_at (listed sizes)) e in
      let size : size_called sizes call.called.text ≡ no_size = ap (size_by sizes.each) e in
      subst (IsSizeOfCall (listed sizes) n call) (sym size) (record {
        statements = nothing counts.of_function (λ g. refl) most_statements (listed sizes) n call named;
        nodes = nothing nodes.of_function (λ g. refl) most_nodes (listed sizes) n call named;
        depth = nothing depths.of_function (λ g. refl) greatest_depth (listed sizes) n call named;
      });
}

-- the size that is known by a number
of_number : (sizes : Sizes) (call : tree.Call) (number : ℕ) (size : Size) → number_of sizes.names call.called.text ≡ Some number → slice_get sizes.each number ≡ Some (Some size) → size_called sizes call.called.text ≡ size
of_number sizes call number size e f = ap (size_by sizes.each) e ∙ ap known_size f

pub known_is_right : (sizes : Sizes) (deep n : ℕ) (callee : Option ℕ) → AreOfFunctions sizes → AreSizesFrom sizes deep → deep ≤ n → IsKnown sizes.each callee → Right sizes n callee
known_is_right sizes deep n None of from h known = none_is_right sizes n of
known_is_right sizes deep n (Some number) of from h known = record {
  is = λ call e.
      let k = known.known number refl in
      subst (IsSizeOfCall (listed sizes) n call) (sym (of_number sizes call number k.0 e k.1)) (from.right call number k.0 e k.1 n h);
}

pub all_known : (sizes : Sizes) (deep n : ℕ) (list : List (Option ℕ)) → AreOfFunctions sizes → AreSizesFrom sizes deep → deep ≤ n → AreKnown sizes.each list → Each (Right sizes n) list
all_known sizes deep n [] of from h known = tt
all_known sizes deep n (o ∷ os) of from h known = (known_is_right sizes deep n o of from h known.0, all_known sizes deep n os of from h known.1)

at_is_right : (sizes : Sizes) (n : ℕ) (callee : Option ℕ) → AreOfFunctions sizes → AreSizesAt sizes n → Right sizes n callee
at_is_right sizes n None of are = none_is_right sizes n of
at_is_right sizes n (Some number) of are = record {
  is = λ call e.
      let k = are.right call number e in
      subst (IsSizeOfCall (listed sizes) n call) (sym (of_number sizes call number k.0 e k.1)) k.2;
}

pub all_at : (sizes : Sizes) (n : ℕ) (list : List (Option ℕ)) → AreOfFunctions sizes → AreSizesAt sizes n → Each (Right sizes n) list
all_at sizes n [] of are = tt
all_at sizes n (o ∷ os) of are = (at_is_right sizes n o of are, all_at sizes n os of are)

-- a part whose calls are right

each_of : {V : Type 0} (P Q : V → Type 0) (xs : List V) → ((x : V) → P x → Q x) → Each P xs → Each Q xs
each_of P Q [] f a = tt
each_of P Q (x ∷ xs) f a = (f x a.0, each_of P Q xs f a.1)

module _ (sizes : Sizes) (n : ℕ) (s : tree.Statement) (right : Each (Right sizes n) (callees.of_statement (number_of sizes.names) s)) where
  pub statements_right : up_to most_statements (counts.of_statement (statements_called sizes) s) ≡ up_to most_statements (counts.of_statement (count_within counts.of_function (listed sizes) n) s)
  statements_right = agree_counts.statement (number_of sizes.names) most_statements (statements_called sizes) (count_within counts.of_function (listed sizes) n) s
      (each_of (Right sizes n) (agree_counts.Agree (number_of sizes.names) most_statements (statements_called sizes) (count_within counts.of_function (listed sizes) n)) (callees.of_statement (number_of sizes.names) s)
      (λ o r c e. ap (up_to most_statements) (r.is c e).statements ∙ up_to_again most_statements (count_within counts.of_function (listed sizes) n c)) right)

  pub nodes_right : up_to most_nodes (nodes.of_statement (nodes_called sizes) s) ≡ up_to most_nodes (nodes.of_statement (count_within nodes.of_function (listed sizes) n) s)
  nodes_right = agree_nodes.statement (number_of sizes.names) most_nodes (nodes_called sizes) (count_within nodes.of_function (listed sizes) n) s
      (each_of (Right sizes n) (agree_nodes.Agree (number_of sizes.names) most_nodes (nodes_called sizes) (count_within nodes.of_function (listed sizes) n)) (callees.of_statement (number_of sizes.names) s)
      (λ o r c e. ap (up_to most_nodes) (r.is c e).nodes ∙ up_to_again most_nodes (count_within nodes.of_function (listed sizes) n c)) right)

  pub depth_right : up_to greatest_depth (depths.of_statement (depth_called sizes) s) ≡ up_to greatest_depth (depths.of_statement (count_within depths.of_function (listed sizes) n) s)
  depth_right = agree_depths.statement (number_of sizes.names) greatest_depth (depth_called sizes) (count_within depths.of_function (listed sizes) n) s
      (each_of (Right sizes n) (agree_depths.Agree (number_of sizes.names) greatest_depth (depth_called sizes) (count_within depths.of_function (listed sizes) n)) (callees.of_statement (number_of sizes.names) s)
      (λ o r c e. ap (up_to greatest_depth) (r.is c e).depth ∙ up_to_again greatest_depth (count_within depths.of_function (listed sizes) n c)) right)

-- a function whose calls are right where they are followed so deep is right where they are followed one step further
pub function_right : (sizes : Sizes) (n : ℕ) (f : Function) (call : tree.Call) (size : Size) → function_named (listed sizes) call.called.text ≡ Some f → Each (Right sizes n) (callees.of_statement (number_of sizes.names) f.body) → IsSizeOfFunction sizes f size → IsSizeOfCall (listed sizes) (suc n) call size
function_right sizes n f call size e right is = record {
  statements = is.statements ∙ same_sum _ _ _ _ _ (same_sum _ _ _ _ _ (statements_right sizes n f.body right) refl) refl ∙ sym (ap (λ o. up_to most_statements (counts.of_function (count_within counts.of_function (listed sizes) n) o)) e);
  nodes = is.nodes ∙ nodes_right sizes n f.body right ∙ sym (ap (λ o. up_to most_nodes (nodes.of_function (count_within nodes.of_function (listed sizes) n) o)) e);
  depth = is.depth ∙ depth_right sizes n f.body right ∙ sym (ap (λ o. up_to greatest_depth (depths.of_function (count_within depths.of_function (listed sizes) n) o)) e);
}

-- a statement is as large as it is measured where its calls are right
pub body_is : (sizes : Sizes) (n : ℕ) (s : tree.Statement) (size : Size) → n ≡ length (listed sizes) → Each (Right sizes n) (callees.of_statement (number_of sizes.names) s) → size.statements ≡ up_to most_statements (counts.of_statement (statements_called sizes) s) → size.nodes ≡ up_to most_nodes (nodes.of_statement (nodes_called sizes) s) → size.depth ≡ up_to greatest_depth (depths.of_statement (depth_called sizes) s) → IsSizeOfBody (listed sizes) s size
body_is sizes n s size e right a b c = record {
  statements = a ∙ statements_right sizes n s right ∙ ap (λ m. up_to most_statements (counts.of_statement (count_within counts.of_function (listed sizes) m) s)) e;
  nodes = b ∙ nodes_right sizes n s right ∙ ap (λ m. up_to most_nodes (nodes.of_statement (count_within nodes.of_function (listed sizes) m) s)) e;
  depth = c ∙ depth_right sizes n s right ∙ ap (λ m. up_to greatest_depth (depths.of_statement (count_within depths.of_function (listed sizes) m) s)) e;
}
