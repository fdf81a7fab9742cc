-- Texts whose kernels were worked out by hand: calls, their parameters and their results.
use Rattle.std.specs.Prelude.{◌≡◌, ℕ, true, false, List, [], ◌∷◌, ◌++◌, ◌+◌, Some, None, refl, codes}
use Rattle.xw_words.specs.Tables.{place_from}
use Rattle.xw_words.specs.Ports.{identifiers}
use Rattle.xc_tree.specs.declared.tree.TreeDir.TheVariants.{Out}
use Rattle.xc_tree.specs.declared.tree.ParamKind.TheVariants.{Value, Ref, Array, End, Port as PortParam}
use Rattle.xc_tree.specs.Plain as tree
use Rattle.xc_kernel.specs.declared.statement.KRes.TheVariants.{Port, Chan}
use Rattle.xc_kernel.specs.declared.kernel.Var.{Var}
use Rattle.xc_kernel.specs.Plain as kernel
use Rattle.xc_kernel.specs.Copies.{copy_of}
use Rattle.xc_kernel.proofs.Written.{at, id, number, name, index, binary, result, word_in, set_word, on_two, block, branch, par, put, take, root, variable, array_of, channel, instance}

-- out port p = XS1_PORT_8A;
-- int all(int v, int &r, int &e, int a[], chanend c, out port q) {
--   e = a[v]; c <: r; q <: e; return v;
-- }
-- int main(void) { chan c; int x; int b[3]; par { x = all(7, x, b[x + 1], b, c, p); c :> int y; } return x; }
abbrev pub parameters : List tree.Item
parameters =
    (tree.port (record { place = None; dir = Out; name = id (codes "p") 1 10; ident = id (codes "XS1_PORT_8A") 1 14 }))
    ∷ (tree.function (record { result = Some false; name = id (codes "all") 2 5; params = ((record { kind = (Value false); name = id (codes "v") 2 13 }) ∷ (record { kind = (Ref false); name = id (codes "r") 2 21 }) ∷ (record { kind = (Ref false); name = id (codes "e") 2 29 }) ∷ (record { kind = (Array false None); name = id (codes "a") 2 36 }) ∷ (record { kind = (End false); name = id (codes "c") 2 49 }) ∷ (record { kind = (PortParam Out); name = id (codes "q") 2 61 }) ∷ []); own = 26 })
    (tree.statement (tree.block (tree.statements (
    (tree.statement (tree.assign (name (codes "e") 3 3) 22 (at 3 5) (tree.value (index (codes "a") (name (codes "v") 3 9) 3 7))) (at 3 3) (at 3 11) 7)
    ∷ (tree.statement (tree.output (record { name = id (codes "c") 3 13; time = None; value = name (codes "r") 3 18; stamp = None })) (at 3 13) (at 3 19) 4)
    ∷ (tree.statement (tree.output (record { name = id (codes "q") 3 21; time = None; value = name (codes "e") 3 26; stamp = None })) (at 3 21) (at 3 27) 4)
    ∷ (tree.statement (tree.return_with (Some (tree.value (name (codes "v") 3 36)))) (at 3 29) (at 3 37) 3)
    ∷ []))) (at 2 64) (at 4 1) 2))
    ∷ (tree.function (record { result = Some false; name = id (codes "main") 5 5; params = []; own = 5 })
    (tree.statement (tree.block (tree.statements (
    (tree.statement (tree.declare ((record { kind = (tree.channel false); name = id (codes "c") 5 23 }) ∷ [])) (at 5 18) (at 5 24) 3)
    ∷ (tree.statement (tree.declare ((record { kind = (tree.word false None); name = id (codes "x") 5 30 }) ∷ [])) (at 5 26) (at 5 31) 3)
    ∷ (tree.statement (tree.declare ((record { kind = (tree.array false 3 (at 5 39)); name = id (codes "b") 5 37 }) ∷ [])) (at 5 33) (at 5 41) 6)
    ∷ (tree.statement (tree.par (tree.branches (
    (tree.branch None (tree.statement (tree.assign (name (codes "x") 5 49) 22 (at 5 51) (result (id (codes "all") 5 53) ((record { value = number 7 false 5 57; first = at 5 57 }) ∷ (record { value = name (codes "x") 5 60; first = at 5 60 }) ∷ (record { value = (index (codes "b") (binary 15 (name (codes "x") 5 65) (number 1 false 5 69) 5 67) 5 63); first = at 5 63 }) ∷ (record { value = name (codes "b") 5 73; first = at 5 73 }) ∷ (record { value = name (codes "c") 5 76; first = at 5 76 }) ∷ (record { value = name (codes "p") 5 79; first = at 5 79 }) ∷ []))) (at 5 49) (at 5 81) 22))
    ∷ (tree.branch None (tree.statement (tree.input (record { name = id (codes "c") 5 83; time = None; condition = None; target = (tree.fresh false (id (codes "y") 5 92)); stamp = None })) (at 5 83) (at 5 93) 5))
    ∷ []))) (at 5 43) (at 5 95) 3)
    ∷ (tree.statement (tree.return_with (Some (tree.value (name (codes "x") 5 104)))) (at 5 97) (at 5 105) 3)
    ∷ []))) (at 5 16) (at 5 107) 2))
    ∷ []

-- the path of the call
abbrev here : List ℕ
here = 0 ∷ 0 ∷ 0 ∷ 0 ∷ 5 ∷ 53 ∷ []

-- the body of `all`: r is x, and e the tested element
abbrev body_of_all : List kernel.Statement
body_of_all =
    kernel.set (kernel.element 2 (word_in 5) (at 3 3)) (kernel.read (kernel.element 2 (word_in 4) (at 3 7)))
    ∷ put (Chan 0) (word_in 1) 3 13
    ∷ put (Port 0) (kernel.read (kernel.element 2 (word_in 5) (at 3 26))) 3 21
    ∷ set_word 3 (word_in 4)
    ∷ kernel.exit 1
    ∷ []

-- the call: its result, its value, the test of the element's index, the body; then what it is assigned to
abbrev call_of_all : List kernel.Statement
call_of_all =
    kernel.set_zero 3
    ∷ set_word 4 (kernel.number 7)
    ∷ set_word 5 (on_two 4 true (on_two 15 false (word_in 1) (kernel.number 1) 5 67) (kernel.number 3) 5 63)
    ∷ block 1 body_of_all
    ∷ set_word 1 (word_in 3)
    ∷ []

abbrev parameters_body : List kernel.Statement
parameters_body =
    kernel.set_zero 1
    ∷ kernel.set_zero 2
    ∷ par (branch call_of_all 5 49 ∷ branch (take (Chan 0) (Some (kernel.word 6)) 5 83 ∷ []) 5 83 ∷ [])
    ∷ set_word 0 (word_in 1)
    ∷ kernel.exit 0
    ∷ []

abbrev parameters_kernel : kernel.Kernel
parameters_kernel = record {
  roots = root 0 (at 5 5) (kernel.set_zero 0 ∷ block 0 parameters_body ∷ []) 5 5 ∷ [];
  variables =
      variable false 0 (5 ∷ 5 ∷ []) 5 5
      ∷ variable true 0 (5 ∷ 30 ∷ []) 5 30
      ∷ array_of 3 (5 ∷ 37 ∷ []) 5 37
      ∷ variable false 0 (here ++ 2 ∷ 5 ∷ []) 2 5
      ∷ variable false 0 (here ++ 2 ∷ 13 ∷ []) 2 13
      ∷ variable false 0 (here ++ 2 ∷ 29 ∷ []) 2 29
      ∷ variable true 0 (0 ∷ 1 ∷ 0 ∷ 0 ∷ 5 ∷ 92 ∷ []) 5 92
      ∷ [];
  channels = channel (5 ∷ 23 ∷ []) 5 23 ∷ [];
  timers = [];
  ports = record { id = 22; dir = Out; core = 0; place = at 1 10; pos = at 1 10 } ∷ [];
  instances = instance 0 ∷ instance 6 ∷ [];
  main = at 5 5;
}

parameters_copied : copy_of parameters ≡ parameters_kernel
unfolding copy_of identifiers place_from
parameters_copied = refl

-- int half(int n) { return n / 2; }
-- int twice(int n) { half(n); return half(n); }
-- int main(void) { int x = twice(6); half(x); return twice(x); }
abbrev pub results : List tree.Item
results =
    (tree.function (record { result = Some false; name = id (codes "half") 1 5; params = ((record { kind = (Value false); name = id (codes "n") 1 14 }) ∷ []); own = 6 })
    (tree.statement (tree.block (tree.statements (
    (tree.statement (tree.return_with (Some (tree.value (binary 18 (name (codes "n") 1 26) (number 2 false 1 30) 1 28)))) (at 1 19) (at 1 31) 5)
    ∷ []))) (at 1 17) (at 1 33) 2))
    ∷ (tree.function (record { result = Some false; name = id (codes "twice") 2 5; params = ((record { kind = (Value false); name = id (codes "n") 2 15 }) ∷ []); own = 6 })
    (tree.statement (tree.block (tree.statements (
    (tree.statement (tree.perform (result (id (codes "half") 2 20) ((record { value = name (codes "n") 2 25; first = at 2 25 }) ∷ []))) (at 2 20) (at 2 27) 5)
    ∷ (tree.statement (tree.return_with (Some (result (id (codes "half") 2 36) ((record { value = name (codes "n") 2 41; first = at 2 41 }) ∷ [])))) (at 2 29) (at 2 43) 6)
    ∷ []))) (at 2 18) (at 2 45) 2))
    ∷ (tree.function (record { result = Some false; name = id (codes "main") 3 5; params = []; own = 5 })
    (tree.statement (tree.block (tree.statements (
    (tree.statement (tree.declare ((record { kind = (tree.word false (Some (result (id (codes "twice") 3 26) ((record { value = number 6 false 3 32; first = at 3 32 }) ∷ [])))); name = id (codes "x") 3 22 }) ∷ [])) (at 3 18) (at 3 34) 8)
    ∷ (tree.statement (tree.perform (result (id (codes "half") 3 36) ((record { value = name (codes "x") 3 41; first = at 3 41 }) ∷ []))) (at 3 36) (at 3 43) 5)
    ∷ (tree.statement (tree.return_with (Some (result (id (codes "twice") 3 52) ((record { value = name (codes "x") 3 58; first = at 3 58 }) ∷ [])))) (at 3 45) (at 3 60) 6)
    ∷ []))) (at 3 16) (at 3 62) 2))
    ∷ []

-- the copy of `half`: of its result, its parameter, its block, and the argument's variable
abbrev half_of : (result parameter number argument : ℕ) → List kernel.Statement
half_of r n b a =
    kernel.set_zero r
    ∷ set_word n (word_in a)
    ∷ block b (set_word r (on_two 18 false (word_in n) (kernel.number 2) 1 28) ∷ kernel.exit b ∷ [])
    ∷ []

-- the copy of the body of `twice`, whose calls of `half` have the variables from n + 1 on and the blocks from b + 1 on
abbrev twice_of : (result parameter number : ℕ) → kernel.Statement
twice_of r n b =
    block b (half_of (n + 1) (n + 2) (b + 1) n ++ half_of (n + 3) (n + 4) (b + 2) n ++ set_word r (word_in (n + 3)) ∷ kernel.exit b ∷ [])

-- the variables of an instance of `half`, and of one of `twice`
abbrev half_in : List ℕ → List Var
half_in path = variable false 0 (path ++ 1 ∷ 5 ∷ []) 1 5 ∷ variable false 0 (path ++ 1 ∷ 14 ∷ []) 1 14 ∷ []

abbrev twice_in : List ℕ → List Var
twice_in path =
    (variable false 0 (path ++ 2 ∷ 5 ∷ []) 2 5 ∷ variable false 0 (path ++ 2 ∷ 15 ∷ []) 2 15 ∷ [])
    ++ half_in (path ++ 2 ∷ 20 ∷ []) ++ half_in (path ++ 2 ∷ 36 ∷ [])

abbrev results_body : List kernel.Statement
results_body =
    (kernel.set_zero 2 ∷ set_word 3 (kernel.number 6) ∷ twice_of 2 3 1 ∷ set_word 1 (word_in 2) ∷ [])
    ++ half_of 8 9 4 1
    ++ (kernel.set_zero 10 ∷ set_word 11 (word_in 1) ∷ twice_of 10 11 5 ∷ set_word 0 (word_in 10) ∷ kernel.exit 0 ∷ [])

abbrev results_kernel : kernel.Kernel
results_kernel = record {
  roots = root 0 (at 3 5) (kernel.set_zero 0 ∷ block 0 results_body ∷ []) 3 5 ∷ [];
  variables =
      (variable false 0 (3 ∷ 5 ∷ []) 3 5 ∷ variable true 0 (3 ∷ 22 ∷ []) 3 22 ∷ [])
      ++ twice_in (3 ∷ 26 ∷ []) ++ half_in (3 ∷ 36 ∷ []) ++ twice_in (3 ∷ 52 ∷ []);
  channels = [];
  timers = [];
  ports = [];
  instances = instance 0 ∷ instance 1 ∷ instance 1 ∷ instance 1 ∷ instance 1 ∷ instance 1 ∷ instance 1 ∷ instance 1 ∷ [];
  main = at 3 5;
}

results_copied : copy_of results ≡ results_kernel
unfolding copy_of
results_copied = refl
