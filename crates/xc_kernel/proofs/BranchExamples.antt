-- Texts whose kernels were worked out by hand: placed and replicated branches.
use Rattle.std.specs.Prelude.{◌≡◌, ℕ, true, false, List, [], ◌∷◌, ◌++◌, Some, None, refl, codes}
use Rattle.xw_words.specs.Tables.{place_from}
use Rattle.xw_words.specs.Ports.{identifiers}
use Rattle.xc_tree.specs.declared.tree.TreeDir.TheVariants.{Out}
use Rattle.xc_tree.specs.declared.tree.ParamKind.TheVariants.{Value, End}
use Rattle.xc_tree.specs.Plain as tree
use Rattle.xc_kernel.specs.declared.statement.KRes.TheVariants.{Port, Chan}
use Rattle.xc_kernel.specs.Plain as kernel
use Rattle.xc_kernel.specs.Copies.{copy_of}
use Rattle.xc_kernel.proofs.Written.{at, id, number, name, binary, result, word_in, set_word, on_two, block, branch, par, put, take, root, variable, channel, timer, instance}

-- on tile[1] : out port p = XS1_PORT_1A;
-- void feed(chanend c, int n) { timer t; c <: n; }
-- int main(void) { chan c; par { feed(c, 4); on tile[1] : c :> int x; on stdcore[4 - 1] : p <: x; } return 0; }
abbrev pub placed : List tree.Item
placed =
    (tree.port (record { place = (Some (record { on = at 1 1; first = at 1 9; value = number 1 false 1 9 })); dir = Out; name = id (codes "p") 1 23; ident = id (codes "XS1_PORT_1A") 1 27 }))
    ∷ (tree.function (record { result = None; name = id (codes "feed") 2 6; params = ((record { kind = (End false); name = id (codes "c") 2 19 }) ∷ (record { kind = (Value false); name = id (codes "n") 2 26 }) ∷ []); own = 9 })
    (tree.statement (tree.block (tree.statements (
    (tree.statement (tree.declare ((record { kind = tree.timer; name = id (codes "t") 2 37 }) ∷ [])) (at 2 31) (at 2 38) 3)
    ∷ (tree.statement (tree.output (record { name = id (codes "c") 2 40; time = None; value = name (codes "n") 2 45; stamp = None })) (at 2 40) (at 2 46) 4)
    ∷ []))) (at 2 29) (at 2 48) 2))
    ∷ (tree.function (record { result = Some false; name = id (codes "main") 3 5; params = []; own = 5 })
    (tree.statement (tree.block (tree.statements (
    (tree.statement (tree.declare ((record { kind = (tree.channel false); name = id (codes "c") 3 23 }) ∷ [])) (at 3 18) (at 3 24) 3)
    ∷ (tree.statement (tree.par (tree.branches (
    (tree.branch None (tree.statement (tree.perform (result (id (codes "feed") 3 32) ((record { value = name (codes "c") 3 37; first = at 3 37 }) ∷ (record { value = number 4 false 3 40; first = at 3 40 }) ∷ []))) (at 3 32) (at 3 42) 7))
    ∷ (tree.branch (Some (record { on = at 3 44; first = at 3 52; value = number 1 false 3 52 })) (tree.statement (tree.input (record { name = id (codes "c") 3 57; time = None; condition = None; target = (tree.fresh false (id (codes "x") 3 66)); stamp = None })) (at 3 57) (at 3 67) 5))
    ∷ (tree.branch (Some (record { on = at 3 69; first = at 3 80; value = (binary 16 (number 4 false 3 80) (number 1 false 3 84) 3 82) })) (tree.statement (tree.output (record { name = id (codes "p") 3 89; time = None; value = name (codes "x") 3 94; stamp = None })) (at 3 89) (at 3 95) 4))
    ∷ []))) (at 3 26) (at 3 97) 17)
    ∷ (tree.statement (tree.return_with (Some (tree.value (number 0 false 3 106)))) (at 3 99) (at 3 107) 3)
    ∷ []))) (at 3 16) (at 3 109) 2))
    ∷ []

-- the path of the call
abbrev here : List ℕ
here = 0 ∷ 0 ∷ 0 ∷ 0 ∷ 3 ∷ 32 ∷ []

abbrev placed_kernel : kernel.Kernel
placed_kernel = record {
  roots =
      root 0 (at 3 5) (set_word 0 (kernel.number 4) ∷ block 0 (put (Chan 0) (word_in 0) 2 40 ∷ []) ∷ []) 3 32
      ∷ root 1 (at 3 52) (take (Chan 0) (Some (kernel.word 1)) 3 57 ∷ []) 3 57
      ∷ root 3 (at 3 80) (put (Port 0) (word_in 1) 3 89 ∷ []) 3 89
      ∷ [];
  variables = variable false 0 (here ++ 2 ∷ 26 ∷ []) 2 26 ∷ variable true 1 (0 ∷ 1 ∷ 0 ∷ 0 ∷ 3 ∷ 66 ∷ []) 3 66 ∷ [];
  channels = channel (3 ∷ 23 ∷ []) 3 23 ∷ [];
  timers = timer (here ++ 2 ∷ 37 ∷ []) 2 37 ∷ [];
  ports = record { id = 0; dir = Out; core = 1; place = at 1 9; pos = at 1 23 } ∷ [];
  instances = instance 0 ∷ instance 2 ∷ [];
  main = at 3 5;
}

placed_copied : copy_of placed ≡ placed_kernel
unfolding copy_of identifiers place_from
placed_copied = refl

-- int main(void) { par (int i = 1; i < 3; i++) on tile[i] : { unsigned x = i * 2u; } }
abbrev pub numbered : List tree.Item
numbered =
    (tree.function (record { result = Some false; name = id (codes "main") 1 5; params = []; own = 5 })
    (tree.statement (tree.block (tree.statements (
    (tree.statement (tree.replicated (id (codes "i") 1 27) (id (codes "i") 1 34) (id (codes "i") 1 41) 1 3
    (tree.branch (Some (record { on = at 1 46; first = at 1 54; value = name (codes "i") 1 54 })) (tree.statement (tree.block (tree.statements (
    (tree.statement (tree.declare ((record { kind = (tree.word true (Some (tree.value (binary 17 (name (codes "i") 1 74) (number 2 true 1 78) 1 76)))); name = id (codes "x") 1 70 }) ∷ [])) (at 1 61) (at 1 80) 7)
    ∷ []))) (at 1 59) (at 1 82) 2))) (at 1 18) (at 1 82) 20)
    ∷ []))) (at 1 16) (at 1 84) 2))
    ∷ []

abbrev numbered_kernel : kernel.Kernel
numbered_kernel = record {
  roots =
      root 1 (at 1 54) (set_word 0 (on_two 17 true (kernel.number 1) (kernel.number 2) 1 76) ∷ []) 1 59
      ∷ root 2 (at 1 54) (set_word 1 (on_two 17 true (kernel.number 2) (kernel.number 2) 1 76) ∷ []) 1 59
      ∷ [];
  variables = variable true 1 (0 ∷ 0 ∷ 0 ∷ 0 ∷ 1 ∷ 70 ∷ []) 1 70 ∷ variable true 2 (0 ∷ 1 ∷ 0 ∷ 0 ∷ 1 ∷ 70 ∷ []) 1 70 ∷ [];
  channels = [];
  timers = [];
  ports = [];
  instances = instance 0 ∷ [];
  main = at 1 5;
}

numbered_copied : copy_of numbered ≡ numbered_kernel
unfolding copy_of
numbered_copied = refl

-- void f(int n) { int x; }
-- void main(void) { par (int i = 5; i < 7; i++) f(i + 1); par { } }
abbrev replicated : List tree.Item
replicated =
    (tree.function (record { result = None; name = id (codes "f") 1 6; params = ((record { kind = (Value false); name = id (codes "n") 1 12 }) ∷ []); own = 6 })
    (tree.statement (tree.block (tree.statements (
    (tree.statement (tree.declare ((record { kind = (tree.word false None); name = id (codes "x") 1 21 }) ∷ [])) (at 1 17) (at 1 22) 3)
    ∷ []))) (at 1 15) (at 1 24) 2))
    ∷ (tree.function (record { result = None; name = id (codes "main") 2 6; params = []; own = 5 })
    (tree.statement (tree.block (tree.statements (
    (tree.statement (tree.replicated (id (codes "i") 2 28) (id (codes "i") 2 35) (id (codes "i") 2 42) 5 7
    (tree.branch None (tree.statement (tree.perform (result (id (codes "f") 2 47) ((record { value = (binary 15 (name (codes "i") 2 49) (number 1 false 2 53) 2 51); first = at 2 49 }) ∷ []))) (at 2 47) (at 2 55) 7))) (at 2 19) (at 2 55) 14)
    ∷ (tree.statement (tree.par (tree.branches [])) (at 2 57) (at 2 63) 3)
    ∷ []))) (at 2 17) (at 2 65) 2))
    ∷ []

-- the call in a branch: of its parameter, its block, its variable, and the branch's number
abbrev branch_of : (parameter number variable value : ℕ) → kernel.Branch
branch_of n b x v =
    branch (set_word n (on_two 15 false (kernel.number v) (kernel.number 1) 2 51) ∷ block b (kernel.set_zero x ∷ []) ∷ []) 2 47

abbrev replicated_kernel : kernel.Kernel
replicated_kernel = record {
  roots = root 0 (at 2 6) (block 0 (par (branch_of 0 1 1 5 ∷ branch_of 2 2 3 6 ∷ []) ∷ par [] ∷ []) ∷ []) 2 6 ∷ [];
  variables =
      variable false 0 (0 ∷ 0 ∷ 0 ∷ 0 ∷ 2 ∷ 47 ∷ 1 ∷ 12 ∷ []) 1 12
      ∷ variable true 0 (0 ∷ 0 ∷ 0 ∷ 0 ∷ 2 ∷ 47 ∷ 1 ∷ 21 ∷ []) 1 21
      ∷ variable false 0 (0 ∷ 1 ∷ 0 ∷ 0 ∷ 2 ∷ 47 ∷ 1 ∷ 12 ∷ []) 1 12
      ∷ variable true 0 (0 ∷ 1 ∷ 0 ∷ 0 ∷ 2 ∷ 47 ∷ 1 ∷ 21 ∷ []) 1 21
      ∷ [];
  channels = [];
  timers = [];
  ports = [];
  instances = instance 0 ∷ instance 1 ∷ instance 1 ∷ [];
  main = at 2 6;
}

replicated_copied : copy_of replicated ≡ replicated_kernel
unfolding copy_of
replicated_copied = refl

-- void main(void) { par (int i = 3; i < 3; i++) on tile[1] : { int x; } }
abbrev pub no_branch : List tree.Item
no_branch =
    (tree.function (record { result = None; name = id (codes "main") 1 6; params = []; own = 5 })
    (tree.statement (tree.block (tree.statements (
    (tree.statement (tree.replicated (id (codes "i") 1 28) (id (codes "i") 1 35) (id (codes "i") 1 42) 3 3
    (tree.branch (Some (record { on = at 1 47; first = at 1 55; value = number 1 false 1 55 })) (tree.statement (tree.block (tree.statements (
    (tree.statement (tree.declare ((record { kind = (tree.word false None); name = id (codes "x") 1 66 }) ∷ [])) (at 1 62) (at 1 67) 3)
    ∷ []))) (at 1 60) (at 1 69) 2))) (at 1 19) (at 1 69) 20)
    ∷ []))) (at 1 17) (at 1 71) 2))
    ∷ []

-- no branch is placed, so main is the root
abbrev no_branch_kernel : kernel.Kernel
no_branch_kernel = record {
  roots = root 0 (at 1 6) (block 0 (par [] ∷ []) ∷ []) 1 6 ∷ [];
  variables = [];
  channels = [];
  timers = [];
  ports = [];
  instances = instance 0 ∷ [];
  main = at 1 6;
}

no_branch_copied : copy_of no_branch ≡ no_branch_kernel
unfolding copy_of
no_branch_copied = refl
