-- Branches and channels of small programs, as their texts and as their kernels: each program is written in the comment above its tree.
use Rattle.std.specs.Prelude.{◌≡◌, List, [], ◌∷◌, true, false, Some, None, codes, refl}
use Rattle.xw_words.specs.Tables.{place_from}
use Rattle.xw_words.specs.Ports.{identifiers}
use Rattle.xs_instr.specs.declared.trace.Trap.TheVariants.{Arithmetic}
use Rattle.xs_instr.specs.declared.trace.Record.TheVariants.{Com, PortOut, PortIn, Fault}
use Rattle.xc_tree.specs.declared.tree.TreeDir.TheVariants.{In, Out}
use Rattle.xc_tree.specs.declared.tree.ParamKind.TheVariants.{Value}
use Rattle.xc_tree.specs.Plain as tree
use Rattle.xc_kernel.specs.Copies.{copy_of}
use Rattle.xc_kernel.proofs.Written.{at, id, number, name, binary, result}
use Rattle.xt_meaning.proofs.Running.{no_stimulus, nine, in_turn, plays, both, going, finished}

-- each branch has its number
-- int main(void) { par (int i = 2; i < 5; i++) { int x = 10 / (i - 4); } return 0; }
abbrev replicated : List tree.Item
replicated =
    (tree.function (record { result = (Some false); name = (id (codes "main") 1 5); params = ([]); own = 5 })
    (tree.statement (tree.block (tree.statements (
    (tree.statement (tree.replicated (id (codes "i") 1 27) (id (codes "i") 1 34) (id (codes "i") 1 41) 2 5 (tree.branch None (tree.statement (tree.block (tree.statements ((tree.statement (tree.declare ((record { kind = (tree.word false (Some (tree.value (binary 18 (number 10 false 1 56) (binary 16 (name (codes "i") 1 62) (number 4 false 1 66) 1 64) 1 59)))); name = (id (codes "x") 1 52) }) ∷ [])) (at 1 48) (at 1 68) 11) ∷ []))) (at 1 46) (at 1 70) 2))) (at 1 18) (at 1 70) 14)
    ∷ (tree.statement (tree.return_with (Some (tree.value (number 0 false 1 79)))) (at 1 72) (at 1 80) 3)
    ∷ []))) (at 1 16) (at 1 82) 2))
    ∷ []

numbered : plays replicated no_stimulus (in_turn 2 (0 ∷ 1 ∷ 2 ∷ 3 ∷ [])) ≡ both (going (Fault 0 (at 1 59) Arithmetic ∷ []))
unfolding copy_of
numbered = refl

-- each root has its number, and its core
-- int main(void) { par (int i = 1; i < 4; i++) on tile[i] : { int x = 10 / (i - 3); } }
abbrev replicated_roots : List tree.Item
replicated_roots =
    (tree.function (record { result = (Some false); name = (id (codes "main") 1 5); params = ([]); own = 5 })
    (tree.statement (tree.block (tree.statements (
    (tree.statement (tree.replicated (id (codes "i") 1 27) (id (codes "i") 1 34) (id (codes "i") 1 41) 1 4 (tree.branch (Some (record { on = (at 1 46); first = (at 1 54); value = (name (codes "i") 1 54) })) (tree.statement (tree.block (tree.statements ((tree.statement (tree.declare ((record { kind = (tree.word false (Some (tree.value (binary 18 (number 10 false 1 69) (binary 16 (name (codes "i") 1 75) (number 3 false 1 79) 1 77) 1 72)))); name = (id (codes "x") 1 65) }) ∷ [])) (at 1 61) (at 1 81) 11) ∷ []))) (at 1 59) (at 1 83) 2))) (at 1 18) (at 1 83) 20)
    ∷ []))) (at 1 16) (at 1 85) 2))
    ∷ []

rooted : plays replicated_roots no_stimulus (in_turn 1 (0 ∷ 1 ∷ 2 ∷ [])) ≡ both (going (Fault 3 (at 1 72) Arithmetic ∷ []))
unfolding copy_of
rooted = refl

-- a name that a branch declares is known behind its `par`
-- out port o = XS1_PORT_32A;
-- in port b = XS1_PORT_8A;
-- int main(void) { int x = 1; { par { b :> int x; ; } o <: x; } o <: x; return 0; }
abbrev declared : List tree.Item
declared =
    (tree.port (record { place = None; dir = Out; name = (id (codes "o") 1 10); ident = (id (codes "XS1_PORT_32A") 1 14) }))
    ∷ (tree.port (record { place = None; dir = In; name = (id (codes "b") 2 9); ident = (id (codes "XS1_PORT_8A") 2 13) }))
    ∷ (tree.function (record { result = (Some false); name = (id (codes "main") 3 5); params = ([]); own = 5 })
    (tree.statement (tree.block (tree.statements (
    (tree.statement (tree.declare ((record { kind = (tree.word false (Some (tree.value (number 1 false 3 26)))); name = (id (codes "x") 3 22) }) ∷ [])) (at 3 18) (at 3 27) 5)
    ∷ (tree.statement (tree.block (tree.statements ((tree.statement (tree.par (tree.branches ((tree.branch None (tree.statement (tree.input (record { name = (id (codes "b") 3 37); time = None; condition = None; target = (tree.fresh false (id (codes "x") 3 46)); stamp = None })) (at 3 37) (at 3 47) 5)) ∷ (tree.branch None (tree.statement tree.empty (at 3 49) (at 3 49) 1)) ∷ []))) (at 3 31) (at 3 51) 3) ∷ (tree.statement (tree.output (record { name = (id (codes "o") 3 53); time = None; value = (name (codes "x") 3 58); stamp = None })) (at 3 53) (at 3 59) 4) ∷ []))) (at 3 29) (at 3 61) 2)
    ∷ (tree.statement (tree.output (record { name = (id (codes "o") 3 63); time = None; value = (name (codes "x") 3 68); stamp = None })) (at 3 63) (at 3 69) 4)
    ∷ (tree.statement (tree.return_with (Some (tree.value (number 0 false 3 78)))) (at 3 71) (at 3 79) 3)
    ∷ []))) (at 3 16) (at 3 81) 2))
    ∷ []

known : plays declared nine (in_turn 2 (0 ∷ 1 ∷ 2 ∷ [])) ≡ both (finished (PortIn 0 22 0 9 ∷ PortOut 0 28 0 9 ∷ PortOut 0 28 0 1 ∷ []))
unfolding copy_of identifiers place_from
known = refl

-- a side of a channel makes branches, one of which uses it
-- out port o = XS1_PORT_32A;
-- int main(void) { chan c; int x; par { par { c <: 1; ; } c :> x; } o <: x; return 0; }
abbrev inner : List tree.Item
inner =
    (tree.port (record { place = None; dir = Out; name = (id (codes "o") 1 10); ident = (id (codes "XS1_PORT_32A") 1 14) }))
    ∷ (tree.function (record { result = (Some false); name = (id (codes "main") 2 5); params = ([]); own = 5 })
    (tree.statement (tree.block (tree.statements (
    (tree.statement (tree.declare ((record { kind = (tree.channel false); name = (id (codes "c") 2 23) }) ∷ [])) (at 2 18) (at 2 24) 3)
    ∷ (tree.statement (tree.declare ((record { kind = (tree.word false None); name = (id (codes "x") 2 30) }) ∷ [])) (at 2 26) (at 2 31) 3)
    ∷ (tree.statement (tree.par (tree.branches ((tree.branch None (tree.statement (tree.par (tree.branches ((tree.branch None (tree.statement (tree.output (record { name = (id (codes "c") 2 45); time = None; value = (number 1 false 2 50); stamp = None })) (at 2 45) (at 2 51) 4)) ∷ (tree.branch None (tree.statement tree.empty (at 2 53) (at 2 53) 1)) ∷ []))) (at 2 39) (at 2 55) 3)) ∷ (tree.branch None (tree.statement (tree.input (record { name = (id (codes "c") 2 57); time = None; condition = None; target = (tree.to (name (codes "x") 2 62)); stamp = None })) (at 2 57) (at 2 63) 4)) ∷ []))) (at 2 33) (at 2 65) 3)
    ∷ (tree.statement (tree.output (record { name = (id (codes "o") 2 67); time = None; value = (name (codes "x") 2 72); stamp = None })) (at 2 67) (at 2 73) 4)
    ∷ (tree.statement (tree.return_with (Some (tree.value (number 0 false 2 82)))) (at 2 75) (at 2 83) 3)
    ∷ []))) (at 2 16) (at 2 85) 2))
    ∷ []

inner_side : plays inner no_stimulus (in_turn 4 (0 ∷ 1 ∷ 2 ∷ 3 ∷ 4 ∷ [])) ≡ both (finished (Com 0 1 ∷ PortOut 0 28 0 1 ∷ []))
unfolding copy_of identifiers place_from
inner_side = refl

-- two transactions on one channel, and then a plain word: its output waits
-- out port o = XS1_PORT_32A;
-- int main(void) {
--   chan c; int x;
--   par {
--     { master { c <: 1; } master { c <: 2; } c <: 3; o <: 4; }
--     { slave { c :> x; } slave { c :> x; } c :> x; }
--   }
--   return 0;
-- }
abbrev transactions : List tree.Item
transactions =
    (tree.port (record { place = None; dir = Out; name = (id (codes "o") 1 10); ident = (id (codes "XS1_PORT_32A") 1 14) }))
    ∷ (tree.function (record { result = (Some false); name = (id (codes "main") 2 5); params = ([]); own = 5 })
    (tree.statement (tree.block (tree.statements (
    (tree.statement (tree.declare ((record { kind = (tree.channel false); name = (id (codes "c") 3 8) }) ∷ [])) (at 3 3) (at 3 9) 3)
    ∷ (tree.statement (tree.declare ((record { kind = (tree.word false None); name = (id (codes "x") 3 15) }) ∷ [])) (at 3 11) (at 3 16) 3)
    ∷ (tree.statement (tree.par (tree.branches ((tree.branch None (tree.statement (tree.block (tree.statements ((tree.statement (tree.transaction true (tree.statements ((tree.statement (tree.output (record { name = (id (codes "c") 5 16); time = None; value = (number 1 false 5 21); stamp = None })) (at 5 16) (at 5 22) 4) ∷ []))) (at 5 7) (at 5 24) 3) ∷ (tree.statement (tree.transaction true (tree.statements ((tree.statement (tree.output (record { name = (id (codes "c") 5 35); time = None; value = (number 2 false 5 40); stamp = None })) (at 5 35) (at 5 41) 4) ∷ []))) (at 5 26) (at 5 43) 3) ∷ (tree.statement (tree.output (record { name = (id (codes "c") 5 45); time = None; value = (number 3 false 5 50); stamp = None })) (at 5 45) (at 5 51) 4) ∷ (tree.statement (tree.output (record { name = (id (codes "o") 5 53); time = None; value = (number 4 false 5 58); stamp = None })) (at 5 53) (at 5 59) 4) ∷ []))) (at 5 5) (at 5 61) 2)) ∷ (tree.branch None (tree.statement (tree.block (tree.statements ((tree.statement (tree.transaction false (tree.statements ((tree.statement (tree.input (record { name = (id (codes "c") 6 15); time = None; condition = None; target = (tree.to (name (codes "x") 6 20)); stamp = None })) (at 6 15) (at 6 21) 4) ∷ []))) (at 6 7) (at 6 23) 3) ∷ (tree.statement (tree.transaction false (tree.statements ((tree.statement (tree.input (record { name = (id (codes "c") 6 33); time = None; condition = None; target = (tree.to (name (codes "x") 6 38)); stamp = None })) (at 6 33) (at 6 39) 4) ∷ []))) (at 6 25) (at 6 41) 3) ∷ (tree.statement (tree.input (record { name = (id (codes "c") 6 43); time = None; condition = None; target = (tree.to (name (codes "x") 6 48)); stamp = None })) (at 6 43) (at 6 49) 4) ∷ []))) (at 6 5) (at 6 51) 2)) ∷ []))) (at 4 3) (at 7 3) 3)
    ∷ (tree.statement (tree.return_with (Some (tree.value (number 0 false 8 10)))) (at 8 3) (at 8 11) 3)
    ∷ []))) (at 2 16) (at 9 1) 2))
    ∷ []

transacted : plays transactions no_stimulus (in_turn 8 (0 ∷ 1 ∷ 2 ∷ [])) ≡ both (finished (Com 0 1 ∷ Com 0 2 ∷ Com 0 3 ∷ PortOut 0 28 0 4 ∷ []))
unfolding copy_of identifiers place_from
transacted = refl

-- inside a transaction another channel is plain: its output waits
-- out port o = XS1_PORT_32A;
-- int f(int v) { chan d; int r; par { { d <: v; o <: 1; } d :> r; } return r; }
-- int main(void) {
--   chan c; int x;
--   par { master { int y = f(4); c <: y; } slave { c :> x; } }
--   return 0;
-- }
abbrev other_channel : List tree.Item
other_channel =
    (tree.port (record { place = None; dir = Out; name = (id (codes "o") 1 10); ident = (id (codes "XS1_PORT_32A") 1 14) }))
    ∷ (tree.function (record { result = (Some false); name = (id (codes "f") 2 5); params = ((record { kind = (Value false); name = (id (codes "v") 2 11) }) ∷ []); own = 6 })
    (tree.statement (tree.block (tree.statements (
    (tree.statement (tree.declare ((record { kind = (tree.channel false); name = (id (codes "d") 2 21) }) ∷ [])) (at 2 16) (at 2 22) 3)
    ∷ (tree.statement (tree.declare ((record { kind = (tree.word false None); name = (id (codes "r") 2 28) }) ∷ [])) (at 2 24) (at 2 29) 3)
    ∷ (tree.statement (tree.par (tree.branches ((tree.branch None (tree.statement (tree.block (tree.statements ((tree.statement (tree.output (record { name = (id (codes "d") 2 39); time = None; value = (name (codes "v") 2 44); stamp = None })) (at 2 39) (at 2 45) 4) ∷ (tree.statement (tree.output (record { name = (id (codes "o") 2 47); time = None; value = (number 1 false 2 52); stamp = None })) (at 2 47) (at 2 53) 4) ∷ []))) (at 2 37) (at 2 55) 2)) ∷ (tree.branch None (tree.statement (tree.input (record { name = (id (codes "d") 2 57); time = None; condition = None; target = (tree.to (name (codes "r") 2 62)); stamp = None })) (at 2 57) (at 2 63) 4)) ∷ []))) (at 2 31) (at 2 65) 3)
    ∷ (tree.statement (tree.return_with (Some (tree.value (name (codes "r") 2 74)))) (at 2 67) (at 2 75) 3)
    ∷ []))) (at 2 14) (at 2 77) 2))
    ∷ (tree.function (record { result = (Some false); name = (id (codes "main") 3 5); params = ([]); own = 5 })
    (tree.statement (tree.block (tree.statements (
    (tree.statement (tree.declare ((record { kind = (tree.channel false); name = (id (codes "c") 4 8) }) ∷ [])) (at 4 3) (at 4 9) 3)
    ∷ (tree.statement (tree.declare ((record { kind = (tree.word false None); name = (id (codes "x") 4 15) }) ∷ [])) (at 4 11) (at 4 16) 3)
    ∷ (tree.statement (tree.par (tree.branches ((tree.branch None (tree.statement (tree.transaction true (tree.statements ((tree.statement (tree.declare ((record { kind = (tree.word false (Some (result (id (codes "f") 5 26) ((record { value = (number 4 false 5 28); first = (at 5 28) }) ∷ [])))); name = (id (codes "y") 5 22) }) ∷ [])) (at 5 18) (at 5 30) 8) ∷ (tree.statement (tree.output (record { name = (id (codes "c") 5 32); time = None; value = (name (codes "y") 5 37); stamp = None })) (at 5 32) (at 5 38) 4) ∷ []))) (at 5 9) (at 5 40) 3)) ∷ (tree.branch None (tree.statement (tree.transaction false (tree.statements ((tree.statement (tree.input (record { name = (id (codes "c") 5 50); time = None; condition = None; target = (tree.to (name (codes "x") 5 55)); stamp = None })) (at 5 50) (at 5 56) 4) ∷ []))) (at 5 42) (at 5 58) 3)) ∷ []))) (at 5 3) (at 5 60) 3)
    ∷ (tree.statement (tree.return_with (Some (tree.value (number 0 false 6 10)))) (at 6 3) (at 6 11) 3)
    ∷ []))) (at 3 16) (at 7 1) 2))
    ∷ []

waited : plays other_channel no_stimulus (in_turn 6 (0 ∷ 1 ∷ 2 ∷ 3 ∷ 4 ∷ [])) ≡ both (finished (Com 0 4 ∷ PortOut 0 28 0 1 ∷ Com 0 4 ∷ []))
unfolding copy_of identifiers place_from
waited = refl

-- a port on another core, with pins of its own
-- on tile[2] : in port b = XS1_PORT_8A;
-- int main(void) { par { on tile[2] : b :> int x; ; } }
abbrev far : List tree.Item
far =
    (tree.port (record { place = (Some (record { on = (at 1 1); first = (at 1 9); value = (number 2 false 1 9) })); dir = In; name = (id (codes "b") 1 22); ident = (id (codes "XS1_PORT_8A") 1 26) }))
    ∷ (tree.function (record { result = (Some false); name = (id (codes "main") 2 5); params = ([]); own = 5 })
    (tree.statement (tree.block (tree.statements (
    (tree.statement (tree.par (tree.branches ((tree.branch (Some (record { on = (at 2 24); first = (at 2 32); value = (number 2 false 2 32) })) (tree.statement (tree.input (record { name = (id (codes "b") 2 37); time = None; condition = None; target = (tree.fresh false (id (codes "x") 2 46)); stamp = None })) (at 2 37) (at 2 47) 5)) ∷ (tree.branch None (tree.statement tree.empty (at 2 49) (at 2 49) 1)) ∷ []))) (at 2 18) (at 2 51) 9)
    ∷ []))) (at 2 16) (at 2 53) 2))
    ∷ []

own_pins : plays far nine (in_turn 1 (0 ∷ 1 ∷ [])) ≡ both (finished (PortIn 2 22 0 0 ∷ []))
unfolding copy_of identifiers place_from
own_pins = refl
