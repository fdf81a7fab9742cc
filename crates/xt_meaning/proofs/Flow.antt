-- Flow and calls of small programs, as their texts and as their kernels: each program is written in the comment above its tree.
use Rattle.std.specs.Prelude.{◌≡◌, List, [], ◌∷◌, false, Some, None, codes, refl}
use Rattle.xw_words.specs.Tables.{place_from}
use Rattle.xw_words.specs.Ports.{identifiers}
use Rattle.xs_instr.specs.declared.trace.Trap.TheVariants.{Arithmetic, Index}
use Rattle.xs_instr.specs.declared.trace.Record.TheVariants.{PortOut, PortIn, Fault}
use Rattle.xc_tree.specs.declared.tree.TreeDir.TheVariants.{In, Out}
use Rattle.xc_tree.specs.declared.tree.ParamKind.TheVariants.{Value, Ref}
use Rattle.xc_tree.specs.Plain as tree
use Rattle.xc_kernel.specs.Copies.{copy_of}
use Rattle.xc_kernel.proofs.Written.{at, id, number, name, index, binary, result}
use Rattle.xc_meaning.specs.States.Worlds.{take}
use Rattle.xt_meaning.proofs.Running.{no_stimulus, nine, advance, step, plays, both, going, finished}

-- loops of each kind, left and gone on with
-- out port o = XS1_PORT_32A;
-- int main(void) {
--   int x;
--   for (x = 5; x < 5; x++) o <: x;
--   for (int i = 0; i < 5; i++) { if (i == 1) continue; if (i == 3) break; o <: i; }
--   do { x++; if (x == 7) continue; o <: x; } while (x < 8);
--   do o <: 4; while (0);
--   while (1) { for (;;) break; o <: 9; break; }
--   o <: x;
--   return 0;
-- }
abbrev loops : List tree.Item
loops =
    (tree.port (record { place = None; dir = Out; name = (id (codes "o") 1 10); ident = (id (codes "XS1_PORT_32A") 1 14) }))
    ∷ (tree.function (record { result = (Some false); name = (id (codes "main") 2 5); params = ([]); own = 5 })
    (tree.statement (tree.block (tree.statements (
    (tree.statement (tree.declare ((record { kind = (tree.word false None); name = (id (codes "x") 3 7) }) ∷ [])) (at 3 3) (at 3 8) 3)
    ∷ (tree.statement (tree.for_loop (tree.present (tree.statement (tree.assign (name (codes "x") 4 8) 22 (at 4 10) (tree.value (number 5 false 4 12))) (at 4 8) (at 4 12) 3)) (Some (binary 20 (name (codes "x") 4 15) (number 5 false 4 19) 4 17)) (tree.present (tree.statement (tree.step (name (codes "x") 4 22) 35) (at 4 22) (at 4 23) 2)) (tree.statement (tree.output (record { name = (id (codes "o") 4 27); time = None; value = (name (codes "x") 4 32); stamp = None })) (at 4 27) (at 4 33) 4)) (at 4 3) (at 4 33) 8)
    ∷ (tree.statement (tree.for_loop (tree.present (tree.statement (tree.declare ((record { kind = (tree.word false (Some (tree.value (number 0 false 5 16)))); name = (id (codes "i") 5 12) }) ∷ [])) (at 5 8) (at 5 16) 4)) (Some (binary 20 (name (codes "i") 5 19) (number 5 false 5 23) 5 21)) (tree.present (tree.statement (tree.step (name (codes "i") 5 26) 35) (at 5 26) (at 5 27) 2)) (tree.statement (tree.block (tree.statements ((tree.statement (tree.if_then (binary 27 (name (codes "i") 5 37) (number 1 false 5 42) 5 39) (tree.statement tree.continue_on (at 5 45) (at 5 53) 2) tree.absent) (at 5 33) (at 5 53) 6) ∷ (tree.statement (tree.if_then (binary 27 (name (codes "i") 5 59) (number 3 false 5 64) 5 61) (tree.statement tree.break_out (at 5 67) (at 5 72) 2) tree.absent) (at 5 55) (at 5 72) 6) ∷ (tree.statement (tree.output (record { name = (id (codes "o") 5 74); time = None; value = (name (codes "i") 5 79); stamp = None })) (at 5 74) (at 5 80) 4) ∷ []))) (at 5 31) (at 5 82) 2)) (at 5 3) (at 5 82) 8)
    ∷ (tree.statement (tree.do_while (tree.statement (tree.block (tree.statements ((tree.statement (tree.step (name (codes "x") 6 8) 35) (at 6 8) (at 6 11) 3) ∷ (tree.statement (tree.if_then (binary 27 (name (codes "x") 6 17) (number 7 false 6 22) 6 19) (tree.statement tree.continue_on (at 6 25) (at 6 33) 2) tree.absent) (at 6 13) (at 6 33) 6) ∷ (tree.statement (tree.output (record { name = (id (codes "o") 6 35); time = None; value = (name (codes "x") 6 40); stamp = None })) (at 6 35) (at 6 41) 4) ∷ []))) (at 6 6) (at 6 43) 2) (binary 20 (name (codes "x") 6 52) (number 8 false 6 56) 6 54)) (at 6 3) (at 6 58) 8)
    ∷ (tree.statement (tree.do_while (tree.statement (tree.output (record { name = (id (codes "o") 7 6); time = None; value = (number 4 false 7 11); stamp = None })) (at 7 6) (at 7 12) 4) (number 0 false 7 21)) (at 7 3) (at 7 23) 6)
    ∷ (tree.statement (tree.while_loop (number 1 false 8 10) (tree.statement (tree.block (tree.statements ((tree.statement (tree.for_loop tree.absent None tree.absent (tree.statement tree.break_out (at 8 24) (at 8 29) 2)) (at 8 15) (at 8 29) 5) ∷ (tree.statement (tree.output (record { name = (id (codes "o") 8 31); time = None; value = (number 9 false 8 36); stamp = None })) (at 8 31) (at 8 37) 4) ∷ (tree.statement tree.break_out (at 8 39) (at 8 44) 2) ∷ []))) (at 8 13) (at 8 46) 2)) (at 8 3) (at 8 46) 4)
    ∷ (tree.statement (tree.output (record { name = (id (codes "o") 9 3); time = None; value = (name (codes "x") 9 8); stamp = None })) (at 9 3) (at 9 9) 4)
    ∷ (tree.statement (tree.return_with (Some (tree.value (number 0 false 10 10)))) (at 10 3) (at 10 11) 3)
    ∷ []))) (at 2 16) (at 11 1) 2))
    ∷ []

looped : plays loops no_stimulus (advance 0 ∷ []) ≡ both (finished (PortOut 0 28 0 0 ∷ PortOut 0 28 0 2 ∷ PortOut 0 28 0 6 ∷ PortOut 0 28 0 8 ∷ PortOut 0 28 0 4 ∷ PortOut 0 28 0 9 ∷ PortOut 0 28 0 8 ∷ []))
unfolding copy_of identifiers place_from
looped = refl

-- returns out of loops inside one another, of the result of a call, and none behind one
-- out port o = XS1_PORT_32A;
-- int first(int n) {
--   while (1) { for (int i = 0; i < 9; i++) { do { if (i == n) return i * 7; } while (0); o <: i; } }
-- }
-- int second(int n) { while (1) return first(n + 1); }
-- void count(int n) { while (1) { for (;;) { if (n == 0) return; o <: n + 10; n--; } } }
-- int perhaps(int n) { if (n) return 5; }
-- int main(void) {
--   int x = second(0);
--   o <: x;
--   count(2);
--   for (int i = 0; i < 2; i++) { x = perhaps(1 - i); o <: x; }
--   return 0;
-- }
abbrev returns : List tree.Item
returns =
    (tree.port (record { place = None; dir = Out; name = (id (codes "o") 1 10); ident = (id (codes "XS1_PORT_32A") 1 14) }))
    ∷ (tree.function (record { result = (Some false); name = (id (codes "first") 2 5); params = ((record { kind = (Value false); name = (id (codes "n") 2 15) }) ∷ []); own = 6 })
    (tree.statement (tree.block (tree.statements (
    (tree.statement (tree.while_loop (number 1 false 3 10) (tree.statement (tree.block (tree.statements ((tree.statement (tree.for_loop (tree.present (tree.statement (tree.declare ((record { kind = (tree.word false (Some (tree.value (number 0 false 3 28)))); name = (id (codes "i") 3 24) }) ∷ [])) (at 3 20) (at 3 28) 4)) (Some (binary 20 (name (codes "i") 3 31) (number 9 false 3 35) 3 33)) (tree.present (tree.statement (tree.step (name (codes "i") 3 38) 35) (at 3 38) (at 3 39) 2)) (tree.statement (tree.block (tree.statements ((tree.statement (tree.do_while (tree.statement (tree.block (tree.statements ((tree.statement (tree.if_then (binary 27 (name (codes "i") 3 54) (name (codes "n") 3 59) 3 56) (tree.statement (tree.return_with (Some (tree.value (binary 17 (name (codes "i") 3 69) (number 7 false 3 73) 3 71)))) (at 3 62) (at 3 74) 5) tree.absent) (at 3 50) (at 3 74) 6) ∷ []))) (at 3 48) (at 3 76) 2) (number 0 false 3 85)) (at 3 45) (at 3 87) 6) ∷ (tree.statement (tree.output (record { name = (id (codes "o") 3 89); time = None; value = (name (codes "i") 3 94); stamp = None })) (at 3 89) (at 3 95) 4) ∷ []))) (at 3 43) (at 3 97) 2)) (at 3 15) (at 3 97) 8) ∷ []))) (at 3 13) (at 3 99) 2)) (at 3 3) (at 3 99) 4)
    ∷ []))) (at 2 18) (at 4 1) 2))
    ∷ (tree.function (record { result = (Some false); name = (id (codes "second") 5 5); params = ((record { kind = (Value false); name = (id (codes "n") 5 16) }) ∷ []); own = 6 })
    (tree.statement (tree.block (tree.statements (
    (tree.statement (tree.while_loop (number 1 false 5 28) (tree.statement (tree.return_with (Some (result (id (codes "first") 5 38) ((record { value = (binary 15 (name (codes "n") 5 44) (number 1 false 5 48) 5 46); first = (at 5 44) }) ∷ [])))) (at 5 31) (at 5 50) 8)) (at 5 21) (at 5 50) 4)
    ∷ []))) (at 5 19) (at 5 52) 2))
    ∷ (tree.function (record { result = None; name = (id (codes "count") 6 6); params = ((record { kind = (Value false); name = (id (codes "n") 6 16) }) ∷ []); own = 6 })
    (tree.statement (tree.block (tree.statements (
    (tree.statement (tree.while_loop (number 1 false 6 28) (tree.statement (tree.block (tree.statements ((tree.statement (tree.for_loop tree.absent None tree.absent (tree.statement (tree.block (tree.statements ((tree.statement (tree.if_then (binary 27 (name (codes "n") 6 48) (number 0 false 6 53) 6 50) (tree.statement (tree.return_with None) (at 6 56) (at 6 62) 2) tree.absent) (at 6 44) (at 6 62) 6) ∷ (tree.statement (tree.output (record { name = (id (codes "o") 6 64); time = None; value = (binary 15 (name (codes "n") 6 69) (number 10 false 6 73) 6 71); stamp = None })) (at 6 64) (at 6 75) 6) ∷ (tree.statement (tree.step (name (codes "n") 6 77) 36) (at 6 77) (at 6 80) 3) ∷ []))) (at 6 42) (at 6 82) 2)) (at 6 33) (at 6 82) 5) ∷ []))) (at 6 31) (at 6 84) 2)) (at 6 21) (at 6 84) 4)
    ∷ []))) (at 6 19) (at 6 86) 2))
    ∷ (tree.function (record { result = (Some false); name = (id (codes "perhaps") 7 5); params = ((record { kind = (Value false); name = (id (codes "n") 7 17) }) ∷ []); own = 6 })
    (tree.statement (tree.block (tree.statements (
    (tree.statement (tree.if_then (name (codes "n") 7 26) (tree.statement (tree.return_with (Some (tree.value (number 5 false 7 36)))) (at 7 29) (at 7 37) 3) tree.absent) (at 7 22) (at 7 37) 4)
    ∷ []))) (at 7 20) (at 7 39) 2))
    ∷ (tree.function (record { result = (Some false); name = (id (codes "main") 8 5); params = ([]); own = 5 })
    (tree.statement (tree.block (tree.statements (
    (tree.statement (tree.declare ((record { kind = (tree.word false (Some (result (id (codes "second") 9 11) ((record { value = (number 0 false 9 18); first = (at 9 18) }) ∷ [])))); name = (id (codes "x") 9 7) }) ∷ [])) (at 9 3) (at 9 20) 8)
    ∷ (tree.statement (tree.output (record { name = (id (codes "o") 10 3); time = None; value = (name (codes "x") 10 8); stamp = None })) (at 10 3) (at 10 9) 4)
    ∷ (tree.statement (tree.perform (result (id (codes "count") 11 3) ((record { value = (number 2 false 11 9); first = (at 11 9) }) ∷ []))) (at 11 3) (at 11 11) 5)
    ∷ (tree.statement (tree.for_loop (tree.present (tree.statement (tree.declare ((record { kind = (tree.word false (Some (tree.value (number 0 false 12 16)))); name = (id (codes "i") 12 12) }) ∷ [])) (at 12 8) (at 12 16) 4)) (Some (binary 20 (name (codes "i") 12 19) (number 2 false 12 23) 12 21)) (tree.present (tree.statement (tree.step (name (codes "i") 12 26) 35) (at 12 26) (at 12 27) 2)) (tree.statement (tree.block (tree.statements ((tree.statement (tree.assign (name (codes "x") 12 33) 22 (at 12 35) (result (id (codes "perhaps") 12 37) ((record { value = (binary 16 (number 1 false 12 45) (name (codes "i") 12 49) 12 47); first = (at 12 45) }) ∷ []))) (at 12 33) (at 12 51) 9) ∷ (tree.statement (tree.output (record { name = (id (codes "o") 12 53); time = None; value = (name (codes "x") 12 58); stamp = None })) (at 12 53) (at 12 59) 4) ∷ []))) (at 12 31) (at 12 61) 2)) (at 12 3) (at 12 61) 8)
    ∷ (tree.statement (tree.return_with (Some (tree.value (number 0 false 13 10)))) (at 13 3) (at 13 11) 3)
    ∷ []))) (at 8 16) (at 14 1) 2))
    ∷ []

returned : plays returns no_stimulus (advance 0 ∷ []) ≡ both (finished (PortOut 0 28 0 0 ∷ PortOut 0 28 0 7 ∷ PortOut 0 28 0 12 ∷ PortOut 0 28 0 11 ∷ PortOut 0 28 0 5 ∷ PortOut 0 28 0 0 ∷ []))
unfolding copy_of identifiers place_from
returned = refl

-- names that hide others, each in its scope
-- out port o = XS1_PORT_32A;
-- in port b = XS1_PORT_8A;
-- int main(void) {
--   int x = 5;
--   { if (0) b :> int x; else o <: x; }
--   { do b :> int x; while (x == 5); o <: x; }
--   for (int x = 1; x < 3; x++) o <: x;
--   { int y = 4, x = x + y; o <: x; }
--   select { case b :> int x: o <: x + 1; break; }
--   o <: x;
--   return 0;
-- }
abbrev scopes : List tree.Item
scopes =
    (tree.port (record { place = None; dir = Out; name = (id (codes "o") 1 10); ident = (id (codes "XS1_PORT_32A") 1 14) }))
    ∷ (tree.port (record { place = None; dir = In; name = (id (codes "b") 2 9); ident = (id (codes "XS1_PORT_8A") 2 13) }))
    ∷ (tree.function (record { result = (Some false); name = (id (codes "main") 3 5); params = ([]); own = 5 })
    (tree.statement (tree.block (tree.statements (
    (tree.statement (tree.declare ((record { kind = (tree.word false (Some (tree.value (number 5 false 4 11)))); name = (id (codes "x") 4 7) }) ∷ [])) (at 4 3) (at 4 12) 5)
    ∷ (tree.statement (tree.block (tree.statements ((tree.statement (tree.if_then (number 0 false 5 9) (tree.statement (tree.input (record { name = (id (codes "b") 5 12); time = None; condition = None; target = (tree.fresh false (id (codes "x") 5 21)); stamp = None })) (at 5 12) (at 5 22) 5) (tree.present (tree.statement (tree.output (record { name = (id (codes "o") 5 29); time = None; value = (name (codes "x") 5 34); stamp = None })) (at 5 29) (at 5 35) 4))) (at 5 5) (at 5 35) 5) ∷ []))) (at 5 3) (at 5 37) 2)
    ∷ (tree.statement (tree.block (tree.statements ((tree.statement (tree.do_while (tree.statement (tree.input (record { name = (id (codes "b") 6 8); time = None; condition = None; target = (tree.fresh false (id (codes "x") 6 17)); stamp = None })) (at 6 8) (at 6 18) 5) (binary 27 (name (codes "x") 6 27) (number 5 false 6 32) 6 29)) (at 6 5) (at 6 34) 8) ∷ (tree.statement (tree.output (record { name = (id (codes "o") 6 36); time = None; value = (name (codes "x") 6 41); stamp = None })) (at 6 36) (at 6 42) 4) ∷ []))) (at 6 3) (at 6 44) 2)
    ∷ (tree.statement (tree.for_loop (tree.present (tree.statement (tree.declare ((record { kind = (tree.word false (Some (tree.value (number 1 false 7 16)))); name = (id (codes "x") 7 12) }) ∷ [])) (at 7 8) (at 7 16) 4)) (Some (binary 20 (name (codes "x") 7 19) (number 3 false 7 23) 7 21)) (tree.present (tree.statement (tree.step (name (codes "x") 7 26) 35) (at 7 26) (at 7 27) 2)) (tree.statement (tree.output (record { name = (id (codes "o") 7 31); time = None; value = (name (codes "x") 7 36); stamp = None })) (at 7 31) (at 7 37) 4)) (at 7 3) (at 7 37) 8)
    ∷ (tree.statement (tree.block (tree.statements ((tree.statement (tree.declare ((record { kind = (tree.word false (Some (tree.value (number 4 false 8 13)))); name = (id (codes "y") 8 9) }) ∷ (record { kind = (tree.word false (Some (tree.value (binary 15 (name (codes "x") 8 20) (name (codes "y") 8 24) 8 22)))); name = (id (codes "x") 8 16) }) ∷ [])) (at 8 5) (at 8 25) 11) ∷ (tree.statement (tree.output (record { name = (id (codes "o") 8 27); time = None; value = (name (codes "x") 8 32); stamp = None })) (at 8 27) (at 8 33) 4) ∷ []))) (at 8 3) (at 8 35) 2)
    ∷ (tree.statement (tree.select (tree.cases ((tree.case (at 9 12) None (Some (record { name = (id (codes "b") 9 17); time = None; condition = None; target = (tree.fresh false (id (codes "x") 9 26)); stamp = None })) (tree.statements ((tree.statement (tree.output (record { name = (id (codes "o") 9 29); time = None; value = (binary 15 (name (codes "x") 9 34) (number 1 false 9 38) 9 36); stamp = None })) (at 9 29) (at 9 39) 6) ∷ []))) ∷ []))) (at 9 3) (at 9 48) 11)
    ∷ (tree.statement (tree.output (record { name = (id (codes "o") 10 3); time = None; value = (name (codes "x") 10 8); stamp = None })) (at 10 3) (at 10 9) 4)
    ∷ (tree.statement (tree.return_with (Some (tree.value (number 0 false 11 10)))) (at 11 3) (at 11 11) 3)
    ∷ []))) (at 3 16) (at 12 1) 2))
    ∷ []

scoped : plays scopes nine (advance 0 ∷ step (take 0 0) ∷ advance 0 ∷ []) ≡ both (finished (PortOut 0 28 0 0 ∷ PortIn 0 22 0 9 ∷ PortOut 0 28 0 9 ∷ PortOut 0 28 0 1 ∷ PortOut 0 28 0 2 ∷ PortOut 0 28 0 4 ∷ PortIn 0 22 0 9 ∷ PortOut 0 28 0 10 ∷ PortOut 0 28 0 5 ∷ []))
unfolding copy_of identifiers place_from
scoped = refl

-- what is declared becomes 0 in each turn
-- out port o = XS1_PORT_32A;
-- int main(void) {
--   for (int i = 0; i < 2; i++) { int y; int a[3]; o <: y + a[0] + a[2]; y = 5; a[0] = 6; a[2] = 7; }
--   return 0;
-- }
abbrev zeros : List tree.Item
zeros =
    (tree.port (record { place = None; dir = Out; name = (id (codes "o") 1 10); ident = (id (codes "XS1_PORT_32A") 1 14) }))
    ∷ (tree.function (record { result = (Some false); name = (id (codes "main") 2 5); params = ([]); own = 5 })
    (tree.statement (tree.block (tree.statements (
    (tree.statement (tree.for_loop (tree.present (tree.statement (tree.declare ((record { kind = (tree.word false (Some (tree.value (number 0 false 3 16)))); name = (id (codes "i") 3 12) }) ∷ [])) (at 3 8) (at 3 16) 4)) (Some (binary 20 (name (codes "i") 3 19) (number 2 false 3 23) 3 21)) (tree.present (tree.statement (tree.step (name (codes "i") 3 26) 35) (at 3 26) (at 3 27) 2)) (tree.statement (tree.block (tree.statements ((tree.statement (tree.declare ((record { kind = (tree.word false None); name = (id (codes "y") 3 37) }) ∷ [])) (at 3 33) (at 3 38) 3) ∷ (tree.statement (tree.declare ((record { kind = (tree.array false 3 (at 3 46)); name = (id (codes "a") 3 44) }) ∷ [])) (at 3 40) (at 3 48) 6) ∷ (tree.statement (tree.output (record { name = (id (codes "o") 3 50); time = None; value = (binary 15 (binary 15 (name (codes "y") 3 55) (index (codes "a") (number 0 false 3 61) 3 59) 3 57) (index (codes "a") (number 2 false 3 68) 3 66) 3 64); stamp = None })) (at 3 50) (at 3 70) 14) ∷ (tree.statement (tree.assign (name (codes "y") 3 72) 22 (at 3 74) (tree.value (number 5 false 3 76))) (at 3 72) (at 3 77) 4) ∷ (tree.statement (tree.assign (index (codes "a") (number 0 false 3 81) 3 79) 22 (at 3 84) (tree.value (number 6 false 3 86))) (at 3 79) (at 3 87) 7) ∷ (tree.statement (tree.assign (index (codes "a") (number 2 false 3 91) 3 89) 22 (at 3 94) (tree.value (number 7 false 3 96))) (at 3 89) (at 3 97) 7) ∷ []))) (at 3 31) (at 3 99) 2)) (at 3 3) (at 3 99) 8)
    ∷ (tree.statement (tree.return_with (Some (tree.value (number 0 false 4 10)))) (at 4 3) (at 4 11) 3)
    ∷ []))) (at 2 16) (at 5 1) 2))
    ∷ []

zeroed : plays zeros no_stimulus (advance 0 ∷ []) ≡ both (finished (PortOut 0 28 0 0 ∷ PortOut 0 28 0 0 ∷ []))
unfolding copy_of identifiers place_from
zeroed = refl

-- each call has variables of its own, and one call has the same ones in each turn
-- out port o = XS1_PORT_32A;
-- in port b = XS1_PORT_8A;
-- void f(int v) { if (v) b :> int x; o <: x; }
-- int main(void) { f(1); f(0); for (int i = 0; i < 2; i++) f(1 - i); return 0; }
abbrev instances : List tree.Item
instances =
    (tree.port (record { place = None; dir = Out; name = (id (codes "o") 1 10); ident = (id (codes "XS1_PORT_32A") 1 14) }))
    ∷ (tree.port (record { place = None; dir = In; name = (id (codes "b") 2 9); ident = (id (codes "XS1_PORT_8A") 2 13) }))
    ∷ (tree.function (record { result = None; name = (id (codes "f") 3 6); params = ((record { kind = (Value false); name = (id (codes "v") 3 12) }) ∷ []); own = 6 })
    (tree.statement (tree.block (tree.statements (
    (tree.statement (tree.if_then (name (codes "v") 3 21) (tree.statement (tree.input (record { name = (id (codes "b") 3 24); time = None; condition = None; target = (tree.fresh false (id (codes "x") 3 33)); stamp = None })) (at 3 24) (at 3 34) 5) tree.absent) (at 3 17) (at 3 34) 4)
    ∷ (tree.statement (tree.output (record { name = (id (codes "o") 3 36); time = None; value = (name (codes "x") 3 41); stamp = None })) (at 3 36) (at 3 42) 4)
    ∷ []))) (at 3 15) (at 3 44) 2))
    ∷ (tree.function (record { result = (Some false); name = (id (codes "main") 4 5); params = ([]); own = 5 })
    (tree.statement (tree.block (tree.statements (
    (tree.statement (tree.perform (result (id (codes "f") 4 18) ((record { value = (number 1 false 4 20); first = (at 4 20) }) ∷ []))) (at 4 18) (at 4 22) 5)
    ∷ (tree.statement (tree.perform (result (id (codes "f") 4 24) ((record { value = (number 0 false 4 26); first = (at 4 26) }) ∷ []))) (at 4 24) (at 4 28) 5)
    ∷ (tree.statement (tree.for_loop (tree.present (tree.statement (tree.declare ((record { kind = (tree.word false (Some (tree.value (number 0 false 4 43)))); name = (id (codes "i") 4 39) }) ∷ [])) (at 4 35) (at 4 43) 4)) (Some (binary 20 (name (codes "i") 4 46) (number 2 false 4 50) 4 48)) (tree.present (tree.statement (tree.step (name (codes "i") 4 53) 35) (at 4 53) (at 4 54) 2)) (tree.statement (tree.perform (result (id (codes "f") 4 58) ((record { value = (binary 16 (number 1 false 4 60) (name (codes "i") 4 64) 4 62); first = (at 4 60) }) ∷ []))) (at 4 58) (at 4 66) 7)) (at 4 30) (at 4 66) 8)
    ∷ (tree.statement (tree.return_with (Some (tree.value (number 0 false 4 75)))) (at 4 68) (at 4 76) 3)
    ∷ []))) (at 4 16) (at 4 78) 2))
    ∷ []

apart : plays instances nine (advance 0 ∷ []) ≡ both (finished (PortIn 0 22 0 9 ∷ PortOut 0 28 0 9 ∷ PortOut 0 28 0 0 ∷ PortIn 0 22 0 9 ∷ PortOut 0 28 0 9 ∷ PortOut 0 28 0 9 ∷ []))
unfolding copy_of identifiers place_from
apart = refl

-- an element by reference is that of the call, and the index at the left comes after the call at the right
-- out port o = XS1_PORT_32A;
-- void bump(int &x, int &i) { i = 2; x += 5; }
-- int last(int &k) { k = 3; return 8; }
-- int main(void) {
--   int a[4]; int i = 1;
--   bump(a[i], i);
--   o <: a[1]; o <: a[2];
--   a[i] = last(i);
--   o <: a[2]; o <: a[3];
--   return 0;
-- }
abbrev references : List tree.Item
references =
    (tree.port (record { place = None; dir = Out; name = (id (codes "o") 1 10); ident = (id (codes "XS1_PORT_32A") 1 14) }))
    ∷ (tree.function (record { result = None; name = (id (codes "bump") 2 6); params = ((record { kind = (Ref false); name = (id (codes "x") 2 16) }) ∷ (record { kind = (Ref false); name = (id (codes "i") 2 24) }) ∷ []); own = 11 })
    (tree.statement (tree.block (tree.statements (
    (tree.statement (tree.assign (name (codes "i") 2 29) 22 (at 2 31) (tree.value (number 2 false 2 33))) (at 2 29) (at 2 34) 4)
    ∷ (tree.statement (tree.assign (name (codes "x") 2 36) 37 (at 2 38) (tree.value (number 5 false 2 41))) (at 2 36) (at 2 42) 4)
    ∷ []))) (at 2 27) (at 2 44) 2))
    ∷ (tree.function (record { result = (Some false); name = (id (codes "last") 3 5); params = ((record { kind = (Ref false); name = (id (codes "k") 3 15) }) ∷ []); own = 7 })
    (tree.statement (tree.block (tree.statements (
    (tree.statement (tree.assign (name (codes "k") 3 20) 22 (at 3 22) (tree.value (number 3 false 3 24))) (at 3 20) (at 3 25) 4)
    ∷ (tree.statement (tree.return_with (Some (tree.value (number 8 false 3 34)))) (at 3 27) (at 3 35) 3)
    ∷ []))) (at 3 18) (at 3 37) 2))
    ∷ (tree.function (record { result = (Some false); name = (id (codes "main") 4 5); params = ([]); own = 5 })
    (tree.statement (tree.block (tree.statements (
    (tree.statement (tree.declare ((record { kind = (tree.array false 4 (at 5 9)); name = (id (codes "a") 5 7) }) ∷ [])) (at 5 3) (at 5 11) 6)
    ∷ (tree.statement (tree.declare ((record { kind = (tree.word false (Some (tree.value (number 1 false 5 21)))); name = (id (codes "i") 5 17) }) ∷ [])) (at 5 13) (at 5 22) 5)
    ∷ (tree.statement (tree.perform (result (id (codes "bump") 6 3) ((record { value = (index (codes "a") (name (codes "i") 6 10) 6 8); first = (at 6 8) }) ∷ (record { value = (name (codes "i") 6 14); first = (at 6 14) }) ∷ []))) (at 6 3) (at 6 16) 10)
    ∷ (tree.statement (tree.output (record { name = (id (codes "o") 7 3); time = None; value = (index (codes "a") (number 1 false 7 10) 7 8); stamp = None })) (at 7 3) (at 7 12) 7)
    ∷ (tree.statement (tree.output (record { name = (id (codes "o") 7 14); time = None; value = (index (codes "a") (number 2 false 7 21) 7 19); stamp = None })) (at 7 14) (at 7 23) 7)
    ∷ (tree.statement (tree.assign (index (codes "a") (name (codes "i") 8 5) 8 3) 22 (at 8 8) (result (id (codes "last") 8 10) ((record { value = (name (codes "i") 8 15); first = (at 8 15) }) ∷ []))) (at 8 3) (at 8 17) 10)
    ∷ (tree.statement (tree.output (record { name = (id (codes "o") 9 3); time = None; value = (index (codes "a") (number 2 false 9 10) 9 8); stamp = None })) (at 9 3) (at 9 12) 7)
    ∷ (tree.statement (tree.output (record { name = (id (codes "o") 9 14); time = None; value = (index (codes "a") (number 3 false 9 21) 9 19); stamp = None })) (at 9 14) (at 9 23) 7)
    ∷ (tree.statement (tree.return_with (Some (tree.value (number 0 false 10 10)))) (at 10 3) (at 10 11) 3)
    ∷ []))) (at 4 16) (at 11 1) 2))
    ∷ []

referred : plays references no_stimulus (advance 0 ∷ []) ≡ both (finished (PortOut 0 28 0 5 ∷ PortOut 0 28 0 0 ∷ PortOut 0 28 0 0 ∷ PortOut 0 28 0 8 ∷ []))
unfolding copy_of identifiers place_from
referred = refl

-- the first of two errors among arguments
-- void f(int u, int v, int w) { }
-- int main(void) { int a[2]; int z; f(1, a[z + 2], 1 / z); return 0; }
abbrev arguments : List tree.Item
arguments =
    (tree.function (record { result = None; name = (id (codes "f") 1 6); params = ((record { kind = (Value false); name = (id (codes "u") 1 12) }) ∷ (record { kind = (Value false); name = (id (codes "v") 1 19) }) ∷ (record { kind = (Value false); name = (id (codes "w") 1 26) }) ∷ []); own = 12 })
    (tree.statement (tree.block (tree.statements ([]))) (at 1 29) (at 1 31) 2))
    ∷ (tree.function (record { result = (Some false); name = (id (codes "main") 2 5); params = ([]); own = 5 })
    (tree.statement (tree.block (tree.statements (
    (tree.statement (tree.declare ((record { kind = (tree.array false 2 (at 2 24)); name = (id (codes "a") 2 22) }) ∷ [])) (at 2 18) (at 2 26) 6)
    ∷ (tree.statement (tree.declare ((record { kind = (tree.word false None); name = (id (codes "z") 2 32) }) ∷ [])) (at 2 28) (at 2 33) 3)
    ∷ (tree.statement (tree.perform (result (id (codes "f") 2 35) ((record { value = (number 1 false 2 37); first = (at 2 37) }) ∷ (record { value = (index (codes "a") (binary 15 (name (codes "z") 2 42) (number 2 false 2 46) 2 44) 2 40); first = (at 2 40) }) ∷ (record { value = (binary 18 (number 1 false 2 50) (name (codes "z") 2 54) 2 52); first = (at 2 50) }) ∷ []))) (at 2 35) (at 2 56) 16)
    ∷ (tree.statement (tree.return_with (Some (tree.value (number 0 false 2 65)))) (at 2 58) (at 2 66) 3)
    ∷ []))) (at 2 16) (at 2 68) 2))
    ∷ []

argument_error : plays arguments no_stimulus (advance 0 ∷ []) ≡ both (going (Fault 0 (at 2 40) Index ∷ []))
unfolding copy_of
argument_error = refl

-- the right side comes before the index
-- int main(void) { int a[2]; int z; a[z + 2] = 1 / z; return 0; }
abbrev assignment : List tree.Item
assignment =
    (tree.function (record { result = (Some false); name = (id (codes "main") 1 5); params = ([]); own = 5 })
    (tree.statement (tree.block (tree.statements (
    (tree.statement (tree.declare ((record { kind = (tree.array false 2 (at 1 24)); name = (id (codes "a") 1 22) }) ∷ [])) (at 1 18) (at 1 26) 6)
    ∷ (tree.statement (tree.declare ((record { kind = (tree.word false None); name = (id (codes "z") 1 32) }) ∷ [])) (at 1 28) (at 1 33) 3)
    ∷ (tree.statement (tree.assign (index (codes "a") (binary 15 (name (codes "z") 1 37) (number 2 false 1 41) 1 39) 1 35) 22 (at 1 44) (tree.value (binary 18 (number 1 false 1 46) (name (codes "z") 1 50) 1 48))) (at 1 35) (at 1 51) 11)
    ∷ (tree.statement (tree.return_with (Some (tree.value (number 0 false 1 60)))) (at 1 53) (at 1 61) 3)
    ∷ []))) (at 1 16) (at 1 63) 2))
    ∷ []

right_side_error : plays assignment no_stimulus (advance 0 ∷ []) ≡ both (going (Fault 0 (at 1 48) Arithmetic ∷ []))
unfolding copy_of
right_side_error = refl
