-- Small programs as trees: each is written in the comment above it.
use Rattle.std.specs.Prelude.{true, false, List, [], ◌∷◌, Some, None, codes}
use Rattle.xc_tree.specs.declared.tree.TreeDir.TheVariants.{In, Out}
use Rattle.xc_tree.specs.declared.tree.ParamKind.TheVariants.{Value, Ref, Array, End, Port}
use Rattle.xc_tree.specs.Plain as tree
use Rattle.xc_kernel.proofs.Written.{at, id, number, name, index, unary, binary, choice, cast, result}

-- a timed output
-- out port p = XS1_PORT_1A;
-- int main(void) { p @ 100 <: 1; return 0; }
abbrev pub timed_output : List tree.Item
timed_output =
    (tree.port (record { place = None; dir = Out; name = id (codes "p") 1 10; ident = id (codes "XS1_PORT_1A") 1 14 }))
    ∷ (tree.function (record { result = Some false; name = id (codes "main") 2 5; params = []; own = 5 })
    (tree.statement (tree.block (tree.statements (
    (tree.statement (tree.output (record { name = id (codes "p") 2 18; time = (Some (record { «at» = at 2 20; value = (number 100 false 2 22) })); value = (number 1 false 2 29); stamp = None })) (at 2 18) (at 2 30) 6)
    ∷ (tree.statement (tree.return_with (Some (tree.value (number 0 false 2 39)))) (at 2 32) (at 2 40) 3)
    ∷ []))) (at 2 16) (at 2 42) 2))
    ∷ []

-- a word is handed over, and then output at a time
-- out port p = XS1_PORT_8A;
-- int main(void) { chan c; int x; par { c <: 7; c :> x; } p @ 30000 <: x; return 0; }
abbrev pub hand_over : List tree.Item
hand_over =
    (tree.port (record { place = None; dir = Out; name = id (codes "p") 1 10; ident = id (codes "XS1_PORT_8A") 1 14 }))
    ∷ (tree.function (record { result = Some false; name = id (codes "main") 2 5; params = []; own = 5 })
    (tree.statement (tree.block (tree.statements (
    (tree.statement (tree.declare ((record { kind = tree.channel false; name = id (codes "c") 2 23 }) ∷ [])) (at 2 18) (at 2 24) 3)
    ∷ (tree.statement (tree.declare ((record { kind = (tree.word false None); name = id (codes "x") 2 30 }) ∷ [])) (at 2 26) (at 2 31) 3)
    ∷ (tree.statement (tree.par (tree.branches (
    (tree.branch None (tree.statement (tree.output (record { name = id (codes "c") 2 39; time = None; value = (number 7 false 2 44); stamp = None })) (at 2 39) (at 2 45) 4))
    ∷ (tree.branch None (tree.statement (tree.input (record { name = id (codes "c") 2 47; time = None; condition = None; target = (tree.to (name (codes "x") 2 52)); stamp = None })) (at 2 47) (at 2 53) 4))
    ∷ []))) (at 2 33) (at 2 55) 3)
    ∷ (tree.statement (tree.output (record { name = id (codes "p") 2 57; time = (Some (record { «at» = at 2 59; value = (number 30000 false 2 61) })); value = (name (codes "x") 2 70); stamp = None })) (at 2 57) (at 2 71) 6)
    ∷ (tree.statement (tree.return_with (Some (tree.value (number 0 false 2 80)))) (at 2 73) (at 2 81) 3)
    ∷ []))) (at 2 16) (at 2 83) 2))
    ∷ []

-- an input that waits for its pins
-- in port b = XS1_PORT_1B;
-- int main(void) { int x; int t; b when pinseq(1) :> x @ t; return 0; }
abbrev pub conditional_input : List tree.Item
conditional_input =
    (tree.port (record { place = None; dir = In; name = id (codes "b") 1 9; ident = id (codes "XS1_PORT_1B") 1 13 }))
    ∷ (tree.function (record { result = Some false; name = id (codes "main") 2 5; params = []; own = 5 })
    (tree.statement (tree.block (tree.statements (
    (tree.statement (tree.declare ((record { kind = (tree.word false None); name = id (codes "x") 2 22 }) ∷ [])) (at 2 18) (at 2 23) 3)
    ∷ (tree.statement (tree.declare ((record { kind = (tree.word false None); name = id (codes "t") 2 29 }) ∷ [])) (at 2 25) (at 2 30) 3)
    ∷ (tree.statement (tree.input (record { name = id (codes "b") 2 32; time = None; condition = (Some (record { «at» = at 2 34; test = 17; value = (number 1 false 2 46) })); target = (tree.to (name (codes "x") 2 52)); stamp = (Some (record { «at» = at 2 54; value = (name (codes "t") 2 56) })) })) (at 2 32) (at 2 57) 11)
    ∷ (tree.statement (tree.return_with (Some (tree.value (number 0 false 2 66)))) (at 2 59) (at 2 67) 3)
    ∷ []))) (at 2 16) (at 2 69) 2))
    ∷ []

-- a select whose timer comes before its channel
-- out port p = XS1_PORT_1A;
-- void quiet(chanend c) { timer t; t when timerafter(9000) :> void; c <: 4; }
-- void both(chanend c) {
--   timer t; int x; int n = 0;
--   while (n < 2) {
--     select {
--       case c :> x: n = 2; break;
--       case n == 0 => t when timerafter(2000) :> void: p @ 5000 <: 1; n = 1; break;
--     }
--   }
-- }
-- int main(void) { chan c; par { quiet(c); both(c); } return 0; }
abbrev pub timer_case : List tree.Item
timer_case =
    (tree.port (record { place = None; dir = Out; name = id (codes "p") 1 10; ident = id (codes "XS1_PORT_1A") 1 14 }))
    ∷ (tree.function (record { result = None; name = id (codes "quiet") 2 6; params = ((record { kind = (End false); name = id (codes "c") 2 20 }) ∷ []); own = 6 })
    (tree.statement (tree.block (tree.statements (
    (tree.statement (tree.declare ((record { kind = tree.timer; name = id (codes "t") 2 31 }) ∷ [])) (at 2 25) (at 2 32) 3)
    ∷ (tree.statement (tree.input (record { name = id (codes "t") 2 34; time = None; condition = (Some (record { «at» = at 2 36; test = 25; value = (number 9000 false 2 52) })); target = tree.dropped; stamp = None })) (at 2 34) (at 2 65) 9)
    ∷ (tree.statement (tree.output (record { name = id (codes "c") 2 67; time = None; value = (number 4 false 2 72); stamp = None })) (at 2 67) (at 2 73) 4)
    ∷ []))) (at 2 23) (at 2 75) 2))
    ∷ (tree.function (record { result = None; name = id (codes "both") 3 6; params = ((record { kind = (End false); name = id (codes "c") 3 19 }) ∷ []); own = 6 })
    (tree.statement (tree.block (tree.statements (
    (tree.statement (tree.declare ((record { kind = tree.timer; name = id (codes "t") 4 9 }) ∷ [])) (at 4 3) (at 4 10) 3)
    ∷ (tree.statement (tree.declare ((record { kind = (tree.word false None); name = id (codes "x") 4 16 }) ∷ [])) (at 4 12) (at 4 17) 3)
    ∷ (tree.statement (tree.declare ((record { kind = (tree.word false (Some (tree.value (number 0 false 4 27)))); name = id (codes "n") 4 23 }) ∷ [])) (at 4 19) (at 4 28) 5)
    ∷ (tree.statement (tree.while_loop (binary 20 (name (codes "n") 5 10) (number 2 false 5 14) 5 12) (tree.statement (tree.block (tree.statements (
    (tree.statement (tree.select (tree.cases (
    (tree.case (at 7 7) None (Some (record { name = id (codes "c") 7 12; time = None; condition = None; target = (tree.to (name (codes "x") 7 17)); stamp = None }))
    (tree.statements (
    (tree.statement (tree.assign (name (codes "n") 7 20) 22 (at 7 22) (tree.value (number 2 false 7 24))) (at 7 20) (at 7 25) 4) ∷ [])))
    ∷ (tree.case (at 8 7) (Some (binary 27 (name (codes "n") 8 12) (number 0 false 8 17) 8 14)) (Some (record { name = id (codes "t") 8 22; time = None; condition = (Some (record { «at» = at 8 24; test = 25; value = (number 2000 false 8 40) })); target = tree.dropped; stamp = None }))
    (tree.statements (
    (tree.statement (tree.output (record { name = id (codes "p") 8 55; time = (Some (record { «at» = at 8 57; value = (number 5000 false 8 59) })); value = (number 1 false 8 67); stamp = None })) (at 8 55) (at 8 68) 6)
    ∷ (tree.statement (tree.assign (name (codes "n") 8 70) 22 (at 8 72) (tree.value (number 1 false 8 74))) (at 8 70) (at 8 75) 4) ∷ [])))
    ∷ []))) (at 6 5) (at 9 5) 26)
    ∷ []))) (at 5 17) (at 10 3) 2)) (at 5 3) (at 10 3) 6)
    ∷ []))) (at 3 22) (at 11 1) 2))
    ∷ (tree.function (record { result = Some false; name = id (codes "main") 12 5; params = []; own = 5 })
    (tree.statement (tree.block (tree.statements (
    (tree.statement (tree.declare ((record { kind = tree.channel false; name = id (codes "c") 12 23 }) ∷ [])) (at 12 18) (at 12 24) 3)
    ∷ (tree.statement (tree.par (tree.branches (
    (tree.branch None (tree.statement (tree.perform (result (id (codes "quiet") 12 32) ((record { value = (name (codes "c") 12 38); first = at 12 38 })
    ∷ []))) (at 12 32) (at 12 40) 5))
    ∷ (tree.branch None (tree.statement (tree.perform (result (id (codes "both") 12 42) ((record { value = (name (codes "c") 12 47); first = at 12 47 })
    ∷ []))) (at 12 42) (at 12 49) 5))
    ∷ []))) (at 12 26) (at 12 51) 3)
    ∷ (tree.statement (tree.return_with (Some (tree.value (number 0 false 12 60)))) (at 12 53) (at 12 61) 3)
    ∷ []))) (at 12 16) (at 12 63) 2))
    ∷ []

-- a case whose guard is off, and a default
-- out port p = XS1_PORT_1A;
-- void g(chanend c) {
--   int x;
--   select {
--     case 0 => c :> x: p @ 4000 <: 0; break;
--     default: p @ 5000 <: 1; break;
--   }
--   c :> x;
-- }
-- int main(void) { chan c; par { c <: 3; g(c); } return 0; }
abbrev pub guard_off : List tree.Item
guard_off =
    (tree.port (record { place = None; dir = Out; name = id (codes "p") 1 10; ident = id (codes "XS1_PORT_1A") 1 14 }))
    ∷ (tree.function (record { result = None; name = id (codes "g") 2 6; params = ((record { kind = (End false); name = id (codes "c") 2 16 }) ∷ []); own = 6 })
    (tree.statement (tree.block (tree.statements (
    (tree.statement (tree.declare ((record { kind = (tree.word false None); name = id (codes "x") 3 7 }) ∷ [])) (at 3 3) (at 3 8) 3)
    ∷ (tree.statement (tree.select (tree.cases (
    (tree.case (at 5 5) (Some (number 0 false 5 10)) (Some (record { name = id (codes "c") 5 15; time = None; condition = None; target = (tree.to (name (codes "x") 5 20)); stamp = None }))
    (tree.statements (
    (tree.statement (tree.output (record { name = id (codes "p") 5 23; time = (Some (record { «at» = at 5 25; value = (number 4000 false 5 27) })); value = (number 0 false 5 35); stamp = None })) (at 5 23) (at 5 36) 6) ∷ [])))
    ∷ (tree.case (at 6 5) None None
    (tree.statements (
    (tree.statement (tree.output (record { name = id (codes "p") 6 14; time = (Some (record { «at» = at 6 16; value = (number 5000 false 6 18) })); value = (number 1 false 6 26); stamp = None })) (at 6 14) (at 6 27) 6) ∷ [])))
    ∷ []))) (at 4 3) (at 7 3) 16)
    ∷ (tree.statement (tree.input (record { name = id (codes "c") 8 3; time = None; condition = None; target = (tree.to (name (codes "x") 8 8)); stamp = None })) (at 8 3) (at 8 9) 4)
    ∷ []))) (at 2 19) (at 9 1) 2))
    ∷ (tree.function (record { result = Some false; name = id (codes "main") 10 5; params = []; own = 5 })
    (tree.statement (tree.block (tree.statements (
    (tree.statement (tree.declare ((record { kind = tree.channel false; name = id (codes "c") 10 23 }) ∷ [])) (at 10 18) (at 10 24) 3)
    ∷ (tree.statement (tree.par (tree.branches (
    (tree.branch None (tree.statement (tree.output (record { name = id (codes "c") 10 32; time = None; value = (number 3 false 10 37); stamp = None })) (at 10 32) (at 10 38) 4))
    ∷ (tree.branch None (tree.statement (tree.perform (result (id (codes "g") 10 40) ((record { value = (name (codes "c") 10 42); first = at 10 42 })
    ∷ []))) (at 10 40) (at 10 44) 5))
    ∷ []))) (at 10 26) (at 10 46) 3)
    ∷ (tree.statement (tree.return_with (Some (tree.value (number 0 false 10 55)))) (at 10 48) (at 10 56) 3)
    ∷ []))) (at 10 16) (at 10 58) 2))
    ∷ []

-- a quotient that is no word
-- int main(void) {
--   int x = 1 << 31; int y = -1;
--   x = x / y;
--   return 0;
-- }
abbrev pub divided : List tree.Item
divided =
    (tree.function (record { result = Some false; name = id (codes "main") 1 5; params = []; own = 5 })
    (tree.statement (tree.block (tree.statements (
    (tree.statement (tree.declare ((record { kind = (tree.word false (Some (tree.value (binary 33 (number 1 false 2 11) (number 31 false 2 16) 2 13)))); name = id (codes "x") 2 7 }) ∷ [])) (at 2 3) (at 2 18) 7)
    ∷ (tree.statement (tree.declare ((record { kind = (tree.word false (Some (tree.value (unary 16 (number 1 false 2 29) 2 28)))); name = id (codes "y") 2 24 }) ∷ [])) (at 2 20) (at 2 30) 6)
    ∷ (tree.statement (tree.assign (name (codes "x") 3 3) 22 (at 3 5) (tree.value (binary 18 (name (codes "x") 3 7) (name (codes "y") 3 11) 3 9))) (at 3 3) (at 3 12) 6)
    ∷ (tree.statement (tree.return_with (Some (tree.value (number 0 false 4 10)))) (at 4 3) (at 4 11) 3)
    ∷ []))) (at 1 16) (at 5 1) 2))
    ∷ []

-- an index out of range, while another branch goes on
-- out port p = XS1_PORT_1A;
-- int main(void) {
--   int a[10]; int i = 10;
--   par {
--     a[i] = 1;
--     p @ 40000 <: 1;
--   }
--   return 0;
-- }
abbrev pub out_of_range : List tree.Item
out_of_range =
    (tree.port (record { place = None; dir = Out; name = id (codes "p") 1 10; ident = id (codes "XS1_PORT_1A") 1 14 }))
    ∷ (tree.function (record { result = Some false; name = id (codes "main") 2 5; params = []; own = 5 })
    (tree.statement (tree.block (tree.statements (
    (tree.statement (tree.declare ((record { kind = (tree.array false 10 (at 3 9)); name = id (codes "a") 3 7 }) ∷ [])) (at 3 3) (at 3 12) 6)
    ∷ (tree.statement (tree.declare ((record { kind = (tree.word false (Some (tree.value (number 10 false 3 22)))); name = id (codes "i") 3 18 }) ∷ [])) (at 3 14) (at 3 24) 5)
    ∷ (tree.statement (tree.par (tree.branches (
    (tree.branch None (tree.statement (tree.assign (index (codes "a") (name (codes "i") 5 7) 5 5) 22 (at 5 10) (tree.value (number 1 false 5 12))) (at 5 5) (at 5 13) 7))
    ∷ (tree.branch None (tree.statement (tree.output (record { name = id (codes "p") 6 5; time = (Some (record { «at» = at 6 7; value = (number 40000 false 6 9) })); value = (number 1 false 6 18); stamp = None })) (at 6 5) (at 6 19) 6))
    ∷ []))) (at 4 3) (at 7 3) 3)
    ∷ (tree.statement (tree.return_with (Some (tree.value (number 0 false 8 10)))) (at 8 3) (at 8 11) 3)
    ∷ []))) (at 2 16) (at 9 1) 2))
    ∷ []

-- a transaction with one word too many
-- void m(chanend c) { master { c <: 1; c <: 2; c <: 3; } }
-- void s(chanend c) {
--   int x;
--   slave {
--     c :> x; c :> x;
--   }
-- }
-- int main(void) { chan c; par { m(c); s(c); } return 0; }
abbrev pub word_too_many : List tree.Item
word_too_many =
    (tree.function (record { result = None; name = id (codes "m") 1 6; params = ((record { kind = (End false); name = id (codes "c") 1 16 }) ∷ []); own = 6 })
    (tree.statement (tree.block (tree.statements (
    (tree.statement (tree.transaction true (tree.statements (
    (tree.statement (tree.output (record { name = id (codes "c") 1 30; time = None; value = (number 1 false 1 35); stamp = None })) (at 1 30) (at 1 36) 4)
    ∷ (tree.statement (tree.output (record { name = id (codes "c") 1 38; time = None; value = (number 2 false 1 43); stamp = None })) (at 1 38) (at 1 44) 4)
    ∷ (tree.statement (tree.output (record { name = id (codes "c") 1 46; time = None; value = (number 3 false 1 51); stamp = None })) (at 1 46) (at 1 52) 4)
    ∷ []))) (at 1 21) (at 1 54) 3)
    ∷ []))) (at 1 19) (at 1 56) 2))
    ∷ (tree.function (record { result = None; name = id (codes "s") 2 6; params = ((record { kind = (End false); name = id (codes "c") 2 16 }) ∷ []); own = 6 })
    (tree.statement (tree.block (tree.statements (
    (tree.statement (tree.declare ((record { kind = (tree.word false None); name = id (codes "x") 3 7 }) ∷ [])) (at 3 3) (at 3 8) 3)
    ∷ (tree.statement (tree.transaction false (tree.statements (
    (tree.statement (tree.input (record { name = id (codes "c") 5 5; time = None; condition = None; target = (tree.to (name (codes "x") 5 10)); stamp = None })) (at 5 5) (at 5 11) 4)
    ∷ (tree.statement (tree.input (record { name = id (codes "c") 5 13; time = None; condition = None; target = (tree.to (name (codes "x") 5 18)); stamp = None })) (at 5 13) (at 5 19) 4)
    ∷ []))) (at 4 3) (at 6 3) 3)
    ∷ []))) (at 2 19) (at 7 1) 2))
    ∷ (tree.function (record { result = Some false; name = id (codes "main") 8 5; params = []; own = 5 })
    (tree.statement (tree.block (tree.statements (
    (tree.statement (tree.declare ((record { kind = tree.channel false; name = id (codes "c") 8 23 }) ∷ [])) (at 8 18) (at 8 24) 3)
    ∷ (tree.statement (tree.par (tree.branches (
    (tree.branch None (tree.statement (tree.perform (result (id (codes "m") 8 32) ((record { value = (name (codes "c") 8 34); first = at 8 34 })
    ∷ []))) (at 8 32) (at 8 36) 5))
    ∷ (tree.branch None (tree.statement (tree.perform (result (id (codes "s") 8 38) ((record { value = (name (codes "c") 8 40); first = at 8 40 })
    ∷ []))) (at 8 38) (at 8 42) 5))
    ∷ []))) (at 8 26) (at 8 44) 3)
    ∷ (tree.statement (tree.return_with (Some (tree.value (number 0 false 8 53)))) (at 8 46) (at 8 54) 3)
    ∷ []))) (at 8 16) (at 8 56) 2))
    ∷ []

-- two branches of which each waits for the other
-- int main(void) { chan c; int x; int y; par { c :> x; c :> y; } return 0; }
abbrev pub both_input : List tree.Item
both_input =
    (tree.function (record { result = Some false; name = id (codes "main") 1 5; params = []; own = 5 })
    (tree.statement (tree.block (tree.statements (
    (tree.statement (tree.declare ((record { kind = tree.channel false; name = id (codes "c") 1 23 }) ∷ [])) (at 1 18) (at 1 24) 3)
    ∷ (tree.statement (tree.declare ((record { kind = (tree.word false None); name = id (codes "x") 1 30 }) ∷ [])) (at 1 26) (at 1 31) 3)
    ∷ (tree.statement (tree.declare ((record { kind = (tree.word false None); name = id (codes "y") 1 37 }) ∷ [])) (at 1 33) (at 1 38) 3)
    ∷ (tree.statement (tree.par (tree.branches (
    (tree.branch None (tree.statement (tree.input (record { name = id (codes "c") 1 46; time = None; condition = None; target = (tree.to (name (codes "x") 1 51)); stamp = None })) (at 1 46) (at 1 52) 4))
    ∷ (tree.branch None (tree.statement (tree.input (record { name = id (codes "c") 1 54; time = None; condition = None; target = (tree.to (name (codes "y") 1 59)); stamp = None })) (at 1 54) (at 1 60) 4))
    ∷ []))) (at 1 40) (at 1 62) 3)
    ∷ (tree.statement (tree.return_with (Some (tree.value (number 0 false 1 71)))) (at 1 64) (at 1 72) 3)
    ∷ []))) (at 1 16) (at 1 74) 2))
    ∷ []

-- many kinds of statements
-- out port p = XS1_PORT_16A;
-- in port q = XS1_PORT_1B;
-- int twice(int v) { return v * 2; }
-- unsigned bump(int &x, int a[], int n) { int i; for (i = 0; i < n; i++) { if (i == 2) continue; a[i] += x; if (i == 5) break; } x++; return (unsigned) x >> 1; }
-- void inc(unsigned &u) { u -= 1; }
-- int main(void) {
--   int a[4]; unsigned b[3]; int s = 3, t; int k = twice(s);
--   ;
--   do { t = twice(k + 1); k = t > 20 && s != 0 ? 9 : t; } while (k < 9);
--   b[1] = bump(s, a, 4);
--   inc(b[a[0] - a[0] + 1]);
--   p <: b[1] @ t;
--   q when pinsneq(1) :> int z @ a[2];
--   { int s; s = z; }
--   par (int i = 2; i < 4; i++) { int w; w = i + 1; { int w2 = twice(w); w = w2; } }
--   for (;;) { if (!s) { } else break; }
--   select { case q @ 5 :> int y: t = y; break; default: t = ~s; twice(4); break; }
--   return twice(s);
-- }
abbrev pub mixed : List tree.Item
mixed =
    (tree.port (record { place = None; dir = Out; name = id (codes "p") 1 10; ident = id (codes "XS1_PORT_16A") 1 14 }))
    ∷ (tree.port (record { place = None; dir = In; name = id (codes "q") 2 9; ident = id (codes "XS1_PORT_1B") 2 13 }))
    ∷ (tree.function (record { result = Some false; name = id (codes "twice") 3 5; params = ((record { kind = (Value false); name = id (codes "v") 3 15 }) ∷ []); own = 6 })
    (tree.statement (tree.block (tree.statements (
    (tree.statement (tree.return_with (Some (tree.value (binary 17 (name (codes "v") 3 27) (number 2 false 3 31) 3 29)))) (at 3 20) (at 3 32) 5)
    ∷ []))) (at 3 18) (at 3 34) 2))
    ∷ (tree.function (record { result = Some true; name = id (codes "bump") 4 10; params = ((record { kind = (Ref false); name = id (codes "x") 4 20 }) ∷ (record { kind = (Array false None); name = id (codes "a") 4 27 }) ∷ (record { kind = (Value false); name = id (codes "n") 4 36 }) ∷ []); own = 15 })
    (tree.statement (tree.block (tree.statements (
    (tree.statement (tree.declare ((record { kind = (tree.word false None); name = id (codes "i") 4 45 }) ∷ [])) (at 4 41) (at 4 46) 3)
    ∷ (tree.statement (tree.for_loop (tree.present (tree.statement (tree.assign (name (codes "i") 4 53) 22 (at 4 55) (tree.value (number 0 false 4 57))) (at 4 53) (at 4 57) 3)) (Some (binary 20 (name (codes "i") 4 60) (name (codes "n") 4 64) 4 62)) (tree.present (tree.statement (tree.step (name (codes "i") 4 67) 35) (at 4 67) (at 4 68) 2)) (tree.statement (tree.block (tree.statements (
    (tree.statement (tree.if_then (binary 27 (name (codes "i") 4 78) (number 2 false 4 83) 4 80) (tree.statement tree.continue_on (at 4 86) (at 4 94) 2) tree.absent) (at 4 74) (at 4 94) 6)
    ∷ (tree.statement (tree.assign (index (codes "a") (name (codes "i") 4 98) 4 96) 37 (at 4 101) (tree.value (name (codes "x") 4 104))) (at 4 96) (at 4 105) 7)
    ∷ (tree.statement (tree.if_then (binary 27 (name (codes "i") 4 111) (number 5 false 4 116) 4 113) (tree.statement tree.break_out (at 4 119) (at 4 124) 2) tree.absent) (at 4 107) (at 4 124) 6)
    ∷ []))) (at 4 72) (at 4 126) 2)) (at 4 48) (at 4 126) 8)
    ∷ (tree.statement (tree.step (name (codes "x") 4 128) 35) (at 4 128) (at 4 131) 3)
    ∷ (tree.statement (tree.return_with (Some (tree.value (binary 34 (cast true (name (codes "x") 4 151) 4 140) (number 1 false 4 156) 4 153)))) (at 4 133) (at 4 157) 8)
    ∷ []))) (at 4 39) (at 4 159) 2))
    ∷ (tree.function (record { result = None; name = id (codes "inc") 5 6; params = ((record { kind = (Ref true); name = id (codes "u") 5 20 }) ∷ []); own = 7 })
    (tree.statement (tree.block (tree.statements (
    (tree.statement (tree.assign (name (codes "u") 5 25) 38 (at 5 27) (tree.value (number 1 false 5 30))) (at 5 25) (at 5 31) 4)
    ∷ []))) (at 5 23) (at 5 33) 2))
    ∷ (tree.function (record { result = Some false; name = id (codes "main") 6 5; params = []; own = 5 })
    (tree.statement (tree.block (tree.statements (
    (tree.statement (tree.declare ((record { kind = (tree.array false 4 (at 7 9)); name = id (codes "a") 7 7 }) ∷ [])) (at 7 3) (at 7 11) 6)
    ∷ (tree.statement (tree.declare ((record { kind = (tree.array true 3 (at 7 24)); name = id (codes "b") 7 22 }) ∷ [])) (at 7 13) (at 7 26) 6)
    ∷ (tree.statement (tree.declare ((record { kind = (tree.word false (Some (tree.value (number 3 false 7 36)))); name = id (codes "s") 7 32 }) ∷ (record { kind = (tree.word false None); name = id (codes "t") 7 39 }) ∷ [])) (at 7 28) (at 7 40) 7)
    ∷ (tree.statement (tree.declare ((record { kind = (tree.word false (Some (result (id (codes "twice") 7 50) ((record { value = (name (codes "s") 7 56); first = at 7 56 }) ∷ [])))); name = id (codes "k") 7 46 }) ∷ [])) (at 7 42) (at 7 58) 8)
    ∷ (tree.statement tree.empty (at 8 3) (at 8 3) 1)
    ∷ (tree.statement (tree.do_while (tree.statement (tree.block (tree.statements (
    (tree.statement (tree.assign (name (codes "t") 9 8) 22 (at 9 10) (result (id (codes "twice") 9 12) ((record { value = (binary 15 (name (codes "k") 9 18) (number 1 false 9 22) 9 20); first = at 9 18 })
    ∷ []))) (at 9 8) (at 9 24) 9)
    ∷ (tree.statement (tree.assign (name (codes "k") 9 26) 22 (at 9 28) (tree.value (choice (binary 31 (binary 21 (name (codes "t") 9 30) (number 20 false 9 34) 9 32) (binary 28 (name (codes "s") 9 40) (number 0 false 9 45) 9 42) 9 37) (number 9 false 9 49) (name (codes "t") 9 53) 9 47))) (at 9 26) (at 9 54) 14)
    ∷ []))) (at 9 6) (at 9 56) 2) (binary 20 (name (codes "k") 9 65) (number 9 false 9 69) 9 67)) (at 9 3) (at 9 71) 8)
    ∷ (tree.statement (tree.assign (index (codes "b") (number 1 false 10 5) 10 3) 22 (at 10 8) (result (id (codes "bump") 10 10) ((record { value = (name (codes "s") 10 15); first = at 10 15 }) ∷ (record { value = (name (codes "a") 10 18); first = at 10 18 }) ∷ (record { value = (number 4 false 10 21); first = at 10 21 })
    ∷ []))) (at 10 3) (at 10 23) 14)
    ∷ (tree.statement (tree.perform (result (id (codes "inc") 11 3) ((record { value = (index (codes "b") (binary 15 (binary 16 (index (codes "a") (number 0 false 11 11) 11 9) (index (codes "a") (number 0 false 11 18) 11 16) 11 14) (number 1 false 11 23) 11 21) 11 7); first = at 11 7 })
    ∷ []))) (at 11 3) (at 11 26) 18)
    ∷ (tree.statement (tree.output (record { name = id (codes "p") 12 3; time = None; value = (index (codes "b") (number 1 false 12 10) 12 8); stamp = (Some (record { «at» = at 12 13; value = (name (codes "t") 12 15) })) })) (at 12 3) (at 12 16) 9)
    ∷ (tree.statement (tree.input (record { name = id (codes "q") 13 3; time = None; condition = (Some (record { «at» = at 13 5; test = 18; value = (number 1 false 13 18) })); target = (tree.fresh false (id (codes "z") 13 28)); stamp = (Some (record { «at» = at 13 30; value = (index (codes "a") (number 2 false 13 34) 13 32) })) })) (at 13 3) (at 13 36) 15)
    ∷ (tree.statement (tree.block (tree.statements (
    (tree.statement (tree.declare ((record { kind = (tree.word false None); name = id (codes "s") 14 9 }) ∷ [])) (at 14 5) (at 14 10) 3)
    ∷ (tree.statement (tree.assign (name (codes "s") 14 12) 22 (at 14 14) (tree.value (name (codes "z") 14 16))) (at 14 12) (at 14 17) 4)
    ∷ []))) (at 14 3) (at 14 19) 2)
    ∷ (tree.statement (tree.replicated (id (codes "i") 15 12) (id (codes "i") 15 19) (id (codes "i") 15 26) 2 4 (tree.branch None (tree.statement (tree.block
    (tree.statements (
    (tree.statement (tree.declare ((record { kind = (tree.word false None); name = id (codes "w") 15 37 }) ∷ [])) (at 15 33) (at 15 38) 3)
    ∷ (tree.statement (tree.assign (name (codes "w") 15 40) 22 (at 15 42) (tree.value (binary 15 (name (codes "i") 15 44) (number 1 false 15 48) 15 46))) (at 15 40) (at 15 49) 6)
    ∷ (tree.statement (tree.block (tree.statements (
    (tree.statement (tree.declare ((record { kind = (tree.word false (Some (result (id (codes "twice") 15 62) ((record { value = (name (codes "w") 15 68); first = at 15 68 }) ∷ [])))); name = id (codes "w2") 15 57 }) ∷ [])) (at 15 53) (at 15 70) 8)
    ∷ (tree.statement (tree.assign (name (codes "w") 15 72) 22 (at 15 74) (tree.value (name (codes "w2") 15 76))) (at 15 72) (at 15 78) 4)
    ∷ []))) (at 15 51) (at 15 80) 2)
    ∷ []))) (at 15 31) (at 15 82) 2))) (at 15 3) (at 15 82) 14)
    ∷ (tree.statement (tree.for_loop tree.absent None tree.absent (tree.statement (tree.block (tree.statements (
    (tree.statement (tree.if_then (unary 14 (name (codes "s") 16 19) 16 18) (tree.statement (tree.block (tree.statements [])) (at 16 22) (at 16 24) 2) (tree.present (tree.statement tree.break_out (at 16 31) (at 16 36) 2))) (at 16 14) (at 16 36) 6)
    ∷ []))) (at 16 12) (at 16 38) 2)) (at 16 3) (at 16 38) 5)
    ∷ (tree.statement (tree.select (tree.cases (
    (tree.case (at 17 12) None (Some (record { name = id (codes "q") 17 17; time = (Some (record { «at» = at 17 19; value = (number 5 false 17 21) })); condition = None; target = (tree.fresh false (id (codes "y") 17 30)); stamp = None }))
    (tree.statements (
    (tree.statement (tree.assign (name (codes "t") 17 33) 22 (at 17 35) (tree.value (name (codes "y") 17 37))) (at 17 33) (at 17 38) 4) ∷ [])))
    ∷ (tree.case (at 17 47) None None
    (tree.statements (
    (tree.statement (tree.assign (name (codes "t") 17 56) 22 (at 17 58) (tree.value (unary 13 (name (codes "s") 17 61) 17 60))) (at 17 56) (at 17 62) 5)
    ∷ (tree.statement (tree.perform (result (id (codes "twice") 17 64) ((record { value = (number 4 false 17 70); first = at 17 70 })
    ∷ []))) (at 17 64) (at 17 72) 5) ∷ [])))
    ∷ []))) (at 17 3) (at 17 81) 17)
    ∷ (tree.statement (tree.return_with (Some (result (id (codes "twice") 18 10) ((record { value = (name (codes "s") 18 16); first = at 18 16 }) ∷ [])))) (at 18 3) (at 18 18) 6)
    ∷ []))) (at 6 16) (at 19 1) 2))
    ∷ []

-- branches on two cores
-- on stdcore[1] : out port p = XS1_PORT_4A;
-- void a(chanend c) { c <: 20; }
-- void b(out port q, chanend c) { int x; c :> x; q @ 700 <: x; }
-- int main(void) { chan c; par { on tile[0] : a(c); on tile[1] : b(p, c); } return 0; }
abbrev pub two_cores : List tree.Item
two_cores =
    (tree.port (record { place = (Some (record { on = at 1 1; first = at 1 12; value = (number 1 false 1 12) })); dir = Out; name = id (codes "p") 1 26; ident = id (codes "XS1_PORT_4A") 1 30 }))
    ∷ (tree.function (record { result = None; name = id (codes "a") 2 6; params = ((record { kind = (End false); name = id (codes "c") 2 16 }) ∷ []); own = 6 })
    (tree.statement (tree.block (tree.statements (
    (tree.statement (tree.output (record { name = id (codes "c") 2 21; time = None; value = (number 20 false 2 26); stamp = None })) (at 2 21) (at 2 28) 4)
    ∷ []))) (at 2 19) (at 2 30) 2))
    ∷ (tree.function (record { result = None; name = id (codes "b") 3 6; params = ((record { kind = (Port Out); name = id (codes "q") 3 17 }) ∷ (record { kind = (End false); name = id (codes "c") 3 28 }) ∷ []); own = 10 })
    (tree.statement (tree.block (tree.statements (
    (tree.statement (tree.declare ((record { kind = (tree.word false None); name = id (codes "x") 3 37 }) ∷ [])) (at 3 33) (at 3 38) 3)
    ∷ (tree.statement (tree.input (record { name = id (codes "c") 3 40; time = None; condition = None; target = (tree.to (name (codes "x") 3 45)); stamp = None })) (at 3 40) (at 3 46) 4)
    ∷ (tree.statement (tree.output (record { name = id (codes "q") 3 48; time = (Some (record { «at» = at 3 50; value = (number 700 false 3 52) })); value = (name (codes "x") 3 59); stamp = None })) (at 3 48) (at 3 60) 6)
    ∷ []))) (at 3 31) (at 3 62) 2))
    ∷ (tree.function (record { result = Some false; name = id (codes "main") 4 5; params = []; own = 5 })
    (tree.statement (tree.block (tree.statements (
    (tree.statement (tree.declare ((record { kind = tree.channel false; name = id (codes "c") 4 23 }) ∷ [])) (at 4 18) (at 4 24) 3)
    ∷ (tree.statement (tree.par (tree.branches (
    (tree.branch (Some (record { on = at 4 32; first = at 4 40; value = (number 0 false 4 40) })) (tree.statement (tree.perform (result (id (codes "a") 4 45) ((record { value = (name (codes "c") 4 47); first = at 4 47 })
    ∷ []))) (at 4 45) (at 4 49) 5))
    ∷ (tree.branch (Some (record { on = at 4 51; first = at 4 59; value = (number 1 false 4 59) })) (tree.statement (tree.perform (result (id (codes "b") 4 64) ((record { value = (name (codes "p") 4 66); first = at 4 66 }) ∷ (record { value = (name (codes "c") 4 69); first = at 4 69 })
    ∷ []))) (at 4 64) (at 4 71) 7))
    ∷ []))) (at 4 26) (at 4 73) 15)
    ∷ (tree.statement (tree.return_with (Some (tree.value (number 0 false 4 82)))) (at 4 75) (at 4 83) 3)
    ∷ []))) (at 4 16) (at 4 85) 2))
    ∷ []

-- a transaction that ends on both sides
-- void m(chanend c) { master { c <: 1; c <: 2; } }
-- void s(chanend c) { int x; slave { c :> x; c :> x; } }
-- int main(void) { chan c; par { m(c); s(c); } return 0; }
abbrev pub agreed : List tree.Item
agreed =
    (tree.function (record { result = None; name = id (codes "m") 1 6; params = ((record { kind = (End false); name = id (codes "c") 1 16 }) ∷ []); own = 6 })
    (tree.statement (tree.block (tree.statements (
    (tree.statement (tree.transaction true (tree.statements (
    (tree.statement (tree.output (record { name = id (codes "c") 1 30; time = None; value = (number 1 false 1 35); stamp = None })) (at 1 30) (at 1 36) 4)
    ∷ (tree.statement (tree.output (record { name = id (codes "c") 1 38; time = None; value = (number 2 false 1 43); stamp = None })) (at 1 38) (at 1 44) 4)
    ∷ []))) (at 1 21) (at 1 46) 3)
    ∷ []))) (at 1 19) (at 1 48) 2))
    ∷ (tree.function (record { result = None; name = id (codes "s") 2 6; params = ((record { kind = (End false); name = id (codes "c") 2 16 }) ∷ []); own = 6 })
    (tree.statement (tree.block (tree.statements (
    (tree.statement (tree.declare ((record { kind = (tree.word false None); name = id (codes "x") 2 25 }) ∷ [])) (at 2 21) (at 2 26) 3)
    ∷ (tree.statement (tree.transaction false (tree.statements (
    (tree.statement (tree.input (record { name = id (codes "c") 2 36; time = None; condition = None; target = (tree.to (name (codes "x") 2 41)); stamp = None })) (at 2 36) (at 2 42) 4)
    ∷ (tree.statement (tree.input (record { name = id (codes "c") 2 44; time = None; condition = None; target = (tree.to (name (codes "x") 2 49)); stamp = None })) (at 2 44) (at 2 50) 4)
    ∷ []))) (at 2 28) (at 2 52) 3)
    ∷ []))) (at 2 19) (at 2 54) 2))
    ∷ (tree.function (record { result = Some false; name = id (codes "main") 3 5; params = []; own = 5 })
    (tree.statement (tree.block (tree.statements (
    (tree.statement (tree.declare ((record { kind = tree.channel false; name = id (codes "c") 3 23 }) ∷ [])) (at 3 18) (at 3 24) 3)
    ∷ (tree.statement (tree.par (tree.branches (
    (tree.branch None (tree.statement (tree.perform (result (id (codes "m") 3 32) ((record { value = (name (codes "c") 3 34); first = at 3 34 })
    ∷ []))) (at 3 32) (at 3 36) 5))
    ∷ (tree.branch None (tree.statement (tree.perform (result (id (codes "s") 3 38) ((record { value = (name (codes "c") 3 40); first = at 3 40 })
    ∷ []))) (at 3 38) (at 3 42) 5))
    ∷ []))) (at 3 26) (at 3 44) 3)
    ∷ (tree.statement (tree.return_with (Some (tree.value (number 0 false 3 53)))) (at 3 46) (at 3 54) 3)
    ∷ []))) (at 3 16) (at 3 56) 2))
    ∷ []

-- a select whose case samples a port
-- in port b = XS1_PORT_1B;
-- int main(void) { int x; int t; select { case b when pinseq(1) :> x @ t: break; } return 0; }
abbrev pub sampled : List tree.Item
sampled =
    (tree.port (record { place = None; dir = In; name = id (codes "b") 1 9; ident = id (codes "XS1_PORT_1B") 1 13 }))
    ∷ (tree.function (record { result = Some false; name = id (codes "main") 2 5; params = []; own = 5 })
    (tree.statement (tree.block (tree.statements (
    (tree.statement (tree.declare ((record { kind = (tree.word false None); name = id (codes "x") 2 22 }) ∷ [])) (at 2 18) (at 2 23) 3)
    ∷ (tree.statement (tree.declare ((record { kind = (tree.word false None); name = id (codes "t") 2 29 }) ∷ [])) (at 2 25) (at 2 30) 3)
    ∷ (tree.statement (tree.select (tree.cases (
    (tree.case (at 2 41) None (Some (record { name = id (codes "b") 2 46; time = None; condition = (Some (record { «at» = at 2 48; test = 17; value = (number 1 false 2 60) })); target = (tree.to (name (codes "x") 2 66)); stamp = (Some (record { «at» = at 2 68; value = (name (codes "t") 2 70) })) })) (tree.statements []))
    ∷ []))) (at 2 32) (at 2 80) 17)
    ∷ (tree.statement (tree.return_with (Some (tree.value (number 0 false 2 89)))) (at 2 82) (at 2 90) 3)
    ∷ []))) (at 2 16) (at 2 92) 2))
    ∷ []

-- a `par` of two branches, one of one, and one of three
-- int main(void) { par { ; ; } par { ; } par { ; ; ; } return 0; }
abbrev pub three_pars : List tree.Item
three_pars =
    (tree.function (record { result = Some false; name = id (codes "main") 1 5; params = []; own = 5 })
    (tree.statement (tree.block (tree.statements (
    (tree.statement (tree.par (tree.branches (
    (tree.branch None (tree.statement tree.empty (at 1 24) (at 1 24) 1))
    ∷ (tree.branch None (tree.statement tree.empty (at 1 26) (at 1 26) 1))
    ∷ []))) (at 1 18) (at 1 28) 3)
    ∷ (tree.statement (tree.par (tree.branches (
    (tree.branch None (tree.statement tree.empty (at 1 36) (at 1 36) 1))
    ∷ []))) (at 1 30) (at 1 38) 3)
    ∷ (tree.statement (tree.par (tree.branches (
    (tree.branch None (tree.statement tree.empty (at 1 46) (at 1 46) 1))
    ∷ (tree.branch None (tree.statement tree.empty (at 1 48) (at 1 48) 1))
    ∷ (tree.branch None (tree.statement tree.empty (at 1 50) (at 1 50) 1))
    ∷ []))) (at 1 40) (at 1 52) 3)
    ∷ (tree.statement (tree.return_with (Some (tree.value (number 0 false 1 61)))) (at 1 54) (at 1 62) 3)
    ∷ []))) (at 1 16) (at 1 64) 2))
    ∷ []

-- a function whose head has more tokens than any statement
-- void f(int u, int v, int w, int z) { }
-- int main(void) { f(1, 2, 3, 4); return 0; }
abbrev pub four_parameters : List tree.Item
four_parameters =
    (tree.function (record { result = None; name = (id (codes "f") 1 6); params = ((record { kind = (Value false); name = (id (codes "u") 1 12) }) ∷ (record { kind = (Value false); name = (id (codes "v") 1 19) }) ∷ (record { kind = (Value false); name = (id (codes "w") 1 26) }) ∷ (record { kind = (Value false); name = (id (codes "z") 1 33) }) ∷ []); own = 15 })
    (tree.statement (tree.block (tree.statements ([]))) (at 1 36) (at 1 38) 2))
    ∷ (tree.function (record { result = (Some false); name = (id (codes "main") 2 5); params = ([]); own = 5 })
    (tree.statement (tree.block (tree.statements (
    (tree.statement (tree.perform (result (id (codes "f") 2 18) ((record { value = (number 1 false 2 20); first = (at 2 20) }) ∷ (record { value = (number 2 false 2 23); first = (at 2 23) }) ∷ (record { value = (number 3 false 2 26); first = (at 2 26) }) ∷ (record { value = (number 4 false 2 29); first = (at 2 29) }) ∷ []))) (at 2 18) (at 2 31) 11)
    ∷ (tree.statement (tree.return_with (Some (tree.value (number 0 false 2 40)))) (at 2 33) (at 2 41) 3)
    ∷ []))) (at 2 16) (at 2 43) 2))
    ∷ []

-- an output whose value is an error, to a branch that errs
-- int main(void) { chan c; int y; int z; par { c <: 1 / y; { z = 1 / z; c :> z; } } return 0; }
abbrev pub both_err : List tree.Item
both_err =
    (tree.function (record { result = (Some false); name = (id (codes "main") 1 5); params = ([]); own = 5 })
    (tree.statement (tree.block (tree.statements (
    (tree.statement (tree.declare ((record { kind = (tree.channel false); name = (id (codes "c") 1 23) }) ∷ [])) (at 1 18) (at 1 24) 3)
    ∷ (tree.statement (tree.declare ((record { kind = (tree.word false None); name = (id (codes "y") 1 30) }) ∷ [])) (at 1 26) (at 1 31) 3)
    ∷ (tree.statement (tree.declare ((record { kind = (tree.word false None); name = (id (codes "z") 1 37) }) ∷ [])) (at 1 33) (at 1 38) 3)
    ∷ (tree.statement (tree.par (tree.branches ((tree.branch None (tree.statement (tree.output (record { name = (id (codes "c") 1 46); time = None; value = (binary 18 (number 1 false 1 51) (name (codes "y") 1 55) 1 53); stamp = None })) (at 1 46) (at 1 56) 6)) ∷ (tree.branch None (tree.statement (tree.block (tree.statements ((tree.statement (tree.assign (name (codes "z") 1 60) 22 (at 1 62) (tree.value (binary 18 (number 1 false 1 64) (name (codes "z") 1 68) 1 66))) (at 1 60) (at 1 69) 6) ∷ (tree.statement (tree.input (record { name = (id (codes "c") 1 71); time = None; condition = None; target = (tree.to (name (codes "z") 1 76)); stamp = None })) (at 1 71) (at 1 77) 4) ∷ []))) (at 1 58) (at 1 79) 2)) ∷ []))) (at 1 40) (at 1 81) 3)
    ∷ (tree.statement (tree.return_with (Some (tree.value (number 0 false 1 90)))) (at 1 83) (at 1 91) 3)
    ∷ []))) (at 1 16) (at 1 93) 2))
    ∷ []

-- an output to a branch that errs
-- int main(void) { chan c; int x; int z; par { c <: 1; { z = 1 / z; c :> z; } } return 0; }
abbrev pub partner_errs : List tree.Item
partner_errs =
    (tree.function (record { result = (Some false); name = (id (codes "main") 1 5); params = ([]); own = 5 })
    (tree.statement (tree.block (tree.statements (
    (tree.statement (tree.declare ((record { kind = (tree.channel false); name = (id (codes "c") 1 23) }) ∷ [])) (at 1 18) (at 1 24) 3)
    ∷ (tree.statement (tree.declare ((record { kind = (tree.word false None); name = (id (codes "x") 1 30) }) ∷ [])) (at 1 26) (at 1 31) 3)
    ∷ (tree.statement (tree.declare ((record { kind = (tree.word false None); name = (id (codes "z") 1 37) }) ∷ [])) (at 1 33) (at 1 38) 3)
    ∷ (tree.statement (tree.par (tree.branches ((tree.branch None (tree.statement (tree.output (record { name = (id (codes "c") 1 46); time = None; value = (number 1 false 1 51); stamp = None })) (at 1 46) (at 1 52) 4)) ∷ (tree.branch None (tree.statement (tree.block (tree.statements ((tree.statement (tree.assign (name (codes "z") 1 56) 22 (at 1 58) (tree.value (binary 18 (number 1 false 1 60) (name (codes "z") 1 64) 1 62))) (at 1 56) (at 1 65) 6) ∷ (tree.statement (tree.input (record { name = (id (codes "c") 1 67); time = None; condition = None; target = (tree.to (name (codes "z") 1 72)); stamp = None })) (at 1 67) (at 1 73) 4) ∷ []))) (at 1 54) (at 1 75) 2)) ∷ []))) (at 1 40) (at 1 77) 3)
    ∷ (tree.statement (tree.return_with (Some (tree.value (number 0 false 1 86)))) (at 1 79) (at 1 87) 3)
    ∷ []))) (at 1 16) (at 1 89) 2))
    ∷ []

-- a master whose slave errs before it begins
-- int main(void) { chan c; int x; int z; par { master { c <: 1; } { z = 1 / z; slave { c :> z; } } } return 0; }
abbrev pub slave_errs : List tree.Item
slave_errs =
    (tree.function (record { result = (Some false); name = (id (codes "main") 1 5); params = ([]); own = 5 })
    (tree.statement (tree.block (tree.statements (
    (tree.statement (tree.declare ((record { kind = (tree.channel false); name = (id (codes "c") 1 23) }) ∷ [])) (at 1 18) (at 1 24) 3)
    ∷ (tree.statement (tree.declare ((record { kind = (tree.word false None); name = (id (codes "x") 1 30) }) ∷ [])) (at 1 26) (at 1 31) 3)
    ∷ (tree.statement (tree.declare ((record { kind = (tree.word false None); name = (id (codes "z") 1 37) }) ∷ [])) (at 1 33) (at 1 38) 3)
    ∷ (tree.statement (tree.par (tree.branches ((tree.branch None (tree.statement (tree.transaction true (tree.statements ((tree.statement (tree.output (record { name = (id (codes "c") 1 55); time = None; value = (number 1 false 1 60); stamp = None })) (at 1 55) (at 1 61) 4) ∷ []))) (at 1 46) (at 1 63) 3)) ∷ (tree.branch None (tree.statement (tree.block (tree.statements ((tree.statement (tree.assign (name (codes "z") 1 67) 22 (at 1 69) (tree.value (binary 18 (number 1 false 1 71) (name (codes "z") 1 75) 1 73))) (at 1 67) (at 1 76) 6) ∷ (tree.statement (tree.transaction false (tree.statements ((tree.statement (tree.input (record { name = (id (codes "c") 1 86); time = None; condition = None; target = (tree.to (name (codes "z") 1 91)); stamp = None })) (at 1 86) (at 1 92) 4) ∷ []))) (at 1 78) (at 1 94) 3) ∷ []))) (at 1 65) (at 1 96) 2)) ∷ []))) (at 1 40) (at 1 98) 3)
    ∷ (tree.statement (tree.return_with (Some (tree.value (number 0 false 1 107)))) (at 1 100) (at 1 108) 3)
    ∷ []))) (at 1 16) (at 1 110) 2))
    ∷ []

-- a slave whose master errs inside
-- int main(void) { chan c; int x; int z; par { slave { c :> x; c :> x; } master { c <: 1; z = 1 / z; } } return 0; }
abbrev pub master_errs : List tree.Item
master_errs =
    (tree.function (record { result = (Some false); name = (id (codes "main") 1 5); params = ([]); own = 5 })
    (tree.statement (tree.block (tree.statements (
    (tree.statement (tree.declare ((record { kind = (tree.channel false); name = (id (codes "c") 1 23) }) ∷ [])) (at 1 18) (at 1 24) 3)
    ∷ (tree.statement (tree.declare ((record { kind = (tree.word false None); name = (id (codes "x") 1 30) }) ∷ [])) (at 1 26) (at 1 31) 3)
    ∷ (tree.statement (tree.declare ((record { kind = (tree.word false None); name = (id (codes "z") 1 37) }) ∷ [])) (at 1 33) (at 1 38) 3)
    ∷ (tree.statement (tree.par (tree.branches ((tree.branch None (tree.statement (tree.transaction false (tree.statements ((tree.statement (tree.input (record { name = (id (codes "c") 1 54); time = None; condition = None; target = (tree.to (name (codes "x") 1 59)); stamp = None })) (at 1 54) (at 1 60) 4) ∷ (tree.statement (tree.input (record { name = (id (codes "c") 1 62); time = None; condition = None; target = (tree.to (name (codes "x") 1 67)); stamp = None })) (at 1 62) (at 1 68) 4) ∷ []))) (at 1 46) (at 1 70) 3)) ∷ (tree.branch None (tree.statement (tree.transaction true (tree.statements ((tree.statement (tree.output (record { name = (id (codes "c") 1 81); time = None; value = (number 1 false 1 86); stamp = None })) (at 1 81) (at 1 87) 4) ∷ (tree.statement (tree.assign (name (codes "z") 1 89) 22 (at 1 91) (tree.value (binary 18 (number 1 false 1 93) (name (codes "z") 1 97) 1 95))) (at 1 89) (at 1 98) 6) ∷ []))) (at 1 72) (at 1 100) 3)) ∷ []))) (at 1 40) (at 1 102) 3)
    ∷ (tree.statement (tree.return_with (Some (tree.value (number 0 false 1 111)))) (at 1 104) (at 1 112) 3)
    ∷ []))) (at 1 16) (at 1 114) 2))
    ∷ []

-- two outputs to each other
-- int main(void) { chan c; int x; int z; par { c <: 1; c <: 2; } return 0; }
abbrev pub both_output : List tree.Item
both_output =
    (tree.function (record { result = (Some false); name = (id (codes "main") 1 5); params = ([]); own = 5 })
    (tree.statement (tree.block (tree.statements (
    (tree.statement (tree.declare ((record { kind = (tree.channel false); name = (id (codes "c") 1 23) }) ∷ [])) (at 1 18) (at 1 24) 3)
    ∷ (tree.statement (tree.declare ((record { kind = (tree.word false None); name = (id (codes "x") 1 30) }) ∷ [])) (at 1 26) (at 1 31) 3)
    ∷ (tree.statement (tree.declare ((record { kind = (tree.word false None); name = (id (codes "z") 1 37) }) ∷ [])) (at 1 33) (at 1 38) 3)
    ∷ (tree.statement (tree.par (tree.branches ((tree.branch None (tree.statement (tree.output (record { name = (id (codes "c") 1 46); time = None; value = (number 1 false 1 51); stamp = None })) (at 1 46) (at 1 52) 4)) ∷ (tree.branch None (tree.statement (tree.output (record { name = (id (codes "c") 1 54); time = None; value = (number 2 false 1 59); stamp = None })) (at 1 54) (at 1 60) 4)) ∷ []))) (at 1 40) (at 1 62) 3)
    ∷ (tree.statement (tree.return_with (Some (tree.value (number 0 false 1 71)))) (at 1 64) (at 1 72) 3)
    ∷ []))) (at 1 16) (at 1 74) 2))
    ∷ []

-- a select, whose other side makes two branches: one offers, and the other errs
-- int main(void) { chan c; int x; int z; par { select { case c :> x: break; } par { c <: 1; z = 1 / z; } } return 0; }
abbrev pub child_errs : List tree.Item
child_errs =
    (tree.function (record { result = (Some false); name = (id (codes "main") 1 5); params = ([]); own = 5 })
    (tree.statement (tree.block (tree.statements (
    (tree.statement (tree.declare ((record { kind = (tree.channel false); name = (id (codes "c") 1 23) }) ∷ [])) (at 1 18) (at 1 24) 3)
    ∷ (tree.statement (tree.declare ((record { kind = (tree.word false None); name = (id (codes "x") 1 30) }) ∷ [])) (at 1 26) (at 1 31) 3)
    ∷ (tree.statement (tree.declare ((record { kind = (tree.word false None); name = (id (codes "z") 1 37) }) ∷ [])) (at 1 33) (at 1 38) 3)
    ∷ (tree.statement (tree.par (tree.branches ((tree.branch None (tree.statement (tree.select (tree.cases ((tree.case (at 1 55) None (Some (record { name = (id (codes "c") 1 60); time = None; condition = None; target = (tree.to (name (codes "x") 1 65)); stamp = None })) (tree.statements ([]))) ∷ []))) (at 1 46) (at 1 75) 10)) ∷ (tree.branch None (tree.statement (tree.par (tree.branches ((tree.branch None (tree.statement (tree.output (record { name = (id (codes "c") 1 83); time = None; value = (number 1 false 1 88); stamp = None })) (at 1 83) (at 1 89) 4)) ∷ (tree.branch None (tree.statement (tree.assign (name (codes "z") 1 91) 22 (at 1 93) (tree.value (binary 18 (number 1 false 1 95) (name (codes "z") 1 99) 1 97))) (at 1 91) (at 1 100) 6)) ∷ []))) (at 1 77) (at 1 102) 3)) ∷ []))) (at 1 40) (at 1 104) 3)
    ∷ (tree.statement (tree.return_with (Some (tree.value (number 0 false 1 113)))) (at 1 106) (at 1 114) 3)
    ∷ []))) (at 1 16) (at 1 116) 2))
    ∷ []

-- declared words, one of which has a value
-- int main(void) { int x = 1, y, z; return 0; }
abbrev pub three_words : List tree.Item
three_words =
    (tree.function (record { result = (Some false); name = (id (codes "main") 1 5); params = ([]); own = 5 })
    (tree.statement (tree.block (tree.statements (
    (tree.statement (tree.declare ((record { kind = (tree.word false (Some (tree.value (number 1 false 1 26)))); name = (id (codes "x") 1 22) }) ∷ (record { kind = (tree.word false None); name = (id (codes "y") 1 29) }) ∷ (record { kind = (tree.word false None); name = (id (codes "z") 1 32) }) ∷ [])) (at 1 18) (at 1 33) 9)
    ∷ (tree.statement (tree.return_with (Some (tree.value (number 0 false 1 42)))) (at 1 35) (at 1 43) 3)
    ∷ []))) (at 1 16) (at 1 45) 2))
    ∷ []

-- an array in a case in a branch
-- int main(void) { par { select { default: int a[9]; break; } ; } return 0; }
abbrev pub held_array : List tree.Item
held_array =
    (tree.function (record { result = (Some false); name = (id (codes "main") 1 5); params = ([]); own = 5 })
    (tree.statement (tree.block (tree.statements (
    (tree.statement (tree.par (tree.branches ((tree.branch None (tree.statement (tree.select (tree.cases ((tree.case (at 1 33) None None (tree.statements ((tree.statement (tree.declare ((record { kind = (tree.array false 9 (at 1 48)); name = (id (codes "a") 1 46) }) ∷ [])) (at 1 42) (at 1 50) 6) ∷ []))) ∷ []))) (at 1 24) (at 1 59) 7)) ∷ (tree.branch None (tree.statement tree.empty (at 1 61) (at 1 61) 1)) ∷ []))) (at 1 18) (at 1 63) 3)
    ∷ (tree.statement (tree.return_with (Some (tree.value (number 0 false 1 72)))) (at 1 65) (at 1 73) 3)
    ∷ []))) (at 1 16) (at 1 75) 2))
    ∷ []

-- a loop whose test is its longest part
-- int main(void) { int x; while (x + 1 < 3 - x) x++; return 0; }
abbrev pub long_test : List tree.Item
long_test =
    (tree.function (record { result = (Some false); name = (id (codes "main") 1 5); params = ([]); own = 5 })
    (tree.statement (tree.block (tree.statements (
    (tree.statement (tree.declare ((record { kind = (tree.word false None); name = (id (codes "x") 1 22) }) ∷ [])) (at 1 18) (at 1 23) 3)
    ∷ (tree.statement (tree.while_loop (binary 20 (binary 15 (name (codes "x") 1 32) (number 1 false 1 36) 1 34) (binary 16 (number 3 false 1 40) (name (codes "x") 1 44) 1 42) 1 38) (tree.statement (tree.step (name (codes "x") 1 47) 35) (at 1 47) (at 1 50) 3)) (at 1 25) (at 1 50) 10)
    ∷ (tree.statement (tree.return_with (Some (tree.value (number 0 false 1 59)))) (at 1 52) (at 1 60) 3)
    ∷ []))) (at 1 16) (at 1 62) 2))
    ∷ []

-- elements at elements
-- int main(void) { int a[2]; a[a[0]] = a[a[1]]; return 0; }
abbrev pub inner_elements : List tree.Item
inner_elements =
    (tree.function (record { result = (Some false); name = (id (codes "main") 1 5); params = ([]); own = 5 })
    (tree.statement (tree.block (tree.statements (
    (tree.statement (tree.declare ((record { kind = (tree.array false 2 (at 1 24)); name = (id (codes "a") 1 22) }) ∷ [])) (at 1 18) (at 1 26) 6)
    ∷ (tree.statement (tree.assign (index (codes "a") (index (codes "a") (number 0 false 1 32) 1 30) 1 28) 22 (at 1 36) (tree.value (index (codes "a") (index (codes "a") (number 1 false 1 42) 1 40) 1 38))) (at 1 28) (at 1 45) 16)
    ∷ (tree.statement (tree.return_with (Some (tree.value (number 0 false 1 54)))) (at 1 47) (at 1 55) 3)
    ∷ []))) (at 1 16) (at 1 57) 2))
    ∷ []
