-- Transfers of ports and timers, and selects, of small programs, as their texts and as their kernels: each program is written in the
-- comment above its tree.
use Rattle.std.specs.Prelude.{◌≡◌, List, [], ◌∷◌, false, Some, None, codes, refl}
use Rattle.xw_words.specs.Tables.{place_from}
use Rattle.xw_words.specs.Ports.{identifiers}
use Rattle.xs_instr.specs.declared.trace.Trap.TheVariants.{Arithmetic}
use Rattle.xs_instr.specs.declared.trace.Record.TheVariants.{Com, PortOut, PortIn, Fault}
use Rattle.xc_tree.specs.declared.tree.TreeDir.TheVariants.{In, Out}
use Rattle.xc_tree.specs.Plain as tree
use Rattle.xc_kernel.specs.Copies.{copy_of}
use Rattle.xc_kernel.proofs.Written.{at, id, number, name, index, binary}
use Rattle.xc_meaning.specs.States.Worlds.{go, take, default}
use Rattle.xt_meaning.proofs.Running.{no_stimulus, nine, rising, advance, tick, step, impossible, in_turn, plays, both, going, finished}

-- a time counts by its low 16 bits, and so does the counter
-- out port o = XS1_PORT_32A;
-- int main(void) { int y; o @ 65541 <: 1 @ y; o <: y; return 0; }
abbrev timed : List tree.Item
timed =
    (tree.port (record { place = None; dir = Out; name = (id (codes "o") 1 10); ident = (id (codes "XS1_PORT_32A") 1 14) }))
    ∷ (tree.function (record { result = (Some false); name = (id (codes "main") 2 5); params = ([]); own = 5 })
    (tree.statement (tree.block (tree.statements (
    (tree.statement (tree.declare ((record { kind = (tree.word false None); name = (id (codes "y") 2 22) }) ∷ [])) (at 2 18) (at 2 23) 3)
    ∷ (tree.statement (tree.output (record { name = (id (codes "o") 2 25); time = (Some (record { «at» = (at 2 27); value = (number 65541 false 2 29) })); value = (number 1 false 2 38); stamp = (Some (record { «at» = (at 2 40); value = (name (codes "y") 2 42) })) })) (at 2 25) (at 2 43) 8)
    ∷ (tree.statement (tree.output (record { name = (id (codes "o") 2 45); time = None; value = (name (codes "y") 2 50); stamp = None })) (at 2 45) (at 2 51) 4)
    ∷ (tree.statement (tree.return_with (Some (tree.value (number 0 false 2 60)))) (at 2 53) (at 2 61) 3)
    ∷ []))) (at 2 16) (at 2 63) 2))
    ∷ []

late : plays timed no_stimulus (advance 0 ∷ tick 0 65540 ∷ impossible (go 0) ∷ tick 0 1 ∷ advance 0 ∷ []) ≡ both (finished (PortOut 0 28 5 1 ∷ PortOut 0 28 5 5 ∷ []))
unfolding copy_of identifiers place_from
late = refl

early : plays timed no_stimulus (advance 0 ∷ tick 0 4 ∷ impossible (go 0) ∷ tick 0 1 ∷ advance 0 ∷ []) ≡ both (finished (PortOut 0 28 5 1 ∷ PortOut 0 28 5 5 ∷ []))
unfolding copy_of identifiers place_from
early = refl

-- the stamp is stored after the destination
-- out port o = XS1_PORT_32A;
-- in port b = XS1_PORT_8A;
-- int main(void) { int x = 7; int a[12]; b :> x @ x; o <: x; b :> x @ a[x]; o <: a[9]; return 0; }
abbrev stamped : List tree.Item
stamped =
    (tree.port (record { place = None; dir = Out; name = (id (codes "o") 1 10); ident = (id (codes "XS1_PORT_32A") 1 14) }))
    ∷ (tree.port (record { place = None; dir = In; name = (id (codes "b") 2 9); ident = (id (codes "XS1_PORT_8A") 2 13) }))
    ∷ (tree.function (record { result = (Some false); name = (id (codes "main") 3 5); params = ([]); own = 5 })
    (tree.statement (tree.block (tree.statements (
    (tree.statement (tree.declare ((record { kind = (tree.word false (Some (tree.value (number 7 false 3 26)))); name = (id (codes "x") 3 22) }) ∷ [])) (at 3 18) (at 3 27) 5)
    ∷ (tree.statement (tree.declare ((record { kind = (tree.array false 12 (at 3 35)); name = (id (codes "a") 3 33) }) ∷ [])) (at 3 29) (at 3 38) 6)
    ∷ (tree.statement (tree.input (record { name = (id (codes "b") 3 40); time = None; condition = None; target = (tree.to (name (codes "x") 3 45)); stamp = (Some (record { «at» = (at 3 47); value = (name (codes "x") 3 49) })) })) (at 3 40) (at 3 50) 6)
    ∷ (tree.statement (tree.output (record { name = (id (codes "o") 3 52); time = None; value = (name (codes "x") 3 57); stamp = None })) (at 3 52) (at 3 58) 4)
    ∷ (tree.statement (tree.input (record { name = (id (codes "b") 3 60); time = None; condition = None; target = (tree.to (name (codes "x") 3 65)); stamp = (Some (record { «at» = (at 3 67); value = (index (codes "a") (name (codes "x") 3 71) 3 69) })) })) (at 3 60) (at 3 73) 9)
    ∷ (tree.statement (tree.output (record { name = (id (codes "o") 3 75); time = None; value = (index (codes "a") (number 9 false 3 82) 3 80); stamp = None })) (at 3 75) (at 3 84) 7)
    ∷ (tree.statement (tree.return_with (Some (tree.value (number 0 false 3 93)))) (at 3 86) (at 3 94) 3)
    ∷ []))) (at 3 16) (at 3 96) 2))
    ∷ []

stamp_last : plays stamped nine (tick 0 3 ∷ advance 0 ∷ []) ≡ both (finished (PortIn 0 22 3 9 ∷ PortOut 0 28 3 3 ∷ PortIn 0 22 3 9 ∷ PortOut 0 28 3 3 ∷ []))
unfolding copy_of identifiers place_from
stamp_last = refl

-- of a word for the pins the low bits count
-- out port o = XS1_PORT_32A;
-- in port b = XS1_PORT_4B;
-- int main(void) { int x; b when pinseq(33) :> x; b when pinsneq(17) :> x; o <: x; return 0; }
abbrev narrow : List tree.Item
narrow =
    (tree.port (record { place = None; dir = Out; name = (id (codes "o") 1 10); ident = (id (codes "XS1_PORT_32A") 1 14) }))
    ∷ (tree.port (record { place = None; dir = In; name = (id (codes "b") 2 9); ident = (id (codes "XS1_PORT_4B") 2 13) }))
    ∷ (tree.function (record { result = (Some false); name = (id (codes "main") 3 5); params = ([]); own = 5 })
    (tree.statement (tree.block (tree.statements (
    (tree.statement (tree.declare ((record { kind = (tree.word false None); name = (id (codes "x") 3 22) }) ∷ [])) (at 3 18) (at 3 23) 3)
    ∷ (tree.statement (tree.input (record { name = (id (codes "b") 3 25); time = None; condition = (Some (record { «at» = (at 3 27); test = 17; value = (number 33 false 3 39) })); target = (tree.to (name (codes "x") 3 46)); stamp = None })) (at 3 25) (at 3 47) 9)
    ∷ (tree.statement (tree.input (record { name = (id (codes "b") 3 49); time = None; condition = (Some (record { «at» = (at 3 51); test = 18; value = (number 17 false 3 64) })); target = (tree.to (name (codes "x") 3 71)); stamp = None })) (at 3 49) (at 3 72) 9)
    ∷ (tree.statement (tree.output (record { name = (id (codes "o") 3 74); time = None; value = (name (codes "x") 3 79); stamp = None })) (at 3 74) (at 3 80) 4)
    ∷ (tree.statement (tree.return_with (Some (tree.value (number 0 false 3 89)))) (at 3 82) (at 3 90) 3)
    ∷ []))) (at 3 16) (at 3 92) 2))
    ∷ []

low_pins : plays narrow rising (advance 0 ∷ tick 0 2 ∷ impossible (go 0) ∷ tick 0 1 ∷ advance 0 ∷ tick 0 2 ∷ impossible (go 0) ∷ tick 0 1 ∷ advance 0 ∷ []) ≡ both (finished (PortIn 0 17 3 1 ∷ PortIn 0 17 6 2 ∷ PortOut 0 28 6 2 ∷ []))
unfolding copy_of identifiers place_from
low_pins = refl

-- the time comes before the value
-- out port o = XS1_PORT_32A;
-- int main(void) { int a[2]; int z; o @ 1 / z <: a[z + 2]; return 0; }
abbrev doubtful : List tree.Item
doubtful =
    (tree.port (record { place = None; dir = Out; name = (id (codes "o") 1 10); ident = (id (codes "XS1_PORT_32A") 1 14) }))
    ∷ (tree.function (record { result = (Some false); name = (id (codes "main") 2 5); params = ([]); own = 5 })
    (tree.statement (tree.block (tree.statements (
    (tree.statement (tree.declare ((record { kind = (tree.array false 2 (at 2 24)); name = (id (codes "a") 2 22) }) ∷ [])) (at 2 18) (at 2 26) 6)
    ∷ (tree.statement (tree.declare ((record { kind = (tree.word false None); name = (id (codes "z") 2 32) }) ∷ [])) (at 2 28) (at 2 33) 3)
    ∷ (tree.statement (tree.output (record { name = (id (codes "o") 2 35); time = (Some (record { «at» = (at 2 37); value = (binary 18 (number 1 false 2 39) (name (codes "z") 2 43) 2 41) })); value = (index (codes "a") (binary 15 (name (codes "z") 2 50) (number 2 false 2 54) 2 52) 2 48); stamp = None })) (at 2 35) (at 2 56) 13)
    ∷ (tree.statement (tree.return_with (Some (tree.value (number 0 false 2 65)))) (at 2 58) (at 2 66) 3)
    ∷ []))) (at 2 16) (at 2 68) 2))
    ∷ []

time_first : plays doubtful no_stimulus (advance 0 ∷ []) ≡ both (going (Fault 0 (at 2 41) Arithmetic ∷ []))
unfolding copy_of
time_first = refl

-- a default, and a channel
-- out port o = XS1_PORT_32A;
-- int main(void) {
--   chan c; int x;
--   par { c <: 3; { select { case c :> x: o <: 1; break; default: o <: 2; break; } c :> x; } }
--   return 0;
-- }
abbrev offered : List tree.Item
offered =
    (tree.port (record { place = None; dir = Out; name = (id (codes "o") 1 10); ident = (id (codes "XS1_PORT_32A") 1 14) }))
    ∷ (tree.function (record { result = (Some false); name = (id (codes "main") 2 5); params = ([]); own = 5 })
    (tree.statement (tree.block (tree.statements (
    (tree.statement (tree.declare ((record { kind = (tree.channel false); name = (id (codes "c") 3 8) }) ∷ [])) (at 3 3) (at 3 9) 3)
    ∷ (tree.statement (tree.declare ((record { kind = (tree.word false None); name = (id (codes "x") 3 15) }) ∷ [])) (at 3 11) (at 3 16) 3)
    ∷ (tree.statement (tree.par (tree.branches ((tree.branch None (tree.statement (tree.output (record { name = (id (codes "c") 4 9); time = None; value = (number 3 false 4 14); stamp = None })) (at 4 9) (at 4 15) 4)) ∷ (tree.branch None (tree.statement (tree.block (tree.statements ((tree.statement (tree.select (tree.cases ((tree.case (at 4 28) None (Some (record { name = (id (codes "c") 4 33); time = None; condition = None; target = (tree.to (name (codes "x") 4 38)); stamp = None })) (tree.statements ((tree.statement (tree.output (record { name = (id (codes "o") 4 41); time = None; value = (number 1 false 4 46); stamp = None })) (at 4 41) (at 4 47) 4) ∷ []))) ∷ (tree.case (at 4 56) None None (tree.statements ((tree.statement (tree.output (record { name = (id (codes "o") 4 65); time = None; value = (number 2 false 4 70); stamp = None })) (at 4 65) (at 4 71) 4) ∷ []))) ∷ []))) (at 4 19) (at 4 80) 14) ∷ (tree.statement (tree.input (record { name = (id (codes "c") 4 82); time = None; condition = None; target = (tree.to (name (codes "x") 4 87)); stamp = None })) (at 4 82) (at 4 88) 4) ∷ []))) (at 4 17) (at 4 90) 2)) ∷ []))) (at 4 3) (at 4 92) 3)
    ∷ (tree.statement (tree.return_with (Some (tree.value (number 0 false 5 10)))) (at 5 3) (at 5 11) 3)
    ∷ []))) (at 2 16) (at 6 1) 2))
    ∷ []

-- nothing has arrived
by_default : plays offered no_stimulus (advance 0 ∷ advance 2 ∷ impossible (take 2 0) ∷ step (default 2) ∷ in_turn 2 (2 ∷ 1 ∷ 0 ∷ [])) ≡ both (finished (PortOut 0 28 0 2 ∷ Com 0 3 ∷ []))
unfolding copy_of identifiers place_from
by_default = refl

-- something has arrived, so the default isn't taken
by_channel : plays offered no_stimulus (advance 0 ∷ advance 1 ∷ advance 2 ∷ impossible (default 2) ∷ step (take 2 0) ∷ advance 2 ∷ []) ≡ both (going (Com 0 3 ∷ PortOut 0 28 0 1 ∷ []))
unfolding copy_of identifiers place_from
by_channel = refl

-- of the cases on one port the first counts whose guard holds
-- out port o = XS1_PORT_32A;
-- in port b = XS1_PORT_8A;
-- int main(void) {
--   int x;
--   select {
--     case x => b when pinseq(2) :> x: o <: 0; break;
--     case b when pinseq(9) :> x: o <: 1; break;
--     case b when pinseq(0) :> x: o <: 2; break;
--   }
--   return 0;
-- }
abbrev one_condition : List tree.Item
one_condition =
    (tree.port (record { place = None; dir = Out; name = (id (codes "o") 1 10); ident = (id (codes "XS1_PORT_32A") 1 14) }))
    ∷ (tree.port (record { place = None; dir = In; name = (id (codes "b") 2 9); ident = (id (codes "XS1_PORT_8A") 2 13) }))
    ∷ (tree.function (record { result = (Some false); name = (id (codes "main") 3 5); params = ([]); own = 5 })
    (tree.statement (tree.block (tree.statements (
    (tree.statement (tree.declare ((record { kind = (tree.word false None); name = (id (codes "x") 4 7) }) ∷ [])) (at 4 3) (at 4 8) 3)
    ∷ (tree.statement (tree.select (tree.cases ((tree.case (at 6 5) (Some (name (codes "x") 6 10)) (Some (record { name = (id (codes "b") 6 15); time = None; condition = (Some (record { «at» = (at 6 17); test = 17; value = (number 2 false 6 29) })); target = (tree.to (name (codes "x") 6 35)); stamp = None })) (tree.statements ((tree.statement (tree.output (record { name = (id (codes "o") 6 38); time = None; value = (number 0 false 6 43); stamp = None })) (at 6 38) (at 6 44) 4) ∷ []))) ∷ (tree.case (at 7 5) None (Some (record { name = (id (codes "b") 7 10); time = None; condition = (Some (record { «at» = (at 7 12); test = 17; value = (number 9 false 7 24) })); target = (tree.to (name (codes "x") 7 30)); stamp = None })) (tree.statements ((tree.statement (tree.output (record { name = (id (codes "o") 7 33); time = None; value = (number 1 false 7 38); stamp = None })) (at 7 33) (at 7 39) 4) ∷ []))) ∷ (tree.case (at 8 5) None (Some (record { name = (id (codes "b") 8 10); time = None; condition = (Some (record { «at» = (at 8 12); test = 17; value = (number 0 false 8 24) })); target = (tree.to (name (codes "x") 8 30)); stamp = None })) (tree.statements ((tree.statement (tree.output (record { name = (id (codes "o") 8 33); time = None; value = (number 2 false 8 38); stamp = None })) (at 8 33) (at 8 39) 4) ∷ []))) ∷ []))) (at 5 3) (at 9 3) 41)
    ∷ (tree.statement (tree.return_with (Some (tree.value (number 0 false 10 10)))) (at 10 3) (at 10 11) 3)
    ∷ []))) (at 3 16) (at 11 1) 2))
    ∷ []

first_condition : plays one_condition no_stimulus (advance 0 ∷ impossible (take 0 0) ∷ impossible (take 0 1) ∷ []) ≡ both (going ([]))
unfolding copy_of identifiers place_from
first_condition = refl

second_condition : plays one_condition nine (advance 0 ∷ step (take 0 0) ∷ advance 0 ∷ []) ≡ both (finished (PortIn 0 22 0 9 ∷ PortOut 0 28 0 1 ∷ []))
unfolding copy_of identifiers place_from
second_condition = refl

-- a timer gives its case the time at which the case was taken
-- out port o = XS1_PORT_32A;
-- int main(void) { timer t; int x; select { case t :> x: o <: x; break; } return 0; }
abbrev case_time : List tree.Item
case_time =
    (tree.port (record { place = None; dir = Out; name = (id (codes "o") 1 10); ident = (id (codes "XS1_PORT_32A") 1 14) }))
    ∷ (tree.function (record { result = (Some false); name = (id (codes "main") 2 5); params = ([]); own = 5 })
    (tree.statement (tree.block (tree.statements (
    (tree.statement (tree.declare ((record { kind = tree.timer; name = (id (codes "t") 2 24) }) ∷ [])) (at 2 18) (at 2 25) 3)
    ∷ (tree.statement (tree.declare ((record { kind = (tree.word false None); name = (id (codes "x") 2 31) }) ∷ [])) (at 2 27) (at 2 32) 3)
    ∷ (tree.statement (tree.select (tree.cases ((tree.case (at 2 43) None (Some (record { name = (id (codes "t") 2 48); time = None; condition = None; target = (tree.to (name (codes "x") 2 53)); stamp = None })) (tree.statements ((tree.statement (tree.output (record { name = (id (codes "o") 2 56); time = None; value = (name (codes "x") 2 61); stamp = None })) (at 2 56) (at 2 62) 4) ∷ []))) ∷ []))) (at 2 34) (at 2 71) 10)
    ∷ (tree.statement (tree.return_with (Some (tree.value (number 0 false 2 80)))) (at 2 73) (at 2 81) 3)
    ∷ []))) (at 2 16) (at 2 83) 2))
    ∷ []

taken_then : plays case_time no_stimulus (advance 0 ∷ tick 0 4 ∷ step (take 0 0) ∷ tick 0 3 ∷ advance 0 ∷ []) ≡ both (finished (PortOut 0 28 7 4 ∷ []))
unfolding copy_of identifiers place_from
taken_then = refl

-- guards and conditions go in the order of the text, and a condition counts where its guard holds
-- in port b = XS1_PORT_8A;
-- int main(void) {
--   int x; int z;
--   select {
--     case z => b when pinseq(1 / z) :> x: break;
--     case b when pinseq(2) :> x: break;
--     case 2 / z => b :> x: break;
--     case b when pinseq(3 / z) :> x: break;
--   }
--   return 0;
-- }
abbrev guards : List tree.Item
guards =
    (tree.port (record { place = None; dir = In; name = (id (codes "b") 1 9); ident = (id (codes "XS1_PORT_8A") 1 13) }))
    ∷ (tree.function (record { result = (Some false); name = (id (codes "main") 2 5); params = ([]); own = 5 })
    (tree.statement (tree.block (tree.statements (
    (tree.statement (tree.declare ((record { kind = (tree.word false None); name = (id (codes "x") 3 7) }) ∷ [])) (at 3 3) (at 3 8) 3)
    ∷ (tree.statement (tree.declare ((record { kind = (tree.word false None); name = (id (codes "z") 3 14) }) ∷ [])) (at 3 10) (at 3 15) 3)
    ∷ (tree.statement (tree.select (tree.cases ((tree.case (at 5 5) (Some (name (codes "z") 5 10)) (Some (record { name = (id (codes "b") 5 15); time = None; condition = (Some (record { «at» = (at 5 17); test = 17; value = (binary 18 (number 1 false 5 29) (name (codes "z") 5 33) 5 31) })); target = (tree.to (name (codes "x") 5 39)); stamp = None })) (tree.statements ([]))) ∷ (tree.case (at 6 5) None (Some (record { name = (id (codes "b") 6 10); time = None; condition = (Some (record { «at» = (at 6 12); test = 17; value = (number 2 false 6 24) })); target = (tree.to (name (codes "x") 6 30)); stamp = None })) (tree.statements ([]))) ∷ (tree.case (at 7 5) (Some (binary 18 (number 2 false 7 10) (name (codes "z") 7 14) 7 12)) (Some (record { name = (id (codes "b") 7 19); time = None; condition = None; target = (tree.to (name (codes "x") 7 24)); stamp = None })) (tree.statements ([]))) ∷ (tree.case (at 8 5) None (Some (record { name = (id (codes "b") 8 10); time = None; condition = (Some (record { «at» = (at 8 12); test = 17; value = (binary 18 (number 3 false 8 24) (name (codes "z") 8 28) 8 26) })); target = (tree.to (name (codes "x") 8 34)); stamp = None })) (tree.statements ([]))) ∷ []))) (at 4 3) (at 9 3) 56)
    ∷ (tree.statement (tree.return_with (Some (tree.value (number 0 false 10 10)))) (at 10 3) (at 10 11) 3)
    ∷ []))) (at 2 16) (at 11 1) 2))
    ∷ []

guard_error : plays guards no_stimulus (advance 0 ∷ []) ≡ both (going (Fault 0 (at 7 12) Arithmetic ∷ []))
unfolding copy_of
guard_error = refl

-- a timer gives the whole clock
-- out port o = XS1_PORT_32A;
-- int main(void) { timer t; int x; t :> x; o <: x; return 0; }
abbrev clock_read : List tree.Item
clock_read =
    (tree.port (record { place = None; dir = Out; name = (id (codes "o") 1 10); ident = (id (codes "XS1_PORT_32A") 1 14) }))
    ∷ (tree.function (record { result = (Some false); name = (id (codes "main") 2 5); params = ([]); own = 5 })
    (tree.statement (tree.block (tree.statements (
    (tree.statement (tree.declare ((record { kind = tree.timer; name = (id (codes "t") 2 24) }) ∷ [])) (at 2 18) (at 2 25) 3)
    ∷ (tree.statement (tree.declare ((record { kind = (tree.word false None); name = (id (codes "x") 2 31) }) ∷ [])) (at 2 27) (at 2 32) 3)
    ∷ (tree.statement (tree.input (record { name = (id (codes "t") 2 34); time = None; condition = None; target = (tree.to (name (codes "x") 2 39)); stamp = None })) (at 2 34) (at 2 40) 4)
    ∷ (tree.statement (tree.output (record { name = (id (codes "o") 2 42); time = None; value = (name (codes "x") 2 47); stamp = None })) (at 2 42) (at 2 48) 4)
    ∷ (tree.statement (tree.return_with (Some (tree.value (number 0 false 2 57)))) (at 2 50) (at 2 58) 3)
    ∷ []))) (at 2 16) (at 2 60) 2))
    ∷ []

whole_clock : plays clock_read no_stimulus (tick 0 65540 ∷ advance 0 ∷ []) ≡ both (finished (PortOut 0 28 4 65540 ∷ []))
unfolding copy_of identifiers place_from
whole_clock = refl

-- a `break` inside leaves the case alone, and a `continue` the turn
-- out port o = XS1_PORT_32A;
-- in port b = XS1_PORT_8A;
-- int main(void) {
--   for (int i = 0; i < 4; i++) {
--     select { case b :> void: if (i == 1) break; if (i == 2) continue; o <: i; break; }
--     o <: i + 10;
--   }
--   return 0;
-- }
abbrev case_in_loop : List tree.Item
case_in_loop =
    (tree.port (record { place = None; dir = Out; name = (id (codes "o") 1 10); ident = (id (codes "XS1_PORT_32A") 1 14) }))
    ∷ (tree.port (record { place = None; dir = In; name = (id (codes "b") 2 9); ident = (id (codes "XS1_PORT_8A") 2 13) }))
    ∷ (tree.function (record { result = (Some false); name = (id (codes "main") 3 5); params = ([]); own = 5 })
    (tree.statement (tree.block (tree.statements (
    (tree.statement (tree.for_loop (tree.present (tree.statement (tree.declare ((record { kind = (tree.word false (Some (tree.value (number 0 false 4 16)))); name = (id (codes "i") 4 12) }) ∷ [])) (at 4 8) (at 4 16) 4)) (Some (binary 20 (name (codes "i") 4 19) (number 4 false 4 23) 4 21)) (tree.present (tree.statement (tree.step (name (codes "i") 4 26) 35) (at 4 26) (at 4 27) 2)) (tree.statement (tree.block (tree.statements ((tree.statement (tree.select (tree.cases ((tree.case (at 5 14) None (Some (record { name = (id (codes "b") 5 19); time = None; condition = None; target = tree.dropped; stamp = None })) (tree.statements ((tree.statement (tree.if_then (binary 27 (name (codes "i") 5 34) (number 1 false 5 39) 5 36) (tree.statement tree.break_out (at 5 42) (at 5 47) 2) tree.absent) (at 5 30) (at 5 47) 6) ∷ (tree.statement (tree.if_then (binary 27 (name (codes "i") 5 53) (number 2 false 5 58) 5 55) (tree.statement tree.continue_on (at 5 61) (at 5 69) 2) tree.absent) (at 5 49) (at 5 69) 6) ∷ (tree.statement (tree.output (record { name = (id (codes "o") 5 71); time = None; value = (name (codes "i") 5 76); stamp = None })) (at 5 71) (at 5 77) 4) ∷ []))) ∷ []))) (at 5 5) (at 5 86) 10) ∷ (tree.statement (tree.output (record { name = (id (codes "o") 6 5); time = None; value = (binary 15 (name (codes "i") 6 10) (number 10 false 6 14) 6 12); stamp = None })) (at 6 5) (at 6 16) 6) ∷ []))) (at 4 31) (at 7 3) 2)) (at 4 3) (at 7 3) 8)
    ∷ (tree.statement (tree.return_with (Some (tree.value (number 0 false 8 10)))) (at 8 3) (at 8 11) 3)
    ∷ []))) (at 3 16) (at 9 1) 2))
    ∷ []

case_left : plays case_in_loop nine (advance 0 ∷ step (take 0 0) ∷ advance 0 ∷ step (take 0 0) ∷ advance 0 ∷ step (take 0 0) ∷ advance 0 ∷ step (take 0 0) ∷ advance 0 ∷ []) ≡ both (finished (PortIn 0 22 0 9 ∷ PortOut 0 28 0 0 ∷ PortOut 0 28 0 10 ∷ PortIn 0 22 0 9 ∷ PortOut 0 28 0 11 ∷ PortIn 0 22 0 9 ∷ PortIn 0 22 0 9 ∷ PortOut 0 28 0 3 ∷ PortOut 0 28 0 13 ∷ []))
unfolding copy_of identifiers place_from
case_left = refl
