-- Texts and the rules 401 to 416 that they break, worked out by hand.
use Rattle.std.specs.Prelude.{◌≡◌, true, false, [], ◌∷◌, Some, None, refl, codes}
use Rattle.xc_tree.specs.declared.tree.TreeDir.TheVariants as direction
use Rattle.xc_tree.specs.declared.tree.ParamKind.TheVariants as param
use Rattle.xc_tree.specs.Plain as plain
use Rattle.xc_tree.specs.Names.Marks.{of_program}
use Rattle.xc_tree.specs.Types.Named.{NamedProgram}
use Rattle.xc_tree.specs.Types.Sites.{sites}
use Rattle.xc_tree.proofs.Written.{at, id, number, name, index, binary, given, call_of, timing, condition, does, function_of, named, broken, rule}

-- void main(void) { int a[2]; int x; x = a; }
abbrev pub word_of_array : NamedProgram
word_of_array = named (
    function_of None (id (codes "main") 6) [] (plain.statements ((does (plain.declare (record { kind = plain.array false 2 (at 25); name = id (codes "a") 23 } ∷ [])) 19) ∷ (does (plain.declare (record { kind = plain.word false None; name = id (codes "x") 33 } ∷ [])) 29) ∷ (does (plain.assign (name (codes "x") 36) 22 (at 38) (plain.value (name (codes "a") 40))) 36) ∷ [])) 17
    ∷ []) (0 ∷ 1 ∷ 2 ∷ 2 ∷ 1 ∷ [])

-- a whole array is no word
pub of_word_of_array : broken word_of_array ≡ rule 401 40 ∷ []
unfolding of_program sites
of_word_of_array = refl

-- port p = XS1_PORT_1A; void f(void) { } void main(void) { chan c; timer t; int x; x = c + t * p - f; }
abbrev pub word_of_others : NamedProgram
word_of_others = named (
    (plain.port (record { place = None; dir = direction.Both; name = id (codes "p") 6; ident = id (codes "XS1_PORT_1A") 10 }))
    ∷ function_of None (id (codes "f") 28) [] (plain.statements []) 36
    ∷ function_of None (id (codes "main") 45) [] (plain.statements ((does (plain.declare (record { kind = plain.channel false; name = id (codes "c") 63 } ∷ [])) 58) ∷ (does (plain.declare (record { kind = plain.timer; name = id (codes "t") 72 } ∷ [])) 66) ∷ (does (plain.declare (record { kind = plain.word false None; name = id (codes "x") 79 } ∷ [])) 75) ∷ (does (plain.assign (name (codes "x") 82) 22 (at 84) (plain.value (binary 16 (binary 15 (name (codes "c") 86) (binary 17 (name (codes "t") 90) (name (codes "p") 94) 92) 88) (name (codes "f") 98) 96))) 82) ∷ [])) 56
    ∷ []) (0 ∷ 1 ∷ 2 ∷ 3 ∷ 4 ∷ 5 ∷ 5 ∷ 3 ∷ 4 ∷ 0 ∷ 1 ∷ [])

-- nor is a channel, a timer, a port or a function
pub of_word_of_others : broken word_of_others ≡ rule 401 86 ∷ rule 401 90 ∷ rule 401 94 ∷ rule 401 98 ∷ []
unfolding of_program sites
of_word_of_others = refl

-- void f(int a[]) { } void main(void) { int a[2]; f(a + 1); }
abbrev pub word_in_argument : NamedProgram
word_in_argument = named (
    function_of None (id (codes "f") 6) (record { kind = param.Array false None; name = id (codes "a") 12 } ∷ []) (plain.statements []) 17
    ∷ function_of None (id (codes "main") 26) [] (plain.statements ((does (plain.declare (record { kind = plain.array false 2 (at 45); name = id (codes "a") 43 } ∷ [])) 39) ∷ (does (plain.perform (call_of (id (codes "f") 49) (given 51 (binary 15 (name (codes "a") 51) (number 1 false 55) 53) ∷ []))) 49) ∷ [])) 37
    ∷ []) (0 ∷ 1 ∷ 2 ∷ 3 ∷ 0 ∷ 3 ∷ [])

-- an operand inside an argument needs to be one
pub of_word_in_argument : broken word_in_argument ≡ rule 401 51 ∷ rule 406 51 ∷ []
unfolding of_program sites
of_word_in_argument = refl

-- port p = XS1_PORT_1A; int f(void) { int a[1]; int y = a; return a; } void main(void) { int a[2]; int x; p @ a <: a @ x; p when pinseq(a) :> void @ a[a]; select { case a => p @ a :> x : break; } if (a) while (a) do for (x = a; a; x += a) ; while (a); }
abbrev pub words_in_statements : NamedProgram
words_in_statements = named (
    (plain.port (record { place = None; dir = direction.Both; name = id (codes "p") 6; ident = id (codes "XS1_PORT_1A") 10 }))
    ∷ function_of (Some false) (id (codes "f") 27) [] (plain.statements ((does (plain.declare (record { kind = plain.array false 1 (at 43); name = id (codes "a") 41 } ∷ [])) 37) ∷ (does (plain.declare (record { kind = plain.word false (Some (plain.value (name (codes "a") 55))); name = id (codes "y") 51 } ∷ [])) 47) ∷ (does (plain.return_with (Some (plain.value (name (codes "a") 65)))) 58) ∷ [])) 35
    ∷ function_of None (id (codes "main") 75) [] (plain.statements ((does (plain.declare (record { kind = plain.array false 2 (at 94); name = id (codes "a") 92 } ∷ [])) 88) ∷ (does (plain.declare (record { kind = plain.word false None; name = id (codes "x") 102 } ∷ [])) 98) ∷ (does (plain.output (record { name = id (codes "p") 105; time = (Some (timing 107 (name (codes "a") 109))); value = (name (codes "a") 114); stamp = (Some (timing 116 (name (codes "x") 118))) })) 105) ∷ (does (plain.input (record { name = id (codes "p") 121; time = None; condition = (Some (condition 123 17 (name (codes "a") 135))); target = plain.dropped; stamp = (Some (timing 146 (index (codes "a") (name (codes "a") 150) 148))) })) 121) ∷ (does (plain.select (plain.cases (plain.case (at 163) (Some (name (codes "a") 168)) (Some (record { name = id (codes "p") 173; time = (Some (timing 175 (name (codes "a") 177))); condition = None; target = (plain.to (name (codes "x") 182)); stamp = None })) (plain.statements []) ∷ []))) 154) ∷ (does (plain.if_then (name (codes "a") 199) (does (plain.while_loop (name (codes "a") 209) (does (plain.do_while (does (plain.for_loop (plain.present (does (plain.assign (name (codes "x") 220) 22 (at 222) (plain.value (name (codes "a") 224))) 220)) (Some (name (codes "a") 227)) (plain.present (does (plain.assign (name (codes "x") 230) 37 (at 232) (plain.value (name (codes "a") 235))) 230)) (does plain.empty 238)) 215) (name (codes "a") 247)) 212)) 202) plain.absent) 195) ∷ [])) 86
    ∷ []) (0 ∷ 1 ∷ 2 ∷ 3 ∷ 2 ∷ 2 ∷ 4 ∷ 5 ∷ 6 ∷ 0 ∷ 5 ∷ 5 ∷ 6 ∷ 0 ∷ 5 ∷ 5 ∷ 5 ∷ 5 ∷ 0 ∷ 5 ∷ 6 ∷ 5 ∷ 5 ∷ 6 ∷ 5 ∷ 5 ∷ 6 ∷ 5 ∷ 5 ∷ [])

-- each `a` without an index
pub of_words_in_statements : broken words_in_statements ≡ rule 401 55 ∷ rule 401 65 ∷ rule 401 109 ∷ rule 401 114 ∷ rule 401 135 ∷ rule 401 150 ∷ rule 401 168 ∷ rule 401 177 ∷ rule 401 199 ∷ rule 401 209 ∷ rule 401 224 ∷ rule 401 227 ∷ rule 401 235 ∷ rule 401 247 ∷ []
unfolding of_program sites
of_words_in_statements = refl

-- void main(void) { int a[2]; int x; x = a[1] + x; par (int i = 0; i < 2; i++) a[i] = i; }
abbrev pub words : NamedProgram
words = named (
    function_of None (id (codes "main") 6) [] (plain.statements ((does (plain.declare (record { kind = plain.array false 2 (at 25); name = id (codes "a") 23 } ∷ [])) 19) ∷ (does (plain.declare (record { kind = plain.word false None; name = id (codes "x") 33 } ∷ [])) 29) ∷ (does (plain.assign (name (codes "x") 36) 22 (at 38) (plain.value (binary 15 (index (codes "a") (number 1 false 42) 40) (name (codes "x") 47) 45))) 36) ∷ (does (plain.replicated (id (codes "i") 59) (id (codes "i") 66) (id (codes "i") 73) 0 2 (plain.branch None (does (plain.assign (index (codes "a") (name (codes "i") 80) 78) 22 (at 83) (plain.value (name (codes "i") 85))) 78))) 50) ∷ [])) 17
    ∷ []) (0 ∷ 1 ∷ 2 ∷ 2 ∷ 1 ∷ 2 ∷ 3 ∷ 3 ∷ 3 ∷ 1 ∷ 3 ∷ 3 ∷ [])

pub of_words : broken words ≡ []
unfolding of_program sites
of_words = refl

-- void main(void) { int x; x = x[0]; x[1] = 2; }
abbrev pub indexed_word : NamedProgram
indexed_word = named (
    function_of None (id (codes "main") 6) [] (plain.statements ((does (plain.declare (record { kind = plain.word false None; name = id (codes "x") 23 } ∷ [])) 19) ∷ (does (plain.assign (name (codes "x") 26) 22 (at 28) (plain.value (index (codes "x") (number 0 false 32) 30))) 26) ∷ (does (plain.assign (index (codes "x") (number 1 false 38) 36) 22 (at 41) (plain.value (number 2 false 43))) 36) ∷ [])) 17
    ∷ []) (0 ∷ 1 ∷ 1 ∷ 1 ∷ 1 ∷ [])

pub of_indexed_word : broken indexed_word ≡ rule 402 30 ∷ rule 402 36 ∷ []
unfolding of_program sites
of_indexed_word = refl

-- void f(int a[], int b[3]) { a[0] = b[1]; } void main(void) { int c[3]; int d[3]; c[0] = 1; f(c, d); }
abbrev pub indexed_arrays : NamedProgram
indexed_arrays = named (
    function_of None (id (codes "f") 6) (record { kind = param.Array false None; name = id (codes "a") 12 } ∷ record { kind = param.Array false (Some (3, at 23)); name = id (codes "b") 21 } ∷ []) (plain.statements ((does (plain.assign (index (codes "a") (number 0 false 31) 29) 22 (at 34) (plain.value (index (codes "b") (number 1 false 38) 36))) 29) ∷ [])) 27
    ∷ function_of None (id (codes "main") 49) [] (plain.statements ((does (plain.declare (record { kind = plain.array false 3 (at 68); name = id (codes "c") 66 } ∷ [])) 62) ∷ (does (plain.declare (record { kind = plain.array false 3 (at 78); name = id (codes "d") 76 } ∷ [])) 72) ∷ (does (plain.assign (index (codes "c") (number 0 false 84) 82) 22 (at 87) (plain.value (number 1 false 89))) 82) ∷ (does (plain.perform (call_of (id (codes "f") 92) (given 94 (name (codes "c") 94) ∷ given 97 (name (codes "d") 97) ∷ []))) 92) ∷ [])) 60
    ∷ []) (0 ∷ 1 ∷ 2 ∷ 1 ∷ 2 ∷ 3 ∷ 4 ∷ 5 ∷ 4 ∷ 0 ∷ 4 ∷ 5 ∷ [])

pub of_indexed_arrays : broken indexed_arrays ≡ []
unfolding of_program sites
of_indexed_arrays = refl

-- void main(void) { int a[2]; chan c; a = 1; c++; c :> a; }
abbrev pub lval_array : NamedProgram
lval_array = named (
    function_of None (id (codes "main") 6) [] (plain.statements ((does (plain.declare (record { kind = plain.array false 2 (at 25); name = id (codes "a") 23 } ∷ [])) 19) ∷ (does (plain.declare (record { kind = plain.channel false; name = id (codes "c") 34 } ∷ [])) 29) ∷ (does (plain.assign (name (codes "a") 37) 22 (at 39) (plain.value (number 1 false 41))) 37) ∷ (does (plain.step (name (codes "c") 44) 35) 44) ∷ (does (plain.input (record { name = id (codes "c") 49; time = None; condition = None; target = (plain.to (name (codes "a") 54)); stamp = None })) 49) ∷ [])) 17
    ∷ []) (0 ∷ 1 ∷ 2 ∷ 1 ∷ 2 ∷ 2 ∷ 1 ∷ [])

pub of_lval_array : broken lval_array ≡ rule 403 37 ∷ rule 403 44 ∷ rule 403 54 ∷ []
unfolding of_program sites
of_lval_array = refl

-- port p = XS1_PORT_1A; void main(void) { int x; p <: 1 @ p; p :> void @ x; }
abbrev pub lval_stamp : NamedProgram
lval_stamp = named (
    (plain.port (record { place = None; dir = direction.Both; name = id (codes "p") 6; ident = id (codes "XS1_PORT_1A") 10 }))
    ∷ function_of None (id (codes "main") 28) [] (plain.statements ((does (plain.declare (record { kind = plain.word false None; name = id (codes "x") 45 } ∷ [])) 41) ∷ (does (plain.output (record { name = id (codes "p") 48; time = None; value = (number 1 false 53); stamp = (Some (timing 55 (name (codes "p") 57))) })) 48) ∷ (does (plain.input (record { name = id (codes "p") 60; time = None; condition = None; target = plain.dropped; stamp = (Some (timing 70 (name (codes "x") 72))) })) 60) ∷ [])) 39
    ∷ []) (0 ∷ 1 ∷ 2 ∷ 0 ∷ 0 ∷ 0 ∷ 2 ∷ [])

-- a stamp is an `lval`
pub of_lval_stamp : broken lval_stamp ≡ rule 403 57 ∷ []
unfolding of_program sites
of_lval_stamp = refl

-- void f(int &r, int v) { r = 1; v = 2; } void main(void) { int a[1]; a[0] = 3; a[0] += 1; { int x; x++; } }
abbrev pub lvals : NamedProgram
lvals = named (
    function_of None (id (codes "f") 6) (record { kind = param.Ref false; name = id (codes "r") 13 } ∷ record { kind = param.Value false; name = id (codes "v") 20 } ∷ []) (plain.statements ((does (plain.assign (name (codes "r") 25) 22 (at 27) (plain.value (number 1 false 29))) 25) ∷ (does (plain.assign (name (codes "v") 32) 22 (at 34) (plain.value (number 2 false 36))) 32) ∷ [])) 23
    ∷ function_of None (id (codes "main") 46) [] (plain.statements ((does (plain.declare (record { kind = plain.array false 1 (at 65); name = id (codes "a") 63 } ∷ [])) 59) ∷ (does (plain.assign (index (codes "a") (number 0 false 71) 69) 22 (at 74) (plain.value (number 3 false 76))) 69) ∷ (does (plain.assign (index (codes "a") (number 0 false 81) 79) 37 (at 84) (plain.value (number 1 false 87))) 79) ∷ (does (plain.block (plain.statements ((does (plain.declare (record { kind = plain.word false None; name = id (codes "x") 96 } ∷ [])) 92) ∷ (does (plain.step (name (codes "x") 99) 35) 99) ∷ []))) 90) ∷ [])) 57
    ∷ []) (0 ∷ 1 ∷ 2 ∷ 1 ∷ 2 ∷ 3 ∷ 4 ∷ 4 ∷ 4 ∷ 5 ∷ 5 ∷ [])

pub of_lvals : broken lvals ≡ []
unfolding of_program sites
of_lvals = refl

-- void main(void) { int f; f(); }
abbrev pub called_word : NamedProgram
called_word = named (
    function_of None (id (codes "main") 6) [] (plain.statements ((does (plain.declare (record { kind = plain.word false None; name = id (codes "f") 23 } ∷ [])) 19) ∷ (does (plain.perform (call_of (id (codes "f") 26) [])) 26) ∷ [])) 17
    ∷ []) (0 ∷ 1 ∷ 1 ∷ [])

pub of_called_word : broken called_word ≡ rule 404 26 ∷ []
unfolding of_program sites
of_called_word = refl

-- void f(void) { } void main(void) { f(); }
abbrev pub called_function : NamedProgram
called_function = named (
    function_of None (id (codes "f") 6) [] (plain.statements []) 14
    ∷ function_of None (id (codes "main") 23) [] (plain.statements ((does (plain.perform (call_of (id (codes "f") 36) [])) 36) ∷ [])) 34
    ∷ []) (0 ∷ 1 ∷ 0 ∷ [])

pub of_called_function : broken called_function ≡ []
unfolding of_program sites
of_called_function = refl

-- void f(int x) { } void main(void) { f(); f(1, 2); f(3); }
abbrev pub too_few : NamedProgram
too_few = named (
    function_of None (id (codes "f") 6) (record { kind = param.Value false; name = id (codes "x") 12 } ∷ []) (plain.statements []) 15
    ∷ function_of None (id (codes "main") 24) [] (plain.statements ((does (plain.perform (call_of (id (codes "f") 37) [])) 37) ∷ (does (plain.perform (call_of (id (codes "f") 42) (given 44 (number 1 false 44) ∷ given 47 (number 2 false 47) ∷ []))) 42) ∷ (does (plain.perform (call_of (id (codes "f") 51) (given 53 (number 3 false 53) ∷ []))) 51) ∷ [])) 35
    ∷ []) (0 ∷ 1 ∷ 2 ∷ 0 ∷ 0 ∷ 0 ∷ [])

-- and then one that has as many as it should
pub of_too_few : broken too_few ≡ rule 405 37 ∷ rule 405 42 ∷ []
unfolding of_program sites
of_too_few = refl

-- void f(int &x) { } void main(void) { unsigned u; int a[1]; unsigned b[1]; f(1); f(u); f(a); f(b[0]); }
abbrev pub reference_of_number : NamedProgram
reference_of_number = named (
    function_of None (id (codes "f") 6) (record { kind = param.Ref false; name = id (codes "x") 13 } ∷ []) (plain.statements []) 16
    ∷ function_of None (id (codes "main") 25) [] (plain.statements ((does (plain.declare (record { kind = plain.word true None; name = id (codes "u") 47 } ∷ [])) 38) ∷ (does (plain.declare (record { kind = plain.array false 1 (at 56); name = id (codes "a") 54 } ∷ [])) 50) ∷ (does (plain.declare (record { kind = plain.array true 1 (at 71); name = id (codes "b") 69 } ∷ [])) 60) ∷ (does (plain.perform (call_of (id (codes "f") 75) (given 77 (number 1 false 77) ∷ []))) 75) ∷ (does (plain.perform (call_of (id (codes "f") 81) (given 83 (name (codes "u") 83) ∷ []))) 81) ∷ (does (plain.perform (call_of (id (codes "f") 87) (given 89 (name (codes "a") 89) ∷ []))) 87) ∷ (does (plain.perform (call_of (id (codes "f") 93) (given 95 (index (codes "b") (number 0 false 97) 95) ∷ []))) 93) ∷ [])) 36
    ∷ []) (0 ∷ 1 ∷ 2 ∷ 3 ∷ 4 ∷ 5 ∷ 0 ∷ 0 ∷ 3 ∷ 0 ∷ 4 ∷ 0 ∷ 5 ∷ [])

-- a whole array for an `&` parameter is no `lval` either
pub of_reference_of_number : broken reference_of_number ≡ rule 403 89 ∷ rule 406 77 ∷ rule 406 83 ∷ rule 406 89 ∷ rule 406 95 ∷ []
unfolding of_program sites
of_reference_of_number = refl

-- void f(int &x) { } void g(int v, int &r) { f(v); f(r); f((r)); } void main(void) { int x; int a[1]; f(x); f(a[0]); }
abbrev pub references : NamedProgram
references = named (
    function_of None (id (codes "f") 6) (record { kind = param.Ref false; name = id (codes "x") 13 } ∷ []) (plain.statements []) 16
    ∷ function_of None (id (codes "g") 25) (record { kind = param.Value false; name = id (codes "v") 31 } ∷ record { kind = param.Ref false; name = id (codes "r") 39 } ∷ []) (plain.statements ((does (plain.perform (call_of (id (codes "f") 44) (given 46 (name (codes "v") 46) ∷ []))) 44) ∷ (does (plain.perform (call_of (id (codes "f") 50) (given 52 (name (codes "r") 52) ∷ []))) 50) ∷ (does (plain.perform (call_of (id (codes "f") 56) (given 58 (name (codes "r") 59) ∷ []))) 56) ∷ [])) 42
    ∷ function_of None (id (codes "main") 71) [] (plain.statements ((does (plain.declare (record { kind = plain.word false None; name = id (codes "x") 88 } ∷ [])) 84) ∷ (does (plain.declare (record { kind = plain.array false 1 (at 97); name = id (codes "a") 95 } ∷ [])) 91) ∷ (does (plain.perform (call_of (id (codes "f") 101) (given 103 (name (codes "x") 103) ∷ []))) 101) ∷ (does (plain.perform (call_of (id (codes "f") 107) (given 109 (index (codes "a") (number 0 false 111) 109) ∷ []))) 107) ∷ [])) 82
    ∷ []) (0 ∷ 1 ∷ 2 ∷ 3 ∷ 4 ∷ 0 ∷ 3 ∷ 0 ∷ 4 ∷ 0 ∷ 4 ∷ 5 ∷ 6 ∷ 7 ∷ 0 ∷ 6 ∷ 0 ∷ 7 ∷ [])

pub of_references : broken references ≡ []
unfolding of_program sites
of_references = refl

-- void f(unsigned &u) { } void g(int &x) { } void main(void) { par (int i = 0; i < 1; i++) { f(i); g(i); } }
abbrev pub reference_of_index : NamedProgram
reference_of_index = named (
    function_of None (id (codes "f") 6) (record { kind = param.Ref true; name = id (codes "u") 18 } ∷ []) (plain.statements []) 21
    ∷ function_of None (id (codes "g") 30) (record { kind = param.Ref false; name = id (codes "x") 37 } ∷ []) (plain.statements []) 40
    ∷ function_of None (id (codes "main") 49) [] (plain.statements ((does (plain.replicated (id (codes "i") 71) (id (codes "i") 78) (id (codes "i") 85) 0 1 (plain.branch None (does (plain.block (plain.statements ((does (plain.perform (call_of (id (codes "f") 92) (given 94 (name (codes "i") 94) ∷ []))) 92) ∷ (does (plain.perform (call_of (id (codes "g") 98) (given 100 (name (codes "i") 100) ∷ []))) 98) ∷ []))) 90))) 62) ∷ [])) 60
    ∷ []) (0 ∷ 1 ∷ 2 ∷ 3 ∷ 4 ∷ 5 ∷ 5 ∷ 5 ∷ 0 ∷ 5 ∷ 2 ∷ 5 ∷ [])

-- the index of a replicated `par` is an `int` that is not changed
pub of_reference_of_index : broken reference_of_index ≡ rule 406 94 ∷ rule 412 94 ∷ rule 412 100 ∷ []
unfolding of_program sites
of_reference_of_index = refl

-- void f(int &x) { } void main(void) { int x; f((x[0])); }
abbrev pub reference_of_no_element : NamedProgram
reference_of_no_element = named (
    function_of None (id (codes "f") 6) (record { kind = param.Ref false; name = id (codes "x") 13 } ∷ []) (plain.statements []) 16
    ∷ function_of None (id (codes "main") 25) [] (plain.statements ((does (plain.declare (record { kind = plain.word false None; name = id (codes "x") 42 } ∷ [])) 38) ∷ (does (plain.perform (call_of (id (codes "f") 45) (given 47 (index (codes "x") (number 0 false 50) 48) ∷ []))) 45) ∷ [])) 36
    ∷ []) (0 ∷ 1 ∷ 2 ∷ 3 ∷ 0 ∷ 3 ∷ [])

-- what is no element doesn't fit
pub of_reference_of_no_element : broken reference_of_no_element ≡ rule 402 48 ∷ rule 406 47 ∷ []
unfolding of_program sites
of_reference_of_no_element = refl

-- void f(int a[]) { } void g(int b[2]) { } void h(int c[]) { g(c); } void main(void) { int x; int a[3]; unsigned u[2]; f(x); f(a[0]); f(u); g(a); }
abbrev pub array_of_other : NamedProgram
array_of_other = named (
    function_of None (id (codes "f") 6) (record { kind = param.Array false None; name = id (codes "a") 12 } ∷ []) (plain.statements []) 17
    ∷ function_of None (id (codes "g") 26) (record { kind = param.Array false (Some (2, at 34)); name = id (codes "b") 32 } ∷ []) (plain.statements []) 38
    ∷ function_of None (id (codes "h") 47) (record { kind = param.Array false None; name = id (codes "c") 53 } ∷ []) (plain.statements ((does (plain.perform (call_of (id (codes "g") 60) (given 62 (name (codes "c") 62) ∷ []))) 60) ∷ [])) 58
    ∷ function_of None (id (codes "main") 73) [] (plain.statements ((does (plain.declare (record { kind = plain.word false None; name = id (codes "x") 90 } ∷ [])) 86) ∷ (does (plain.declare (record { kind = plain.array false 3 (at 99); name = id (codes "a") 97 } ∷ [])) 93) ∷ (does (plain.declare (record { kind = plain.array true 2 (at 114); name = id (codes "u") 112 } ∷ [])) 103) ∷ (does (plain.perform (call_of (id (codes "f") 118) (given 120 (name (codes "x") 120) ∷ []))) 118) ∷ (does (plain.perform (call_of (id (codes "f") 124) (given 126 (index (codes "a") (number 0 false 128) 126) ∷ []))) 124) ∷ (does (plain.perform (call_of (id (codes "f") 133) (given 135 (name (codes "u") 135) ∷ []))) 133) ∷ (does (plain.perform (call_of (id (codes "g") 139) (given 141 (name (codes "a") 141) ∷ []))) 139) ∷ [])) 84
    ∷ []) (0 ∷ 1 ∷ 2 ∷ 3 ∷ 4 ∷ 5 ∷ 2 ∷ 5 ∷ 6 ∷ 7 ∷ 8 ∷ 9 ∷ 0 ∷ 7 ∷ 0 ∷ 8 ∷ 0 ∷ 9 ∷ 2 ∷ 8 ∷ [])

-- an array of unknown length doesn't fit one of a known length
pub of_array_of_other : broken array_of_other ≡ rule 406 62 ∷ rule 406 120 ∷ rule 406 126 ∷ rule 406 135 ∷ rule 406 141 ∷ []
unfolding of_program sites
of_array_of_other = refl

-- void f(int a[]) { } void g(int b[2]) { f(b); } void main(void) { int a[2]; f(a); g(a); g((a)); }
abbrev pub arrays : NamedProgram
arrays = named (
    function_of None (id (codes "f") 6) (record { kind = param.Array false None; name = id (codes "a") 12 } ∷ []) (plain.statements []) 17
    ∷ function_of None (id (codes "g") 26) (record { kind = param.Array false (Some (2, at 34)); name = id (codes "b") 32 } ∷ []) (plain.statements ((does (plain.perform (call_of (id (codes "f") 40) (given 42 (name (codes "b") 42) ∷ []))) 40) ∷ [])) 38
    ∷ function_of None (id (codes "main") 53) [] (plain.statements ((does (plain.declare (record { kind = plain.array false 2 (at 72); name = id (codes "a") 70 } ∷ [])) 66) ∷ (does (plain.perform (call_of (id (codes "f") 76) (given 78 (name (codes "a") 78) ∷ []))) 76) ∷ (does (plain.perform (call_of (id (codes "g") 82) (given 84 (name (codes "a") 84) ∷ []))) 82) ∷ (does (plain.perform (call_of (id (codes "g") 88) (given 90 (name (codes "a") 91) ∷ []))) 88) ∷ [])) 64
    ∷ []) (0 ∷ 1 ∷ 2 ∷ 3 ∷ 0 ∷ 3 ∷ 4 ∷ 5 ∷ 0 ∷ 5 ∷ 2 ∷ 5 ∷ 2 ∷ 5 ∷ [])

pub of_arrays : broken arrays ≡ []
unfolding of_program sites
of_arrays = refl

-- void f(chanend c) { } void main(void) { timer t; f(t); f(1); }
abbrev pub end_of_timer : NamedProgram
end_of_timer = named (
    function_of None (id (codes "f") 6) (record { kind = param.End false; name = id (codes "c") 16 } ∷ []) (plain.statements []) 19
    ∷ function_of None (id (codes "main") 28) [] (plain.statements ((does (plain.declare (record { kind = plain.timer; name = id (codes "t") 47 } ∷ [])) 41) ∷ (does (plain.perform (call_of (id (codes "f") 50) (given 52 (name (codes "t") 52) ∷ []))) 50) ∷ (does (plain.perform (call_of (id (codes "f") 56) (given 58 (number 1 false 58) ∷ []))) 56) ∷ [])) 39
    ∷ []) (0 ∷ 1 ∷ 2 ∷ 3 ∷ 0 ∷ 3 ∷ 0 ∷ [])

pub of_end_of_timer : broken end_of_timer ≡ rule 406 52 ∷ rule 406 58 ∷ []
unfolding of_program sites
of_end_of_timer = refl

-- void f(chanend c) { } void g(chanend d) { f(d); } void main(void) { chan c; g(c); }
abbrev pub ends : NamedProgram
ends = named (
    function_of None (id (codes "f") 6) (record { kind = param.End false; name = id (codes "c") 16 } ∷ []) (plain.statements []) 19
    ∷ function_of None (id (codes "g") 28) (record { kind = param.End false; name = id (codes "d") 38 } ∷ []) (plain.statements ((does (plain.perform (call_of (id (codes "f") 43) (given 45 (name (codes "d") 45) ∷ []))) 43) ∷ [])) 41
    ∷ function_of None (id (codes "main") 56) [] (plain.statements ((does (plain.declare (record { kind = plain.channel false; name = id (codes "c") 74 } ∷ [])) 69) ∷ (does (plain.perform (call_of (id (codes "g") 77) (given 79 (name (codes "c") 79) ∷ []))) 77) ∷ [])) 67
    ∷ []) (0 ∷ 1 ∷ 2 ∷ 3 ∷ 0 ∷ 3 ∷ 4 ∷ 5 ∷ 2 ∷ 5 ∷ [])

pub of_ends : broken ends ≡ []
unfolding of_program sites
of_ends = refl

-- in port p = XS1_PORT_1A; void f(out port q) { } void g(port r) { f(r); } void main(void) { f(p); g(p); }
abbrev pub port_of_other : NamedProgram
port_of_other = named (
    (plain.port (record { place = None; dir = direction.In; name = id (codes "p") 9; ident = id (codes "XS1_PORT_1A") 13 }))
    ∷ function_of None (id (codes "f") 31) (record { kind = param.Port direction.Out; name = id (codes "q") 42 } ∷ []) (plain.statements []) 45
    ∷ function_of None (id (codes "g") 54) (record { kind = param.Port direction.Both; name = id (codes "r") 61 } ∷ []) (plain.statements ((does (plain.perform (call_of (id (codes "f") 66) (given 68 (name (codes "r") 68) ∷ []))) 66) ∷ [])) 64
    ∷ function_of None (id (codes "main") 79) [] (plain.statements ((does (plain.perform (call_of (id (codes "f") 92) (given 94 (name (codes "p") 94) ∷ []))) 92) ∷ (does (plain.perform (call_of (id (codes "g") 98) (given 100 (name (codes "p") 100) ∷ []))) 98) ∷ [])) 90
    ∷ []) (0 ∷ 1 ∷ 2 ∷ 3 ∷ 4 ∷ 1 ∷ 4 ∷ 5 ∷ 1 ∷ 0 ∷ 3 ∷ 0 ∷ [])

pub of_port_of_other : broken port_of_other ≡ rule 406 68 ∷ rule 406 94 ∷ rule 406 100 ∷ []
unfolding of_program sites
of_port_of_other = refl

-- in port p = XS1_PORT_1A; void f(in port q) { } void g(in port r) { f(r); } void main(void) { f(p); g(p); }
abbrev pub ports_given : NamedProgram
ports_given = named (
    (plain.port (record { place = None; dir = direction.In; name = id (codes "p") 9; ident = id (codes "XS1_PORT_1A") 13 }))
    ∷ function_of None (id (codes "f") 31) (record { kind = param.Port direction.In; name = id (codes "q") 41 } ∷ []) (plain.statements []) 44
    ∷ function_of None (id (codes "g") 53) (record { kind = param.Port direction.In; name = id (codes "r") 63 } ∷ []) (plain.statements ((does (plain.perform (call_of (id (codes "f") 68) (given 70 (name (codes "r") 70) ∷ []))) 68) ∷ [])) 66
    ∷ function_of None (id (codes "main") 81) [] (plain.statements ((does (plain.perform (call_of (id (codes "f") 94) (given 96 (name (codes "p") 96) ∷ []))) 94) ∷ (does (plain.perform (call_of (id (codes "g") 100) (given 102 (name (codes "p") 102) ∷ []))) 100) ∷ [])) 92
    ∷ []) (0 ∷ 1 ∷ 2 ∷ 3 ∷ 4 ∷ 1 ∷ 4 ∷ 5 ∷ 1 ∷ 0 ∷ 3 ∷ 0 ∷ [])

pub of_ports_given : broken ports_given ≡ []
unfolding of_program sites
of_ports_given = refl

-- void f(int x) { } void main(void) { int a[2]; f(a); }
abbrev pub value_of_array : NamedProgram
value_of_array = named (
    function_of None (id (codes "f") 6) (record { kind = param.Value false; name = id (codes "x") 12 } ∷ []) (plain.statements []) 15
    ∷ function_of None (id (codes "main") 24) [] (plain.statements ((does (plain.declare (record { kind = plain.array false 2 (at 43); name = id (codes "a") 41 } ∷ [])) 37) ∷ (does (plain.perform (call_of (id (codes "f") 47) (given 49 (name (codes "a") 49) ∷ []))) 47) ∷ [])) 35
    ∷ []) (0 ∷ 1 ∷ 2 ∷ 3 ∷ 0 ∷ 3 ∷ [])

-- a parameter by value needs a word
pub of_value_of_array : broken value_of_array ≡ rule 401 49 ∷ []
unfolding of_program sites
of_value_of_array = refl

-- void f(void) { } void main(void) { int x = f(); x = f(); }
abbrev pub void_result : NamedProgram
void_result = named (
    function_of None (id (codes "f") 6) [] (plain.statements []) 14
    ∷ function_of None (id (codes "main") 23) [] (plain.statements ((does (plain.declare (record { kind = plain.word false (Some (call_of (id (codes "f") 44) [])); name = id (codes "x") 40 } ∷ [])) 36) ∷ (does (plain.assign (name (codes "x") 49) 22 (at 51) (call_of (id (codes "f") 53) [])) 49) ∷ [])) 34
    ∷ []) (0 ∷ 1 ∷ 2 ∷ 0 ∷ 2 ∷ 0 ∷ [])

pub of_void_result : broken void_result ≡ rule 407 44 ∷ rule 407 53 ∷ []
unfolding of_program sites
of_void_result = refl

-- void f(void) { } int main(void) { return f(); }
abbrev pub void_returned : NamedProgram
void_returned = named (
    function_of None (id (codes "f") 6) [] (plain.statements []) 14
    ∷ function_of (Some false) (id (codes "main") 22) [] (plain.statements ((does (plain.return_with (Some (call_of (id (codes "f") 42) []))) 35) ∷ [])) 33
    ∷ []) (0 ∷ 1 ∷ 0 ∷ [])

pub of_void_returned : broken void_returned ≡ rule 407 42 ∷ []
unfolding of_program sites
of_void_returned = refl

-- int f(void) { return 1; } void g(void) { } void main(void) { int x = f(); f(); g(); }
abbrev pub result_dropped : NamedProgram
result_dropped = named (
    function_of (Some false) (id (codes "f") 5) [] (plain.statements ((does (plain.return_with (Some (plain.value (number 1 false 22)))) 15) ∷ [])) 13
    ∷ function_of None (id (codes "g") 32) [] (plain.statements []) 40
    ∷ function_of None (id (codes "main") 49) [] (plain.statements ((does (plain.declare (record { kind = plain.word false (Some (call_of (id (codes "f") 70) [])); name = id (codes "x") 66 } ∷ [])) 62) ∷ (does (plain.perform (call_of (id (codes "f") 75) [])) 75) ∷ (does (plain.perform (call_of (id (codes "g") 80) [])) 80) ∷ [])) 60
    ∷ []) (0 ∷ 1 ∷ 2 ∷ 3 ∷ 0 ∷ 0 ∷ 1 ∷ [])

pub of_result_dropped : broken result_dropped ≡ []
unfolding of_program sites
of_result_dropped = refl

-- int main(void) { return; }
abbrev pub return_without : NamedProgram
return_without = named (
    function_of (Some false) (id (codes "main") 5) [] (plain.statements ((does (plain.return_with None) 18) ∷ [])) 16
    ∷ []) (0 ∷ [])

pub of_return_without : broken return_without ≡ rule 408 18 ∷ []
unfolding of_program sites
of_return_without = refl

-- void main(void) { return 1; }
abbrev pub return_with : NamedProgram
return_with = named (
    function_of None (id (codes "main") 6) [] (plain.statements ((does (plain.return_with (Some (plain.value (number 1 false 26)))) 19) ∷ [])) 17
    ∷ []) (0 ∷ [])

pub of_return_with : broken return_with ≡ rule 408 19 ∷ []
unfolding of_program sites
of_return_with = refl

-- int f(void) { return 1; } void main(void) { return; }
abbrev pub returns : NamedProgram
returns = named (
    function_of (Some false) (id (codes "f") 5) [] (plain.statements ((does (plain.return_with (Some (plain.value (number 1 false 22)))) 15) ∷ [])) 13
    ∷ function_of None (id (codes "main") 32) [] (plain.statements ((does (plain.return_with None) 45) ∷ [])) 43
    ∷ []) (0 ∷ 1 ∷ [])

pub of_returns : broken returns ≡ []
unfolding of_program sites
of_returns = refl

-- void f(int a[0]) { } void main(void) { int a[0]; int b[16385], c[16384], d[1]; }
abbrev pub lengths : NamedProgram
lengths = named (
    function_of None (id (codes "f") 6) (record { kind = param.Array false (Some (0, at 14)); name = id (codes "a") 12 } ∷ []) (plain.statements []) 18
    ∷ function_of None (id (codes "main") 27) [] (plain.statements ((does (plain.declare (record { kind = plain.array false 0 (at 46); name = id (codes "a") 44 } ∷ [])) 40) ∷ (does (plain.declare (record { kind = plain.array false 16385 (at 56); name = id (codes "b") 54 } ∷ record { kind = plain.array false 16384 (at 66); name = id (codes "c") 64 } ∷ record { kind = plain.array false 1 (at 76); name = id (codes "d") 74 } ∷ [])) 50) ∷ [])) 38
    ∷ []) (0 ∷ 1 ∷ 2 ∷ 3 ∷ 4 ∷ 5 ∷ 6 ∷ [])

-- but not by 16,384 and 1
pub of_lengths : broken lengths ≡ rule 409 14 ∷ rule 409 46 ∷ rule 409 56 ∷ []
unfolding of_program sites
of_lengths = refl

-- in port p = XS1_PORT_1A; void main(void) { timer t; int x; p <: 1; t <: 2; x <: 3; }
abbrev pub output_to_other : NamedProgram
output_to_other = named (
    (plain.port (record { place = None; dir = direction.In; name = id (codes "p") 9; ident = id (codes "XS1_PORT_1A") 13 }))
    ∷ function_of None (id (codes "main") 31) [] (plain.statements ((does (plain.declare (record { kind = plain.timer; name = id (codes "t") 50 } ∷ [])) 44) ∷ (does (plain.declare (record { kind = plain.word false None; name = id (codes "x") 57 } ∷ [])) 53) ∷ (does (plain.output (record { name = id (codes "p") 60; time = None; value = (number 1 false 65); stamp = None })) 60) ∷ (does (plain.output (record { name = id (codes "t") 68; time = None; value = (number 2 false 73); stamp = None })) 68) ∷ (does (plain.output (record { name = id (codes "x") 76; time = None; value = (number 3 false 81); stamp = None })) 76) ∷ [])) 42
    ∷ []) (0 ∷ 1 ∷ 2 ∷ 3 ∷ 0 ∷ 2 ∷ 3 ∷ [])

pub of_output_to_other : broken output_to_other ≡ rule 410 60 ∷ rule 410 68 ∷ rule 410 76 ∷ []
unfolding of_program sites
of_output_to_other = refl

-- out port p = XS1_PORT_1A; port q = XS1_PORT_1B; void f(chanend e, port r) { e <: 1; r <: 2; } void main(void) { chan c; c <: 3; p <: 4; q <: 5; }
abbrev pub outputs : NamedProgram
outputs = named (
    (plain.port (record { place = None; dir = direction.Out; name = id (codes "p") 10; ident = id (codes "XS1_PORT_1A") 14 }))
    ∷ (plain.port (record { place = None; dir = direction.Both; name = id (codes "q") 32; ident = id (codes "XS1_PORT_1B") 36 }))
    ∷ function_of None (id (codes "f") 54) (record { kind = param.End false; name = id (codes "e") 64 } ∷ record { kind = param.Port direction.Both; name = id (codes "r") 72 } ∷ []) (plain.statements ((does (plain.output (record { name = id (codes "e") 77; time = None; value = (number 1 false 82); stamp = None })) 77) ∷ (does (plain.output (record { name = id (codes "r") 85; time = None; value = (number 2 false 90); stamp = None })) 85) ∷ [])) 75
    ∷ function_of None (id (codes "main") 100) [] (plain.statements ((does (plain.declare (record { kind = plain.channel false; name = id (codes "c") 118 } ∷ [])) 113) ∷ (does (plain.output (record { name = id (codes "c") 121; time = None; value = (number 3 false 126); stamp = None })) 121) ∷ (does (plain.output (record { name = id (codes "p") 129; time = None; value = (number 4 false 134); stamp = None })) 129) ∷ (does (plain.output (record { name = id (codes "q") 137; time = None; value = (number 5 false 142); stamp = None })) 137) ∷ [])) 111
    ∷ []) (0 ∷ 1 ∷ 2 ∷ 3 ∷ 4 ∷ 3 ∷ 4 ∷ 5 ∷ 6 ∷ 6 ∷ 0 ∷ 1 ∷ [])

pub of_outputs : broken outputs ≡ []
unfolding of_program sites
of_outputs = refl

-- out port p = XS1_PORT_1A; void main(void) { int x; p :> x; x :> x; select { case p :> x: break; } }
abbrev pub input_from_other : NamedProgram
input_from_other = named (
    (plain.port (record { place = None; dir = direction.Out; name = id (codes "p") 10; ident = id (codes "XS1_PORT_1A") 14 }))
    ∷ function_of None (id (codes "main") 32) [] (plain.statements ((does (plain.declare (record { kind = plain.word false None; name = id (codes "x") 49 } ∷ [])) 45) ∷ (does (plain.input (record { name = id (codes "p") 52; time = None; condition = None; target = (plain.to (name (codes "x") 57)); stamp = None })) 52) ∷ (does (plain.input (record { name = id (codes "x") 60; time = None; condition = None; target = (plain.to (name (codes "x") 65)); stamp = None })) 60) ∷ (does (plain.select (plain.cases ((plain.case (at 77) None (Some (record { name = id (codes "p") 82; time = None; condition = None; target = (plain.to (name (codes "x") 87)); stamp = None })) (plain.statements [])) ∷ []))) 68) ∷ [])) 43
    ∷ []) (0 ∷ 1 ∷ 2 ∷ 0 ∷ 2 ∷ 2 ∷ 2 ∷ 0 ∷ 2 ∷ [])

pub of_input_from_other : broken input_from_other ≡ rule 411 52 ∷ rule 411 60 ∷ rule 411 82 ∷ []
unfolding of_program sites
of_input_from_other = refl

-- in port p = XS1_PORT_1A; port q = XS1_PORT_1B; void main(void) { chan c; timer t; int x; p :> x; q :> x; t :> x; c :> unsigned y; x = y; }
abbrev pub inputs : NamedProgram
inputs = named (
    (plain.port (record { place = None; dir = direction.In; name = id (codes "p") 9; ident = id (codes "XS1_PORT_1A") 13 }))
    ∷ (plain.port (record { place = None; dir = direction.Both; name = id (codes "q") 31; ident = id (codes "XS1_PORT_1B") 35 }))
    ∷ function_of None (id (codes "main") 53) [] (plain.statements ((does (plain.declare (record { kind = plain.channel false; name = id (codes "c") 71 } ∷ [])) 66) ∷ (does (plain.declare (record { kind = plain.timer; name = id (codes "t") 80 } ∷ [])) 74) ∷ (does (plain.declare (record { kind = plain.word false None; name = id (codes "x") 87 } ∷ [])) 83) ∷ (does (plain.input (record { name = id (codes "p") 90; time = None; condition = None; target = (plain.to (name (codes "x") 95)); stamp = None })) 90) ∷ (does (plain.input (record { name = id (codes "q") 98; time = None; condition = None; target = (plain.to (name (codes "x") 103)); stamp = None })) 98) ∷ (does (plain.input (record { name = id (codes "t") 106; time = None; condition = None; target = (plain.to (name (codes "x") 111)); stamp = None })) 106) ∷ (does (plain.input (record { name = id (codes "c") 114; time = None; condition = None; target = (plain.fresh true (id (codes "y") 128)); stamp = None })) 114) ∷ (does (plain.assign (name (codes "x") 131) 22 (at 133) (plain.value (name (codes "y") 135))) 131) ∷ [])) 64
    ∷ []) (0 ∷ 1 ∷ 2 ∷ 3 ∷ 4 ∷ 5 ∷ 0 ∷ 5 ∷ 1 ∷ 5 ∷ 4 ∷ 5 ∷ 3 ∷ 6 ∷ 5 ∷ 6 ∷ [])

pub of_inputs : broken inputs ≡ []
unfolding of_program sites
of_inputs = refl

-- void main(void) { par (int i = 0; i < 2; i++) { i = 1; i++; } }
abbrev pub index_changed : NamedProgram
index_changed = named (
    function_of None (id (codes "main") 6) [] (plain.statements ((does (plain.replicated (id (codes "i") 28) (id (codes "i") 35) (id (codes "i") 42) 0 2 (plain.branch None (does (plain.block (plain.statements ((does (plain.assign (name (codes "i") 49) 22 (at 51) (plain.value (number 1 false 53))) 49) ∷ (does (plain.step (name (codes "i") 56) 35) 56) ∷ []))) 47))) 19) ∷ [])) 17
    ∷ []) (0 ∷ 1 ∷ 1 ∷ 1 ∷ 1 ∷ 1 ∷ [])

pub of_index_changed : broken index_changed ≡ rule 412 49 ∷ rule 412 56 ∷ []
unfolding of_program sites
of_index_changed = refl

-- void main(void) { chan c; timer t; int x; c @ 1 <: 2; t :> x @ x; }
abbrev pub time_of_channel : NamedProgram
time_of_channel = named (
    function_of None (id (codes "main") 6) [] (plain.statements ((does (plain.declare (record { kind = plain.channel false; name = id (codes "c") 24 } ∷ [])) 19) ∷ (does (plain.declare (record { kind = plain.timer; name = id (codes "t") 33 } ∷ [])) 27) ∷ (does (plain.declare (record { kind = plain.word false None; name = id (codes "x") 40 } ∷ [])) 36) ∷ (does (plain.output (record { name = id (codes "c") 43; time = (Some (timing 45 (number 1 false 47))); value = (number 2 false 52); stamp = None })) 43) ∷ (does (plain.input (record { name = id (codes "t") 55; time = None; condition = None; target = (plain.to (name (codes "x") 60)); stamp = (Some (timing 62 (name (codes "x") 64))) })) 55) ∷ [])) 17
    ∷ []) (0 ∷ 1 ∷ 2 ∷ 3 ∷ 1 ∷ 2 ∷ 3 ∷ 3 ∷ [])

pub of_time_of_channel : broken time_of_channel ≡ rule 413 45 ∷ rule 413 62 ∷ []
unfolding of_program sites
of_time_of_channel = refl

-- port p = XS1_PORT_1A; void main(void) { int x; p @ 1 <: 2 @ x; p @ 3 :> x; }
abbrev pub times : NamedProgram
times = named (
    (plain.port (record { place = None; dir = direction.Both; name = id (codes "p") 6; ident = id (codes "XS1_PORT_1A") 10 }))
    ∷ function_of None (id (codes "main") 28) [] (plain.statements ((does (plain.declare (record { kind = plain.word false None; name = id (codes "x") 45 } ∷ [])) 41) ∷ (does (plain.output (record { name = id (codes "p") 48; time = (Some (timing 50 (number 1 false 52))); value = (number 2 false 57); stamp = (Some (timing 59 (name (codes "x") 61))) })) 48) ∷ (does (plain.input (record { name = id (codes "p") 64; time = (Some (timing 66 (number 3 false 68))); condition = None; target = (plain.to (name (codes "x") 73)); stamp = None })) 64) ∷ [])) 39
    ∷ []) (0 ∷ 1 ∷ 2 ∷ 0 ∷ 2 ∷ 0 ∷ 2 ∷ [])

pub of_times : broken times ≡ []
unfolding of_program sites
of_times = refl

-- port p = XS1_PORT_1A; void main(void) { timer t; t when pinseq(1) :> void; t when pinsneq(1) :> void; p when timerafter(2) :> void; }
abbrev pub condition_of_other : NamedProgram
condition_of_other = named (
    (plain.port (record { place = None; dir = direction.Both; name = id (codes "p") 6; ident = id (codes "XS1_PORT_1A") 10 }))
    ∷ function_of None (id (codes "main") 28) [] (plain.statements ((does (plain.declare (record { kind = plain.timer; name = id (codes "t") 47 } ∷ [])) 41) ∷ (does (plain.input (record { name = id (codes "t") 50; time = None; condition = (Some (condition 52 17 (number 1 false 64))); target = plain.dropped; stamp = None })) 50) ∷ (does (plain.input (record { name = id (codes "t") 76; time = None; condition = (Some (condition 78 18 (number 1 false 91))); target = plain.dropped; stamp = None })) 76) ∷ (does (plain.input (record { name = id (codes "p") 103; time = None; condition = (Some (condition 105 25 (number 2 false 121))); target = plain.dropped; stamp = None })) 103) ∷ [])) 39
    ∷ []) (0 ∷ 1 ∷ 2 ∷ 2 ∷ 2 ∷ 0 ∷ [])

pub of_condition_of_other : broken condition_of_other ≡ rule 414 52 ∷ rule 414 78 ∷ rule 414 105 ∷ []
unfolding of_program sites
of_condition_of_other = refl

-- port p = XS1_PORT_1A; void main(void) { timer t; t when timerafter(1) :> void; p when pinseq(2) :> void; p when pinsneq(3) :> void; }
abbrev pub conditions : NamedProgram
conditions = named (
    (plain.port (record { place = None; dir = direction.Both; name = id (codes "p") 6; ident = id (codes "XS1_PORT_1A") 10 }))
    ∷ function_of None (id (codes "main") 28) [] (plain.statements ((does (plain.declare (record { kind = plain.timer; name = id (codes "t") 47 } ∷ [])) 41) ∷ (does (plain.input (record { name = id (codes "t") 50; time = None; condition = (Some (condition 52 25 (number 1 false 68))); target = plain.dropped; stamp = None })) 50) ∷ (does (plain.input (record { name = id (codes "p") 80; time = None; condition = (Some (condition 82 17 (number 2 false 94))); target = plain.dropped; stamp = None })) 80) ∷ (does (plain.input (record { name = id (codes "p") 106; time = None; condition = (Some (condition 108 18 (number 3 false 121))); target = plain.dropped; stamp = None })) 106) ∷ [])) 39
    ∷ []) (0 ∷ 1 ∷ 2 ∷ 2 ∷ 0 ∷ 0 ∷ [])

pub of_conditions : broken conditions ≡ []
unfolding of_program sites
of_conditions = refl

-- void main(void) { int k; par (int i = 0; k < 2; k++) { } par (int i = 0; i < 2; k++) { } }
abbrev pub second_differs : NamedProgram
second_differs = named (
    function_of None (id (codes "main") 6) [] (plain.statements ((does (plain.declare (record { kind = plain.word false None; name = id (codes "k") 23 } ∷ [])) 19) ∷ (does (plain.replicated (id (codes "i") 35) (id (codes "k") 42) (id (codes "k") 49) 0 2 (plain.branch None (does (plain.block (plain.statements [])) 54))) 26) ∷ (does (plain.replicated (id (codes "i") 67) (id (codes "i") 74) (id (codes "k") 81) 0 2 (plain.branch None (does (plain.block (plain.statements [])) 86))) 58) ∷ [])) 17
    ∷ []) (0 ∷ 1 ∷ 2 ∷ 1 ∷ 1 ∷ 3 ∷ 3 ∷ 1 ∷ [])

pub of_second_differs : broken second_differs ≡ rule 415 42 ∷ rule 415 81 ∷ []
unfolding of_program sites
of_second_differs = refl

-- void f(int &x, int &y) { } void main(void) { int v; int a[2]; f(v, v); f(a[0], a[1]); }
abbrev pub variable_twice : NamedProgram
variable_twice = named (
    function_of None (id (codes "f") 6) (record { kind = param.Ref false; name = id (codes "x") 13 } ∷ record { kind = param.Ref false; name = id (codes "y") 21 } ∷ []) (plain.statements []) 24
    ∷ function_of None (id (codes "main") 33) [] (plain.statements ((does (plain.declare (record { kind = plain.word false None; name = id (codes "v") 50 } ∷ [])) 46) ∷ (does (plain.declare (record { kind = plain.array false 2 (at 59); name = id (codes "a") 57 } ∷ [])) 53) ∷ (does (plain.perform (call_of (id (codes "f") 63) (given 65 (name (codes "v") 65) ∷ given 68 (name (codes "v") 68) ∷ []))) 63) ∷ (does (plain.perform (call_of (id (codes "f") 72) (given 74 (index (codes "a") (number 0 false 76) 74) ∷ given 80 (index (codes "a") (number 1 false 82) 80) ∷ []))) 72) ∷ [])) 44
    ∷ []) (0 ∷ 1 ∷ 2 ∷ 3 ∷ 4 ∷ 5 ∷ 0 ∷ 4 ∷ 4 ∷ 0 ∷ 5 ∷ 5 ∷ [])

-- an element is a part of its array
pub of_variable_twice : broken variable_twice ≡ rule 416 68 ∷ rule 416 80 ∷ []
unfolding of_program sites
of_variable_twice = refl

-- void f(int a[], int &x, int b[]) { } void main(void) { int a[2]; f(a, a[0], a); }
abbrev pub array_twice : NamedProgram
array_twice = named (
    function_of None (id (codes "f") 6) (record { kind = param.Array false None; name = id (codes "a") 12 } ∷ record { kind = param.Ref false; name = id (codes "x") 22 } ∷ record { kind = param.Array false None; name = id (codes "b") 29 } ∷ []) (plain.statements []) 34
    ∷ function_of None (id (codes "main") 43) [] (plain.statements ((does (plain.declare (record { kind = plain.array false 2 (at 62); name = id (codes "a") 60 } ∷ [])) 56) ∷ (does (plain.perform (call_of (id (codes "f") 66) (given 68 (name (codes "a") 68) ∷ given 71 (index (codes "a") (number 0 false 73) 71) ∷ given 77 (name (codes "a") 77) ∷ []))) 66) ∷ [])) 54
    ∷ []) (0 ∷ 1 ∷ 2 ∷ 3 ∷ 4 ∷ 5 ∷ 0 ∷ 5 ∷ 5 ∷ 5 ∷ [])

pub of_array_twice : broken array_twice ≡ rule 416 71 ∷ rule 416 77 ∷ []
unfolding of_program sites
of_array_twice = refl

-- void f(int &x, int &y, int z) { } void main(void) { int v; int w; int a[2]; f(v, w, v); f(a[0], v, a[1]); }
abbrev pub variables : NamedProgram
variables = named (
    function_of None (id (codes "f") 6) (record { kind = param.Ref false; name = id (codes "x") 13 } ∷ record { kind = param.Ref false; name = id (codes "y") 21 } ∷ record { kind = param.Value false; name = id (codes "z") 28 } ∷ []) (plain.statements []) 31
    ∷ function_of None (id (codes "main") 40) [] (plain.statements ((does (plain.declare (record { kind = plain.word false None; name = id (codes "v") 57 } ∷ [])) 53) ∷ (does (plain.declare (record { kind = plain.word false None; name = id (codes "w") 64 } ∷ [])) 60) ∷ (does (plain.declare (record { kind = plain.array false 2 (at 73); name = id (codes "a") 71 } ∷ [])) 67) ∷ (does (plain.perform (call_of (id (codes "f") 77) (given 79 (name (codes "v") 79) ∷ given 82 (name (codes "w") 82) ∷ given 85 (name (codes "v") 85) ∷ []))) 77) ∷ (does (plain.perform (call_of (id (codes "f") 89) (given 91 (index (codes "a") (number 0 false 93) 91) ∷ given 97 (name (codes "v") 97) ∷ given 100 (index (codes "a") (number 1 false 102) 100) ∷ []))) 89) ∷ [])) 51
    ∷ []) (0 ∷ 1 ∷ 2 ∷ 3 ∷ 4 ∷ 5 ∷ 6 ∷ 7 ∷ 0 ∷ 5 ∷ 6 ∷ 5 ∷ 0 ∷ 7 ∷ 5 ∷ 7 ∷ [])

pub of_variables : broken variables ≡ []
unfolding of_program sites
of_variables = refl

-- port p = XS1_PORT_1A; void f(int &x, int a[]) { } void main(void) { chan c; f(c, c); f(p[0], p); par (int i = 0; i < 2; i++) f(i, i); }
abbrev pub others_twice : NamedProgram
others_twice = named (
    (plain.port (record { place = None; dir = direction.Both; name = id (codes "p") 6; ident = id (codes "XS1_PORT_1A") 10 }))
    ∷ function_of None (id (codes "f") 28) (record { kind = param.Ref false; name = id (codes "x") 35 } ∷ record { kind = param.Array false None; name = id (codes "a") 42 } ∷ []) (plain.statements []) 47
    ∷ function_of None (id (codes "main") 56) [] (plain.statements ((does (plain.declare (record { kind = plain.channel false; name = id (codes "c") 74 } ∷ [])) 69) ∷ (does (plain.perform (call_of (id (codes "f") 77) (given 79 (name (codes "c") 79) ∷ given 82 (name (codes "c") 82) ∷ []))) 77) ∷ (does (plain.perform (call_of (id (codes "f") 86) (given 88 (index (codes "p") (number 0 false 90) 88) ∷ given 94 (name (codes "p") 94) ∷ []))) 86) ∷ (does (plain.replicated (id (codes "i") 107) (id (codes "i") 114) (id (codes "i") 121) 0 2 (plain.branch None (does (plain.perform (call_of (id (codes "f") 126) (given 128 (name (codes "i") 128) ∷ given 131 (name (codes "i") 131) ∷ []))) 126))) 98) ∷ [])) 67
    ∷ []) (0 ∷ 1 ∷ 2 ∷ 3 ∷ 4 ∷ 5 ∷ 1 ∷ 5 ∷ 5 ∷ 1 ∷ 0 ∷ 0 ∷ 6 ∷ 6 ∷ 6 ∷ 1 ∷ 6 ∷ 6 ∷ [])

-- what isn't a variable breaks other rules alone
pub of_others_twice : broken others_twice ≡ rule 402 88 ∷ rule 403 79 ∷ rule 406 79 ∷ rule 406 82 ∷ rule 406 88 ∷ rule 406 94 ∷ rule 406 131 ∷ rule 412 128 ∷ []
unfolding of_program sites
of_others_twice = refl
