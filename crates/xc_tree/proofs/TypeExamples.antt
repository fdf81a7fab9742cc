-- The types of the nodes of expressions, worked out by hand.
use Rattle.std.specs.Prelude.{◌≡◌, true, false, [], ◌∷◌, Some, None, refl, codes}
use Rattle.xc_tree.specs.declared.tree.ParamKind.TheVariants as param
use Rattle.xc_tree.specs.Plain as plain
use Rattle.xc_tree.specs.Names.Marks.{of_program}
use Rattle.xc_tree.specs.Types.Named.{NamedProgram}
use Rattle.xc_tree.specs.Types.Sites.{sites, unsigned_at}
use Rattle.xc_tree.proofs.Written.{at, id, number, name, index, unary, binary, choice, cast, given, call_of, does, function_of, named}

-- unsigned f(unsigned u, int x) { return u + x - (u < x) << u; }
abbrev pub operators : NamedProgram
operators = named (
    function_of (Some true) (id (codes "f") 10) (record { kind = param.Value true; name = id (codes "u") 21 } ∷ record { kind = param.Value false; name = id (codes "x") 28 } ∷ []) (plain.statements ((does (plain.return_with (Some (plain.value (binary 33 (binary 16 (binary 15 (name (codes "u") 40) (name (codes "x") 44) 42) (binary 20 (name (codes "u") 49) (name (codes "x") 53) 51) 46) (name (codes "u") 59) 56)))) 33) ∷ [])) 31
    ∷ []) (0 ∷ 1 ∷ 2 ∷ 1 ∷ 2 ∷ 1 ∷ 2 ∷ 1 ∷ [])

-- of `u + x - (u < x) << u`, from left to right
pub of_operators : unsigned_at operators ≡ true ∷ true ∷ false ∷ true ∷ true ∷ false ∷ false ∷ true ∷ true ∷ []
unfolding of_program sites unsigned_at
of_operators = refl

-- void f(unsigned a[], int &r, chanend c) { r = a[r] ? !a[0] : ~2u; f(a, r, c); c :> r; c <: (unsigned) r >> 1; }
abbrev pub others : NamedProgram
others = named (
    function_of None (id (codes "f") 6) (record { kind = param.Array true None; name = id (codes "a") 17 } ∷ record { kind = param.Ref false; name = id (codes "r") 27 } ∷ record { kind = param.End false; name = id (codes "c") 38 } ∷ []) (plain.statements ((does (plain.assign (name (codes "r") 43) 22 (at 45) (plain.value (choice (index (codes "a") (name (codes "r") 49) 47) (unary 14 (index (codes "a") (number 0 false 57) 55) 54) (unary 13 (number 2 true 63) 62) 52))) 43) ∷ (does (plain.perform (call_of (id (codes "f") 67) (given 69 (name (codes "a") 69) ∷ given 72 (name (codes "r") 72) ∷ given 75 (name (codes "c") 75) ∷ []))) 67) ∷ (does (plain.input (record { name = id (codes "c") 79; time = None; condition = None; target = (plain.to (name (codes "r") 84)); stamp = None })) 79) ∷ (does (plain.output (record { name = id (codes "c") 87; time = None; value = (binary 34 (cast true (name (codes "r") 103) 92) (number 1 false 108) 105); stamp = None })) 87) ∷ [])) 41
    ∷ []) (0 ∷ 1 ∷ 2 ∷ 3 ∷ 2 ∷ 1 ∷ 2 ∷ 1 ∷ 0 ∷ 1 ∷ 2 ∷ 3 ∷ 3 ∷ 2 ∷ 3 ∷ 2 ∷ [])

-- a choice is `unsigned` where one of its last two operands is
pub of_others : unsigned_at others ≡ false ∷ true ∷ false ∷ true ∷ false ∷ true ∷ false ∷ true ∷ true ∷ false ∷ false ∷ false ∷ false ∷ true ∷ false ∷ true ∷ false ∷ []
unfolding of_program sites unsigned_at
of_others = refl

-- void f(int x, unsigned u) { x = x << u; x = x >> u; x = u && u; x = u || u; x = u == u; x = u != u; x = u < u; x = u > u; x = u <= u; x = u >= u; x = -u; x = +u; x = !u; x = ~u; }
abbrev pub pairs : NamedProgram
pairs = named (
    function_of None (id (codes "f") 6) (record { kind = param.Value false; name = id (codes "x") 12 } ∷ record { kind = param.Value true; name = id (codes "u") 24 } ∷ []) (plain.statements ((does (plain.assign (name (codes "x") 29) 22 (at 31) (plain.value (binary 33 (name (codes "x") 33) (name (codes "u") 38) 35))) 29) ∷ (does (plain.assign (name (codes "x") 41) 22 (at 43) (plain.value (binary 34 (name (codes "x") 45) (name (codes "u") 50) 47))) 41) ∷ (does (plain.assign (name (codes "x") 53) 22 (at 55) (plain.value (binary 31 (name (codes "u") 57) (name (codes "u") 62) 59))) 53) ∷ (does (plain.assign (name (codes "x") 65) 22 (at 67) (plain.value (binary 32 (name (codes "u") 69) (name (codes "u") 74) 71))) 65) ∷ (does (plain.assign (name (codes "x") 77) 22 (at 79) (plain.value (binary 27 (name (codes "u") 81) (name (codes "u") 86) 83))) 77) ∷ (does (plain.assign (name (codes "x") 89) 22 (at 91) (plain.value (binary 28 (name (codes "u") 93) (name (codes "u") 98) 95))) 89) ∷ (does (plain.assign (name (codes "x") 101) 22 (at 103) (plain.value (binary 20 (name (codes "u") 105) (name (codes "u") 109) 107))) 101) ∷ (does (plain.assign (name (codes "x") 112) 22 (at 114) (plain.value (binary 21 (name (codes "u") 116) (name (codes "u") 120) 118))) 112) ∷ (does (plain.assign (name (codes "x") 123) 22 (at 125) (plain.value (binary 29 (name (codes "u") 127) (name (codes "u") 132) 129))) 123) ∷ (does (plain.assign (name (codes "x") 135) 22 (at 137) (plain.value (binary 30 (name (codes "u") 139) (name (codes "u") 144) 141))) 135) ∷ (does (plain.assign (name (codes "x") 147) 22 (at 149) (plain.value (unary 16 (name (codes "u") 152) 151))) 147) ∷ (does (plain.assign (name (codes "x") 155) 22 (at 157) (plain.value (unary 15 (name (codes "u") 160) 159))) 155) ∷ (does (plain.assign (name (codes "x") 163) 22 (at 165) (plain.value (unary 14 (name (codes "u") 168) 167))) 163) ∷ (does (plain.assign (name (codes "x") 171) 22 (at 173) (plain.value (unary 13 (name (codes "u") 176) 175))) 171) ∷ [])) 27
    ∷ []) (0 ∷ 1 ∷ 2 ∷ 1 ∷ 1 ∷ 2 ∷ 1 ∷ 1 ∷ 2 ∷ 1 ∷ 2 ∷ 2 ∷ 1 ∷ 2 ∷ 2 ∷ 1 ∷ 2 ∷ 2 ∷ 1 ∷ 2 ∷ 2 ∷ 1 ∷ 2 ∷ 2 ∷ 1 ∷ 2 ∷ 2 ∷ 1 ∷ 2 ∷ 2 ∷ 1 ∷ 2 ∷ 2 ∷ 1 ∷ 2 ∷ 1 ∷ 2 ∷ 1 ∷ 2 ∷ 1 ∷ 2 ∷ [])

-- each has x, then the operands and between them what the operator gives: a shift is as its left operand, and a test is an
-- `int`
pub of_pairs : unsigned_at pairs ≡ false ∷ false ∷ false ∷ true ∷ false ∷ false ∷ false ∷ true ∷ false ∷ true ∷ false ∷ true ∷ false ∷ true ∷ false ∷ true ∷ false ∷ true ∷ false ∷ true ∷ false ∷ true ∷ false ∷ true ∷ false ∷ true ∷ false ∷ true ∷ false ∷ true ∷ false ∷ true ∷ false ∷ true ∷ false ∷ true ∷ false ∷ true ∷ false ∷ true ∷ false ∷ true ∷ true ∷ false ∷ true ∷ true ∷ false ∷ false ∷ true ∷ false ∷ true ∷ true ∷ []
unfolding of_program sites unsigned_at
of_pairs = refl

-- void f(int x, unsigned u) { x = x * u; x = u / x; x = x % u; x = x + u; x = u - x; x = x & u; x = u ^ x; x = x | u; x = x | x; x = x ? u : x; x = x ? x : u; x = u ? x : x; }
abbrev pub sums : NamedProgram
sums = named (
    function_of None (id (codes "f") 6) (record { kind = param.Value false; name = id (codes "x") 12 } ∷ record { kind = param.Value true; name = id (codes "u") 24 } ∷ []) (plain.statements ((does (plain.assign (name (codes "x") 29) 22 (at 31) (plain.value (binary 17 (name (codes "x") 33) (name (codes "u") 37) 35))) 29) ∷ (does (plain.assign (name (codes "x") 40) 22 (at 42) (plain.value (binary 18 (name (codes "u") 44) (name (codes "x") 48) 46))) 40) ∷ (does (plain.assign (name (codes "x") 51) 22 (at 53) (plain.value (binary 19 (name (codes "x") 55) (name (codes "u") 59) 57))) 51) ∷ (does (plain.assign (name (codes "x") 62) 22 (at 64) (plain.value (binary 15 (name (codes "x") 66) (name (codes "u") 70) 68))) 62) ∷ (does (plain.assign (name (codes "x") 73) 22 (at 75) (plain.value (binary 16 (name (codes "u") 77) (name (codes "x") 81) 79))) 73) ∷ (does (plain.assign (name (codes "x") 84) 22 (at 86) (plain.value (binary 10 (name (codes "x") 88) (name (codes "u") 92) 90))) 84) ∷ (does (plain.assign (name (codes "x") 95) 22 (at 97) (plain.value (binary 12 (name (codes "u") 99) (name (codes "x") 103) 101))) 95) ∷ (does (plain.assign (name (codes "x") 106) 22 (at 108) (plain.value (binary 11 (name (codes "x") 110) (name (codes "u") 114) 112))) 106) ∷ (does (plain.assign (name (codes "x") 117) 22 (at 119) (plain.value (binary 11 (name (codes "x") 121) (name (codes "x") 125) 123))) 117) ∷ (does (plain.assign (name (codes "x") 128) 22 (at 130) (plain.value (choice (name (codes "x") 132) (name (codes "u") 136) (name (codes "x") 140) 134))) 128) ∷ (does (plain.assign (name (codes "x") 143) 22 (at 145) (plain.value (choice (name (codes "x") 147) (name (codes "x") 151) (name (codes "u") 155) 149))) 143) ∷ (does (plain.assign (name (codes "x") 158) 22 (at 160) (plain.value (choice (name (codes "u") 162) (name (codes "x") 166) (name (codes "x") 170) 164))) 158) ∷ [])) 27
    ∷ []) (0 ∷ 1 ∷ 2 ∷ 1 ∷ 1 ∷ 2 ∷ 1 ∷ 2 ∷ 1 ∷ 1 ∷ 1 ∷ 2 ∷ 1 ∷ 1 ∷ 2 ∷ 1 ∷ 2 ∷ 1 ∷ 1 ∷ 1 ∷ 2 ∷ 1 ∷ 2 ∷ 1 ∷ 1 ∷ 1 ∷ 2 ∷ 1 ∷ 1 ∷ 1 ∷ 1 ∷ 1 ∷ 2 ∷ 1 ∷ 1 ∷ 1 ∷ 1 ∷ 2 ∷ 1 ∷ 2 ∷ 1 ∷ 1 ∷ [])

-- an operator with an `unsigned` operand gives an `unsigned`; the test of a choice does not count
pub of_sums : unsigned_at sums ≡ false ∷ false ∷ true ∷ true ∷ false ∷ true ∷ true ∷ false ∷ false ∷ false ∷ true ∷ true ∷ false ∷ false ∷ true ∷ true ∷ false ∷ true ∷ true ∷ false ∷ false ∷ false ∷ true ∷ true ∷ false ∷ true ∷ true ∷ false ∷ false ∷ false ∷ true ∷ true ∷ false ∷ false ∷ false ∷ false ∷ false ∷ false ∷ true ∷ true ∷ false ∷ false ∷ false ∷ true ∷ false ∷ true ∷ false ∷ true ∷ false ∷ false ∷ false ∷ []
unfolding of_program sites unsigned_at
of_sums = refl
