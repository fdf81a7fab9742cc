-- Texts and the rules 501 to 508 that they break, worked out by hand.
use Rattle.std.specs.Prelude.{◌≡◌, true, false, [], ◌∷◌, Some, None, refl, codes}
use Rattle.xc_tree.specs.declared.tree.TreeDir.TheVariants as direction
use Rattle.xc_tree.specs.declared.tree.ParamKind.TheVariants as param
use Rattle.xc_tree.specs.Plain as plain
use Rattle.xc_tree.specs.Names.Marks.{of_program}
use Rattle.xc_tree.specs.Types.Named.{NamedProgram}
use Rattle.xc_tree.specs.Types.Sites.{sites}
use Rattle.xc_tree.proofs.Written.{at, id, number, name, unary, binary, choice, cast, given, call_of, placing, does, function_of, named, broken, rule}

-- void main(void) { break; if (1) continue; }
abbrev pub break_alone : NamedProgram
break_alone = named (
    function_of None (id (codes "main") 6) [] (plain.statements ((does plain.break_out 19) ∷ (does (plain.if_then (number 1 false 30) (does plain.continue_on 33) plain.absent) 26) ∷ [])) 17
    ∷ []) (0 ∷ [])

pub of_break_alone : broken break_alone ≡ rule 501 19 ∷ rule 501 33 ∷ []
unfolding of_program sites
of_break_alone = refl

-- void main(void) { chan c; while (1) { par { break; continue; } master { break; c <: 1; } } }
abbrev pub break_in_branch : NamedProgram
break_in_branch = named (
    function_of None (id (codes "main") 6) [] (plain.statements ((does (plain.declare (record { kind = plain.channel false; name = id (codes "c") 24 } ∷ [])) 19) ∷ (does (plain.while_loop (number 1 false 34) (does (plain.block (plain.statements ((does (plain.par (plain.branches ((plain.branch None (does plain.break_out 45)) ∷ (plain.branch None (does plain.continue_on 52)) ∷ []))) 39) ∷ (does (plain.transaction true (plain.statements ((does plain.break_out 73) ∷ (does (plain.output (record { name = id (codes "c") 80; time = None; value = (number 1 false 85); stamp = None })) 80) ∷ []))) 64) ∷ []))) 37)) 27) ∷ [])) 17
    ∷ []) (0 ∷ 1 ∷ 1 ∷ [])

pub of_break_in_branch : broken break_in_branch ≡ rule 501 45 ∷ rule 501 52 ∷ rule 501 73 ∷ []
unfolding of_program sites
of_break_in_branch = refl

-- void main(void) { chan c; select { case c :> void: continue; break; } }
abbrev pub continue_in_case : NamedProgram
continue_in_case = named (
    function_of None (id (codes "main") 6) [] (plain.statements ((does (plain.declare (record { kind = plain.channel false; name = id (codes "c") 24 } ∷ [])) 19) ∷ (does (plain.select (plain.cases ((plain.case (at 36) None (Some (record { name = id (codes "c") 41; time = None; condition = None; target = plain.dropped; stamp = None })) (plain.statements ((does plain.continue_on 52) ∷ []))) ∷ []))) 27) ∷ [])) 17
    ∷ []) (0 ∷ 1 ∷ 1 ∷ [])

pub of_continue_in_case : broken continue_in_case ≡ rule 501 52 ∷ []
unfolding of_program sites
of_continue_in_case = refl

-- void main(void) { chan c; select { case c :> void: if (1) break; break; default: { break; } break; } }
abbrev pub break_in_case : NamedProgram
break_in_case = named (
    function_of None (id (codes "main") 6) [] (plain.statements ((does (plain.declare (record { kind = plain.channel false; name = id (codes "c") 24 } ∷ [])) 19) ∷ (does (plain.select (plain.cases (plain.case (at 36) None (Some (record { name = id (codes "c") 41; time = None; condition = None; target = plain.dropped; stamp = None })) (plain.statements ((does (plain.if_then (number 1 false 56) (does plain.break_out 59) plain.absent) 52) ∷ [])) ∷ plain.case (at 73) None None (plain.statements ((does (plain.block (plain.statements ((does plain.break_out 84) ∷ []))) 82) ∷ [])) ∷ []))) 27) ∷ [])) 17
    ∷ []) (0 ∷ 1 ∷ 1 ∷ [])

-- a case is left without a loop around it
pub of_break_in_case : broken break_in_case ≡ []
unfolding of_program sites
of_break_in_case = refl

-- void main(void) { chan c; while (1) { if (1) { break; } do continue; while (0); select { case c :> void: if (1) break; continue; break; } } par { for (;;) break; } }
abbrev pub breaks : NamedProgram
breaks = named (
    function_of None (id (codes "main") 6) [] (plain.statements ((does (plain.declare (record { kind = plain.channel false; name = id (codes "c") 24 } ∷ [])) 19) ∷ (does (plain.while_loop (number 1 false 34) (does (plain.block (plain.statements ((does (plain.if_then (number 1 false 43) (does (plain.block (plain.statements ((does plain.break_out 48) ∷ []))) 46) plain.absent) 39) ∷ (does (plain.do_while (does plain.continue_on 60) (number 0 false 77)) 57) ∷ (does (plain.select (plain.cases ((plain.case (at 90) None (Some (record { name = id (codes "c") 95; time = None; condition = None; target = plain.dropped; stamp = None })) (plain.statements ((does (plain.if_then (number 1 false 110) (does plain.break_out 113) plain.absent) 106) ∷ (does plain.continue_on 120) ∷ []))) ∷ []))) 81) ∷ []))) 37)) 27) ∷ (does (plain.par (plain.branches ((plain.branch None (does (plain.for_loop plain.absent None plain.absent (does plain.break_out 156)) 147)) ∷ []))) 141) ∷ [])) 17
    ∷ []) (0 ∷ 1 ∷ 1 ∷ [])

pub of_breaks : broken breaks ≡ []
unfolding of_program sites
of_breaks = refl

-- void main(void) { chan c; par { return; } master { c <: 1; return; } }
abbrev pub return_in_par : NamedProgram
return_in_par = named (
    function_of None (id (codes "main") 6) [] (plain.statements ((does (plain.declare (record { kind = plain.channel false; name = id (codes "c") 24 } ∷ [])) 19) ∷ (does (plain.par (plain.branches ((plain.branch None (does (plain.return_with None) 33)) ∷ []))) 27) ∷ (does (plain.transaction true (plain.statements ((does (plain.output (record { name = id (codes "c") 52; time = None; value = (number 1 false 57); stamp = None })) 52) ∷ (does (plain.return_with None) 60) ∷ []))) 43) ∷ [])) 17
    ∷ []) (0 ∷ 1 ∷ 1 ∷ [])

pub of_return_in_par : broken return_in_par ≡ rule 502 33 ∷ rule 502 60 ∷ []
unfolding of_program sites
of_return_in_par = refl

-- void main(void) { while (1) { if (1) return; } }
abbrev pub return_in_loop : NamedProgram
return_in_loop = named (
    function_of None (id (codes "main") 6) [] (plain.statements ((does (plain.while_loop (number 1 false 26) (does (plain.block (plain.statements ((does (plain.if_then (number 1 false 35) (does (plain.return_with None) 38) plain.absent) 31) ∷ []))) 29)) 19) ∷ [])) 17
    ∷ []) (0 ∷ [])

pub of_return_in_loop : broken return_in_loop ≡ []
unfolding of_program sites
of_return_in_loop = refl

-- void f(void) { par { on tile[0] : ; } } void main(void) { { par { on stdcore[1] : ; } } }
abbrev pub placed_elsewhere : NamedProgram
placed_elsewhere = named (
    function_of None (id (codes "f") 6) [] (plain.statements ((does (plain.par (plain.branches ((plain.branch (Some (placing 22 30 (number 0 false 30))) (does plain.empty 35)) ∷ []))) 16) ∷ [])) 14
    ∷ function_of None (id (codes "main") 46) [] (plain.statements ((does (plain.block (plain.statements ((does (plain.par (plain.branches ((plain.branch (Some (placing 67 78 (number 1 false 78))) (does plain.empty 83)) ∷ []))) 61) ∷ []))) 59) ∷ [])) 57
    ∷ []) (0 ∷ 1 ∷ [])

pub of_placed_elsewhere : broken placed_elsewhere ≡ rule 503 22 ∷ rule 503 67 ∷ []
unfolding of_program sites
of_placed_elsewhere = refl

-- void main(void) { par { on tile[0] : par { on tile[1] : ; } } }
abbrev pub placed_deeper : NamedProgram
placed_deeper = named (
    function_of None (id (codes "main") 6) [] (plain.statements ((does (plain.par (plain.branches ((plain.branch (Some (placing 25 33 (number 0 false 33))) (does (plain.par (plain.branches ((plain.branch (Some (placing 44 52 (number 1 false 52))) (does plain.empty 57)) ∷ []))) 38)) ∷ []))) 19) ∷ [])) 17
    ∷ []) (0 ∷ [])

pub of_placed_deeper : broken placed_deeper ≡ rule 503 44 ∷ []
unfolding of_program sites
of_placed_deeper = refl

-- void main(void) { int x; par { on tile[0] : ; } }
abbrev pub main_with_more : NamedProgram
main_with_more = named (
    function_of None (id (codes "main") 6) [] (plain.statements ((does (plain.declare (record { kind = plain.word false None; name = id (codes "x") 23 } ∷ [])) 19) ∷ (does (plain.par (plain.branches ((plain.branch (Some (placing 32 40 (number 0 false 40))) (does plain.empty 45)) ∷ []))) 26) ∷ [])) 17
    ∷ []) (0 ∷ 1 ∷ [])

pub of_main_with_more : broken main_with_more ≡ rule 504 6 ∷ []
unfolding of_program sites
of_main_with_more = refl

-- void main(void) { par { on tile[0] : ; ; } chan c; }
abbrev pub main_in_other_order : NamedProgram
main_in_other_order = named (
    function_of None (id (codes "main") 6) [] (plain.statements ((does (plain.par (plain.branches ((plain.branch (Some (placing 25 33 (number 0 false 33))) (does plain.empty 38)) ∷ (plain.branch None (does plain.empty 40)) ∷ []))) 19) ∷ (does (plain.declare (record { kind = plain.channel false; name = id (codes "c") 49 } ∷ [])) 44) ∷ [])) 17
    ∷ []) (0 ∷ 1 ∷ [])

pub of_main_in_other_order : broken main_in_other_order ≡ rule 504 6 ∷ []
unfolding of_program sites
of_main_in_other_order = refl

-- void main(void) { par (int i = 3; i < 3; i++) on tile[0] : ; return; ; }
abbrev pub main_without_numbers : NamedProgram
main_without_numbers = named (
    function_of None (id (codes "main") 6) [] (plain.statements ((does (plain.replicated (id (codes "i") 28) (id (codes "i") 35) (id (codes "i") 42) 3 3 (plain.branch (Some (placing 47 55 (number 0 false 55))) (does plain.empty 60))) 19) ∷ (does (plain.return_with None) 62) ∷ (does plain.empty 70) ∷ [])) 17
    ∷ []) (0 ∷ 1 ∷ 1 ∷ 1 ∷ [])

-- also where there are no numbers
pub of_main_without_numbers : broken main_without_numbers ≡ rule 504 6 ∷ []
unfolding of_program sites
of_main_without_numbers = refl

-- int main(void) { chan c, d; chan e; par { on tile[0] : ; on stdcore[1] : { int x; } ; } return 0; }
abbrev pub main_of_roots : NamedProgram
main_of_roots = named (
    function_of (Some false) (id (codes "main") 5) [] (plain.statements ((does (plain.declare (record { kind = plain.channel false; name = id (codes "c") 23 } ∷ record { kind = plain.channel false; name = id (codes "d") 26 } ∷ [])) 18) ∷ (does (plain.declare (record { kind = plain.channel false; name = id (codes "e") 34 } ∷ [])) 29) ∷ (does (plain.par (plain.branches ((plain.branch (Some (placing 43 51 (number 0 false 51))) (does plain.empty 56)) ∷ (plain.branch (Some (placing 58 69 (number 1 false 69))) (does (plain.block (plain.statements ((does (plain.declare (record { kind = plain.word false None; name = id (codes "x") 80 } ∷ [])) 76) ∷ []))) 74)) ∷ (plain.branch None (does plain.empty 85)) ∷ []))) 37) ∷ (does (plain.return_with (Some (plain.value (number 0 false 96)))) 89) ∷ [])) 16
    ∷ []) (0 ∷ 1 ∷ 2 ∷ 3 ∷ 4 ∷ [])

pub of_main_of_roots : broken main_of_roots ≡ []
unfolding of_program sites
of_main_of_roots = refl

-- void main(void) { int x; par { ; } x = 1; par { } }
abbrev pub main_without_places : NamedProgram
main_without_places = named (
    function_of None (id (codes "main") 6) [] (plain.statements ((does (plain.declare (record { kind = plain.word false None; name = id (codes "x") 23 } ∷ [])) 19) ∷ (does (plain.par (plain.branches ((plain.branch None (does plain.empty 32)) ∷ []))) 26) ∷ (does (plain.assign (name (codes "x") 36) 22 (at 38) (plain.value (number 1 false 40))) 36) ∷ (does (plain.par (plain.branches [])) 43) ∷ [])) 17
    ∷ []) (0 ∷ 1 ∷ 1 ∷ [])

pub of_main_without_places : broken main_without_places ≡ []
unfolding of_program sites
of_main_without_places = refl

-- void main(void) { chan c; chan d; int x; master { c <: 1; d <: 2; } slave { } slave { timer t; t :> x; } }
abbrev pub channels_in_transaction : NamedProgram
channels_in_transaction = named (
    function_of None (id (codes "main") 6) [] (plain.statements ((does (plain.declare (record { kind = plain.channel false; name = id (codes "c") 24 } ∷ [])) 19) ∷ (does (plain.declare (record { kind = plain.channel false; name = id (codes "d") 32 } ∷ [])) 27) ∷ (does (plain.declare (record { kind = plain.word false None; name = id (codes "x") 39 } ∷ [])) 35) ∷ (does (plain.transaction true (plain.statements ((does (plain.output (record { name = id (codes "c") 51; time = None; value = (number 1 false 56); stamp = None })) 51) ∷ (does (plain.output (record { name = id (codes "d") 59; time = None; value = (number 2 false 64); stamp = None })) 59) ∷ []))) 42) ∷ (does (plain.transaction false (plain.statements [])) 69) ∷ (does (plain.transaction false (plain.statements ((does (plain.declare (record { kind = plain.timer; name = id (codes "t") 93 } ∷ [])) 87) ∷ (does (plain.input (record { name = id (codes "t") 96; time = None; condition = None; target = (plain.to (name (codes "x") 101)); stamp = None })) 96) ∷ []))) 79) ∷ [])) 17
    ∷ []) (0 ∷ 1 ∷ 2 ∷ 3 ∷ 1 ∷ 2 ∷ 4 ∷ 4 ∷ 3 ∷ [])

pub of_channels_in_transaction : broken channels_in_transaction ≡ rule 505 42 ∷ rule 505 69 ∷ rule 505 79 ∷ []
unfolding of_program sites
of_channels_in_transaction = refl

-- void main(void) { chan c; master { c <: 1; { chan c; c <: 2; } } }
abbrev pub channel_hidden : NamedProgram
channel_hidden = named (
    function_of None (id (codes "main") 6) [] (plain.statements ((does (plain.declare (record { kind = plain.channel false; name = id (codes "c") 24 } ∷ [])) 19) ∷ (does (plain.transaction true (plain.statements ((does (plain.output (record { name = id (codes "c") 36; time = None; value = (number 1 false 41); stamp = None })) 36) ∷ (does (plain.block (plain.statements ((does (plain.declare (record { kind = plain.channel false; name = id (codes "c") 51 } ∷ [])) 46) ∷ (does (plain.output (record { name = id (codes "c") 54; time = None; value = (number 2 false 59); stamp = None })) 54) ∷ []))) 44) ∷ []))) 27) ∷ [])) 17
    ∷ []) (0 ∷ 1 ∷ 1 ∷ 2 ∷ 2 ∷ [])

-- one spelling, and two channels
pub of_channel_hidden : broken channel_hidden ≡ rule 505 27 ∷ []
unfolding of_program sites
of_channel_hidden = refl

-- port p = XS1_PORT_1A; void main(void) { chan c; int x; master { c <: 1; while (x) { c <: 2; p <: 3; } c :> x; } slave { c :> x; } }
abbrev pub channel_in_transaction : NamedProgram
channel_in_transaction = named (
    (plain.port (record { place = None; dir = direction.Both; name = id (codes "p") 6; ident = id (codes "XS1_PORT_1A") 10 }))
    ∷ function_of None (id (codes "main") 28) [] (plain.statements ((does (plain.declare (record { kind = plain.channel false; name = id (codes "c") 46 } ∷ [])) 41) ∷ (does (plain.declare (record { kind = plain.word false None; name = id (codes "x") 53 } ∷ [])) 49) ∷ (does (plain.transaction true (plain.statements ((does (plain.output (record { name = id (codes "c") 65; time = None; value = (number 1 false 70); stamp = None })) 65) ∷ (does (plain.while_loop (name (codes "x") 80) (does (plain.block (plain.statements ((does (plain.output (record { name = id (codes "c") 85; time = None; value = (number 2 false 90); stamp = None })) 85) ∷ (does (plain.output (record { name = id (codes "p") 93; time = None; value = (number 3 false 98); stamp = None })) 93) ∷ []))) 83)) 73) ∷ (does (plain.input (record { name = id (codes "c") 103; time = None; condition = None; target = (plain.to (name (codes "x") 108)); stamp = None })) 103) ∷ []))) 56) ∷ (does (plain.transaction false (plain.statements ((does (plain.input (record { name = id (codes "c") 121; time = None; condition = None; target = (plain.to (name (codes "x") 126)); stamp = None })) 121) ∷ []))) 113) ∷ [])) 39
    ∷ []) (0 ∷ 1 ∷ 2 ∷ 3 ∷ 2 ∷ 3 ∷ 2 ∷ 0 ∷ 2 ∷ 3 ∷ 2 ∷ 3 ∷ [])

pub of_channel_in_transaction : broken channel_in_transaction ≡ []
unfolding of_program sites
of_channel_in_transaction = refl

-- void f(chanend e) { } void main(void) { chan c; master { c <: 1; par { } while (0) { select { case c :> void: break; } } slave { c <: 1; } f(c); par (int i = 0; i < 2; i++) { } } }
abbrev pub held_by_transaction : NamedProgram
held_by_transaction = named (
    function_of None (id (codes "f") 6) (record { kind = param.End false; name = id (codes "e") 16 } ∷ []) (plain.statements []) 19
    ∷ function_of None (id (codes "main") 28) [] (plain.statements ((does (plain.declare (record { kind = plain.channel false; name = id (codes "c") 46 } ∷ [])) 41) ∷ (does (plain.transaction true (plain.statements ((does (plain.output (record { name = id (codes "c") 58; time = None; value = (number 1 false 63); stamp = None })) 58) ∷ (does (plain.par (plain.branches [])) 66) ∷ (does (plain.while_loop (number 0 false 81) (does (plain.block (plain.statements ((does (plain.select (plain.cases ((plain.case (at 95) None (Some (record { name = id (codes "c") 100; time = None; condition = None; target = plain.dropped; stamp = None })) (plain.statements [])) ∷ []))) 86) ∷ []))) 84)) 74) ∷ (does (plain.transaction false (plain.statements ((does (plain.output (record { name = id (codes "c") 130; time = None; value = (number 1 false 135); stamp = None })) 130) ∷ []))) 122) ∷ (does (plain.perform (call_of (id (codes "f") 140) (given 142 (name (codes "c") 142) ∷ []))) 140) ∷ (does (plain.replicated (id (codes "i") 155) (id (codes "i") 162) (id (codes "i") 169) 0 2 (plain.branch None (does (plain.block (plain.statements [])) 174))) 146) ∷ []))) 49) ∷ [])) 39
    ∷ []) (0 ∷ 1 ∷ 2 ∷ 3 ∷ 3 ∷ 3 ∷ 3 ∷ 0 ∷ 3 ∷ 4 ∷ 4 ∷ 4 ∷ [])

pub of_held_by_transaction : broken held_by_transaction ≡ rule 506 66 ∷ rule 506 86 ∷ rule 506 122 ∷ rule 506 140 ∷ rule 506 146 ∷ []
unfolding of_program sites
of_held_by_transaction = refl

-- void f(int x) { } void main(void) { chan c; master { c <: 1; f(1); } }
abbrev pub call_in_transaction : NamedProgram
call_in_transaction = named (
    function_of None (id (codes "f") 6) (record { kind = param.Value false; name = id (codes "x") 12 } ∷ []) (plain.statements []) 15
    ∷ function_of None (id (codes "main") 24) [] (plain.statements ((does (plain.declare (record { kind = plain.channel false; name = id (codes "c") 42 } ∷ [])) 37) ∷ (does (plain.transaction true (plain.statements ((does (plain.output (record { name = id (codes "c") 54; time = None; value = (number 1 false 59); stamp = None })) 54) ∷ (does (plain.perform (call_of (id (codes "f") 62) (given 64 (number 1 false 64) ∷ []))) 62) ∷ []))) 45) ∷ [])) 35
    ∷ []) (0 ∷ 1 ∷ 2 ∷ 3 ∷ 3 ∷ 0 ∷ [])

pub of_call_in_transaction : broken call_in_transaction ≡ []
unfolding of_program sites
of_call_in_transaction = refl

-- void main(void) { select { default : break; default : break; default : break; } }
abbrev pub second_default : NamedProgram
second_default = named (
    function_of None (id (codes "main") 6) [] (plain.statements ((does (plain.select (plain.cases ((plain.case (at 28) None None (plain.statements [])) ∷ (plain.case (at 45) None None (plain.statements [])) ∷ (plain.case (at 62) None None (plain.statements [])) ∷ []))) 19) ∷ [])) 17
    ∷ []) (0 ∷ [])

pub of_second_default : broken second_default ≡ rule 507 45 ∷ rule 507 62 ∷ []
unfolding of_program sites
of_second_default = refl

-- void main(void) { chan c; select { case c :> void : select { default : break; } break; default : break; } }
abbrev pub defaults_of_two : NamedProgram
defaults_of_two = named (
    function_of None (id (codes "main") 6) [] (plain.statements ((does (plain.declare (record { kind = plain.channel false; name = id (codes "c") 24 } ∷ [])) 19) ∷ (does (plain.select (plain.cases ((plain.case (at 36) None (Some (record { name = id (codes "c") 41; time = None; condition = None; target = plain.dropped; stamp = None })) (plain.statements ((does (plain.select (plain.cases ((plain.case (at 62) None None (plain.statements [])) ∷ []))) 53) ∷ []))) ∷ (plain.case (at 88) None None (plain.statements [])) ∷ []))) 27) ∷ [])) 17
    ∷ []) (0 ∷ 1 ∷ 1 ∷ [])

pub of_defaults_of_two : broken defaults_of_two ≡ []
unfolding of_program sites
of_defaults_of_two = refl

-- on tile[1 / 1] : port p = XS1_PORT_1A; on tile[(int) 0] : port q = XS1_PORT_1B; void main(void) { par { on tile[1 ? 2 : 3] : ; on tile[~1] : ; } }
abbrev pub place_of_quotient : NamedProgram
place_of_quotient = named (
    (plain.port (record { place = (Some (placing 1 9 (binary 18 (number 1 false 9) (number 1 false 13) 11))); dir = direction.Both; name = id (codes "p") 23; ident = id (codes "XS1_PORT_1A") 27 }))
    ∷ (plain.port (record { place = (Some (placing 40 48 (cast false (number 0 false 54) 48))); dir = direction.Both; name = id (codes "q") 64; ident = id (codes "XS1_PORT_1B") 68 }))
    ∷ function_of None (id (codes "main") 86) [] (plain.statements ((does (plain.par (plain.branches ((plain.branch (Some (placing 105 113 (choice (number 1 false 113) (number 2 false 117) (number 3 false 121) 115))) (does plain.empty 126)) ∷ (plain.branch (Some (placing 128 136 (unary 13 (number 1 false 137) 136))) (does plain.empty 142)) ∷ []))) 99) ∷ [])) 97
    ∷ []) (0 ∷ 1 ∷ 2 ∷ [])

pub of_place_of_quotient : broken place_of_quotient ≡ rule 508 9 ∷ rule 508 48 ∷ rule 508 113 ∷ rule 508 136 ∷ []
unfolding of_program sites
of_place_of_quotient = refl

-- void main(void) { chan c; par { on tile[(c)] : ; } }
abbrev pub place_of_channel : NamedProgram
place_of_channel = named (
    function_of None (id (codes "main") 6) [] (plain.statements ((does (plain.declare (record { kind = plain.channel false; name = id (codes "c") 24 } ∷ [])) 19) ∷ (does (plain.par (plain.branches ((plain.branch (Some (placing 33 41 (name (codes "c") 42))) (does plain.empty 48)) ∷ []))) 27) ∷ [])) 17
    ∷ []) (0 ∷ 1 ∷ 1 ∷ [])

pub of_place_of_channel : broken place_of_channel ≡ rule 401 42 ∷ rule 508 41 ∷ []
unfolding of_program sites
of_place_of_channel = refl

-- on tile[2 - (1 * -1)] : port p = XS1_PORT_1A; void main(void) { par (int i = 0; i < 2; i++) on tile[+i * 2 - 1] : ; }
abbrev pub places : NamedProgram
places = named (
    (plain.port (record { place = (Some (placing 1 9 (binary 16 (number 2 false 9) (binary 17 (number 1 false 14) (unary 16 (number 1 false 19) 18) 16) 11))); dir = direction.Both; name = id (codes "p") 30; ident = id (codes "XS1_PORT_1A") 34 }))
    ∷ function_of None (id (codes "main") 52) [] (plain.statements ((does (plain.replicated (id (codes "i") 74) (id (codes "i") 81) (id (codes "i") 88) 0 2 (plain.branch (Some (placing 93 101 (binary 16 (binary 17 (unary 15 (name (codes "i") 102) 101) (number 2 false 106) 104) (number 1 false 110) 108))) (does plain.empty 115))) 65) ∷ [])) 63
    ∷ []) (0 ∷ 1 ∷ 2 ∷ 2 ∷ 2 ∷ 2 ∷ [])

pub of_places : broken places ≡ []
unfolding of_program sites
of_places = refl
