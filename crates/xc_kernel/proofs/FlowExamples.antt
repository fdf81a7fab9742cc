-- Texts whose kernels were worked out by hand: cases, loops and transactions.
use Rattle.std.specs.Prelude.{◌≡◌, ℕ, true, false, List, [], ◌∷◌, ◌++◌, Some, None, refl, codes}
use Rattle.xw_words.specs.Tables.{place_from}
use Rattle.xw_words.specs.Ports.{identifiers}
use Rattle.xc_tree.specs.declared.tree.TreeDir.TheVariants.{In}
use Rattle.xc_tree.specs.declared.tree.ParamKind.TheVariants.{End}
use Rattle.xc_tree.specs.Plain as tree
use Rattle.xc_kernel.specs.declared.statement.KRes.TheVariants.{Port, Timer, Chan}
use Rattle.xc_kernel.specs.Plain as kernel
use Rattle.xc_kernel.specs.Copies.{copy_of}
use Rattle.xc_kernel.proofs.Written.{at, id, number, name, index, binary, result, word_in, set_word, on_two, block, branch, par, put, take, root, variable, array_of, channel, timer, instance}

-- in port p = XS1_PORT_1B;
-- void main(void) {
--   timer t; int n;
--   for (int i = 0; i < 4; i++) {
--     select {
--       case n < 2 => p when pinseq(n) :> unsigned n @ n: if (n > i) continue; else break; break;
--       case t when timerafter(9) :> void: return; break;
--       default: n -= 1; break;
--     }
--   }
--   do n++; while (n);
-- }
abbrev pub cases : List tree.Item
cases =
    (tree.port (record { place = None; dir = In; name = id (codes "p") 1 9; ident = id (codes "XS1_PORT_1B") 1 13 }))
    ∷ (tree.function (record { result = None; name = id (codes "main") 2 6; params = []; own = 5 })
    (tree.statement (tree.block (tree.statements (
    (tree.statement (tree.declare ((record { kind = tree.timer; name = id (codes "t") 3 9 }) ∷ [])) (at 3 3) (at 3 10) 3)
    ∷ (tree.statement (tree.declare ((record { kind = (tree.word false None); name = id (codes "n") 3 16 }) ∷ [])) (at 3 12) (at 3 17) 3)
    ∷ (tree.statement (tree.for_loop
    (tree.present (tree.statement (tree.declare ((record { kind = (tree.word false (Some (tree.value (number 0 false 4 16)))); name = id (codes "i") 4 12 }) ∷ [])) (at 4 8) (at 4 16) 4))
    (Some (binary 20 (name (codes "i") 4 19) (number 4 false 4 23) 4 21))
    (tree.present (tree.statement (tree.step (name (codes "i") 4 26) 35) (at 4 26) (at 4 27) 2))
    (tree.statement (tree.block (tree.statements (
    (tree.statement (tree.select (tree.cases (
    (tree.case (at 6 7) (Some (binary 20 (name (codes "n") 6 12) (number 2 false 6 16) 6 14)) (Some (record { name = id (codes "p") 6 21; time = None; condition = (Some (record { at = at 6 23; test = 17; value = name (codes "n") 6 35 })); target = (tree.fresh true (id (codes "n") 6 50)); stamp = (Some (record { at = at 6 52; value = name (codes "n") 6 54 })) }))
    (tree.statements (
    (tree.statement (tree.if_then (binary 21 (name (codes "n") 6 61) (name (codes "i") 6 65) 6 63)
    (tree.statement tree.continue_on (at 6 68) (at 6 76) 2)
    (tree.present (tree.statement tree.break_out (at 6 83) (at 6 88) 2))) (at 6 57) (at 6 88) 7)
    ∷ [])))
    ∷ (tree.case (at 7 7) None (Some (record { name = id (codes "t") 7 12; time = None; condition = (Some (record { at = at 7 14; test = 25; value = number 9 false 7 30 })); target = tree.dropped; stamp = None }))
    (tree.statements (
    (tree.statement (tree.return_with None) (at 7 42) (at 7 48) 2)
    ∷ [])))
    ∷ (tree.case (at 8 7) None None
    (tree.statements (
    (tree.statement (tree.assign (name (codes "n") 8 16) 38 (at 8 18) (tree.value (number 1 false 8 21))) (at 8 16) (at 8 22) 4)
    ∷ [])))
    ∷ []))) (at 5 5) (at 9 5) 38)
    ∷ []))) (at 4 31) (at 10 3) 2)) (at 4 3) (at 10 3) 8)
    ∷ (tree.statement (tree.do_while
    (tree.statement (tree.step (name (codes "n") 11 6) 35) (at 11 6) (at 11 9) 3)
    (name (codes "n") 11 18)) (at 11 3) (at 11 20) 6)
    ∷ []))) (at 2 17) (at 12 1) 2))
    ∷ []

-- the case of the port: its guard and condition read the outer n, variable 0, its stamp and body the n that it declares
abbrev first_input : kernel.Input
first_input = record {
  resource = Port 0;
  time = None;
  condition = Some (record { test = 17; value = word_in 0 });
  target = Some (kernel.word 2);
  stamp = Some (kernel.word 2);
  pos = at 6 21;
}

-- its body goes on with the next turn, or ends the case
abbrev first_body : kernel.Statement
first_body =
    kernel.if_then (on_two 21 true (word_in 2) (word_in 1) 6 63)
    (kernel.statements (kernel.exit 2 ∷ [])) (kernel.statements (kernel.exit 3 ∷ []))

abbrev second_input : kernel.Input
second_input = record {
  resource = Timer 0;
  time = None;
  condition = Some (record { test = 25; value = kernel.number 9 });
  target = None;
  stamp = None;
  pos = at 7 12;
}

abbrev default_body : kernel.Statement
default_body = set_word 0 (on_two 16 false (word_in 0) (kernel.number 1) 8 18)

abbrev cases_select : kernel.Statement
cases_select =
    kernel.select
    (kernel.cases (
    kernel.case (Some (on_two 20 false (word_in 0) (kernel.number 2) 6 14)) first_input (kernel.statements (block 3 (first_body ∷ []) ∷ []))
    ∷ kernel.case None second_input (kernel.statements (block 4 (kernel.exit 0 ∷ []) ∷ []))
    ∷ []))
    (kernel.default (kernel.statements (block 5 (default_body ∷ []) ∷ []))) (at 5 5)

-- the two loops, each in the block that `break` leaves, their bodies in the one that `continue` leaves
abbrev cases_for : kernel.Statement
cases_for =
    kernel.loop (on_two 20 false (word_in 1) (kernel.number 4) 4 21)
    (kernel.statements (block 2 (cases_select ∷ []) ∷ []))
    (kernel.statements (set_word 1 (on_two 15 false (word_in 1) (kernel.number 1) 4 26) ∷ []))

abbrev cases_do : kernel.Statement
cases_do =
    kernel.loop (kernel.number 1)
    (kernel.statements (
    block 7 (set_word 0 (on_two 15 false (word_in 0) (kernel.number 1) 11 6) ∷ [])
    ∷ kernel.if_then (word_in 0) kernel.no_more (kernel.statements (kernel.exit 6 ∷ []))
    ∷ []))
    kernel.no_more

abbrev cases_body : List kernel.Statement
cases_body = kernel.set_zero 0 ∷ set_word 1 (kernel.number 0) ∷ block 1 (cases_for ∷ []) ∷ block 6 (cases_do ∷ []) ∷ []

abbrev cases_kernel : kernel.Kernel
cases_kernel = record {
  roots = root 0 (at 2 6) (block 0 cases_body ∷ []) 2 6 ∷ [];
  variables =
      variable true 0 (3 ∷ 16 ∷ []) 3 16
      ∷ variable true 0 (4 ∷ 12 ∷ []) 4 12
      ∷ variable true 0 (6 ∷ 50 ∷ []) 6 50
      ∷ [];
  channels = [];
  timers = timer (3 ∷ 9 ∷ []) 3 9 ∷ [];
  ports = record { id = 1; dir = In; core = 0; place = at 1 9; pos = at 1 9 } ∷ [];
  instances = instance 0 ∷ [];
  main = at 2 6;
}

cases_copied : copy_of cases ≡ cases_kernel
unfolding copy_of identifiers place_from
cases_copied = refl

-- void wait(void) { chan d; timer t; par { d <: 1; d :> void; } t :> void; }
-- void talk(chanend c) { master { wait(); { int x[2]; c :> x[1]; } c <: 5; } }
-- void main(void) { chan c; chan d; par { talk(d); slave { d <: 2; d :> void; } } }
abbrev pub transaction : List tree.Item
transaction =
    (tree.function (record { result = None; name = id (codes "wait") 1 6; params = []; own = 5 })
    (tree.statement (tree.block (tree.statements (
    (tree.statement (tree.declare ((record { kind = (tree.channel false); name = id (codes "d") 1 24 }) ∷ [])) (at 1 19) (at 1 25) 3)
    ∷ (tree.statement (tree.declare ((record { kind = tree.timer; name = id (codes "t") 1 33 }) ∷ [])) (at 1 27) (at 1 34) 3)
    ∷ (tree.statement (tree.par (tree.branches (
    (tree.branch None (tree.statement (tree.output (record { name = id (codes "d") 1 42; time = None; value = number 1 false 1 47; stamp = None })) (at 1 42) (at 1 48) 4))
    ∷ (tree.branch None (tree.statement (tree.input (record { name = id (codes "d") 1 50; time = None; condition = None; target = tree.dropped; stamp = None })) (at 1 50) (at 1 59) 4))
    ∷ []))) (at 1 36) (at 1 61) 3)
    ∷ (tree.statement (tree.input (record { name = id (codes "t") 1 63; time = None; condition = None; target = tree.dropped; stamp = None })) (at 1 63) (at 1 72) 4)
    ∷ []))) (at 1 17) (at 1 74) 2))
    ∷ (tree.function (record { result = None; name = id (codes "talk") 2 6; params = ((record { kind = (End false); name = id (codes "c") 2 19 }) ∷ []); own = 6 })
    (tree.statement (tree.block (tree.statements (
    (tree.statement (tree.transaction true (tree.statements (
    (tree.statement (tree.perform (result (id (codes "wait") 2 33) ([]))) (at 2 33) (at 2 39) 4)
    ∷ (tree.statement (tree.block (tree.statements (
    (tree.statement (tree.declare ((record { kind = (tree.array false 2 (at 2 49)); name = id (codes "x") 2 47 }) ∷ [])) (at 2 43) (at 2 51) 6)
    ∷ (tree.statement (tree.input (record { name = id (codes "c") 2 53; time = None; condition = None; target = (tree.to (index (codes "x") (number 1 false 2 60) 2 58)); stamp = None })) (at 2 53) (at 2 62) 7)
    ∷ []))) (at 2 41) (at 2 64) 2)
    ∷ (tree.statement (tree.output (record { name = id (codes "c") 2 66; time = None; value = number 5 false 2 71; stamp = None })) (at 2 66) (at 2 72) 4)
    ∷ []))) (at 2 24) (at 2 74) 3)
    ∷ []))) (at 2 22) (at 2 76) 2))
    ∷ (tree.function (record { result = None; name = id (codes "main") 3 6; params = []; own = 5 })
    (tree.statement (tree.block (tree.statements (
    (tree.statement (tree.declare ((record { kind = (tree.channel false); name = id (codes "c") 3 24 }) ∷ [])) (at 3 19) (at 3 25) 3)
    ∷ (tree.statement (tree.declare ((record { kind = (tree.channel false); name = id (codes "d") 3 32 }) ∷ [])) (at 3 27) (at 3 33) 3)
    ∷ (tree.statement (tree.par (tree.branches (
    (tree.branch None (tree.statement (tree.perform (result (id (codes "talk") 3 41) ((record { value = name (codes "d") 3 46; first = at 3 46 }) ∷ []))) (at 3 41) (at 3 48) 5))
    ∷ (tree.branch None (tree.statement (tree.transaction false (tree.statements (
    (tree.statement (tree.output (record { name = id (codes "d") 3 58; time = None; value = number 2 false 3 63; stamp = None })) (at 3 58) (at 3 64) 4)
    ∷ (tree.statement (tree.input (record { name = id (codes "d") 3 66; time = None; condition = None; target = tree.dropped; stamp = None })) (at 3 66) (at 3 75) 4)
    ∷ []))) (at 3 50) (at 3 77) 3))
    ∷ []))) (at 3 35) (at 3 79) 3)
    ∷ []))) (at 3 17) (at 3 81) 2))
    ∷ []

-- the paths of the two calls
abbrev talk : List ℕ
talk = 0 ∷ 0 ∷ 0 ∷ 0 ∷ 3 ∷ 41 ∷ []

abbrev wait : List ℕ
wait = talk ++ 2 ∷ 33 ∷ []

-- the function that is called inside has a channel of its own, which the transaction doesn't name
abbrev body_of_wait : List kernel.Statement
body_of_wait =
    par (branch (put (Chan 2) (kernel.number 1) 1 42 ∷ []) 1 42 ∷ branch (take (Chan 2) None 1 50 ∷ []) 1 50 ∷ [])
    ∷ take (Timer 0) None 1 63
    ∷ []

abbrev master_body : List kernel.Statement
master_body =
    block 2 body_of_wait
    ∷ kernel.set_zero 0
    ∷ take (Chan 1) (Some (kernel.element 0 (kernel.number 1) (at 2 58))) 2 53
    ∷ put (Chan 1) (kernel.number 5) 2 66
    ∷ []

abbrev slave_body : List kernel.Statement
slave_body = put (Chan 1) (kernel.number 2) 3 58 ∷ take (Chan 1) None 3 66 ∷ []

abbrev transaction_body : kernel.Statement
transaction_body =
    par (
    branch (block 1 (kernel.transaction 1 true (kernel.statements master_body) (at 2 24) (at 2 74) ∷ []) ∷ []) 3 41
    ∷ branch (kernel.transaction 1 false (kernel.statements slave_body) (at 3 50) (at 3 77) ∷ []) 3 50
    ∷ [])

abbrev transaction_kernel : kernel.Kernel
transaction_kernel = record {
  roots = root 0 (at 3 6) (block 0 (transaction_body ∷ []) ∷ []) 3 6 ∷ [];
  variables = array_of 2 (talk ++ 2 ∷ 47 ∷ []) 2 47 ∷ [];
  channels = channel (3 ∷ 24 ∷ []) 3 24 ∷ channel (3 ∷ 32 ∷ []) 3 32 ∷ channel (wait ++ 1 ∷ 24 ∷ []) 1 24 ∷ [];
  timers = timer (wait ++ 1 ∷ 33 ∷ []) 1 33 ∷ [];
  ports = [];
  instances = instance 0 ∷ instance 1 ∷ instance 0 ∷ [];
  main = at 3 6;
}

transaction_copied : copy_of transaction ≡ transaction_kernel
unfolding copy_of
transaction_copied = refl
