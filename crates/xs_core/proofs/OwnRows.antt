-- The rows of registers, memory and flow.
use Rattle.std.proofs.Common.{◌≡◌, ◌∙◌, ℕ, true, false, ◌||◌, Option, Result, Ok, Err, Some, None, ap, sym, refl}
use Rattle.std.specs.Prelude.{IfOk, IfSome}
use Rattle.std.specs.Result.{result_ok}
use Rattle.xs_core.specs.declared.local_rows.LocalStep.{LocalStep}
use Rattle.xs_core.specs.Local.{is_local, local_after, local_did, local_in}
use Rattle.xs_instr.specs.declared.image.Home.{Home}
use Rattle.xs_instr.specs.declared.instr.Instr.{Instr}
use Rattle.xs_instr.specs.declared.instr.Instr.TheVariants.{Getr, Freer, Getst, Tinitpc, Tinitdp, Tinitsp, Msync, Ssync, Mjoin, Freet, Out, Outt, Outct, In, Int, Chkct, Setc, Setd, Setpt, Getts, Setv, Eeu, Edu, Clre, Waiteu, Setsr, Clrsr}
use Rattle.xs_instr.specs.declared.state.CoreState.{CoreState}
use Rattle.xs_instr.specs.declared.state.Thread.{Thread}
use Rattle.xs_instr.specs.declared.trace.Trap.{Trap}
use Rattle.xs_instr.specs.Did.{makes, map_did}
use Rattle.xs_instr.specs.Rows.{local_row, put_local, row}
use Rattle.xs_instr.specs.Slot.{event_or_row, is_waiteu, pick_where, runs_on}

-- the row of such an instruction is that of what the thread has for itself
pub own_row_is : (home : Home) (core : CoreState) (t : ℕ) (x : Thread) (i : Instr) → is_local i ≡ true → map_did (put_local core t x) (local_row (local_in x core.words) i) ≡ row home core t x i
own_row_is home core t x (Getr d kind) h = cc
own_row_is home core t x (Freer r) h = cc
own_row_is home core t x (Getst d r) h = cc
own_row_is home core t x (Tinitpc r k) h = cc
own_row_is home core t x (Tinitdp r s) h = cc
own_row_is home core t x (Tinitsp r s) h = cc
own_row_is home core t x (Msync r) h = cc
own_row_is home core t x Ssync h = cc
own_row_is home core t x (Mjoin r) h = cc
own_row_is home core t x Freet h = cc
own_row_is home core t x (Out r s) h = cc
own_row_is home core t x (Outt r s) h = cc
own_row_is home core t x (Outct r n) h = cc
own_row_is home core t x (In d r) h = cc
own_row_is home core t x (Int d r) h = cc
own_row_is home core t x (Chkct r n) h = cc
own_row_is home core t x (Setc r cond) h = cc
own_row_is home core t x (Setd r s) h = cc
own_row_is home core t x (Setpt r s) h = cc
own_row_is home core t x (Getts d r) h = cc
own_row_is home core t x (Setv r k) h = cc
own_row_is home core t x (Eeu r) h = cc
own_row_is home core t x (Edu r) h = cc
own_row_is home core t x Clre h = cc
own_row_is home core t x Waiteu h = cc
own_row_is home core t x (Setsr n) h = cc
own_row_is home core t x (Clrsr n) h = cc
own_row_is home core t x _ h = refl

-- so is what comes of it
pub did_is_row : (home : Home) (core : CoreState) (t : ℕ) (x : Thread) (i : Instr) (r : Result LocalStep Trap) → is_local i ≡ true → local_did (local_in x core.words) r ≡ local_row (local_in x core.words) i → map_did (put_local core t x) (local_did (local_in x core.words) r) ≡ row home core t x i
did_is_row home core t x i r own did = ap (map_did (put_local core t x)) did ∙ own_row_is home core t x i own

-- at none of them a thread takes events for the instruction's sake
pub own_is_no_waiteu : (i : Instr) → is_local i ≡ true → is_waiteu (Some i) ≡ false
own_is_no_waiteu Waiteu h = cc
own_is_no_waiteu _ h = refl

-- so its turn is its row, where the event bit is clear
pub own_runs : (home : Home) (core : CoreState) (t : ℕ) (x : Thread) (o : Option Instr) (i : Instr) → x.event_bit ≡ false → o ≡ Some i → is_local i ≡ true → runs_on home core t x o ≡ row home core t x i
own_runs home core t x o i bit here own =
    ap (runs_on home core t x) here
    ∙ ap (λ b. event_or_row home core t x (Some i) (pick_where home core t (b || is_waiteu (Some i)))) bit
    ∙ ap (λ b. event_or_row home core t x (Some i) (pick_where home core t b)) (own_is_no_waiteu i own)

-- a step that is made makes the turn
pub made_runs : (home : Home) (core : CoreState) (t : ℕ) (x : Thread) (o : Option Instr) (i : Instr) (r : Result LocalStep Trap) → x.event_bit ≡ false → o ≡ Some i → is_local i ≡ true → local_did (local_in x core.words) r ≡ local_row (local_in x core.words) i → IfSome (result_ok r) (λ step. makes (put_local core t x (local_after (local_in x core.words) step)) ≡ runs_on home core t x o)
made_runs home core t x o i (Ok step) bit here own did =
    did_is_row home core t x i (Ok step) own did ∙ sym (own_runs home core t x o i bit here own)
made_runs home core t x o i (Err kind) bit here own did = tt

-- what holds of a value holds where it is some
pub ok_some : {X Y : Type 0} (P : X → Type 0) (r : Result X Y) → IfOk r P → IfSome (result_ok r) P
ok_some P (Ok x) h = h
ok_some P (Err y) h = tt

-- what holds of each value holds of some
pub all_some : {X : Type 0} (P : X → Type 0) (o : Option X) → ((x : X) → P x) → IfSome o P
all_some P None h = tt
all_some P (Some x) h = h x
