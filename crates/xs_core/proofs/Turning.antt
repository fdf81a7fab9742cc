-- Turns, from what is decided to what is left.
use Rattle.std.proofs.Common.{◌≡◌, ◌<◌, ◌+◌, ◌^◌, ℕ, zero, suc, List, [], ◌∷◌, Option, Some, length, sym, ap, ◌∙◌, subst, arith, append-nil}
use Rattle.std.specs.Prelude.{slice_get}
use Rattle.std.proofs.lemmas.Option.{slice_get_within}
use Rattle.xs_core.specs.declared.did.Did.{Did as DidAnswer}
use Rattle.xs_core.specs.declared.did.Did.TheVariants.{Made as DidMake}
use Rattle.xs_core.specs.declared.state.State.{State}
use Rattle.xs_core.specs.Ends.{IsSent}
use Rattle.xs_core.specs.Order.{IsGoodCode, IsInOrder}
use Rattle.xs_core.specs.Slots.{IsTurn}
use Rattle.xs_core.specs.declared.slot_result.SlotResult.{SlotResult}
use Rattle.xs_core.specs.declared.slot_result.SlotResult.TheVariants.{Local, Pool, End, Port, Event}
use Rattle.xs_core.specs.SlotResults.{HasByte, IsMade, Keeps, MayGoOn, denote}
use Rattle.xs_instr.specs.declared.image.Home.{Home}
use Rattle.xs_instr.specs.declared.instr.Instr.{Instr}
use Rattle.xs_instr.specs.declared.instr.Instr.TheVariants.{Outct, Chkct}
use Rattle.xs_instr.specs.declared.state.CoreState.{CoreState}
use Rattle.xs_instr.specs.declared.state.Sent.{Sent}
use Rattle.xs_instr.specs.declared.state.Thread.{Thread}
use Rattle.xs_instr.specs.declared.trace.Record.{Record}
use Rattle.xs_instr.specs.Did.{Did, Made, Paused, Traps, Idle}
use Rattle.xs_instr.specs.Slot.{slot}
use Rattle.xs_instr.specs.Valid.{AreGoodInstrs, IsGoodInstr}

byte_of : (size i : ℕ) (x : Instr) → IsGoodInstr size i x → HasByte x
byte_of size i (Outct r n) h = h
byte_of size i (Chkct r n) h = h
byte_of size i _ h = tt

good_at : (size i : ℕ) (xs : List Instr) (pc : ℕ) (x : Instr) → AreGoodInstrs size i xs → slice_get xs pc ≡ Some x → HasByte x
good_at size i [] pc x h e = cc
good_at size i (y ∷ xs) zero x h e = let same : y ≡ x = cc in subst HasByte same (byte_of size i y h.0)
good_at size i (y ∷ xs) (suc pc) x h e = good_at size (suc i) xs pc x h.1 e

-- an instruction of good code has a byte where it has a control token
pub has_byte : (xs : List Instr) (pc : ℕ) (x : Instr) → IsGoodCode xs → slice_get xs pc ≡ Some x → HasByte x
has_byte xs pc x code e = good_at (length xs) 0 xs pc x code.good e

-- and a next index that is a word
pub goes_on : (xs : List Instr) (pc : ℕ) (x : Instr) → IsGoodCode xs → slice_get xs pc ≡ Some x → pc + 1 < 2 ^ 32
goes_on xs pc x code e =
    let within = slice_get_within xs pc x e in let few = code.few in omega (arith, within, few)

-- a core that keeps its ends stays in order
pub still_in_order : (old new : State) → IsInOrder old → Keeps old new → IsInOrder new
still_in_order old new order keeps = record {
  code = subst (λ f. IsGoodCode f.parts.code.instrs) (sym keeps.fixed) order.code;
  wired = rw (keeps.fixed, keeps.core, keeps.ends) order.wired;
  balanced = rw (keeps.fixed, keeps.core, keeps.ends) order.balanced;
}

-- a step that sends nothing
pub made_turn : (did : Did CoreState) (home : Home) (old : CoreState) (t : ℕ) (new : CoreState) (made : Option Record) (box : List Sent) → IsMade did new made → IsTurn did home old t (DidMake made) new box box
made_turn (Made core told []) home old t new made box h = (h.0, h.1, sym (append-nil box))
made_turn (Made core told (x ∷ sent)) home old t new made box h = absurd (no h.2)
  where
    no : x ∷ sent ≡ [] → ⊥
    no e = cc
made_turn Paused home old t new made box h = absurd h
made_turn (Traps kind) home old t new made box h = absurd h
made_turn Idle home old t new made box h = absurd h

-- a step that may send
pub sent_turn : (did : Did CoreState) (home : Home) (old : CoreState) (t : ℕ) (new : CoreState) (made : Option Record) (box box' : List Sent) → IsSent did new made box box' → IsTurn did home old t (DidMake made) new box box'
sent_turn (Made core told sent) home old t new made box box' h = h
sent_turn Paused home old t new made box box' h = absurd h
sent_turn (Traps kind) home old t new made box box' h = absurd h
sent_turn Idle home old t new made box box' h = absurd h

-- so may a turn that goes on
pub may_go_on : (pc : ℕ) (turn : SlotResult) → pc + 1 < 2 ^ 32 → MayGoOn pc turn
may_go_on pc (Local step) h = h
may_go_on pc (Pool step) h = h
may_go_on pc (End step) h = h
may_go_on pc (Port step) h = h
may_go_on pc (Event step) h = h
may_go_on pc _ h = tt

-- a turn that is decided is the thread's turn
pub decided : (home : Home) (core : CoreState) (t : ℕ) (x : Thread) (turn found : SlotResult) (answer : DidAnswer) (new : CoreState) (box box' : List Sent) → turn ≡ found → denote home core t x turn ≡ slot home core t → IsTurn (denote home core t x found) home core t answer new box box' → IsTurn (slot home core t) home core t answer new box box'
decided home core t x turn found answer new box box' is means h =
    subst (λ d. IsTurn d home core t answer new box box') (ap (denote home core t x) (sym is) ∙ means) h
