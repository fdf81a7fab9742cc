-- The steps at channel ends, from what goes to what is left.
use Rattle.std.proofs.Common.{◌≡◌, ◌<◌, ◌≤◌, ◌+◌, ◌^◌, ℕ, List, ◌∷◌, [], Option, Some, None, length, refl, sym, ap, ◌∙◌, subst}
use Rattle.std.specs.Prelude.{slice_get, slice_set}
use borrow.Author.Tests.{le-leb}
use Rattle.circular_buffer.specs.Buffer.{Buffer}
use Rattle.xs_chanend.specs.Ends.{end_at}
use Rattle.xs_core.proofs.There.{there}
use Rattle.xs_core.specs.declared.end_rows.EndStep.{EndStep}
use Rattle.xs_core.specs.declared.end_rows.EndStep.TheVariants.{SendWord, SendToken, TakeWord, TakeByte, TakeControl}
use Rattle.xs_core.specs.declared.state.State.{State}
use Rattle.xs_core.specs.Ends.{EndFits, IsSent, end_did}
use Rattle.xs_core.specs.Order.{IsInOrder, KeepsHome, Moves}
use Rattle.xs_core.specs.Seen.{home_of, state_of, thread_at}
use Rattle.xs_instr.specs.declared.instr.Reg.{Reg}
use Rattle.xs_instr.specs.declared.state.ChanEnd.{ChanEnd}
use Rattle.xs_instr.specs.declared.state.Sent.{Sent}
use Rattle.xs_instr.specs.declared.state.Thread.{Thread}
use Rattle.xs_instr.specs.declared.state.Token.{Token}
use Rattle.xs_instr.specs.declared.trace.Record.{Record}
use Rattle.xs_instr.specs.declared.trace.Record.TheVariants.{Com}
use Rattle.xs_instr.specs.Did.{Did, Given, Made, map_did}
use Rattle.xs_instr.specs.Ends.{Gone, Word, byte_in, check_in, given_ends, ins_byte, ins_control, ins_word, outs, outs_by, peer_of, take_byte, take_word, tokens_go, tokens_taken, word_in, word_tokens}
use Rattle.xs_instr.specs.Machine.{boot_end}
use Rattle.xs_instr.specs.Registers.{reg_set}
use Rattle.xs_instr.specs.Resources.{usable}
use Rattle.xs_instr.specs.Rows.{gets_with, goes_with, put_ends}

-- the thread at its next instruction, and with a value in a register
abbrev pub next : Thread → Thread
next x = record x { pc = x.pc + 1 }

abbrev pub next_with : Reg → ℕ → Thread → Thread
next_with d v x = record x { pc = x.pc + 1; regs = reg_set x.regs d v }

-- what goes leaves the core so, when thread t has gone on
left_by : (change : Thread → Thread) (old p : State) (t : ℕ) (threads : List Thread) (ends : List ChanEnd) → p ≡ record old { ends = ends } → threads ≡ slice_set p.threads t (change (thread_at p.threads t)) → state_of (record p { threads = threads }) ≡ record (state_of old) { ends = ends; threads = slice_set old.threads t (change (thread_at old.threads t)) }
left_by change old p t threads ends moved set =
    ap (λ l. state_of (record p { threads = l })) set
    ∙ ap (λ s. state_of (record s { threads = slice_set s.threads t (change (thread_at s.threads t)) })) moved

-- a step that puts nothing into a register
sent_on : (old p : State) (t : ℕ) (threads : List Thread) (gone : Gone) (did : Did (List ChanEnd)) (box box' : Buffer Sent) → did ≡ Made gone.ends None gone.sent → Moves old gone p box box' → threads ≡ slice_set p.threads t (next (thread_at p.threads t)) → IsSent (map_did (goes_with put_ends (state_of old) t (thread_at old.threads t)) did) (state_of (record p { threads = threads })) None box.items box'.items
sent_on old p t threads gone did box box' is moves set =
    subst (λ d. IsSent (map_did (goes_with put_ends (state_of old) t (thread_at old.threads t)) d) (state_of (record p { threads = threads })) None box.items box'.items) (sym is)
    (left_by next old p t threads gone.ends moves.state set, refl, moves.sent)

-- a step that puts a value into a register
got_on : (old p : State) (t : ℕ) (d : Reg) (v : ℕ) (threads : List Thread) (gone : Gone) (did : Did (Given (List ChanEnd))) (record_of : Option Record) (box box' : Buffer Sent) → did ≡ Made (given_ends gone v) record_of gone.sent → Moves old gone p box box' → threads ≡ slice_set p.threads t (next_with d v (thread_at p.threads t)) → IsSent (map_did (gets_with put_ends (state_of old) t (thread_at old.threads t) d) did) (state_of (record p { threads = threads })) record_of box.items box'.items
got_on old p t d v threads gone did record_of box box' is moves set =
    subst (λ k. IsSent (map_did (gets_with put_ends (state_of old) t (thread_at old.threads t) d) k) (state_of (record p { threads = threads })) record_of box.items box'.items) (sym is)
    (left_by (next_with d v) old p t threads gone.ends moves.state set, refl, moves.sent)

-- what goes out of the end, and what is taken from it
abbrev pub out_of : State → ℕ → List Token → Gone
out_of s e ks = tokens_go (home_of s) s.ports.clock s.ends e (end_at s.ends e) ks (peer_of s.fixed.pairs s.ports.core e)

abbrev pub taken_from : State → ℕ → ℕ → Gone
taken_from s e n = tokens_taken (home_of s) s.ports.clock s.ends e (end_at s.ends e) n (peer_of s.fixed.pairs s.ports.core e)

outs_is : (s : State) (e : ℕ) (ks : List Token) → e < length s.ends → length ks ≤ (end_at s.ends e).credits → usable (outs (home_of s) s.ports.clock ks s.ends e) (slice_get s.ends e) ≡ Made (out_of s e ks).ends None (out_of s e ks).sent
outs_is s e ks lt le =
    ap (usable (outs (home_of s) s.ports.clock ks s.ends e)) (there s.ends e boot_end lt)
    ∙ ap (outs_by (out_of s e ks)) (le-leb (length ks) (end_at s.ends e).credits le)

-- a word goes out
pub word_sent : (old p : State) (t e v : ℕ) (step : EndStep) (threads : List Thread) (box box' : Buffer Sent) → step ≡ SendWord e v → EndFits (state_of old) step → Moves old (out_of old e (word_tokens v)) p box box' → threads ≡ slice_set p.threads t (next (thread_at p.threads t)) → IsSent (end_did (home_of old) (state_of old) t (thread_at old.threads t) step) (state_of (record p { threads = threads })) None box.items box'.items
word_sent old p t e v step threads box box' is fits moves set =
    let fit : EndFits (state_of old) (SendWord e v) = subst (EndFits (state_of old)) is fits in
    subst (λ s. IsSent (end_did (home_of old) (state_of old) t (thread_at old.threads t) s) (state_of (record p { threads = threads })) None box.items box'.items) (sym is)
    (sent_on old p t threads _ _ box box' (outs_is old e (word_tokens v) fit.0 fit.1) moves set)

-- a token goes out
pub token_sent : (old p : State) (t e : ℕ) (k : Token) (step : EndStep) (threads : List Thread) (box box' : Buffer Sent) → step ≡ SendToken e k → EndFits (state_of old) step → Moves old (out_of old e (k ∷ [])) p box box' → threads ≡ slice_set p.threads t (next (thread_at p.threads t)) → IsSent (end_did (home_of old) (state_of old) t (thread_at old.threads t) step) (state_of (record p { threads = threads })) None box.items box'.items
token_sent old p t e k step threads box box' is fits moves set =
    let fit : EndFits (state_of old) (SendToken e k) = subst (EndFits (state_of old)) is fits in
    subst (λ s. IsSent (end_did (home_of old) (state_of old) t (thread_at old.threads t) s) (state_of (record p { threads = threads })) None box.items box'.items) (sym is)
    (sent_on old p t threads _ _ box box' (outs_is old e (k ∷ []) fit.0 fit.1) moves set)

-- a word is taken
pub word_got : (old p : State) (t e v n : ℕ) (d : Reg) (step : EndStep) (threads : List Thread) (box box' : Buffer Sent) → step ≡ TakeWord d e → EndFits (state_of old) step → take_word (end_at old.ends e).tokens ≡ Word v → n ≡ p.ports.core → Moves old (taken_from old e 4) p box box' → threads ≡ slice_set p.threads t (next_with d v (thread_at p.threads t)) → IsSent (end_did (home_of old) (state_of old) t (thread_at old.threads t) step) (state_of (record p { threads = threads })) (Some (Com n v)) box.items box'.items
word_got old p t e v n d step threads box box' is fits value at moves set =
    let fit : EndFits (state_of old) (TakeWord d e) = subst (EndFits (state_of old)) is fits in
    let here : n ≡ old.ports.core = at ∙ ap (λ (s : State). s.ports.core) moves.state in
    let ins =
    ap (usable (ins_word (home_of old) old.ports.clock old.ends e)) (there old.ends e boot_end fit.0)
    ∙ ap (word_in (home_of old) (taken_from old e 4)) value in
    subst (λ m. IsSent (end_did (home_of old) (state_of old) t (thread_at old.threads t) step) (state_of (record p { threads = threads })) (Some (Com m v)) box.items box'.items) (sym here)
    (subst (λ s. IsSent (end_did (home_of old) (state_of old) t (thread_at old.threads t) s) (state_of (record p { threads = threads })) (Some (Com old.ports.core v)) box.items box'.items) (sym is)
    (got_on old p t d v threads _ _ (Some (Com old.ports.core v)) box box' ins moves set))

-- a byte is taken
pub byte_got : (old p : State) (t e v : ℕ) (d : Reg) (step : EndStep) (threads : List Thread) (box box' : Buffer Sent) → step ≡ TakeByte d e → EndFits (state_of old) step → take_byte (end_at old.ends e).tokens ≡ Word v → Moves old (taken_from old e 1) p box box' → threads ≡ slice_set p.threads t (next_with d v (thread_at p.threads t)) → IsSent (end_did (home_of old) (state_of old) t (thread_at old.threads t) step) (state_of (record p { threads = threads })) None box.items box'.items
byte_got old p t e v d step threads box box' is fits value moves set =
    let fit : EndFits (state_of old) (TakeByte d e) = subst (EndFits (state_of old)) is fits in
    let ins =
    ap (usable (ins_byte (home_of old) old.ports.clock old.ends e)) (there old.ends e boot_end fit.0)
    ∙ ap (byte_in (taken_from old e 1)) value in
    subst (λ s. IsSent (end_did (home_of old) (state_of old) t (thread_at old.threads t) s) (state_of (record p { threads = threads })) None box.items box'.items) (sym is)
    (got_on old p t d v threads _ _ None box box' ins moves set)

-- a control token is taken
pub control_got : (old p : State) (t e k : ℕ) (step : EndStep) (threads : List Thread) (box box' : Buffer Sent) → step ≡ TakeControl e k → EndFits (state_of old) step → Moves old (taken_from old e 1) p box box' → threads ≡ slice_set p.threads t (next (thread_at p.threads t)) → IsSent (end_did (home_of old) (state_of old) t (thread_at old.threads t) step) (state_of (record p { threads = threads })) None box.items box'.items
control_got old p t e k step threads box box' is fits moves set =
    let fit : EndFits (state_of old) (TakeControl e k) = subst (EndFits (state_of old)) is fits in
    let ins =
    ap (usable (ins_control (home_of old) old.ports.clock k old.ends e)) (there old.ends e boot_end fit.0)
    ∙ ap (check_in (taken_from old e 1)) fit.1 in
    subst (λ s. IsSent (end_did (home_of old) (state_of old) t (thread_at old.threads t) s) (state_of (record p { threads = threads })) None box.items box'.items) (sym is)
    (sent_on old p t threads _ _ box box' ins moves set)

-- what no event changes stays where tokens move and a thread goes on
pub moved_keeps : (old p : State) (gone : Gone) (box box' : Buffer Sent) (threads : List Thread) → Moves old gone p box box' →
    KeepsHome old (record p { threads = threads })
moved_keeps old p gone box box' threads moves = record {
  fixed = ap (λ (s : State). s.fixed) moves.state;
  core = ap (λ (s : State). s.ports.core) moves.state;
  stim = ap (λ (s : State). s.ports.stim) moves.state;
}

-- the ends are in order whatever the threads are
pub ends_in_order : (s : State) (threads : List Thread) → IsInOrder s → IsInOrder (record s { threads = threads })
ends_in_order s threads order = record { code = order.code; wired = order.wired; balanced = order.balanced }

-- a thread that goes on may still do so once tokens have moved
pub room_kept : (old p : State) (gone : Gone) (box box' : Buffer Sent) (t : ℕ) → Moves old gone p box box' →
    (thread_at old.threads t).pc + 1 < 2 ^ 32 → (thread_at p.threads t).pc + 1 < 2 ^ 32
room_kept old p gone box box' t moves room = subst (λ (s : State). (thread_at s.threads t).pc + 1 < 2 ^ 32) (sym moves.state) room
