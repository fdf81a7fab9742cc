-- What a thread does at channel ends.
use Rattle.std.specs.Prelude.{◌≡◌, ◌<◌, ◌≤◌, ◌++◌, ℕ, Bool, true, false, List, [], ◌∷◌, Option, length}
use Rattle.xs_chanend.specs.Ends.{end_at}
use Rattle.xs_core.specs.declared.end_rows.EndStep.{EndStep}
use Rattle.xs_core.specs.declared.end_rows.EndStep.TheVariants.{SendWord, SendToken, TakeWord, TakeByte, TakeControl}
use Rattle.xs_instr.specs.declared.image.Home.{Home}
use Rattle.xs_instr.specs.declared.state.CoreState.{CoreState}
use Rattle.xs_instr.specs.declared.state.Sent.{Sent}
use Rattle.xs_instr.specs.declared.state.Thread.{Thread}
use Rattle.xs_instr.specs.declared.trace.Record.{Record}
use Rattle.xs_instr.specs.Did.{Did, map_did, Made}
use Rattle.xs_instr.specs.Ends.{Taken, Word, Control, NotYet, Passed, check, ins_byte, ins_control, outs, take_byte, take_word}
use Rattle.xs_instr.specs.Resources.{AnEnd, on_end}
use Rattle.xs_instr.specs.Rows.{gets_with, goes_with, in_row, out_row, put_ends}

-- the row of a step, at the end that it is for
abbrev pub end_did : Home → CoreState → ℕ → Thread → EndStep → Did CoreState
end_did home core t x (SendWord e v) = out_row home core t x v (AnEnd e)
end_did home core t x (SendToken e k) =
    map_did (goes_with put_ends core t x) (on_end core (outs home core.clock (k ∷ []) core.ends) (AnEnd e))
end_did home core t x (TakeWord d e) = in_row home core t x d 0 (AnEnd e)
end_did home core t x (TakeByte d e) =
    map_did (gets_with put_ends core t x d) (on_end core (ins_byte home core.clock core.ends) (AnEnd e))
end_did home core t x (TakeControl e c) =
    map_did (goes_with put_ends core t x) (on_end core (ins_control home core.clock c core.ends) (AnEnd e))

-- a word or a byte was found
abbrev pub is_word : Taken → Bool
is_word (Word v) = true
is_word (Control c) = false
is_word NotYet = false

-- the end is there, and has the credits or tokens for the step
abbrev pub EndFits : CoreState → EndStep → Type 0
EndFits core (SendWord e v) = (e < length core.ends) × (4 ≤ (end_at core.ends e).credits)
EndFits core (SendToken e k) = (e < length core.ends) × (1 ≤ (end_at core.ends e).credits)
EndFits core (TakeWord d e) = (e < length core.ends) × (is_word (take_word (end_at core.ends e).tokens) ≡ true)
EndFits core (TakeByte d e) = (e < length core.ends) × (is_word (take_byte (end_at core.ends e).tokens) ≡ true)
EndFits core (TakeControl e c) = (e < length core.ends) × (check (end_at core.ends e).tokens c ≡ Passed)

-- a step that leaves what it makes, with its record, and what it sends last in the outbox
abbrev pub IsSent : Did CoreState → CoreState → Option Record → List Sent → List Sent → Type 0
IsSent (Made core made sent) new map_did box box' = (new ≡ core) × (map_did ≡ made) × (box' ≡ box ++ sent)
IsSent _ new map_did box box' = ⊥
