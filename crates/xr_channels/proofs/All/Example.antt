-- A whole plain transfer within a core, and a whole transaction of a master's word: each lemma's premises can be met in turn, and at the end
-- nothing is left.
use Rattle.std.proofs.Common.{ℕ, true, false, List, [], ◌∷◌, refl}
use Rattle.xs_instr.specs.Ends.{word_tokens}
use Rattle.xc_meaning.specs.States.Channels.{Parcel, offer, opening, closing}
use Rattle.xr_channels.specs.Phases.{END, ACK, OPEN, offers, opens, closes, between, awaits_ack, side_state, Direction, TransitRel}
use Rattle.xr_channels.proofs.Sides.Sends.{talk_flip, output_begins, output_ends, master_begins, word_put, master_ends, answer_sent}
use Rattle.xr_channels.proofs.Sides.Late.{offer_put_early, opening_put}
use Rattle.xr_channels.proofs.Sides.Takes.{answer_taken, offer_taken, opening_taken, closing_answered, end_taken, word_taken, closing_seen}
use Rattle.xr_channels.proofs.Tokens.Lines.{told_late, no_line}
use Rattle.xr_channels.proofs.All.Begins.{starts_plain}
use Rattle.xr_channels.proofs.All.Frames.{all_come}

-- what has come
abbrev at_end : List Parcel → Direction → Direction
at_end ps l = record l { inbox = ps }

-- a word goes over
transfer : (v : ℕ) → TransitRel (side_state between false) (side_state between false) no_line no_line
transfer v =
    let out = offer_put_early v (side_state between false) (told_late no_line (word_tokens v) (offer v)) no_line refl (output_begins v (side_state between false) no_line no_line starts_plain) in
    let sent = all_come _ _ _ _ (word_tokens v) refl refl out in
    let ended = output_ends v false (side_state between false) _ _ sent in
    let whole = all_come _ _ _ _ (END ∷ []) refl refl ended in
    let got = offer_taken v (side_state (awaits_ack (offers v)) false) _ _ (END ∷ []) [] refl refl (talk_flip _ _ _ _ whole) in
    let checked = end_taken false (side_state (awaits_ack (offers v)) false) _ _ [] refl got in
    let answered = answer_sent false (side_state (awaits_ack (offers v)) false) _ _ checked in
    let back = all_come _ _ _ _ (ACK ∷ []) refl refl answered in
    answer_taken (offers v) false (side_state between false) _ _ [] [] refl refl refl (talk_flip _ _ _ _ back)

-- a master opens, puts a word and closes
transaction : (v : ℕ) → TransitRel (side_state between false) (side_state between false) no_line no_line
transaction v =
    let asks = opening_put (side_state between false) (told_late no_line (OPEN ∷ []) opening) no_line refl (master_begins (side_state between false) no_line no_line starts_plain) in
    let asked = all_come _ _ _ _ (OPEN ∷ []) refl refl asks in
    let opened = opening_taken (side_state (awaits_ack opens) true) _ _ [] [] refl refl (talk_flip _ _ _ _ asked) in
    let acked = all_come _ _ _ _ (ACK ∷ []) refl refl (answer_sent true (side_state (awaits_ack opens) true) _ _ opened) in
    let inside = answer_taken opens true (side_state between true) _ _ [] [] refl refl refl (talk_flip _ _ _ _ acked) in
    let put = all_come _ _ _ _ (word_tokens v) refl refl (word_put v (side_state between true) _ _ inside) in
    let closed = all_come _ _ _ _ (END ∷ []) refl refl (master_ends (side_state between true) _ _ put) in
    let read = word_taken v (side_state (awaits_ack closes) false) _ _ (END ∷ []) (closing ∷ []) refl refl (talk_flip _ _ _ _ closed) in
    let seen = closing_seen (side_state (awaits_ack closes) false) _ _ [] refl read in
    let said = all_come _ _ _ _ (ACK ∷ []) refl refl (closing_answered (side_state (awaits_ack closes) false) _ _ [] refl seen) in
    answer_taken closes false (side_state between false) _ _ [] [] refl refl refl (talk_flip _ _ _ _ said)
