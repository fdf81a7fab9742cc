-- Each row of the machine on an end, at each phase of its side: what it does, and what then stands between the sides.
use Rattle.std.proofs.Common.{◌≡◌, ◌<◌, ◌≤◌, ◌≢◌, ℕ, Bool, true, false, List, [], ◌∷◌, ◌++◌, length, drop, Some, None, refl, sym, ap, ◌∙◌, subst, arith, append-nil}
use Rattle.std.specs.Prelude.{slice_get, slice_set, nat_le}
use Rattle.xs_instr.specs.declared.image.Home.{Home}
use Rattle.xs_instr.specs.declared.image.Pair.{Pair}
use Rattle.xs_instr.specs.declared.instr.Reg.{Reg}
use Rattle.xs_instr.specs.declared.state.ChanEnd.{ChanEnd}
use Rattle.xs_instr.specs.declared.state.CoreState.{CoreState}
use Rattle.xs_instr.specs.declared.state.Thread.{Thread}
use Rattle.xs_instr.specs.declared.state.Token.{Token}
use Rattle.xs_instr.specs.declared.trace.Record.TheVariants.{Com}
use Rattle.xs_instr.specs.declared.trace.Trap.TheVariants.{Mismatch}
use Rattle.xs_instr.specs.Did.{Did, Made, Paused, Traps, map_did}
use Rattle.xs_instr.specs.Ends.{Peer, peer_of, Gone, outs, outs_by, tokens_go, tokens_taken, word_tokens, ins_word, word_in, ins_control, check_in, check, Checked, Passed, Other, NotThere, Taken, Word, Control, NotYet, take_word, given_ends}
use Rattle.xs_instr.specs.Machine.{link_of, on_links}
use Rattle.xs_instr.specs.Rows.{goes_with, gets_with, put_ends}
use Rattle.xc_meaning.specs.States.Channels.{Parcel, offer, opening, word, closing, taken, Side, first, second, other_side, Inboxes}
use Rattle.xr_channels.specs.Phases.{END, ACK, OPEN, Question, offers, opens, closes, between, sends_end, awaits_ack, checks_end, sends_ack, was_closed, streams, SideState, side_state, Direction, TransitRel}
use Rattle.xr_channels.specs.ChannelRel.{QuestionsArrived, ChannelRel}
use Rattle.xr_channels.specs.Channels.{Links, tokens_in, ends_in, tokens_at, tokens_for, end_of_side, Ghosts, Channels, IsWired}
use Rattle.xr_channels.proofs.Sides.Takes.{answered_on_time, answer_taken, offer_taken, opening_taken, closing_answered, end_taken, word_taken, stream_taken, closing_seen}
use Rattle.xr_channels.proofs.Sides.Sends.{output_begins, output_ends, master_begins, word_put, master_ends, stream_begins, answer_sent}
use Rattle.xr_channels.proofs.Sides.Late.{offer_put_early, opening_put, stream_put}
use Rattle.xr_channels.proofs.Tokens.Lines.{told_late, told_now}
use Rattle.xr_channels.proofs.Sides.Found.{Checks, waits, passes, traps, Inputs, word_waits, word_passes, word_traps, EndChecks, end_waits, end_passes, is_taken, is_opening, is_closing, is_offer, is_word, ack_found, open_found, close_found, end_found, offer_found, word_found, stream_found}
use Rattle.xr_channels.proofs.Tokens.Views.{IsEnd, Square}
use Rattle.xr_channels.proofs.Tokens.Changes.{peer, Changed, Sends, sends, takes}
use Rattle.xr_channels.proofs.Tokens.Lines.{none_there}
use Rattle.xr_channels.proofs.Laws.FreshRows.{AfterSending, sent_any, none_asked, asks_late, ends_fresh, answer_fresh, word_fresh, closing_fresh, answers_fresh, took_fresh, ack_fresh, seen_fresh, end_fresh, put_close, stream_late, stream_told, stream_took}
use Rattle.xr_channels.proofs.All.Frames.{parcels, boxed, twice}
use Rattle.xr_channels.proofs.Sides.Updates.{moved_to, Update, still, puts, reads_on, reads_and_puts, sends_next, takes_next, at_spot, go_line, come_line}

-- What the machine alone keeps of its links and ends.
pub record IsSized (pairs : List Pair) (cores : List CoreState) (links : Links) : Type 0 where
  pub square : Square links
  pub ends : (k : ℕ) (p : Pair) (side : Side) → slice_get pairs k ≡ Some p → IsEnd (ends_in (slice_get cores (end_of_side p side).core)) (end_of_side p side).end

-- A thread of a core, at an instruction on the end of a side of a channel.
module _ (pairs : List Pair) (wired : IsWired pairs) (cores : List CoreState) (links : Links) (boxes : List Inboxes) (g : Ghosts) (h : Channels pairs cores links boxes g) (sized : IsSized pairs cores links) (k : ℕ) (p : Pair) (side : Side) (at_k : slice_get pairs k ≡ Some p) (home : Home) (core : CoreState) (end : ChanEnd) (t : ℕ) (thread : Thread) (number : home.number ≡ (end_of_side p side).core) (is_pairs : home.pairs ≡ pairs) (at_c : slice_get cores (end_of_side p side).core ≡ Some core) (at_e : slice_get core.ends (end_of_side p side).end ≡ Some end) where
  -- the core and the end, the other side and the peer
  abbrev pub c : ℕ
  c = (end_of_side p side).core

  abbrev pub e : ℕ
  e = (end_of_side p side).end

  abbrev pub other : Side
  other = other_side side

  abbrev pub q : Peer
  q = peer_of home.pairs home.number e

  -- the peer is the other side's end
  q_is : q ≡ end_of_side p other
  q_is = ap (λ l. peer_of l home.number e) is_pairs ∙ ap (λ n. peer_of pairs n e) number ∙ wired.peers k p side at_k

  -- the channel has inboxes
  lt : k < length boxes
  lt = h.boxes k p at_k

  -- the tokens at the end
  buffer_is : tokens_at cores c e ≡ end.tokens
  buffer_is = ap (λ o. tokens_in (slice_get (ends_in o) e)) at_c ∙ ap tokens_in at_e

  -- within a core nothing is late
  prompt_there : (end_of_side p other).core ≡ c → g.late k other ≡ []
  prompt_there x = by side x at_k
    where
      by : (s : Side) → (end_of_side p (other_side s)).core ≡ (end_of_side p s).core → slice_get pairs k ≡ Some p → g.late k (other_side s) ≡ []
      by first y z = h.prompt k p second z y
      by second y z = h.prompt k p first z y

  -- Tokens go out.
  module _ (ks : List Token) where
    -- what the row leaves
    abbrev pub gone : Gone
    gone = tokens_go home core.clock core.ends e end ks q

    abbrev pub left : CoreState
    left = goes_with put_ends core t thread gone.ends

    abbrev pub cores_sent : List CoreState
    cores_sent = slice_set cores c left

    abbrev pub links_sent : Links
    links_sent = on_links links c gone.sent

    -- what it changes of ends and links
    pub effects : Changed cores links cores_sent links_sent (end_of_side p other) × Sends cores links cores_sent links_sent c (end_of_side p other) ks
    effects =
        subst (λ (z : Peer). Changed cores links cores_sent links_sent z × Sends cores links cores_sent links_sent c z ks) q_is
        (sends home core.clock cores links c e core left end q at_c at_e number h.selves sized.square (wired.core k p side at_k)
        (subst (λ (z : Peer). z.core < 4) (sym q_is) (wired.core k p other at_k))
        (subst (λ (z : Peer). IsEnd (ends_in (slice_get cores z.core)) z.end) (sym q_is) (sized.ends k p other at_k))
        ks gone refl refl gone.sent refl)

    -- it pauses where there are too few credits, and else goes on
    pub row_pauses : nat_le (length ks) end.credits ≡ false → map_did (goes_with put_ends core t thread) (outs home core.clock ks core.ends e end) ≡ Paused
    row_pauses x = ap (λ b. map_did (goes_with put_ends core t thread) (outs_by gone b)) x

    -- with enough of them
    pub row_makes : nat_le (length ks) end.credits ≡ true → map_did (goes_with put_ends core t thread) (outs home core.clock ks core.ends e end) ≡ Made left None gone.sent
    row_makes x = ap (λ b. map_did (goes_with put_ends core t thread) (outs_by gone b)) x

    -- the channel afterwards
    abbrev pub Leaves : List Inboxes → SideState → List Parcel → Type 0
    Leaves boxes' s late = Channels pairs cores_sent links_sent boxes' (moved_to g k side s late)

    -- no parcel moves
    sends_still : (s : SideState) (late : List Parcel) → ((end_of_side p other).core ≡ c → late ≡ []) → AfterSending s (g.side_states k other) (record (go_line pairs wired cores links boxes g h k p side at_k) { link = (go_line pairs wired cores links boxes g h k p side at_k).link ++ ks; late = late }) (come_line pairs wired cores links boxes g h k p side at_k) ks ((end_of_side p other).core ≡ c) → Leaves boxes s late
    sends_still s late on_time talk = sends_next pairs wired cores links boxes g h k p side at_k cores_sent links_sent boxes (moved_to g k side s late) s _ _ late (still g k side s late boxes) on_time ks effects.0 effects.1 talk

    -- a parcel is put
    sends_put : (s : SideState) (ps late : List Parcel) → ((end_of_side p other).core ≡ c → late ≡ []) → AfterSending s (g.side_states k other) (record (go_line pairs wired cores links boxes g h k p side at_k) { link = (go_line pairs wired cores links boxes g h k p side at_k).link ++ ks; inbox = ps; late = late }) (come_line pairs wired cores links boxes g h k p side at_k) ks ((end_of_side p other).core ≡ c) → Leaves (boxed boxes k other ps) s late
    sends_put s ps late on_time talk = sends_next pairs wired cores links boxes g h k p side at_k cores_sent links_sent (boxed boxes k other ps) (moved_to g k side s late) s _ _ late (puts g k side s late boxes ps lt) on_time ks effects.0 effects.1 talk

  -- the line to the other side, the line to this one, and where the other side stands
  abbrev pub there : Direction
  there = go_line pairs wired cores links boxes g h k p side at_k

  abbrev pub here : Direction
  here = come_line pairs wired cores links boxes g h k p side at_k

  abbrev pub r : SideState
  r = g.side_states k other

  -- what stands before the row
  stands : (s : SideState) → g.side_states k side ≡ s → ChannelRel s r there here
  stands s x = at_spot pairs wired cores links boxes g h k p side at_k s x

  -- what is under way
  talk : (s : SideState) → g.side_states k side ≡ s → TransitRel s r there here
  talk s x = (stands s x).talk

  -- the law of questions
  fresh : (s : SideState) → g.side_states k side ≡ s → QuestionsArrived s r there here
  fresh s x = (stands s x).fresh

  -- nothing is on a link within the core
  own_link : (end_of_side p other).core ≡ c → there.link ≡ []
  own_link same =
      ap (λ x. tokens_for (end_of_side p other).end (link_of links x (end_of_side p other).core)) (ap (λ s. (end_of_side p s).core) (twice side) ∙ sym same)
      ∙ ap (tokens_for (end_of_side p other).end) (h.selves (end_of_side p other).core)

  -- what stands after tokens went out
  sent : (ks : List Token) (s : SideState) (go come : Direction) → TransitRel s r go come → QuestionsArrived s r go come → AfterSending s r go come ks ((end_of_side p other).core ≡ c)
  sent ks s go come t f = sent_any s r go come ks ((end_of_side p other).core ≡ c) t f

  -- what is late alone
  only_late : (s : SideState) (x : Parcel) → g.side_states k side ≡ s → g.late k other ≡ [] → g.late k other ++ x ∷ [] ≡ x ∷ []
  only_late s x _ n = ap (λ l. l ++ x ∷ []) n

  -- what is put at the other side
  abbrev pub with_parcel : Parcel → List Inboxes
  with_parcel x = boxed boxes k other (parcels boxes k other ++ x ∷ [])

  -- OUT of a plain output, to another core: nothing in the program
  pub out_far : (v : ℕ) → g.side_states k side ≡ side_state between false → (end_of_side p other).core ≢ c → Leaves (word_tokens v) boxes (side_state (sends_end v) false) (g.late k other ++ offer v ∷ [])
  out_far v at away = sends_still (word_tokens v) (side_state (sends_end v) false) _ (λ x. absurd (away x)) (sent (word_tokens v) _ _ _ (output_begins v r there here (talk _ at)) (asks_late (offers v) (sends_end v) false false r there here (word_tokens v) (offer v) refl (talk _ at) (fresh _ at)))

  -- within a core: the offer is put
  pub out_near : (v : ℕ) → g.side_states k side ≡ side_state between false → (end_of_side p other).core ≡ c → Leaves (word_tokens v) (with_parcel (offer v)) (side_state (sends_end v) false) []
  out_near v at same =
      sends_put (word_tokens v) (side_state (sends_end v) false) _ [] (λ x. refl)
      (record {
        talk = offer_put_early v r (told_late there (word_tokens v) (offer v)) here (only_late _ (offer v) at (talk _ at).outward.late) (output_begins v r there here (talk _ at));
        away = λ n. absurd (n same);
        close = λ n. put_close (offers v) (sends_end v) false false r there here (offer v) _ _ refl refl (own_link same) (talk _ at) (fresh _ at);
      })

  -- OUTCT END of a plain output: nothing in the program
  pub outct_end : (v : ℕ) (i : Bool) → g.side_states k side ≡ side_state (sends_end v) i → Leaves (END ∷ []) boxes (side_state (awaits_ack (offers v)) i) (g.late k other)
  outct_end v i at = sends_still (END ∷ []) (side_state (awaits_ack (offers v)) i) (g.late k other) prompt_there (sent (END ∷ []) _ _ _ (output_ends v i r there here (talk _ at)) (ends_fresh v i r there here (END ∷ []) (fresh _ at)))

  -- OUTCT OPEN of a master's start
  pub outct_open_far : g.side_states k side ≡ side_state between false → (end_of_side p other).core ≢ c → Leaves (OPEN ∷ []) boxes (side_state (awaits_ack opens) false) (g.late k other ++ opening ∷ [])
  outct_open_far at away = sends_still (OPEN ∷ []) (side_state (awaits_ack opens) false) _ (λ x. absurd (away x)) (sent (OPEN ∷ []) _ _ _ (master_begins r there here (talk _ at)) (asks_late opens (awaits_ack opens) false false r there here (OPEN ∷ []) opening refl (talk _ at) (fresh _ at)))

  -- within a core: the opening is put
  pub outct_open_near : g.side_states k side ≡ side_state between false → (end_of_side p other).core ≡ c → Leaves (OPEN ∷ []) (with_parcel opening) (side_state (awaits_ack opens) true) []
  outct_open_near at same =
      sends_put (OPEN ∷ []) (side_state (awaits_ack opens) true) _ [] (λ x. refl)
      (record {
        talk = opening_put r (told_late there (OPEN ∷ []) opening) here (only_late _ opening at (talk _ at).outward.late) (master_begins r there here (talk _ at));
        away = λ n. absurd (n same);
        close = λ n. put_close opens (awaits_ack opens) true false r there here opening _ _ refl refl (own_link same) (talk _ at) (fresh _ at);
      })

  -- OUTCT ACK of a plain input and of a slave's start: nothing in the program
  pub outct_ack : (i : Bool) → g.side_states k side ≡ side_state sends_ack i → Leaves (ACK ∷ []) boxes (side_state between i) (g.late k other)
  outct_ack i at = sends_still (ACK ∷ []) (side_state between i) (g.late k other) prompt_there (sent (ACK ∷ []) _ _ _ (answer_sent i r there here (talk _ at)) (answer_fresh i r there here (fresh _ at)))

  -- OUT inside a transaction: the word is put
  pub out_inside : (v : ℕ) → g.side_states k side ≡ side_state between true → Leaves (word_tokens v) (with_parcel (word v)) (side_state between true) (g.late k other)
  out_inside v at = sends_put (word_tokens v) (side_state between true) _ (g.late k other) prompt_there (sent (word_tokens v) _ _ _ (word_put v r there here (talk _ at)) (word_fresh v true r there here (talk _ at) (fresh _ at)))

  -- OUTCT END of a master's end: the closing is put
  pub outct_end_master : g.side_states k side ≡ side_state between true → Leaves (END ∷ []) (with_parcel closing) (side_state (awaits_ack closes) false) (g.late k other)
  outct_end_master at = sends_put (END ∷ []) (side_state (awaits_ack closes) false) _ (g.late k other) prompt_there (sent (END ∷ []) _ _ _ (master_ends r there here (talk _ at)) (closing_fresh true false r there here (talk _ at) (fresh _ at)))

  -- OUT on a streaming channel
  pub out_stream_far : (v : ℕ) → g.side_states k side ≡ side_state streams true → (end_of_side p other).core ≢ c → Leaves (word_tokens v) boxes (side_state streams true) (g.late k other ++ word v ∷ [])
  out_stream_far v at away = sends_still (word_tokens v) (side_state streams true) _ (λ x. absurd (away x)) (sent (word_tokens v) _ _ _ (stream_begins v r there here (talk _ at)) (stream_late r there here (word_tokens v) (word v) (fresh _ at)))

  -- within a core: the word is put
  pub out_stream_near : (v : ℕ) → g.side_states k side ≡ side_state streams true → (end_of_side p other).core ≡ c → Leaves (word_tokens v) (with_parcel (word v)) (side_state streams true) []
  out_stream_near v at same =
      sends_put (word_tokens v) (side_state streams true) _ [] (λ x. refl)
      (sent (word_tokens v) _ _ _
      (stream_put v [] r (told_late there (word_tokens v) (word v)) here (only_late _ (word v) at (prompt_there same)) (stream_begins v r there here (talk _ at)))
      (stream_told v r there here (there.link ++ word_tokens v) (talk _ at) (fresh _ at)))

  -- OUTCT ACK of a slave's end: the closing is taken and answered
  pub outct_ack_slave : (ps : List Parcel) → g.side_states k side ≡ side_state was_closed true → parcels boxes k side ≡ closing ∷ ps → Leaves (ACK ∷ []) (boxed (boxed boxes k side ps) k other (parcels boxes k other ++ taken ∷ [])) (side_state between false) (g.late k other)
  outct_ack_slave ps at found =
      sends_next pairs wired cores links boxes g h k p side at_k (cores_sent (ACK ∷ [])) (links_sent (ACK ∷ [])) _ (moved_to g k side (side_state between false) (g.late k other)) (side_state between false) _ _ (g.late k other) (reads_and_puts g k side (side_state between false) (g.late k other) boxes ps (parcels boxes k other ++ taken ∷ []) lt) prompt_there (ACK ∷ []) (effects (ACK ∷ [])).0 (effects (ACK ∷ [])).1
      (sent (ACK ∷ []) _ _ _ (closing_answered r there here ps found (talk _ at)) (answers_fresh closes was_closed between true false r there here (ACK ∷ []) here.buffer ps found refl (talk _ at) (none_there was_closed there.inbox there.late here.inbox refl (talk _ at).mine)))

  -- Tokens are taken.
  module _ (n : ℕ) (left' : CoreState) where
    -- what the row leaves
    abbrev pub gone_taken : Gone
    gone_taken = tokens_taken home core.clock core.ends e end n q

    abbrev pub cores_taken : List CoreState
    cores_taken = slice_set cores c left'

    abbrev pub links_taken : Links
    links_taken = on_links links c gone_taken.sent

    -- the channel afterwards
    abbrev pub Takes : List Inboxes → SideState → Type 0
    Takes boxes' s = Channels pairs cores_taken links_taken boxes' (moved_to g k side s (g.late k other))

    module _ (is_left : left'.ends ≡ gone_taken.ends) where
      pub effects_taken : Changed cores links cores_taken links_taken (peer c e) × (tokens_at cores_taken c e ≡ drop n (tokens_at cores c e)) × ((a x f : ℕ) → tokens_for f (link_of links_taken a x) ≡ tokens_for f (link_of links a x))
      effects_taken =
          takes home core.clock cores links c e core left' end q at_c at_e number h.selves sized.square (wired.core k p side at_k)
          (subst (λ (z : Peer). z.core < 4) (sym q_is) (wired.core k p other at_k))
          (subst (λ (z : Peer). IsEnd (ends_in (slice_get cores z.core)) z.end) (sym q_is) (sized.ends k p other at_k))
          n gone_taken refl is_left gone_taken.sent refl

      takes_to : (boxes' : List Inboxes) (s : SideState) (ps qs : List Parcel) (ts : List Token) → Update k side boxes boxes' g (moved_to g k side s (g.late k other)) s qs ps (g.late k other) → drop n here.buffer ≡ ts → ChannelRel s r (record there { inbox = qs }) (record here { buffer = ts; inbox = ps }) → Takes boxes' s
      takes_to boxes' s ps qs ts u cut t' =
          takes_next pairs wired cores links boxes g h k p side at_k cores_taken links_taken boxes' (moved_to g k side s (g.late k other)) s qs ps (g.late k other) u prompt_there ts effects_taken.0 (effects_taken.1 ∙ cut) effects_taken.2 t'

  -- the ends without n tokens
  abbrev pub taken_at : ℕ → Gone
  taken_at n = tokens_taken home core.clock core.ends e end n q

  -- the core after IN and CHKCT
  abbrev pub in_left : Reg → ℕ → CoreState
  in_left d v = gets_with put_ends core t thread d (given_ends (taken_at 4) v)

  abbrev pub check_left : CoreState
  check_left = goes_with put_ends core t thread (taken_at 1).ends

  -- what IN and CHKCT do
  abbrev pub in_did : Reg → Did CoreState
  in_did d = map_did (gets_with put_ends core t thread d) (ins_word home core.clock core.ends e end)

  abbrev pub check_did : ℕ → Did CoreState
  check_did n = map_did (goes_with put_ends core t thread) (ins_control home core.clock n core.ends e end)

  -- the own inbox without its first parcel, and an answer put at the other side
  abbrev pub answered : List Parcel → List Inboxes
  answered ps = boxed (boxed boxes k side ps) k other (parcels boxes k other ++ taken ∷ [])

  -- IN: a pause; the word of an offer or of a transaction; or a trap, and another parcel
  pub data InResult (d : Reg) (given : ℕ → Parcel) (wanted : Parcel → Bool) (Next : ℕ → List Parcel → Type 0) : Type 0 where
    in_pauses : in_did d ≡ Paused → take_word here.buffer ≡ NotYet → length here.buffer < 4 → InResult d given wanted Next
    in_makes : (v : ℕ) (ps : List Parcel) → 4 ≤ length here.buffer → in_did d ≡ Made (in_left d v) (Some (Com home.number v)) (taken_at 4).sent → parcels boxes k side ≡ given v ∷ ps → Next v ps → InResult d given wanted Next
    in_traps : (x : Parcel) (ps : List Parcel) → in_did d ≡ Traps Mismatch → parcels boxes k side ≡ x ∷ ps → wanted x ≡ false → InResult d given wanted Next

  -- by what IN finds
  in_by : (d : Reg) (w : Taken) → take_word here.buffer ≡ w → in_did d ≡ map_did (gets_with put_ends core t thread d) (word_in home (taken_at 4) w)
  in_by d w x = ap (λ b. map_did (gets_with put_ends core t thread d) (word_in home (taken_at 4) (take_word b))) (sym buffer_is) ∙ ap (λ z. map_did (gets_with put_ends core t thread d) (word_in home (taken_at 4) z)) x

  -- the tokens behind a word
  cut_word : (v : ℕ) (ts : List Token) → here.buffer ≡ word_tokens v ++ ts → drop 4 here.buffer ≡ ts
  cut_word v ts b = ap (drop 4) b

  -- of a plain input
  pub in_plain : (d : Reg) → g.side_states k side ≡ side_state between false → InResult d offer is_offer (λ v ps. Takes 4 (in_left d v) (answered ps) (side_state checks_end false))
  in_plain d at = by (offer_found r here (talk _ at).homeward)
    where
      by : Inputs offer is_offer here → InResult d offer is_offer (λ v ps. Takes 4 (in_left d v) (answered ps) (side_state checks_end false))
      by (word_waits x y) = in_pauses (in_by d NotYet x) x y
      by (word_traps k' x ps y i w) = in_traps x ps (in_by d (Control k') y) i w
      by (word_passes v ts ps b x i) =
          in_makes v ps (let n = ap length b in omega (arith, n)) (in_by d (Word v) x) i
          (takes_to 4 (in_left d v) refl (answered ps) (side_state checks_end false) ps (parcels boxes k other ++ taken ∷ []) ts
          (reads_and_puts g k side (side_state checks_end false) (g.late k other) boxes ps (parcels boxes k other ++ taken ∷ []) lt) (cut_word v ts b)
          (without_link (record { talk = offer_taken v r there here ts ps i b (talk _ at); fresh = answers_fresh (offers v) between checks_end false false r there here [] ts ps i refl (talk _ at) (none_asked r there here false (talk _ at)).0 })))
        where
          -- nothing is sent on
          without_link : ChannelRel (side_state checks_end false) r (told_now there [] taken) (record here { buffer = ts; inbox = ps }) → ChannelRel (side_state checks_end false) r (record there { inbox = parcels boxes k other ++ taken ∷ [] }) (record here { buffer = ts; inbox = ps })
          without_link t' = subst (λ (l : List Token). ChannelRel (side_state checks_end false) r (record there { link = l; inbox = parcels boxes k other ++ taken ∷ [] }) (record here { buffer = ts; inbox = ps })) (append-nil there.link) t'

  -- inside a transaction
  pub in_inside : (d : Reg) → g.side_states k side ≡ side_state between true → InResult d word is_word (λ v ps. Takes 4 (in_left d v) (boxed boxes k side ps) (side_state between true))
  in_inside d at = by (word_found r here (talk _ at).homeward)
    where
      by : Inputs word is_word here → InResult d word is_word (λ v ps. Takes 4 (in_left d v) (boxed boxes k side ps) (side_state between true))
      by (word_waits x y) = in_pauses (in_by d NotYet x) x y
      by (word_traps k' x ps y i w) = in_traps x ps (in_by d (Control k') y) i w
      by (word_passes v ts ps b x i) =
          in_makes v ps (let n = ap length b in omega (arith, n)) (in_by d (Word v) x) i
          (takes_to 4 (in_left d v) refl (boxed boxes k side ps) (side_state between true) ps (parcels boxes k other) ts
          (reads_on g k side (side_state between true) (g.late k other) boxes ps lt) (cut_word v ts b)
          (record { talk = word_taken v r there here ts ps i b (talk _ at); fresh = took_fresh v r there here ts ps i b (fresh _ at) }))

  -- on a streaming channel
  pub in_stream : (d : Reg) → g.side_states k side ≡ side_state streams true → InResult d word is_word (λ v ps. Takes 4 (in_left d v) (boxed boxes k side ps) (side_state streams true))
  in_stream d at = by (stream_found r here (talk _ at).homeward)
    where
      by : Inputs word is_word here → InResult d word is_word (λ v ps. Takes 4 (in_left d v) (boxed boxes k side ps) (side_state streams true))
      by (word_waits x y) = in_pauses (in_by d NotYet x) x y
      by (word_traps k' x ps y i w) = in_traps x ps (in_by d (Control k') y) i w
      by (word_passes v ts ps b x i) =
          in_makes v ps (let n = ap length b in omega (arith, n)) (in_by d (Word v) x) i
          (takes_to 4 (in_left d v) refl (boxed boxes k side ps) (side_state streams true) ps (parcels boxes k other) ts
          (reads_on g k side (side_state streams true) (g.late k other) boxes ps lt) (cut_word v ts b)
          (record { talk = stream_taken v r there here ts ps i b (talk _ at); fresh = stream_took v r there here ts ps i b (fresh _ at) }))

  -- CHKCT
  pub data CheckResult (n : ℕ) (given : Parcel) (wanted : Parcel → Bool) (Next : List Parcel → Type 0) : Type 0 where
    check_pauses : check_did n ≡ Paused → here.buffer ≡ [] → CheckResult n given wanted Next
    check_makes : (ps : List Parcel) → 1 ≤ length here.buffer → check_did n ≡ Made check_left None (taken_at 1).sent → parcels boxes k side ≡ given ∷ ps → Next ps → CheckResult n given wanted Next
    check_traps : (x : Parcel) (ps : List Parcel) → check_did n ≡ Traps Mismatch → parcels boxes k side ≡ x ∷ ps → wanted x ≡ false → CheckResult n given wanted Next

  -- by what CHKCT finds
  check_by : (n : ℕ) (w : Checked) → check here.buffer n ≡ w → check_did n ≡ map_did (goes_with put_ends core t thread) (check_in (taken_at 1) w)
  check_by n w x = ap (λ b. map_did (goes_with put_ends core t thread) (check_in (taken_at 1) (check b n))) (sym buffer_is) ∙ ap (λ z. map_did (goes_with put_ends core t thread) (check_in (taken_at 1) z)) x

  -- CHKCT ACK: the answer is taken
  pub chkct_ack : (z : Question) (i : Bool) → g.side_states k side ≡ side_state (awaits_ack z) i → CheckResult 3 taken is_taken (λ ps. Takes 1 check_left (boxed boxes k side ps) (side_state between i))
  chkct_ack z i at = by (ack_found z i r here (talk _ at).homeward)
    where
      by : Checks 3 taken is_taken here → CheckResult 3 taken is_taken (λ ps. Takes 1 check_left (boxed boxes k side ps) (side_state between i))
      by (waits b x) = check_pauses (check_by 3 NotThere x) b
      by (traps y x ps w found wrong) = check_traps x ps (check_by 3 (Other y) w) found wrong
      by (passes ts ps b w found) =
          check_makes ps (let n = ap length b in omega (arith, n)) (check_by 3 Passed w) found
          (takes_to 1 check_left refl (boxed boxes k side ps) (side_state between i) ps (parcels boxes k other) ts
          (reads_on g k side (side_state between i) (g.late k other) boxes ps lt) (ap (drop 1) b)
          (record { talk = answer_taken z i r there here ts ps (answered_on_time z i r there here ps found (talk _ at)) found b (talk _ at); fresh = ack_fresh z i i r there here ts ps found b (talk _ at) (fresh _ at) }))

  -- CHKCT OPEN of a slave's start: the opening is taken and answered
  pub chkct_open : g.side_states k side ≡ side_state between false → CheckResult 16 opening is_opening (λ ps. Takes 1 check_left (answered ps) (side_state sends_ack true))
  chkct_open at = by (open_found false r here (talk _ at).homeward)
    where
      by : Checks 16 opening is_opening here → CheckResult 16 opening is_opening (λ ps. Takes 1 check_left (answered ps) (side_state sends_ack true))
      by (waits b x) = check_pauses (check_by 16 NotThere x) b
      by (traps y x ps w found wrong) = check_traps x ps (check_by 16 (Other y) w) found wrong
      by (passes ts ps b w found) =
          check_makes ps (let n = ap length b in omega (arith, n)) (check_by 16 Passed w) found
          (takes_to 1 check_left refl (answered ps) (side_state sends_ack true) ps (parcels boxes k other ++ taken ∷ []) ts
          (reads_and_puts g k side (side_state sends_ack true) (g.late k other) boxes ps (parcels boxes k other ++ taken ∷ []) lt) (ap (drop 1) b)
          (subst (λ (l : List Token). ChannelRel (side_state sends_ack true) r (record there { link = l; inbox = parcels boxes k other ++ taken ∷ [] }) (record here { buffer = ts; inbox = ps })) (append-nil there.link)
          (record { talk = opening_taken r there here ts ps found b (talk _ at); fresh = answers_fresh opens between sends_ack false true r there here [] ts ps found refl (talk _ at) (none_asked r there here false (talk _ at)).0 })))

  -- CHKCT END of a slave's end: nothing in the program yet
  pub chkct_end_slave : g.side_states k side ≡ side_state between true → CheckResult 1 closing is_closing (λ ps. Takes 1 check_left boxes (side_state was_closed true))
  chkct_end_slave at = by (close_found true r here (talk _ at).homeward)
    where
      by : Checks 1 closing is_closing here → CheckResult 1 closing is_closing (λ ps. Takes 1 check_left boxes (side_state was_closed true))
      by (waits b x) = check_pauses (check_by 1 NotThere x) b
      by (traps y x ps w found wrong) = check_traps x ps (check_by 1 (Other y) w) found wrong
      by (passes ts ps b w found) =
          check_makes ps (let n = ap length b in omega (arith, n)) (check_by 1 Passed w) found
          (takes_to 1 check_left refl boxes (side_state was_closed true) (parcels boxes k side) (parcels boxes k other) ts
          (still g k side (side_state was_closed true) (g.late k other) boxes) (ap (drop 1) b)
          (record { talk = closing_seen r there here ts b (talk _ at); fresh = seen_fresh r there here ts b (fresh _ at) }))

  -- CHKCT END of a plain input: nothing in the program, and no trap
  pub data EndResult (Next : Type 0) : Type 0 where
    ends_pauses : check_did 1 ≡ Paused → here.buffer ≡ [] → EndResult Next
    ends_makes : 1 ≤ length here.buffer → check_did 1 ≡ Made check_left None (taken_at 1).sent → Next → EndResult Next

  -- it waits or passes
  pub chkct_end_plain : (i : Bool) → g.side_states k side ≡ side_state checks_end i → EndResult (Takes 1 check_left boxes (side_state sends_ack i))
  chkct_end_plain i at = by (end_found i r here (talk _ at).homeward)
    where
      by : EndChecks here → EndResult (Takes 1 check_left boxes (side_state sends_ack i))
      by (end_waits b x) = ends_pauses (check_by 1 NotThere x) b
      by (end_passes ts b w) =
          ends_makes (let n = ap length b in omega (arith, n)) (check_by 1 Passed w)
          (takes_to 1 check_left refl boxes (side_state sends_ack i) (parcels boxes k side) (parcels boxes k other) ts
          (still g k side (side_state sends_ack i) (g.late k other) boxes) (ap (drop 1) b)
          (record { talk = end_taken i r there here ts b (talk _ at); fresh = end_fresh i r there here ts b (fresh _ at) }))
