-- The rows on the end of a side of a channel, wherever the other end is: whether the row pauses, goes on or traps, what parcel stood first,
-- and what then stands between the sides, with what is on links.
use Rattle.std.proofs.Common.{◌≡◌, ◌≤◌, ◌≢◌, ℕ, ◌-◌, Bool, true, false, List, [], ◌∷◌, ◌++◌, length, drop, refl, sym, ap, ◌∙◌, subst, arith, eq-eqb, inl, inr}
use Rattle.std.specs.Prelude.{◌⊎◌, slice_get, slice_set, nat_eq, nat_le}
use Rattle.std.proofs.lemmas.Bool.{leb-true}
use Rattle.xs_instr.specs.declared.instr.Reg.{Reg}
use Rattle.xs_instr.specs.declared.state.ChanEnd.{ChanEnd}
use Rattle.xs_instr.specs.declared.state.CoreState.{CoreState}
use Rattle.xs_instr.specs.declared.state.Sent.{Sent}
use Rattle.xs_instr.specs.declared.state.Thread.{Thread}
use Rattle.xs_instr.specs.declared.state.Token.{Token}
use Rattle.xs_instr.specs.Ends.{Peer, peer_of, Gone, goes_by, tokens_to, credits_to, word_tokens, take_word}
use Rattle.xs_instr.specs.Machine.{on_links}
use Rattle.xc_meaning.specs.States.Channels.{Parcel, offer, opening, word, closing, taken, Side, Inboxes}
use Rattle.xr_channels.specs.Phases.{END, ACK, OPEN, Question, offers, opens, closes, between, sends_end, awaits_ack, checks_end, sends_ack, was_closed, streams, SideState, side_state, TransitRel}
use Rattle.xr_channels.specs.ChannelSteps.{parcels, moved_to, LateKind}
use Rattle.xr_channels.specs.Channels.{tokens_in, ends_in, tokens_at, end_of_side, direction_to, Channels}
use Rattle.xr_channels.specs.CreditsOverLinks.{BalancedOverLinks}
use Rattle.xr_channels.specs.ChannelsOverLinks.{ChannelsOverLinks}
use Rattle.xr_channels.specs.SideRows as row
use Rattle.xr_channels.specs.SideRows.{SideEnd, sends_pauses, sends_makes, is_put, is_late, inputs_pauses, inputs_makes, inputs_traps, checks_pauses, checks_makes, checks_traps, end_pauses, end_makes}
use Rattle.xr_channels.proofs.Sides.Found.{is_taken, is_opening, is_closing, is_offer, is_word}
use Rattle.xr_channels.proofs.Sides.Takes.{answered_on_time}
use Rattle.xr_channels.proofs.Sides.Updates.{at_spot}
use Rattle.xr_channels.proofs.Tokens.Views.{same_num}
use Rattle.xr_channels.proofs.Tokens.Credits.{end_there, row_length}
use Rattle.xr_channels.proofs.Laws.BalancesOverLinks.{sent_keeps, taken_keeps}
use Rattle.xr_channels.proofs.All.Arrivals as arrivals
use Rattle.xr_channels.proofs.All.Rows as rows
use Rattle.xr_channels.proofs.All.Rows.{in_pauses, in_makes, in_traps, check_pauses, check_makes, check_traps, ends_pauses, ends_makes}

module _ (side_end : SideEnd) (t : ℕ) (thread : Thread) where
  open side_end use {pairs, wired, cores, links, boxes, ghosts as g, over as now, line as k, pair as p, side, home, core, end, is_end as at}

  -- the core and the end, the other side and the peer
  abbrev c : ℕ
  c = row.c side_end

  abbrev e : ℕ
  e = row.e side_end

  abbrev other : Side
  other = row.other side_end

  abbrev q : Peer
  q = row.q side_end

  -- the peer is the other side's end
  q_is : q ≡ end_of_side p other
  q_is = ap (λ l. peer_of l home.number e) at.same_pairs ∙ ap (λ n. peer_of pairs n e) at.number ∙ wired.peers k p side at.channel

  -- what the machine keeps of links and ends
  sized : rows.IsSized pairs cores links
  sized = record { square = record { rows = now.balanced.rows }; ends = λ j p' s at_j. end_there _ _ (now.balanced.ends j p' s at_j) }

  -- the tokens at the end
  tokens_are : tokens_at cores c e ≡ end.tokens
  tokens_are = ap (λ o. tokens_in (slice_get (ends_in o) e)) at.at_core ∙ ap tokens_in at.at_end

  -- what stands between the sides of the channel
  talk : (s : SideState) → g.side_states k side ≡ s → TransitRel s (g.side_states k other) (direction_to cores links boxes g p k other) (direction_to cores links boxes g p k side)
  talk s at_side = (at_spot pairs wired cores links boxes g now.wires k p side at.channel s at_side).talk

  -- what a row leaves, and the inboxes
  abbrev Next : CoreState → List Sent → List Inboxes → SideState → List Parcel → Type 0
  Next = row.Next side_end

  abbrev with_parcel : Parcel → List Inboxes
  with_parcel = row.with_parcel side_end

  abbrev without_first : List Parcel → List Inboxes
  without_first = row.without_first side_end

  abbrev answered : List Parcel → List Inboxes
  answered = row.answered side_end

  -- within a core nothing leaves it
  stays_near : (ends : List ChanEnd) (near : Bool) → nat_eq q.core home.number ≡ near → (end_of_side p other).core ≡ c → (sent_by : Bool → List Sent) → sent_by true ≡ [] → sent_by near ≡ []
  stays_near ends true is same sent_by none = none
  stays_near ends false is same sent_by none =
      let yes : nat_eq q.core home.number ≡ true = eq-eqb q.core home.number (ap (λ (z : Peer). z.core) q_is ∙ same ∙ sym at.number) in
      let no : false ≡ true = sym is ∙ yes in
      cc

  -- OUT and OUTCT: tokens go out.
  module _ (ks : List Token) where
    -- what the row leaves, and what then stands
    abbrev sent_gone : Gone
    sent_gone = row.sent_gone side_end t thread ks

    abbrev sent_left : CoreState
    sent_left = row.sent_left side_end t thread ks

    abbrev SendRow : Type 0 → Type 0
    SendRow = row.SendRow side_end t thread ks

    abbrev SentNext : List Inboxes → SideState → List Parcel → Type 0
    SentNext = row.SentNext side_end t thread ks

    abbrev Begins : Parcel → SideState → SideState → List Parcel → Type 0
    Begins = row.Begins side_end t thread ks

    -- within a core nothing is sent over a link
    pub sent_near : (end_of_side p other).core ≡ c → sent_gone.sent ≡ []
    sent_near same = stays_near core.ends (nat_eq q.core home.number) refl same (λ b. (goes_by (slice_set core.ends e (record end { credits = end.credits - length ks })) q.core core.clock (tokens_to q.end ks) b).sent) refl

    -- as many ends as before
    sent_size : length sent_left.ends ≡ length core.ends
    sent_size = by (nat_eq q.core home.number)
      where
        by : (b : Bool) → length (goes_by (slice_set core.ends e (record end { credits = end.credits - length ks })) q.core core.clock (tokens_to q.end ks) b).ends ≡ length core.ends
        by true = row_length core.ends e (record end { credits = end.credits - length ks }) (tokens_to q.end ks)
        by false = row_length core.ends e (record end { credits = end.credits - length ks }) []

    -- by whether there are credits
    sends_by : (Then : Type 0) → (BalancedOverLinks pairs (slice_set cores c sent_left) (on_links links c sent_gone.sent) → Then) → SendRow Then
    sends_by Then goes = by (nat_le (length ks) end.credits) refl
      where
        by : (enough : Bool) → nat_le (length ks) end.credits ≡ enough → SendRow Then
        by false x = sends_pauses (rows.row_pauses pairs wired cores links boxes g now.wires sized k p side at.channel home core end t thread at.number at.same_pairs at.at_core at.at_end ks x) x
        by true x =
            sends_makes
            (rows.row_makes pairs wired cores links boxes g now.wires sized k p side at.channel home core end t thread at.number at.same_pairs at.at_core at.at_end ks x)
            (goes (sent_keeps pairs cores links now.balanced wired k p side at.channel home core sent_left end at.number at.same_pairs at.at_core at.at_end ks (leb-true (length ks) end.credits x) refl))

    -- a row after which one thing stands
    sends_so : (boxes' : List Inboxes) (s : SideState) (late : List Parcel) → Channels pairs (slice_set cores c sent_left) (on_links links c sent_gone.sent) boxes' (moved_to g k side s late) → SendRow (SentNext boxes' s late)
    sends_so boxes' s late wires = sends_by (SentNext boxes' s late) (λ balanced. record { size = sent_size; over = record { wires = wires; balanced = balanced } })

    -- a row that begins a parcel
    begins_so : (x : Parcel) (put not_yet : SideState) (late : List Parcel)
        → ((end_of_side p other).core ≡ c → Channels pairs (slice_set cores c sent_left) (on_links links c sent_gone.sent) (with_parcel x) (moved_to g k side put []))
        → ((end_of_side p other).core ≢ c → Channels pairs (slice_set cores c sent_left) (on_links links c sent_gone.sent) boxes (moved_to g k side not_yet late))
        → SendRow (Begins x put not_yet late)
    begins_so x put not_yet late close far = sends_by (Begins x put not_yet late) (by (same_num (end_of_side p other).core c))
      where
        by : ((end_of_side p other).core ≡ c) ⊎ ((end_of_side p other).core ≢ c) → BalancedOverLinks pairs (slice_set cores c sent_left) (on_links links c sent_gone.sent) → Begins x put not_yet late
        by (inl same) balanced = is_put same (record { size = sent_size; over = record { wires = close same; balanced = balanced } })
        by (inr ne) balanced = is_late ne (record { size = sent_size; over = record { wires = far ne; balanced = balanced } })

  -- a side in no piece has nothing late
  none_late_between : (i : Bool) → g.side_states k side ≡ side_state between i → g.late k other ≡ []
  none_late_between i at_side = (talk (side_state between i) at_side).outward.late

  -- what is late behind it is late alone
  late_alone : (x : Parcel) → g.side_states k side ≡ side_state between false → g.late k other ++ x ∷ [] ≡ x ∷ []
  late_alone x at_side = ap (λ l. l ++ x ∷ []) (none_late_between false at_side)

  -- OUT of a plain output
  pub out_plain : (v : ℕ) → g.side_states k side ≡ side_state between false → SendRow (word_tokens v) (Begins (word_tokens v) (offer v) (side_state (sends_end v) false) (side_state (sends_end v) false) (offer v ∷ []))
  out_plain v at_side =
      begins_so (word_tokens v) (offer v) (side_state (sends_end v) false) (side_state (sends_end v) false) (offer v ∷ [])
      (rows.out_near pairs wired cores links boxes g now.wires sized k p side at.channel home core end t thread at.number at.same_pairs at.at_core at.at_end v at_side)
      (λ ne. subst (λ l. Channels pairs (slice_set cores c (sent_left (word_tokens v))) (on_links links c (sent_gone (word_tokens v)).sent) boxes (moved_to g k side (side_state (sends_end v) false) l)) (late_alone (offer v) at_side) (rows.out_far pairs wired cores links boxes g now.wires sized k p side at.channel home core end t thread at.number at.same_pairs at.at_core at.at_end v at_side ne))

  -- OUTCT END of a plain output: nothing in the program
  pub outct_end : (v : ℕ) (i : Bool) → g.side_states k side ≡ side_state (sends_end v) i → SendRow (END ∷ []) (SentNext (END ∷ []) boxes (side_state (awaits_ack (offers v)) i) (g.late k other))
  outct_end v i at_side = sends_so (END ∷ []) boxes (side_state (awaits_ack (offers v)) i) (g.late k other) (rows.outct_end pairs wired cores links boxes g now.wires sized k p side at.channel home core end t thread at.number at.same_pairs at.at_core at.at_end v i at_side)

  -- OUTCT ACK of a plain input and of a slave's start: nothing in the program
  pub outct_ack : (i : Bool) → g.side_states k side ≡ side_state sends_ack i → SendRow (ACK ∷ []) (SentNext (ACK ∷ []) boxes (side_state between i) [])
  outct_ack i at_side =
      sends_so (ACK ∷ []) boxes (side_state between i) []
      (subst (λ l. Channels pairs (slice_set cores c (sent_left (ACK ∷ []))) (on_links links c (sent_gone (ACK ∷ [])).sent) boxes (moved_to g k side (side_state between i) l)) (talk (side_state sends_ack i) at_side).outward.late
      (rows.outct_ack pairs wired cores links boxes g now.wires sized k p side at.channel home core end t thread at.number at.same_pairs at.at_core at.at_end i at_side))

  -- OUTCT OPEN of a master's start
  pub outct_open : g.side_states k side ≡ side_state between false → SendRow (OPEN ∷ []) (Begins (OPEN ∷ []) opening (side_state (awaits_ack opens) true) (side_state (awaits_ack opens) false) (opening ∷ []))
  outct_open at_side =
      begins_so (OPEN ∷ []) opening (side_state (awaits_ack opens) true) (side_state (awaits_ack opens) false) (opening ∷ [])
      (rows.outct_open_near pairs wired cores links boxes g now.wires sized k p side at.channel home core end t thread at.number at.same_pairs at.at_core at.at_end at_side)
      (λ ne. subst (λ l. Channels pairs (slice_set cores c (sent_left (OPEN ∷ []))) (on_links links c (sent_gone (OPEN ∷ [])).sent) boxes (moved_to g k side (side_state (awaits_ack opens) false) l)) (late_alone opening at_side) (rows.outct_open_far pairs wired cores links boxes g now.wires sized k p side at.channel home core end t thread at.number at.same_pairs at.at_core at.at_end at_side ne))

  -- OUT inside a transaction: the word is put
  pub out_inside : (v : ℕ) → g.side_states k side ≡ side_state between true → SendRow (word_tokens v) (SentNext (word_tokens v) (with_parcel (word v)) (side_state between true) [])
  out_inside v at_side =
      sends_so (word_tokens v) (with_parcel (word v)) (side_state between true) []
      (subst (λ l. Channels pairs (slice_set cores c (sent_left (word_tokens v))) (on_links links c (sent_gone (word_tokens v)).sent) (with_parcel (word v)) (moved_to g k side (side_state between true) l)) (none_late_between true at_side)
      (rows.out_inside pairs wired cores links boxes g now.wires sized k p side at.channel home core end t thread at.number at.same_pairs at.at_core at.at_end v at_side))

  -- OUTCT END of a master's end: the closing is put
  pub outct_end_master : g.side_states k side ≡ side_state between true → SendRow (END ∷ []) (SentNext (END ∷ []) (with_parcel closing) (side_state (awaits_ack closes) false) [])
  outct_end_master at_side =
      sends_so (END ∷ []) (with_parcel closing) (side_state (awaits_ack closes) false) []
      (subst (λ l. Channels pairs (slice_set cores c (sent_left (END ∷ []))) (on_links links c (sent_gone (END ∷ [])).sent) (with_parcel closing) (moved_to g k side (side_state (awaits_ack closes) false) l)) (none_late_between true at_side)
      (rows.outct_end_master pairs wired cores links boxes g now.wires sized k p side at.channel home core end t thread at.number at.same_pairs at.at_core at.at_end at_side))

  -- OUTCT ACK of a slave's end: the closing is taken and answered
  pub outct_ack_slave : (ps : List Parcel) → g.side_states k side ≡ side_state was_closed true → parcels boxes k side ≡ closing ∷ ps → SendRow (ACK ∷ []) (SentNext (ACK ∷ []) (answered ps) (side_state between false) [])
  outct_ack_slave ps at_side found =
      sends_so (ACK ∷ []) (answered ps) (side_state between false) []
      (subst (λ l. Channels pairs (slice_set cores c (sent_left (ACK ∷ []))) (on_links links c (sent_gone (ACK ∷ [])).sent) (answered ps) (moved_to g k side (side_state between false) l)) (talk (side_state was_closed true) at_side).outward.late.1
      (rows.outct_ack_slave pairs wired cores links boxes g now.wires sized k p side at.channel home core end t thread at.number at.same_pairs at.at_core at.at_end ps at_side found))

  -- OUT on a streaming channel
  pub out_stream : (v : ℕ) → g.side_states k side ≡ side_state streams true → SendRow (word_tokens v) (Begins (word_tokens v) (word v) (side_state streams true) (side_state streams true) (g.late k other ++ word v ∷ []))
  out_stream v at_side =
      begins_so (word_tokens v) (word v) (side_state streams true) (side_state streams true) (g.late k other ++ word v ∷ [])
      (rows.out_stream_near pairs wired cores links boxes g now.wires sized k p side at.channel home core end t thread at.number at.same_pairs at.at_core at.at_end v at_side)
      (rows.out_stream_far pairs wired cores links boxes g now.wires sized k p side at.channel home core end t thread at.number at.same_pairs at.at_core at.at_end v at_side)

  -- IN and CHKCT: tokens are taken.
  module _ (n : ℕ) where
    -- the ends without the tokens, and the credits that go back
    abbrev taken_gone : Gone
    taken_gone = row.taken_gone side_end t thread n

    -- within a core nothing is sent over a link
    pub taken_near : (end_of_side p other).core ≡ c → taken_gone.sent ≡ []
    taken_near same = stays_near core.ends (nat_eq q.core home.number) refl same (λ b. (goes_by (slice_set core.ends e (record end { tokens = drop n end.tokens })) q.core core.clock (credits_to q.end n) b).sent) refl

    -- as many ends as before
    taken_size : length taken_gone.ends ≡ length core.ends
    taken_size = by (nat_eq q.core home.number)
      where
        by : (b : Bool) → length (goes_by (slice_set core.ends e (record end { tokens = drop n end.tokens })) q.core core.clock (credits_to q.end n) b).ends ≡ length core.ends
        by true = row_length core.ends e (record end { tokens = drop n end.tokens }) (credits_to q.end n)
        by false = row_length core.ends e (record end { tokens = drop n end.tokens }) []

    -- what the row leaves
    takes_next : (left : CoreState) (boxes' : List Inboxes) (s : SideState) (late : List Parcel) → left.ends ≡ taken_gone.ends → n ≤ length (tokens_at cores c e) → g.late k other ≡ late → Channels pairs (slice_set cores c left) (on_links links c taken_gone.sent) boxes' (moved_to g k side s (g.late k other)) → Next left taken_gone.sent boxes' s late
    takes_next left boxes' s late same enough late_is wires = record {
      size = ap length same ∙ taken_size;
      over = record {
        wires = subst (λ l. Channels pairs (slice_set cores c left) (on_links links c taken_gone.sent) boxes' (moved_to g k side s l)) late_is wires;
        balanced = taken_keeps pairs cores links now.balanced wired k p side at.channel home core left end at.number at.same_pairs at.at_core at.at_end n (let size = ap length tokens_are in omega (arith, enough, size)) same;
      };
    }

  -- what IN leaves, and what then stands
  abbrev in_left : Reg → ℕ → CoreState
  in_left = row.in_left side_end t thread

  abbrev InputRow : Reg → (ℕ → Parcel) → (Parcel → Bool) → (List Parcel → List Inboxes) → SideState → List Parcel → Type 0
  InputRow = row.InputRow side_end t thread

  -- by what the row finds
  inputs_by : (d : Reg) (given : ℕ → Parcel) (wanted : Parcel → Bool) (boxes' : List Parcel → List Inboxes) (s : SideState) (late : List Parcel) → g.late k other ≡ late → rows.InResult pairs wired cores links boxes g now.wires sized k p side at.channel home core end t thread at.number at.same_pairs at.at_core at.at_end d given wanted (λ v ps. rows.Takes pairs wired cores links boxes g now.wires sized k p side at.channel home core end t thread at.number at.same_pairs at.at_core at.at_end 4 (in_left d v) (boxes' ps) s) → InputRow d given wanted boxes' s late
  inputs_by d given wanted boxes' s late late_is (in_pauses did w few) = inputs_pauses did (ap take_word (sym tokens_are) ∙ w) (let size = ap length tokens_are in omega (arith, few, size))
  inputs_by d given wanted boxes' s late late_is (in_makes v ps enough did found next) = inputs_makes v ps did found (takes_next 4 (in_left d v) (boxes' ps) s late refl enough late_is next)
  inputs_by d given wanted boxes' s late late_is (in_traps x ps did found wrong) = inputs_traps x ps did found wrong

  -- IN of a plain input: an offer is taken and answered
  pub in_plain : (d : Reg) → g.side_states k side ≡ side_state between false → InputRow d offer is_offer answered (side_state checks_end false) []
  in_plain d at_side = inputs_by d offer is_offer answered (side_state checks_end false) [] (none_late_between false at_side) (rows.in_plain pairs wired cores links boxes g now.wires sized k p side at.channel home core end t thread at.number at.same_pairs at.at_core at.at_end d at_side)

  -- IN inside a transaction: a word is taken
  pub in_inside : (d : Reg) → g.side_states k side ≡ side_state between true → InputRow d word is_word without_first (side_state between true) []
  in_inside d at_side = inputs_by d word is_word without_first (side_state between true) [] (none_late_between true at_side) (rows.in_inside pairs wired cores links boxes g now.wires sized k p side at.channel home core end t thread at.number at.same_pairs at.at_core at.at_end d at_side)

  -- IN on a streaming channel: a word is taken
  pub in_stream : (d : Reg) → g.side_states k side ≡ side_state streams true → InputRow d word is_word without_first (side_state streams true) (g.late k other)
  in_stream d at_side = inputs_by d word is_word without_first (side_state streams true) (g.late k other) refl (rows.in_stream pairs wired cores links boxes g now.wires sized k p side at.channel home core end t thread at.number at.same_pairs at.at_core at.at_end d at_side)

  -- what CHKCT leaves, and what then stands
  abbrev check_left : CoreState
  check_left = row.check_left side_end t thread

  abbrev CheckRow : ℕ → Parcel → (Parcel → Bool) → (List Parcel → List Inboxes) → SideState → Type 0
  CheckRow = row.CheckRow side_end t thread

  -- by what the row finds: once it passes, nothing is late
  checks_by : (n : ℕ) (given : Parcel) (wanted : Parcel → Bool) (boxes' : List Parcel → List Inboxes) (s : SideState) → ((ps : List Parcel) → parcels boxes k side ≡ given ∷ ps → g.late k other ≡ []) → rows.CheckResult pairs wired cores links boxes g now.wires sized k p side at.channel home core end t thread at.number at.same_pairs at.at_core at.at_end n given wanted (λ ps. rows.Takes pairs wired cores links boxes g now.wires sized k p side at.channel home core end t thread at.number at.same_pairs at.at_core at.at_end 1 check_left (boxes' ps) s) → CheckRow n given wanted boxes' s
  checks_by n given wanted boxes' s on_time (check_pauses did none) = checks_pauses did (sym tokens_are ∙ none)
  checks_by n given wanted boxes' s on_time (check_makes ps enough did found next) = checks_makes ps did found (takes_next 1 check_left (boxes' ps) s [] refl enough (on_time ps found) next)
  checks_by n given wanted boxes' s on_time (check_traps x ps did found wrong) = checks_traps x ps did found wrong

  -- CHKCT ACK: the answer is taken, and what was asked was put before
  pub chkct_ack : (z : Question) (i : Bool) → g.side_states k side ≡ side_state (awaits_ack z) i → CheckRow 3 taken is_taken without_first (side_state between i)
  chkct_ack z i at_side = checks_by 3 taken is_taken without_first (side_state between i) (λ ps found. answered_on_time z i (g.side_states k other) _ _ ps found (talk (side_state (awaits_ack z) i) at_side)) (rows.chkct_ack pairs wired cores links boxes g now.wires sized k p side at.channel home core end t thread at.number at.same_pairs at.at_core at.at_end z i at_side)

  -- CHKCT OPEN of a slave's start: the opening is taken and answered
  pub chkct_open : g.side_states k side ≡ side_state between false → CheckRow 16 opening is_opening answered (side_state sends_ack true)
  chkct_open at_side = checks_by 16 opening is_opening answered (side_state sends_ack true) (λ ps found. none_late_between false at_side) (rows.chkct_open pairs wired cores links boxes g now.wires sized k p side at.channel home core end t thread at.number at.same_pairs at.at_core at.at_end at_side)

  -- CHKCT END of a slave's end: nothing in the program yet
  pub chkct_end_slave : g.side_states k side ≡ side_state between true → CheckRow 1 closing is_closing (λ ps. boxes) (side_state was_closed true)
  chkct_end_slave at_side = checks_by 1 closing is_closing (λ ps. boxes) (side_state was_closed true) (λ ps found. none_late_between true at_side) (rows.chkct_end_slave pairs wired cores links boxes g now.wires sized k p side at.channel home core end t thread at.number at.same_pairs at.at_core at.at_end at_side)

  -- CHKCT END of a plain input: nothing in the program, and no trap
  abbrev EndCheckRow : SideState → Type 0
  EndCheckRow = row.EndCheckRow side_end t thread

  -- it waits or passes
  pub chkct_end : (i : Bool) → g.side_states k side ≡ side_state checks_end i → EndCheckRow (side_state sends_ack i)
  chkct_end i at_side = by (rows.chkct_end_plain pairs wired cores links boxes g now.wires sized k p side at.channel home core end t thread at.number at.same_pairs at.at_core at.at_end i at_side)
    where
      by : rows.EndResult pairs wired cores links boxes g now.wires sized k p side at.channel home core end t thread at.number at.same_pairs at.at_core at.at_end (rows.Takes pairs wired cores links boxes g now.wires sized k p side at.channel home core end t thread at.number at.same_pairs at.at_core at.at_end 1 check_left boxes (side_state sends_ack i)) → EndCheckRow (side_state sends_ack i)
      by (ends_pauses did none) = end_pauses did (sym tokens_are ∙ none)
      by (ends_makes enough did next) = end_makes did (takes_next 1 check_left boxes (side_state sends_ack i) [] refl enough (talk (side_state checks_end i) at_side).outward.late.1 next)

-- The side traps on its CHKCT ACK, since another parcel than the answer stands first: what it has still to put is put now, and the machine
-- stands as it did.
pub trap_puts : (at : SideEnd) (z : Question) (i : Bool) (x : Parcel) (rest : List Parcel) (y : Parcel) (ps : List Parcel) → row.StandsAt at (side_state (awaits_ack z) i) → row.late_now at ≡ x ∷ rest → row.Finds at (y ∷ ps) → is_taken y ≡ false → (then_inside : Bool) × LateKind (awaits_ack z) i x rest then_inside × ChannelsOverLinks at.pairs at.cores at.links (row.with_parcel at x) (moved_to at.ghosts at.line at.side (side_state (awaits_ack z) then_inside) rest)
trap_puts at z i x rest y ps at_side late found wrong =
    let put = arrivals.trap_puts at.pairs at.wired at.cores at.links at.boxes at.ghosts at.over.wires (record { rows = at.over.balanced.rows }) at.line at.pair at.side at.is_end.channel z i x rest y ps at_side late found wrong in
    (put.0, put.1, record { wires = put.2; balanced = at.over.balanced })
