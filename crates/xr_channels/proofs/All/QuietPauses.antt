-- Where a row on the end of a side pauses, while nothing is on a link: its inbox is empty, or the other side's own row goes on.
use Rattle.std.proofs.Common.{◌≡◌, ◌<◌, ◌≤◌, ℕ, ◌+◌, Bool, true, false, List, [], ◌∷◌, length, Some, refl, ap, ◌∙◌, subst, arith, inl, inr}
use Rattle.std.specs.Prelude.{◌⊎◌, slice_get, nat_le}
use Rattle.std.proofs.lemmas.Bool.{leb-true, leb-false}
use Rattle.xs_instr.specs.declared.image.Pair.{Pair}
use Rattle.xs_instr.specs.declared.state.ChanEnd.{ChanEnd}
use Rattle.xs_instr.specs.declared.state.CoreState.{CoreState}
use Rattle.xs_instr.specs.Ends.{Peer, take_word, NotYet}
use Rattle.xs_instr.specs.Machine.{link_of, no_links}
use Rattle.xc_meaning.specs.States.Channels.{Parcel, closing, Side, other_side, Inboxes, words_among}
use Rattle.xr_channels.specs.Phases.{Question, Phase, between, sends_end, awaits_ack, checks_end, sends_ack, was_closed, streams, SideState, side_state, Direction, TransitRel}
use Rattle.xr_channels.specs.Channels.{ends_in, tokens_in, tokens_for, end_of_side, Ghosts, direction_to, IsWired}
use Rattle.xr_channels.specs.Balance.{credits_in, credits_at, IsEight, Local}
use Rattle.xr_channels.proofs.All.Begins.{boot_links}
use Rattle.xr_channels.proofs.All.Frames.{parcels, twice}
use Rattle.xr_channels.proofs.Sides.Updates.{at_spot}
use Rattle.xr_channels.proofs.Laws.FreshRows.{none_asked}
use Rattle.xr_channels.proofs.All.Pauses.{Enabled, may_end, may_check, may_check_end, may_answer, may_close, out_justified, ack_justified, end_check_justified, slave_end_justified, output_end_justified, answer_justified, input_justified}
use Rattle.xr_channels.proofs.Tokens.Lengths.{has_room, out_pause_full, outct_pause_full}
use Rattle.xr_channels.proofs.All.OverLinks.{quiet_local, none_late}
use Rattle.xr_channels.specs.SideRows.{SideEnd}

-- The end of a side of a channel, wherever the other end is, and what stands between the sides of all channels while nothing is on a link.
pub record QuietEnd : Type 0 where
  pub pairs : List Pair
  pub wired : IsWired pairs
  pub cores : List CoreState
  pub boxes : List Inboxes
  pub ghosts : Ghosts
  pub local : Local pairs cores boxes ghosts
  pub line : ℕ
  pub pair : Pair
  pub side : Side
  pub core : CoreState
  pub end : ChanEnd
  pub channel : slice_get pairs line ≡ Some pair
  pub at_core : slice_get cores (end_of_side pair side).core ≡ Some core
  pub at_end : slice_get core.ends (end_of_side pair side).end ≡ Some end

-- the end of a side, where each link is empty
pub quiet_end : (side_end : SideEnd) → ((a b : ℕ) → link_of side_end.links a b ≡ []) → QuietEnd
quiet_end at empty = record {
  pairs = at.pairs;
  wired = at.wired;
  cores = at.cores;
  boxes = at.boxes;
  ghosts = at.ghosts;
  local = quiet_local at.pairs at.wired at.cores at.links at.boxes at.ghosts at.over empty;
  line = at.line;
  pair = at.pair;
  side = at.side;
  core = at.core;
  end = at.end;
  channel = at.is_end.channel;
  at_core = at.is_end.at_core;
  at_end = at.is_end.at_end;
}

-- A side is in a piece, and its row doesn't pause.
abbrev pub Goes : List CoreState → List Inboxes → Ghosts → (channel : ℕ) → Pair → Side → Type 0
Goes cores boxes g k p side = Enabled (g.side_states k side).phase (direction_to cores no_links boxes g p k side) (credits_at cores (end_of_side p side).core (end_of_side p side).end)

module _ (quiet : QuietEnd) where
  open quiet use {pairs, wired, cores, boxes, ghosts as g, local as now, line as k, pair as p, side, core, end, channel, at_core, at_end}

  -- the other side, the lines to it and from it, and its credits
  abbrev pub other : Side
  other = other_side side

  abbrev pub there : Direction
  there = direction_to cores no_links boxes g p k other

  abbrev pub here : Direction
  here = direction_to cores no_links boxes g p k side

  abbrev pub r : SideState
  r = g.side_states k other

  abbrev pub credits_there : ℕ
  credits_there = credits_at cores (end_of_side p other).core (end_of_side p other).end

  -- what stands between the sides
  pub talk : (s : SideState) → g.side_states k side ≡ s → TransitRel s r there here
  talk s x = (at_spot pairs wired cores no_links boxes g now.wires k p side channel s x).talk

  -- nothing is on a link
  pub nothing_out : there.link ≡ []
  nothing_out = ap (tokens_for (end_of_side p other).end) (boot_links (end_of_side p (other_side other)).core (end_of_side p other).core)

  pub nothing_in : here.link ≡ []
  nothing_in = ap (tokens_for (end_of_side p side).end) (boot_links (end_of_side p other).core (end_of_side p side).core)

  -- and nothing is late
  pub on_time : (s : SideState) → g.side_states k side ≡ s → there.late ≡ []
  on_time s x = none_late s r there (talk s x).outward nothing_out

  -- the tokens at the end
  tokens_are : here.buffer ≡ end.tokens
  tokens_are = ap (λ o. tokens_in (slice_get (ends_in o) (end_of_side p side).end)) at_core ∙ ap tokens_in at_end

  -- its credits
  credits_are : credits_at cores (end_of_side p side).core (end_of_side p side).end ≡ end.credits
  credits_are = ap (λ o. credits_in (slice_get (ends_in o) (end_of_side p side).end)) at_core ∙ ap credits_in at_end

  -- the law of credits, of this side
  pub mine : end.credits + length there.buffer ≡ 8
  mine = let sum = now.balanced.eight k p side channel in let size = credits_are in omega (arith, sum, size)

  -- and of the other
  theirs : credits_there + length end.tokens ≡ 8
  theirs =
      let sum : IsEight cores (end_of_side p other) (end_of_side p side) = subst (λ (z : Peer). IsEight cores (end_of_side p other) z) (ap (end_of_side p) (twice side)) (now.balanced.eight k p other channel) in
      let size = ap length tokens_are in omega (arith, sum, size)

  -- the other side has its credits where no token is here
  some_there : end.tokens ≡ [] → 1 ≤ credits_there
  some_there none = let sum = theirs in let size = ap length none in omega (arith, sum, size)

  -- nothing is at the end
  pub none_here : end.tokens ≡ [] → here.buffer ≡ []
  none_here none = tokens_are ∙ none

  -- Outside a transaction the other side goes; inside, it does, or two words are unread.
  outside : Enabled r.phase there credits_there ⊎ ((false ≡ true) × (2 ≤ words_among there.inbox)) → Goes cores boxes g k p other
  outside (inl go) = go
  outside (inr two) = let z = two.0 in cc

  inside : Enabled r.phase there credits_there ⊎ ((true ≡ true) × (2 ≤ words_among there.inbox)) → Goes cores boxes g k p other ⊎ (2 ≤ words_among (parcels boxes k other))
  inside (inl go) = inl go
  inside (inr two) = inr two.1

  -- OUT of a plain output
  pub out_plain_paused : g.side_states k side ≡ side_state between false → nat_le 4 end.credits ≡ false → Goes cores boxes g k p other
  out_plain_paused x few = outside (out_justified (side_state between false) r there here credits_there (talk _ x) refl (talk _ x).outward.late nothing_out (none_asked r there here false (talk _ x)).0 (out_pause_full end.credits (length there.buffer) few mine))

  -- OUTCT END of a plain output
  pub outct_end_paused : (v : ℕ) (i : Bool) → g.side_states k side ≡ side_state (sends_end v) i → nat_le 1 end.credits ≡ false → Goes cores boxes g k p other
  outct_end_paused v i x few = let full = outct_pause_full end.credits (length there.buffer) few mine in output_end_justified v i r there here credits_there (talk _ x) nothing_out (omega (arith, full))

  -- OUTCT ACK of a plain input and of a slave's start
  pub outct_ack_paused : (i : Bool) → g.side_states k side ≡ side_state sends_ack i → nat_le 1 end.credits ≡ false → Goes cores boxes g k p other
  outct_ack_paused i x few = answer_justified i r there here credits_there (talk _ x) nothing_out (outct_pause_full end.credits (length there.buffer) few mine)

  -- OUTCT OPEN of a master's start
  pub outct_open_paused : g.side_states k side ≡ side_state between false → nat_le 1 end.credits ≡ false → Goes cores boxes g k p other
  outct_open_paused x few = let full = outct_pause_full end.credits (length there.buffer) few mine in outside (out_justified (side_state between false) r there here credits_there (talk _ x) refl (talk _ x).outward.late nothing_out (none_asked r there here false (talk _ x)).0 (omega (arith, full)))

  -- OUT inside a transaction, or two words are unread
  pub out_inside_paused : g.side_states k side ≡ side_state between true → nat_le 4 end.credits ≡ false → Goes cores boxes g k p other ⊎ (2 ≤ words_among (parcels boxes k other))
  out_inside_paused x few = inside (out_justified (side_state between true) r there here credits_there (talk _ x) refl (talk _ x).outward.late nothing_out (none_asked r there here true (talk _ x)).0 (out_pause_full end.credits (length there.buffer) few mine))

  -- OUTCT END of a master's end, or two words are unread
  pub outct_end_master_paused : g.side_states k side ≡ side_state between true → nat_le 1 end.credits ≡ false → Goes cores boxes g k p other ⊎ (2 ≤ words_among (parcels boxes k other))
  outct_end_master_paused x few = let full = outct_pause_full end.credits (length there.buffer) few mine in inside (out_justified (side_state between true) r there here credits_there (talk _ x) refl (talk _ x).outward.late nothing_out (none_asked r there here true (talk _ x)).0 (omega (arith, full)))

  -- while an OUT or OUTCT END inside has credits, fewer than two words are unread
  pub inside_has_room : g.side_states k side ≡ side_state between true → nat_le 1 end.credits ≡ true → words_among (parcels boxes k other) < 2
  inside_has_room x some = has_room r there here (talk _ x) (let b = leb-true 1 end.credits some in let sum = mine in let none = ap length nothing_out in omega (arith, b, sum, none))

  -- OUTCT ACK of a slave's end
  pub outct_ack_slave_paused : (ps : List Parcel) → g.side_states k side ≡ side_state was_closed true → parcels boxes k side ≡ closing ∷ ps → nat_le 1 end.credits ≡ false → Goes cores boxes g k p other
  outct_ack_slave_paused ps x found few = let full = outct_pause_full end.credits (length there.buffer) few mine in slave_end_justified r there here ps credits_there (talk _ x) found (omega (arith, full))

  -- CHKCT ACK
  pub chkct_ack_paused : (z : Question) (i : Bool) → g.side_states k side ≡ side_state (awaits_ack z) i → end.tokens ≡ [] → (parcels boxes k side ≡ []) ⊎ Goes cores boxes g k p other
  chkct_ack_paused z i x none = ack_justified z i r there here credits_there (talk _ x) nothing_out nothing_in (none_here none) (some_there none)

  -- CHKCT END of a plain input
  pub chkct_end_paused : (i : Bool) → g.side_states k side ≡ side_state checks_end i → end.tokens ≡ [] → Goes cores boxes g k p other
  chkct_end_paused i x none = end_check_justified i r there here credits_there (talk _ x) nothing_in (none_here none) (some_there none)

  -- IN, and CHKCT OPEN and CHKCT END of a slave, between pieces
  pub in_paused : (i : Bool) → g.side_states k side ≡ side_state between i → take_word end.tokens ≡ NotYet → length end.tokens < 4 → parcels boxes k side ≡ []
  in_paused i x waits few = input_justified (side_state between i) r there here refl refl refl refl (talk _ x) nothing_in (ap take_word tokens_are ∙ waits) (let size = ap length tokens_are in omega (arith, few, size))

  -- where no token is there
  pub slave_check_paused : (i : Bool) → g.side_states k side ≡ side_state between i → end.tokens ≡ [] → parcels boxes k side ≡ []
  slave_check_paused i x none = in_paused i x (ap take_word none) (let size = ap length none in omega (arith, size))

  -- what lets the row of a side in a piece go on; other rows are in no piece
  abbrev pub MayGo : Phase → Type 0
  MayGo between = ⊥
  MayGo (sends_end v) = nat_le 1 end.credits ≡ true
  MayGo (awaits_ack q) = 1 ≤ length end.tokens
  MayGo checks_end = 1 ≤ length end.tokens
  MayGo sends_ack = nat_le 1 end.credits ≡ true
  MayGo was_closed = nat_le 1 end.credits ≡ true
  MayGo streams = ⊥

  -- so the row of a side that goes doesn't pause
  pub goes : (f : Phase) → (g.side_states k side).phase ≡ f → Goes cores boxes g k p side → MayGo f
  goes f e go = by f here _ (subst (λ y. Enabled y here (credits_at cores (end_of_side p side).core (end_of_side p side).end)) e go) tokens_are credits_are
    where
      some : (n : ℕ) → 1 ≤ n → (b : Bool) → nat_le 1 n ≡ b → b ≡ true
      some n h true x = refl
      some n h false x = let few = leb-false 1 n x in absurd (omega (arith, h, few))

      by : (f : Phase) (l : Direction) (n : ℕ) → Enabled f l n → l.buffer ≡ end.tokens → n ≡ end.credits → MayGo f
      by f l n (may_end v _ _ h) x y = some end.credits (omega (arith, h, y)) (nat_le 1 end.credits) refl
      by f l n (may_check q _ _ h) x y = let size = ap length x in omega (arith, h, size)
      by f l n (may_check_end _ _ h) x y = let size = ap length x in omega (arith, h, size)
      by f l n (may_answer _ _ h) x y = some end.credits (omega (arith, h, y)) (nat_le 1 end.credits) refl
      by f l n (may_close _ _ h) x y = some end.credits (omega (arith, h, y)) (nat_le 1 end.credits) refl
