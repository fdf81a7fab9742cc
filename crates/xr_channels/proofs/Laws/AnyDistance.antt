-- The laws of channels whose ends are on any cores.
use Rattle.std.proofs.Common.{◌≡◌, ◌<◌, ◌≤◌, ℕ, Bool, true, false, List, [], ◌∷◌, length, Option, Some, None, refl, sym, ap, subst, arith}
use Rattle.std.specs.Prelude.{slice_get, slice_set, nat_le}
use Rattle.std.proofs.lemmas.Bool.{leb-true}
use Rattle.xs_instr.specs.declared.image.Home.{Home}
use Rattle.xs_instr.specs.declared.image.Pair.{Pair}
use Rattle.xs_instr.specs.declared.state.ChanEnd.{ChanEnd}
use Rattle.xs_instr.specs.declared.state.CoreState.{CoreState}
use Rattle.xs_instr.specs.declared.state.Item.{Item}
use Rattle.xs_instr.specs.declared.state.Sent.{Sent}
use Rattle.xs_instr.specs.declared.state.Token.{Token}
use Rattle.xs_instr.specs.declared.trace.Record.{Record}
use Rattle.xs_instr.specs.declared.trace.Record.TheVariants.{Com}
use Rattle.xs_instr.specs.Did.{Given, Made}
use Rattle.xs_instr.specs.Ends.{Peer, Gone, Taken, Word, Control, NotYet, Checked, Passed, Other, NotThere, outs_by, word_in, byte_in, check_in, take_word, word_unless, first_control, take_byte, byte_by, check, tokens_go, tokens_taken, peer_of, given_ends}
use Rattle.xs_instr.specs.Machine.{Machine, link_of, link_put, on_links, came, move_to, move_at}
use Rattle.xc_meaning.specs.States.Channels.{Side}
use Rattle.xr_channels.specs.Channels.{Links, ends_in, end_of_side, IsWired}
use Rattle.xr_channels.specs.Phases.{offers}
use Rattle.xr_channels.specs.CreditsOverLinks.{end_of_item, ComesFrom, AllCome, BalancedOverLinks}
use Rattle.xr_channels.specs.ChannelsOverLinks.{Delivered}
use Rattle.xr_channels.specs.SideRows.{IsSideEnd}
use Rattle.xr_channels.specs.LawsOverLinks.{ChannelsBeginOverLinks, OthersKeepChannels, DeliveriesAreFollowed, NoMoveIsQuiet, QuietIsOnTime, QuietIsLocal, UsesEnd, sends, takes_word, takes_byte, takes_control, RowsKeepCredits, TransfersAreFollowed, TransactionsAreFollowed, StreamsAreFollowed, TrapsPut}
use Rattle.xr_channels.proofs.All.Moves.{delivered}
use Rattle.xr_channels.proofs.All.OverLinks.{over_begins, over_same, quiet_on_time, quiet_local}
use Rattle.xr_channels.proofs.All.SideEnds as any
use Rattle.xr_channels.proofs.All.Wired.{valid_wired}
use Rattle.xr_channels.proofs.Laws.BalancesOverLinks.{sent_keeps, taken_keeps}

-- at the start
pub channels_begin : ChannelsBeginOverLinks
channels_begin L streaming inboxes valid none sized = over_begins L streaming inboxes valid none sized

-- by a delivery
pub deliveries_followed : DeliveriesAreFollowed
deliveries_followed L s valid m m' a b e inboxes g over = by (link_of m.links a b) refl e
  where
    machine_is : (x y : Machine) → Some x ≡ Some y → x ≡ y
    machine_is x y h = cc

    at_core : (i : Item) (rest : List Item) → link_of m.links a b ≡ i ∷ rest → (o : Option CoreState) → slice_get m.cores b ≡ o → move_to m a b i rest o ≡ Some m' → Delivered L.chans a b m'.cores m'.links inboxes g
    at_core i rest is None at f = cc
    at_core i rest is (Some core) at f =
        subst (λ (x : Machine). Delivered L.chans a b x.cores x.links inboxes g)
        (machine_is (record m { cores = slice_set m.cores b (came core i.moved); links = link_put m.links a b rest }) m' f)
        (delivered L.chans (valid_wired L valid) m.cores m.links inboxes g over a b core at rest i is)

    by : (items : List Item) → link_of m.links a b ≡ items → move_at m a b items ≡ Some m' → Delivered L.chans a b m'.cores m'.links inboxes g
    by [] is f = cc
    by (i ∷ rest) is f = at_core i rest is (slice_get m.cores b) refl f

-- by another step
pub others_keep : OthersKeepChannels
others_keep pairs cores cores' links inboxes g same over = over_same pairs cores links inboxes g over cores' same

-- An item on a link would come: its core is there.
pub no_move_is_quiet : NoMoveIsQuiet
no_move_is_quiet L s m balanced none a b = by (link_of m.links a b) refl (none a b)
  where
    there : (e : ℕ) → ComesFrom L.chans a b e → slice_get m.cores b ≡ None → ⊥
    there e comes gone =
        let lt : e < length (ends_in (slice_get m.cores b)) = subst (λ (q : Peer). q.end < length (ends_in (slice_get m.cores q.core))) comes.to (balanced.ends comes.channel comes.pair comes.side comes.here) in
        let size = ap (λ o. length (ends_in o)) gone in
        omega (arith, lt, size)

    at_core : (i : Item) (rest : List Item) → link_of m.links a b ≡ i ∷ rest → (o : Option CoreState) → slice_get m.cores b ≡ o → move_to m a b i rest o ≡ None → ⊥
    at_core i rest is None at f = there (end_of_item i.moved) (subst (AllCome L.chans a b) is (balanced.come a b)).0 at
    at_core i rest is (Some core) at f = cc

    by : (items : List Item) → link_of m.links a b ≡ items → move_at m a b items ≡ None → link_of m.links a b ≡ []
    by [] is f = is
    by (i ∷ rest) is f = absurd (at_core i rest is (slice_get m.cores b) refl f)

-- with nothing on any link
pub quiet_is_on_time : QuietIsOnTime
quiet_is_on_time pairs wired cores links inboxes g over empty k p side at_k = quiet_on_time pairs wired cores links inboxes g over empty k p side at_k

pub quiet_is_local : QuietIsLocal
quiet_is_local pairs wired cores links inboxes g over empty = quiet_local pairs wired cores links inboxes g over empty

-- What a turn left is one thing.
made_ends : {A : Type 0} (x y : A) (r r' : Option Record) (s s' : List Sent) → Made x r s ≡ Made y r' s' → (y ≡ x) × (s' ≡ s)
made_ends x y r r' s s' e = (cc, cc)

-- a word needs four tokens
no_word : (o : Option ℕ) (v : ℕ) → word_unless NotYet o ≡ Word v → ⊥
no_word None v h = cc
no_word (Some n) v h = cc

four : (ks : List Token) (v : ℕ) → take_word ks ≡ Word v → 4 ≤ length ks
four [] v h = absurd (no_word (first_control []) v h)
four (x ∷ []) v h = absurd (no_word (first_control (x ∷ [])) v h)
four (x ∷ y ∷ []) v h = absurd (no_word (first_control (x ∷ y ∷ [])) v h)
four (x ∷ y ∷ z ∷ []) v h = absurd (no_word (first_control (x ∷ y ∷ z ∷ [])) v h)
four (x ∷ y ∷ z ∷ w ∷ ks) v h = omega arith

-- A row on the end of a side.
module _ (pairs : List Pair) (wired : IsWired pairs) (cores : List CoreState) (links : Links) (balanced : BalancedOverLinks pairs cores links) (k : ℕ) (p : Pair) (side : Side) (home : Home) (core : CoreState) (end : ChanEnd) (at : IsSideEnd pairs cores k p side home core end) (left : CoreState) (sent : List Sent) where
  -- its core and end, what goes, and that the law is kept
  abbrev c : ℕ
  c = (end_of_side p side).core

  abbrev e : ℕ
  e = (end_of_side p side).end

  abbrev Kept : List Sent → Type 0
  Kept s = BalancedOverLinks pairs (slice_set cores c left) (on_links links c s)

  abbrev out_gone : List Token → Gone
  out_gone ks = tokens_go home core.clock core.ends e end ks (peer_of home.pairs home.number e)

  abbrev in_gone : ℕ → Gone
  in_gone n = tokens_taken home core.clock core.ends e end n (peer_of home.pairs home.number e)

  -- tokens went out, for which there were credits
  went : (ks : List Token) (enough : Bool) → nat_le (length ks) end.credits ≡ enough → outs_by (out_gone ks) enough ≡ Made left.ends None sent → Kept sent
  went ks false x h = cc
  went ks true x h =
      let is = made_ends (out_gone ks).ends left.ends None None (out_gone ks).sent sent h in
      subst Kept (sym is.1) (sent_keeps pairs cores links balanced wired k p side at.channel home core left end at.number at.same_pairs at.at_core at.at_end ks (leb-true (length ks) end.credits x) is.0)

  -- tokens were there, and were taken
  came_in : (n : ℕ) → n ≤ length end.tokens → left.ends ≡ (in_gone n).ends → sent ≡ (in_gone n).sent → Kept sent
  came_in n enough is_ends is_sent = subst Kept (sym is_sent) (taken_keeps pairs cores links balanced wired k p side at.channel home core left end at.number at.same_pairs at.at_core at.at_end n enough is_ends)

  -- with a value
  given : (n v w : ℕ) (r r' : Option Record) → Made (given_ends (in_gone n) v) r (in_gone n).sent ≡ Made (record { left = left.ends; value = w }) r' sent → (left.ends ≡ (in_gone n).ends) × (sent ≡ (in_gone n).sent)
  given n v w r r' h =
      let is = made_ends (given_ends (in_gone n) v) (record { left = left.ends; value = w }) r r' (in_gone n).sent sent h in
      (ap (λ (x : Given (List ChanEnd)). x.left) is.0, is.1)

  -- what the row does
  uses_keep : UsesEnd home core e end left.ends sent → Kept sent
  uses_keep (sends ks h) = went ks (nat_le (length ks) end.credits) refl h
  uses_keep (takes_word v r h) = by_word (take_word end.tokens) refl h
    where
      by_word : (w : Taken) → take_word end.tokens ≡ w → word_in home (in_gone 4) w ≡ Made (record { left = left.ends; value = v }) r sent → Kept sent
      by_word (Word x) is f = let g = given 4 x v (Some (Com home.number x)) r f in came_in 4 (four end.tokens x is) g.0 g.1
      by_word (Control x) is f = cc
      by_word NotYet is f = cc
  uses_keep (takes_byte v r h) = by_byte end.tokens refl h
    where
      by_byte : (ks : List Token) → end.tokens ≡ ks → byte_in (in_gone 1) (take_byte ks) ≡ Made (record { left = left.ends; value = v }) r sent → Kept sent
      by_byte [] is f = cc
      by_byte (x ∷ ks) is f = passed x.control f
        where
          some : 1 ≤ length end.tokens
          some = let size = ap length is in omega (arith, size)

          passed : (is_control : Bool) → byte_in (in_gone 1) (byte_by x.byte is_control) ≡ Made (record { left = left.ends; value = v }) r sent → Kept sent
          passed true y = cc
          passed false y = let z = given 1 x.byte v None r y in came_in 1 some z.0 z.1
  uses_keep (takes_control n r h) = by_check end.tokens refl h
    where
      by_check : (ks : List Token) → end.tokens ≡ ks → check_in (in_gone 1) (check ks n) ≡ Made left.ends r sent → Kept sent
      by_check [] is f = cc
      by_check (x ∷ ks) is f = passed (check (x ∷ ks) n) f
        where
          some : 1 ≤ length end.tokens
          some = let size = ap length is in omega (arith, size)

          passed : (w : Checked) → check_in (in_gone 1) w ≡ Made left.ends r sent → Kept sent
          passed Passed y = let z = made_ends (in_gone 1).ends left.ends None r (in_gone 1).sent sent y in came_in 1 some z.0 z.1
          passed (Other t) y = cc
          passed NotThere y = cc

-- each such row keeps the law of credits
pub rows_keep : RowsKeepCredits
rows_keep pairs wired cores links balanced k p side home core end at left sent uses = uses_keep pairs wired cores links balanced k p side home core end at left sent uses

-- the rows of an output and an input
pub transfers_followed : TransfersAreFollowed
transfers_followed at t thread = record {
  out = any.out_plain at t thread;
  out_end = any.outct_end at t thread;
  check_ack = λ v i. any.chkct_ack at t thread (offers v) i;
  in_offer = any.in_plain at t thread;
  check_end = any.chkct_end at t thread;
  out_ack = any.outct_ack at t thread;
}

-- of a transaction
pub transactions_followed : TransactionsAreFollowed
transactions_followed at t thread = record {
  out_open = any.outct_open at t thread;
  check_open = any.chkct_open at t thread;
  check_ack = any.chkct_ack at t thread;
  out_word = any.out_inside at t thread;
  in_word = any.in_inside at t thread;
  out_end = any.outct_end_master at t thread;
  check_end = any.chkct_end_slave at t thread;
  out_ack = any.outct_ack_slave at t thread;
}

-- and of a stream
pub streams_followed : StreamsAreFollowed
streams_followed at t thread = record { out = any.out_stream at t thread; in_word = any.in_stream at t thread }

-- by a trap
pub traps_put : TrapsPut
traps_put at q i x rest y ps stands late found wrong = any.trap_puts at q i x rest y ps stands late found wrong
