-- A row of an output or an input, outside transactions and with nothing on a link: it never lacks credits, and where it waits for a token and
-- the other side has sent all, nothing has come.
use Rattle.std.proofs.Common.{◌≡◌, ◌+◌, false, List, [], ◌∷◌, length, refl, sym, ap, ◌∙◌, subst, arith}
use Rattle.std.specs.Prelude.{nat_le}
use Rattle.xs_instr.specs.Machine.{no_links}
use Rattle.xc_meaning.specs.States.Channels.{Side, other_side}
use Rattle.xr_channels.specs.Phases.{Phase, SideState, side_state, ahead, asked, unread, unsent, Direction, TransitRel}
use Rattle.xr_channels.specs.Channels.{direction_to}
use Rattle.xr_channels.proofs.All.Frames.{parcels}
use Rattle.xr_channels.proofs.Tokens.Lengths.{out_pause_full, outct_pause_full}
use Rattle.xr_channels.proofs.All.QuietPauses as pauses
use Rattle.xr_channels.proofs.All.QuietPauses.{QuietEnd}
use Rattle.xr_channels.proofs.Sides.Plain as sides
use Rattle.xr_channels.proofs.Sides.Plain.{IsPlain}

module _ (quiet : QuietEnd)
    (f h : Phase) (is : quiet.ghosts.side_states quiet.line quiet.side ≡ side_state f false)
    (other_is : quiet.ghosts.side_states quiet.line (other_side quiet.side) ≡ side_state h false) where
  open quiet use {cores, boxes, ghosts as g, line as k, pair as p, side, end}

  abbrev other : Side
  other = other_side side

  abbrev r : SideState
  r = g.side_states k other

  abbrev there : Direction
  there = direction_to cores no_links boxes g p k other

  abbrev here : Direction
  here = direction_to cores no_links boxes g p k side

  talk : TransitRel (side_state f false) r there here
  talk = pauses.talk quiet (side_state f false) is

  on_time : there.late ≡ []
  on_time = pauses.on_time quiet (side_state f false) is

  -- Both sides are in plain transfers.
  module _ (f_plain : IsPlain f) (h_plain : IsPlain h) where
    r_plain : IsPlain r.phase
    r_plain = subst IsPlain (ap (λ (s : SideState). s.phase) (sym other_is)) h_plain

    r_outside : r.inside ≡ false
    r_outside = ap (λ (s : SideState). s.inside) other_is

    credits : end.credits + length there.buffer ≡ 8
    credits = pauses.mine quiet

    nothing_out : there.link ≡ []
    nothing_out = pauses.nothing_out quiet

    -- OUTCT has a credit
    pub has_credit : nat_le 1 end.credits ≡ false → ⊥
    has_credit few =
        let full = outct_pause_full end.credits (length there.buffer) few credits in
        let seven = sides.at_most_seven (side_state f false) r there here talk f_plain r_plain refl r_outside nothing_out on_time in
        omega (arith, full, seven)

    -- and OUT has four, where nothing was asked before
    pub has_credits : asked f ≡ [] → nat_le 4 end.credits ≡ false → ⊥
    has_credits none few =
        let full = out_pause_full end.credits (length there.buffer) few credits in
        let two = sides.at_most_two (side_state f false) r there here talk f_plain r_plain refl r_outside nothing_out on_time none in
        omega (arith, full, two)

  -- The other side has sent all, and no token is at the end.
  module _ (all_sent : unsent h ≡ []) (none : end.tokens ≡ []) where
    sent_there : unsent r.phase ≡ []
    sent_there = ap (λ (s : SideState). unsent s.phase) other_is ∙ all_sent

    nothing_in : here.link ≡ []
    nothing_in = pauses.nothing_in quiet

    nothing_here : here.buffer ≡ []
    nothing_here = pauses.none_here quiet none

    -- the inbox is empty
    pub nothing_came : ahead f ≡ [] → unread f ≡ [] → parcels boxes k side ≡ []
    nothing_came taken owed = sides.nothing_came (side_state f false) r there here talk sent_there nothing_in nothing_here taken owed

    -- and no token has still to be taken
    pub nothing_owed : ahead f ≡ [] → unread f ≡ []
    nothing_owed taken =
        by (unread f) (let owed = sides.nothing_owed (side_state f false) r there here talk sent_there nothing_in nothing_here in let size = ap length taken in omega (arith, owed, size))
      where
        by : {A : Type 0} (xs : List A) → length xs ≡ 0 → xs ≡ []
        by [] e = refl
        by (x ∷ xs) e = absurd (omega (arith, e))
