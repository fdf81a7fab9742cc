-- A thread's step on the end of a side of a channel, wherever the other end is: the end is there, and the core's row is one on it.
use Rattle.std.proofs.Common.{◌≡◌, ℕ, ◌<◌, List, [], length, Option, Some, refl, sym, ap, ◌∙◌, subst}
use Rattle.std.specs.Prelude.{slice_get, slice_set}
use Rattle.xw_words.specs.declared.pos.Pos.{Pos}
use Rattle.xs_instr.specs.declared.image.Pair.{Pair}
use Rattle.xs_instr.specs.declared.state.ChanEnd.{ChanEnd}
use Rattle.xs_instr.specs.declared.state.CoreState.{CoreState}
use Rattle.xs_instr.specs.declared.state.Regs.{Regs}
use Rattle.xs_instr.specs.declared.state.Sent.{Sent}
use Rattle.xs_instr.specs.Machine.{link_of, on_links}
use Rattle.xc_meaning.specs.States.Channels.{Inboxes, Side, first, second}
use Rattle.xl_chan.specs.Protocols.{Act, Acts}
use Rattle.xl_image.specs.Images.{pair_of}
use Rattle.xl_par.specs.Acquired.{Acquired}
use Rattle.xl_plan.specs.Layout.{core_of, end_number}
use Rattle.xr_simulation.specs.Runners.{end_place, home}
use Rattle.xr_simulation.specs.ThreadViews.{running}
use Rattle.xr_simulation.specs.MatchStates.{none_rests}
use Rattle.xr_simulation.specs.Wired.{IsLine, boxes_in}
use Rattle.xr_channels.specs.Channels.{Ghosts, ends_in, end_of_side}
use Rattle.xr_channels.specs.ChannelsOverLinks.{ChannelsOverLinks}
use Rattle.xr_channels.specs.SideRows.{IsSideEnd, SideEnd}
use Rattle.xr_channels.proofs.All.OverLinks.{quiet_local}
use Rattle.xr_channels.proofs.All.QuietPauses.{QuietEnd}
use Rattle.xr_channels.proofs.Tokens.Credits.{end_there}
use Rattle.xr_simulation.proofs.Relation.Moments.{Moment, ThreadAt}

module _ {moment : Moment none_rests} {hand : Option Acquired} (thread_at : ThreadAt moment hand)
    (channel : ℕ) (side : Side) (line : ℕ) (is_line : IsLine moment.setting.program line channel)
    (on_core : core_of moment.setting.program channel side ≡ thread_at.core) where
  open moment use {setting as g, image as is, watched as w, told as x, standing as st}
  open thread_at use {core as c, thread as t, state as a, at_core as at_c, runner as r, runs as runs_r}

  abbrev pub pair : Pair
  pair = pair_of g.program channel

  abbrev pub boxes : List Inboxes
  boxes = boxes_in g.program x.state.inboxes

  pub at_line : slice_get g.image.chans line ≡ Some pair
  at_line = is.lines.line line channel is_line

  core_is : r.core ≡ c
  core_is = st.roles.core c t r hand runs_r

  -- where the side's end is
  pub place_core : (end_of_side pair side).core ≡ c
  place_core = by side on_core
    where
      by : (s : Side) → core_of g.program channel s ≡ c → (end_of_side pair s).core ≡ c
      by first at = at
      by second at = at

  pub place_end : (end_of_side pair side).end ≡ end_place g r channel side
  place_end = by side on_core
    where
      by : (s : Side) → core_of g.program channel s ≡ c → (end_of_side pair s).end ≡ end_place g r channel s
      by first at = ap (λ d. end_number g.program d channel first) (at ∙ sym core_is)
      by second at = ap (λ d. end_number g.program d channel second) (at ∙ sym core_is)

  pub at_place : slice_get w.machine.cores (end_of_side pair side).core ≡ Some a
  at_place = ap (slice_get w.machine.cores) place_core ∙ at_c

  pub within : (end_of_side pair side).end < length a.ends
  within = subst (λ o. (end_of_side pair side).end < length (ends_in o)) at_place (st.wired.over.balanced.ends line pair side at_line)

  abbrev pub end : ChanEnd
  end = (end_there a.ends (end_of_side pair side).end within).end

  pub end_is : slice_get a.ends (end_of_side pair side).end ≡ Some end
  end_is = (end_there a.ends (end_of_side pair side).end within).there

  pub is_end : IsSideEnd g.image.chans w.machine.cores line pair side (home g r) a end
  is_end = record {
    channel = at_line;
    number = core_is ∙ sym place_core;
    same_pairs = refl;
    at_core = at_place;
    at_end = end_is;
  }

  -- all that its rows are told of
  abbrev pub side_end : SideEnd
  side_end = record {
    pairs = g.image.chans;
    wired = is.lines.wired;
    cores = w.machine.cores;
    links = w.machine.links;
    boxes = boxes;
    ghosts = st.wired.ghosts;
    over = st.wired.over;
    line = line;
    pair = pair;
    side = side;
    home = home g r;
    core = a;
    end = end;
    is_end = is_end;
  }

  -- and while nothing is on a link
  abbrev pub quiet_end : ((from to : ℕ) → link_of w.machine.links from to ≡ []) → QuietEnd
  quiet_end empty = record {
    pairs = g.image.chans;
    wired = is.lines.wired;
    cores = w.machine.cores;
    boxes = boxes;
    ghosts = st.wired.ghosts;
    local = quiet_local g.image.chans is.lines.wired w.machine.cores w.machine.links boxes st.wired.ghosts st.wired.over empty;
    line = line;
    pair = pair;
    side = side;
    core = a;
    end = end;
    channel = at_line;
    at_core = at_place;
    at_end = end_is;
  }

  -- a step of the thread's on this end is one on the end of the channel's side
  pub acts_there : (tie : Option ℕ) (pos : Pos) (act : Act) (pc : ℕ) (regs : Regs) → Acts (home g r) r.thread (end_place g r channel side) (running tie pc regs) pos act pc regs → Acts (home g r) r.thread (end_of_side pair side).end (running tie pc regs) pos act pc regs
  acts_there tie pos act pc regs h = subst (λ e. Acts (home g r) r.thread e (running tie pc regs) pos act pc regs) (sym place_end) h

  -- what a row leaves and sends stands at the core
  pub left_over : (left : CoreState) (sent : List Sent) (boxes' : List Inboxes) (ghosts : Ghosts) →
      ChannelsOverLinks g.image.chans (slice_set w.machine.cores (end_of_side pair side).core left)
      (on_links w.machine.links (end_of_side pair side).core sent) boxes' ghosts →
      ChannelsOverLinks g.image.chans (slice_set w.machine.cores c left) (on_links w.machine.links c sent) boxes' ghosts
  left_over left sent boxes' ghosts h = subst (λ k. ChannelsOverLinks g.image.chans (slice_set w.machine.cores k left) (on_links w.machine.links k sent) boxes' ghosts) place_core h
