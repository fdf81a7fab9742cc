-- A select's case on a channel: the machine finds the end ready exactly where the program finds something in the inbox.
use Rattle.std.proofs.Common.{◌≡◌, ℕ, false, List, [], ◌∷◌, Option, Some, None, refl, sym, ap, ◌∙◌}
use Rattle.std.specs.Prelude.{slice_get, slice_index_or, is_some}
use Rattle.xs_instr.specs.declared.image.Pair.{Pair}
use Rattle.xs_instr.specs.declared.state.ChanEnd.{ChanEnd}
use Rattle.xs_instr.specs.declared.state.CoreState.{CoreState}
use Rattle.xs_instr.specs.declared.state.Token.{Token}
use Rattle.xs_instr.specs.Ends.{has_token}
use Rattle.xs_instr.specs.Events.{end_is_ready, end_ready}
use Rattle.xc_meaning.specs.Settings.Select.{has_arrived}
use Rattle.xc_meaning.specs.Settings.Setting.{Setting}
use Rattle.xc_meaning.specs.States.Branches.{side_of}
use Rattle.xc_meaning.specs.States.Channels.{Side, Inboxes, no_parcels, oldest, parcels_at}
use Rattle.xc_meaning.specs.States.Worlds.{inboxes_of}
use Rattle.xr_channels.specs.Phases.{between, side_state}
use Rattle.xr_channels.specs.Channels.{Links, ends_in, tokens_at, tokens_in, end_of_side, Ghosts, Channels, IsWired}
use Rattle.xr_channels.proofs.All.Frames.{parcels}
use Rattle.xr_channels.proofs.Laws.Ready.{none_ready, one_ready}

-- an end is ready where it is there and has a token
ready_is : (o : Option ChanEnd) → end_is_ready o ≡ has_token (tokens_in o)
ready_is None = refl
ready_is (Some end) = refl

-- The end of a side that is outside and in no piece, as the side of a branch at its select is. What stands on links doesn't matter.
module _ (pairs : List Pair) (wired : IsWired pairs) (cores : List CoreState) (links : Links) (boxes : List Inboxes) (g : Ghosts) (h : Channels pairs cores links boxes g) (k : ℕ) (p : Pair) (side : Side) (at_k : slice_get pairs k ≡ Some p)
    (core : CoreState) (there : slice_get cores (end_of_side p side).core ≡ Some core) (at : g.side_states k side ≡ side_state between false) where
  abbrev tokens : List Token
  tokens = tokens_at cores (end_of_side p side).core (end_of_side p side).end

  by_tokens : end_ready core (end_of_side p side).end ≡ has_token tokens
  by_tokens =
      ready_is (slice_get core.ends (end_of_side p side).end)
      ∙ ap (λ o. has_token (tokens_in (slice_get (ends_in o) (end_of_side p side).end))) (sym there)

  by_inbox : (ts : List Token) → tokens ≡ ts → has_token ts ≡ is_some (oldest (parcels boxes k side))
  by_inbox [] e =
      sym (ap (λ l. is_some (oldest l)) (none_ready pairs wired cores links boxes g h k p side at_k at e))
  by_inbox (t ∷ ts) e =
      let (x, ps, found, first) = one_ready pairs wired cores links boxes g h k p side at_k false t ts at e in
      sym (ap (λ l. is_some (oldest l)) found)

  -- it is ready for an event where something has arrived
  pub end_agrees : end_ready core (end_of_side p side).end ≡ is_some (oldest (parcels boxes k side))
  end_agrees = by_tokens ∙ by_inbox tokens refl

  -- So the case of a select on the channel is ready by both, where the branch is of this side and the channel's inboxes stand here.
  pub case_agrees : (s : Setting) (c : ℕ) → side_of s.branch c ≡ Some side → slice_index_or boxes k no_parcels ≡ inboxes_of s.world c → end_ready core (end_of_side p side).end ≡ has_arrived s c (side_of s.branch c)
  case_agrees s c is_side is_box =
      end_agrees
      ∙ ap (λ i. is_some (oldest (parcels_at i side))) is_box
      ∙ sym (ap (has_arrived s c) is_side)
