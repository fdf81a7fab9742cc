-- Where a run begins nothing stands between the sides.
use Rattle.std.proofs.Common.{◌≡◌, ◌<◌, ℕ, suc, zero, Bool, true, false, List, [], ◌++◌, length, Some, refl, sym, ap, ◌∙◌}
use Rattle.std.specs.Prelude.{slice_get, replicate}
use Rattle.xs_instr.specs.declared.image.Image.{Image}
use Rattle.xs_instr.specs.declared.image.Pair.{Pair}
use Rattle.xs_instr.specs.declared.state.CoreState.{CoreState}
use Rattle.xs_instr.specs.Machine.{link_of, no_links, boot, boot_end}
use Rattle.xc_meaning.specs.States.Channels.{Side, first, second, other_side, Inboxes}
use Rattle.xr_channels.specs.Phases.{between, streams, SideState, side_state, TransitRel, is_open, unsent, ahead, unread, reads, LateBy, Transit}
use Rattle.xr_channels.specs.Channels.{Links, tokens_in, tokens_at, tokens_for, end_of_side, direction_to, Channels, start_ghosts, start_side_state}
use Rattle.xr_channels.specs.ChannelRel.{ChannelRel}
use Rattle.xr_channels.proofs.Laws.Fresh.{fresh_none}
use Rattle.xr_channels.proofs.Tokens.Lines.{no_line}
use Rattle.xr_channels.proofs.All.Frames.{parcels, line_is, stands_is}

-- an empty line between sides that owe nothing
no_way : (s r : SideState) → unsent s.phase ≡ [] → ahead r.phase ≡ [] → unread r.phase ≡ [] → reads r ≡ s.inside → LateBy s.phase s.inside [] → Transit s r no_line
no_way s r u a n p late = record { more = []; coming = u; come = ap (λ x. x ++ []) a ∙ sym (ap (λ x. x ++ []) n); path = p; late = late }

-- a plain channel
pub starts_plain : TransitRel (side_state between false) (side_state between false) no_line no_line
starts_plain = record {
  outward = no_way (side_state between false) (side_state between false) refl refl refl refl refl;
  homeward = no_way (side_state between false) (side_state between false) refl refl refl refl refl;
  mine = is_open refl refl;
  theirs = is_open refl refl;
}

-- a streaming channel
pub starts_stream : TransitRel (side_state streams true) (side_state streams true) no_line no_line
starts_stream = record {
  outward = no_way (side_state streams true) (side_state streams true) refl refl refl refl (refl, tt);
  homeward = no_way (side_state streams true) (side_state streams true) refl refl refl refl (refl, tt);
  mine = is_open refl refl;
  theirs = is_open refl refl;
}

-- either
starts : (b : Bool) → ChannelRel (start_side_state b) (start_side_state b) no_line no_line
starts b = record { talk = talks b; fresh = record { mine = fresh_none (start_side_state b).phase no_line refl; theirs = fresh_none (start_side_state b).phase no_line refl } }
  where
    talks : (b : Bool) → TransitRel (start_side_state b) (start_side_state b) no_line no_line
    talks true = starts_stream
    talks false = starts_plain

-- where no token and no parcel is anywhere
pub wires_begin : (pairs : List Pair) (streaming : ℕ → Bool) (cores : List CoreState) (links : Links) (boxes : List Inboxes) → ((c e : ℕ) → tokens_at cores c e ≡ []) → ((a b : ℕ) → link_of links a b ≡ []) → ((k : ℕ) (side : Side) → parcels boxes k side ≡ []) → ((k : ℕ) (p : Pair) → slice_get pairs k ≡ Some p → k < length boxes) → Channels pairs cores links boxes (start_ghosts streaming)
wires_begin pairs streaming cores links boxes none no_item no_parcel sized = record {
  talks = λ k p at_k. stands_is _ _ _ _ _ _ _ _ refl refl (empty k p second) (empty k p first) (starts (streaming k));
  boxes = sized;
  prompt = λ k p side at_k same. refl;
  selves = λ c. no_item c c;
}
  where
    empty : (k : ℕ) (p : Pair) (side : Side) → no_line ≡ direction_to cores links boxes (start_ghosts streaming) p k side
    empty k p side = line_is _ _ _ _ _ _ _ _ (sym (none (end_of_side p side).core (end_of_side p side).end)) (sym (ap (tokens_for (end_of_side p side).end) (no_item (end_of_side p (other_side side)).core (end_of_side p side).core))) (sym (no_parcel k side)) refl

-- an end as it starts
no_tokens : (n e : ℕ) → tokens_in (slice_get (replicate n boot_end) e) ≡ []
no_tokens zero e = refl
no_tokens (suc n) zero = refl
no_tokens (suc n) (suc e) = no_tokens n e

-- no end of a machine that starts has a token
pub boot_tokens : (L : Image) (c e : ℕ) → tokens_at (boot L).cores c e ≡ []
boot_tokens L zero e = no_tokens _ e
boot_tokens L (suc zero) e = no_tokens _ e
boot_tokens L (suc (suc zero)) e = no_tokens _ e
boot_tokens L (suc (suc (suc zero))) e = no_tokens _ e
boot_tokens L (suc (suc (suc (suc c)))) e = refl

-- the links out of a core
row_at : (b : ℕ) → link_of no_links 0 b ≡ []
row_at zero = refl
row_at (suc zero) = refl
row_at (suc (suc zero)) = refl
row_at (suc (suc (suc zero))) = refl
row_at (suc (suc (suc (suc b)))) = refl

-- and no link has an item
pub boot_links : (a b : ℕ) → link_of no_links a b ≡ []
boot_links zero b = row_at b
boot_links (suc zero) b = row_at b
boot_links (suc (suc zero)) b = row_at b
boot_links (suc (suc (suc zero))) b = row_at b
boot_links (suc (suc (suc (suc a)))) b = refl
