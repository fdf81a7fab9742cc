-- What stands between the sides of channels stays where no token changes, and within cores it holds at the start.
use Rattle.std.proofs.Common.{◌≡◌, ◌<◌, ℕ, Bool, List, [], length, Some, refl, sym, ap}
use Rattle.std.specs.Prelude.{slice_get, slice_set}
use Rattle.xs_instr.specs.declared.image.Image.{Image}
use Rattle.xs_instr.specs.declared.image.Pair.{Pair}
use Rattle.xs_instr.specs.declared.state.CoreState.{CoreState}
use Rattle.xs_instr.specs.Machine.{link_of, no_links, boot}
use Rattle.xs_instr.specs.Valid.{Valid}
use Rattle.xc_meaning.specs.States.Channels.{Side, first, second, other_side, Inboxes}
use Rattle.xr_channels.specs.Channels.{Links, tokens_at, tokens_for, end_of_side, Ghosts, direction_to, Channels, start_ghosts}
use Rattle.xr_channels.specs.Balance.{Local}
use Rattle.xr_channels.proofs.Tokens.Views.{tokens_of_end}
use Rattle.xr_channels.proofs.Tokens.Changes.{core_same, IsSelfless}
use Rattle.xr_channels.proofs.All.Frames.{parcels, line_is, stands_is}
use Rattle.xr_channels.proofs.All.Begins.{wires_begin, boot_tokens, boot_links}
use Rattle.xr_channels.proofs.Laws.Balances.{balanced_still, balanced_begins}

-- where no token changes, as at a credit's arrival
pub same_wires : (pairs : List Pair) (cores cores' : List CoreState) (links links' : Links) (boxes : List Inboxes) (g : Ghosts) → ((x f : ℕ) → tokens_at cores' x f ≡ tokens_at cores x f) → ((x y f : ℕ) → tokens_for f (link_of links' x y) ≡ tokens_for f (link_of links x y)) → IsSelfless links' → Channels pairs cores links boxes g → Channels pairs cores' links' boxes g
same_wires pairs cores cores' links links' boxes g buffers ways selves h = record {
  talks = λ k p at_k. stands_is _ _ _ _ _ _ _ _ refl refl (same k p second) (same k p first) (h.talks k p at_k);
  boxes = h.boxes;
  prompt = h.prompt;
  selves = selves;
}
  where
    same : (k : ℕ) (p : Pair) (s : Side) → direction_to cores links boxes g p k s ≡ direction_to cores' links' boxes g p k s
    same k p s = line_is _ _ _ _ _ _ _ _ (sym (buffers (end_of_side p s).core (end_of_side p s).end)) (sym (ways (end_of_side p (other_side s)).core (end_of_side p s).core (end_of_side p s).end)) refl refl

-- a trap, a tick and each step that leaves the ends of its core
pub keeps : (pairs : List Pair) (cores : List CoreState) (links : Links) (boxes : List Inboxes) (g : Ghosts) (c : ℕ) (core left : CoreState) → slice_get cores c ≡ Some core → left.ends ≡ core.ends → Channels pairs cores links boxes g → Channels pairs (slice_set cores c left) links boxes g
keeps pairs cores links boxes g c core left at_c same h =
    same_wires pairs cores (slice_set cores c left) links links boxes g
    (λ x f. core_same cores c x f core left at_c (λ e. ap (λ l. tokens_of_end l f) same)) (λ x y f. refl) h.selves h

-- within cores
pub local_still : (pairs : List Pair) (cores : List CoreState) (boxes : List Inboxes) (g : Ghosts) (c : ℕ) (core left : CoreState) → slice_get cores c ≡ Some core → left.ends ≡ core.ends → Local pairs cores boxes g → Local pairs (slice_set cores c left) boxes g
local_still pairs cores boxes g c core left at_c same h = record {
  wires = keeps pairs cores no_links boxes g c core left at_c same h.wires;
  balanced = balanced_still pairs cores h.balanced c core left at_c same;
}

-- at the start of a machine, with empty inboxes
pub local_begins : (L : Image) (streaming : ℕ → Bool) (boxes : List Inboxes) → Valid L → ((k : ℕ) (side : Side) → parcels boxes k side ≡ []) → ((k : ℕ) (p : Pair) → slice_get L.chans k ≡ Some p → k < length boxes) → Local L.chans (boot L).cores boxes (start_ghosts streaming)
local_begins L streaming boxes valid none sized = record {
  wires = wires_begin L.chans streaming (boot L).cores no_links boxes (boot_tokens L) boot_links none sized;
  balanced = balanced_begins L valid;
}
