-- What stands between the sides of channels wherever their ends are: where it stays, where it begins, and that it is what stands within
-- cores while nothing is on a link.
use Rattle.std.proofs.Common.{◌≡◌, ◌<◌, ◌≢◌, ℕ, Bool, List, [], ◌∷◌, ◌++◌, length, Some, refl, sym, ap, ◌∙◌, subst, arith, length-append, inl, inr}
use Rattle.std.specs.Prelude.{◌⊎◌, slice_get, slice_set}
use Rattle.xs_instr.specs.declared.image.Image.{Image}
use Rattle.xs_instr.specs.declared.image.Pair.{Pair}
use Rattle.xs_instr.specs.declared.state.CoreState.{CoreState}
use Rattle.xs_instr.specs.Ends.{Peer, word_tokens}
use Rattle.xs_instr.specs.Machine.{link_of, no_links, boot}
use Rattle.xs_instr.specs.Valid.{Valid}
use Rattle.xc_meaning.specs.States.Channels.{offer, Side, other_side, Inboxes}
use Rattle.xr_channels.specs.Phases.{END, Phase, between, sends_end, awaits_ack, checks_end, sends_ack, was_closed, streams, SideState, encodes, unsent, LateBy, Direction, Transit}
use Rattle.xr_channels.specs.ChannelSteps.{parcels}
use Rattle.xr_channels.specs.Channels.{Links, ends_in, tokens_in, tokens_for, end_of_side, Ghosts, start_ghosts, IsWired}
use Rattle.xr_channels.specs.Balance.{IsEight, Local}
use Rattle.xr_channels.specs.CreditsOverLinks.{credits_for, IsEightOverLinks}
use Rattle.xr_channels.specs.ChannelsOverLinks.{ChannelsOverLinks}
use Rattle.xr_channels.proofs.Tokens.Views.{same_num, get_set, get_set_other}
use Rattle.xr_channels.proofs.Tokens.Lengths.{nothing_late}
use Rattle.xr_channels.proofs.Tokens.Locals.{same_wires, local_begins}
use Rattle.xr_channels.proofs.All.Begins.{boot_links}
use Rattle.xr_channels.proofs.All.Frames.{talk_at}
use Rattle.xr_channels.proofs.Laws.BalancesOverLinks.{balanced_same}
use Rattle.xr_channels.proofs.Laws.CreditsOverLinks.{balanced_over}

-- within cores nothing is on a link
pub local_over : (pairs : List Pair) (cores : List CoreState) (boxes : List Inboxes) (g : Ghosts) → Local pairs cores boxes g → ChannelsOverLinks pairs cores no_links boxes g
local_over pairs cores boxes g h = record { wires = h.wires; balanced = balanced_over pairs cores h.balanced }

-- at the start of a machine, with empty inboxes
pub over_begins : (L : Image) (streaming : ℕ → Bool) (boxes : List Inboxes) → Valid L → ((k : ℕ) (side : Side) → parcels boxes k side ≡ []) → ((k : ℕ) (p : Pair) → slice_get L.chans k ≡ Some p → k < length boxes) → ChannelsOverLinks L.chans (boot L).cores (boot L).links boxes (start_ghosts streaming)
over_begins L streaming boxes valid none sized = local_over L.chans (boot L).cores boxes (start_ghosts streaming) (local_begins L streaming boxes valid none sized)

module _ (pairs : List Pair) (cores : List CoreState) (links : Links) (boxes : List Inboxes) (g : Ghosts) (over : ChannelsOverLinks pairs cores links boxes g) where
  -- where each core's ends stay
  pub over_same : (cores' : List CoreState) → ((x : ℕ) → ends_in (slice_get cores' x) ≡ ends_in (slice_get cores x)) → ChannelsOverLinks pairs cores' links boxes g
  over_same cores' same = record {
    wires = same_wires pairs cores cores' links links boxes g (λ x f. ap (λ l. tokens_in (slice_get l f)) (same x)) (λ x y f. refl) over.wires.selves over.wires;
    balanced = balanced_same pairs cores links over.balanced cores' same;
  }

  -- a trap, a tick and each step that leaves the ends of its core
  pub over_still : (c : ℕ) (core left : CoreState) → slice_get cores c ≡ Some core → left.ends ≡ core.ends → ChannelsOverLinks pairs (slice_set cores c left) links boxes g
  over_still c core left at_c same = over_same (slice_set cores c left) (λ x. by x (same_num c x))
    where
      by : (x : ℕ) → (c ≡ x) ⊎ (c ≢ x) → ends_in (slice_get (slice_set cores c left) x) ≡ ends_in (slice_get cores x)
      by x (inl y) = subst (λ z. ends_in (slice_get (slice_set cores c left) z) ≡ ends_in (slice_get cores z)) y (ap ends_in (get_set cores c core left at_c) ∙ same ∙ sym (ap ends_in at_c))
      by x (inr ne) = ap ends_in (get_set_other cores c x left ne)

-- With nothing on the link a sender has put all that it has begun.
pub none_late : (s r : SideState) (l : Direction) → Transit s r l → l.link ≡ [] → l.late ≡ []
none_late s r l h link = by s.phase refl
  where
    late_of : (f : Phase) → s.phase ≡ f → LateBy f s.inside l.late
    late_of f e = subst (λ y. LateBy y s.inside l.late) e h.late

    choose : (v : ℕ) → s.phase ≡ sends_end v → (l.late ≡ []) ⊎ (l.late ≡ offer v ∷ []) → l.late ≡ []
    choose v e (inl none) = none
    choose v e (inr one) =
        let all : END ∷ [] ≡ h.more ++ (word_tokens v ++ END ∷ []) = sym (ap unsent e) ∙ sym (ap (λ x. x ++ unsent s.phase) link) ∙ h.coming ∙ ap (λ x. h.more ++ encodes x) one in
        let a = ap length all in
        let b = length-append h.more (word_tokens v ++ END ∷ []) in
        absurd (omega (arith, a, b))

    by : (f : Phase) → s.phase ≡ f → l.late ≡ []
    by between e = late_of between e
    by (sends_end v) e = choose v e (late_of (sends_end v) e).1
    by (awaits_ack q) e = (nothing_late s r l h (ap unsent e) link).0
    by checks_end e = (late_of checks_end e).1
    by sends_ack e = late_of sends_ack e
    by was_closed e = (late_of was_closed e).1
    by streams e = (nothing_late s r l h (ap unsent e) link).0

-- Nothing is on any link.
module _ (pairs : List Pair) (wired : IsWired pairs) (cores : List CoreState) (links : Links) (boxes : List Inboxes) (g : Ghosts) (over : ChannelsOverLinks pairs cores links boxes g) (empty : (a b : ℕ) → link_of links a b ≡ []) where
  -- nothing is late
  pub quiet_on_time : (k : ℕ) (p : Pair) (side : Side) → slice_get pairs k ≡ Some p → g.late k side ≡ []
  quiet_on_time k p side at_k =
      none_late _ _ _ (talk_at pairs wired cores links boxes g k p side over.wires at_k).talk.homeward
      (ap (tokens_for (end_of_side p side).end) (empty (end_of_side p (other_side side)).core (end_of_side p side).core))

  -- and all is within cores
  pub quiet_local : Local pairs cores boxes g
  quiet_local = record {
    wires = same_wires pairs cores cores links no_links boxes g (λ x f. refl) (λ x y f. ap (tokens_for f) (boot_links x y ∙ sym (empty x y))) (λ c. boot_links c c) over.wires;
    balanced = record {
      ends = over.balanced.ends;
      eight = λ k p side at_k. eight_at (end_of_side p side) (end_of_side p (other_side side)) (over.balanced.eight k p side at_k);
    };
  }
    where
      eight_at : (here there : Peer) → IsEightOverLinks cores links here there → IsEight cores here there
      eight_at here there old =
          let out = ap (λ l. length (tokens_for there.end l)) (empty here.core there.core) in
          let back = ap (credits_for here.end) (empty there.core here.core) in
          omega (arith, old, out, back)
