-- The channels are wired as before where ends and inboxes stay, and the threads are in the transfers in which they were.
use Rattle.std.proofs.Common.{◌≡◌, ◌≢◌, ℕ, List, [], false, length, Option, Some, refl, slice_set, sym, ap, ◌∙◌, subst, ⊎_elim}
use Rattle.std.specs.Prelude.{slice_get}
use Rattle.std.proofs.lemmas.Bool.{cases_eq}
use Rattle.std.proofs.lemmas.Option.{same_Some}
use Rattle.xs_instr.specs.declared.state.CoreState.{CoreState}
use Rattle.xs_instr.specs.Machine.{Machine, parts_in}
use Rattle.xc_meaning.specs.States.Channels.{Parcel, Side, other_side}
use Rattle.xc_meaning.specs.States.Worlds.{World}
use Rattle.xl_par.specs.Acquired.{Acquired}
use Rattle.xr_channels.specs.Phases.{SideState, between, side_state}
use Rattle.xr_channels.specs.Channels.{ends_in}
use Rattle.xr_channels.specs.ChannelsOverLinks.{ChannelsOverLinks}
use Rattle.xr_channels.proofs.All.OverLinks.{over_same}
use Rattle.xr_simulation.specs.Roles.{Roles, used_by}
use Rattle.xr_simulation.specs.Runners.{Setting, Runner}
use Rattle.xr_simulation.specs.Transfers.{Transfer}
use Rattle.xr_simulation.specs.Wired.{AreWired, IsLine, IsTransferring, SideIs, idle, boxes_in, in_transfer}
use Rattle.xr_simulation.proofs.Relation.CoreSteps.{same_runner}
use Rattle.xr_simulation.proofs.Relation.Lasting.{get_set_cases}
use Rattle.xl_expr.proofs.Lists.{get_set_other, get_set_same}

-- each thread is in the transfer in which it was
pub record TransfersAsBefore (who who' : Roles) : Type 0 where
  pub before : (d u : ℕ) (i : Runner) (other : Option Acquired) (transfer : Transfer) → who' d u ≡ used_by i other → i.transfer ≡ Some transfer →
      (j : Runner) × (old : Option Acquired) × (who d u ≡ used_by j old) × (j.transfer ≡ Some transfer)
  pub still : (d u : ℕ) (j : Runner) (old : Option Acquired) (transfer : Transfer) → who d u ≡ used_by j old → j.transfer ≡ Some transfer →
      (i : Runner) × (other : Option Acquired) × (who' d u ≡ used_by i other) × (i.transfer ≡ Some transfer)

-- Each thread is in the transfer in which it was.
module _ (g : Setting) (who who' : Roles) (as_before : TransfersAsBefore who who') where
  was_in : (d u c : ℕ) (side : Side) → IsTransferring who' d u c side → IsTransferring who d u c side
  was_in d u c side h =
      let k = as_before.before d u h.runner h.hand h.transfer h.runs h.is in
      record { runner = k.0; hand = k.1; runs = k.2; transfer = h.transfer; is = k.3; channel_is = h.channel_is; side_is = h.side_is }

  abbrev is_in : (d u c : ℕ) (side : Side) → IsTransferring who d u c side → IsTransferring who' d u c side
  is_in d u c side h =
      let k = as_before.still d u h.runner h.hand h.transfer h.runs h.is in
      record { runner = k.0; hand = k.1; runs = k.2; transfer = h.transfer; is = k.3; channel_is = h.channel_is; side_is = h.side_is }

  pub stance_as : (c : ℕ) (side : Side) (at : SideState) (late : List Parcel) → SideIs g who c side at late → SideIs g who' c side at late
  stance_as c side at late (in_transfer d u i core e l) = in_transfer d u (is_in d u c side i) core e l
  stance_as c side at late (idle nobody e l) = idle (λ d u i. nobody d u (was_in d u c side i)) e l

  -- the machine stands still
  pub wired_as : (m : Machine) (x y : World) → y.inboxes ≡ x.inboxes → AreWired g who m x → AreWired g who' m y
  wired_as m x y same h = record {
    ghosts = h.ghosts;
    over = subst (λ boxes. ChannelsOverLinks g.image.chans m.cores m.links (boxes_in g.program boxes) h.ghosts) (sym same) h.over;
    long = ap length same ∙ h.long;
    ends = h.ends;
    listed = λ d u c side is. h.listed d u c side (was_in d u c side is);
    stances = λ k c side on. stance_as c side (h.ghosts.side_states k side) (h.ghosts.late k (other_side side)) (h.stances k c side on);
    one = λ d u d' u' c side is also. h.one d u d' u' c side (was_in d u c side is) (was_in d' u' c side also);
  }

-- a core steps, leaves its ends, and sends nothing over links
pub wired_still : (g : Setting) (who who' : Roles) (m m' : Machine) (c : ℕ) (a b : CoreState) (x y : World) → TransfersAsBefore who who' →
    slice_get m.cores c ≡ Some a → m'.cores ≡ slice_set m.cores c b → m'.links ≡ m.links → b.ends ≡ a.ends → y.inboxes ≡ x.inboxes →
    AreWired g who m x → AreWired g who' m' y
wired_still g who who' m m' c a b x y as_before was step links_same left same h =
    wired_as g who who' as_before m' x y same (record {
      ghosts = h.ghosts;
      over = subst (λ l. ChannelsOverLinks g.image.chans m'.cores l (boxes_in g.program x.inboxes) h.ghosts) (sym links_same)
          (over_same g.image.chans m.cores m.links (boxes_in g.program x.inboxes) h.ghosts h.over m'.cores ends_same);
      long = h.long;
      ends = λ d e at.
          ⊎_elim
          (λ (set : (d ≡ c) × (e ≡ b)). ap (λ (f : CoreState). length f.ends) set.1 ∙ ap length left ∙ h.ends c a was ∙ ap
          (λ k. (parts_in g.image.cores k).ends) (sym set.0))
          (λ (old : (d ≢ c) × (slice_get m.cores d ≡ Some e)). h.ends d e old.1)
          (get_set_cases m.cores c d a b e was (ap (λ l. slice_get l d) (sym step) ∙ at));
      listed = h.listed;
      stances = h.stances;
      one = h.one;
    })
  where
    ends_same : (k : ℕ) → ends_in (slice_get m'.cores k) ≡ ends_in (slice_get m.cores k)
    ends_same k =
        ap (λ l. ends_in (slice_get l k)) step
        ∙ ⊎_elim
        (λ (is : k ≡ c). ap (λ n. ends_in (slice_get (slice_set m.cores c b) n)) is ∙ ap ends_in (get_set_same m.cores c a b was) ∙ left ∙
        ap ends_in (sym was) ∙ ap (λ n. ends_in (slice_get m.cores n)) (sym is))
        (λ (ne : k ≢ c). ap ends_in (get_set_other m.cores c k b ne))
        (cases_eq k c)

-- Where a side stands and what is late behind it, where a thread is inside a transfer there, and where none is.
module _ (g : Setting) (who : Roles) (m : Machine) (x : World) (h : AreWired g who m x) where
  module _ (core thread at : ℕ) (r : Runner) (hand : Option Acquired) (transfer : Transfer) (runs : who core thread ≡ used_by r hand)
      (is : r.transfer ≡ Some transfer) (on : IsLine g.program at transfer.channel) where
    abbrev Stood : Type 0
    Stood = (h.ghosts.side_states at transfer.side ≡ side_state transfer.phase false)
        × (h.ghosts.late at (other_side transfer.side) ≡ transfer.late)

    stood : Stood
    stood = by (h.stances at transfer.channel transfer.side on)
      where
        its : IsTransferring who core thread transfer.channel transfer.side
        its = record { runner = r; hand = hand; runs = runs; transfer = transfer; is = is; channel_is = refl; side_is = refl }

        by : SideIs g who transfer.channel transfer.side (h.ghosts.side_states at transfer.side) (h.ghosts.late at (other_side transfer.side)) → Stood
        by (in_transfer d u i on_core e late) =
            let one = h.one core thread d u transfer.channel transfer.side its i in
            let runner : r ≡ i.runner = same_runner r i.runner hand i.hand
            (sym runs ∙ sym (ap (λ k. who k u) one.0 ∙ ap (who core) one.1) ∙ i.runs) in
            let same : transfer ≡ i.transfer = same_Some transfer i.transfer (sym is ∙ ap (λ (k : Runner). k.transfer) runner ∙ i.is) in
            (e ∙ ap (λ (k : Transfer). side_state k.phase false) (sym same), late ∙ ap (λ (k : Transfer). k.late) (sym same))
        by (idle nobody e late) = absurd (nobody core thread its)

    pub wired_inside : h.ghosts.side_states at transfer.side ≡ side_state transfer.phase false
    wired_inside = stood.0

    pub late_inside : h.ghosts.late at (other_side transfer.side) ≡ transfer.late
    late_inside = stood.1

  module _ (at c : ℕ) (side : Side) (on : IsLine g.program at c) (nobody : (core thread : ℕ) → IsTransferring who core thread c side → ⊥) where
    abbrev Idles : Type 0
    Idles = (h.ghosts.side_states at side ≡ side_state between false) × (h.ghosts.late at (other_side side) ≡ [])

    idles : Idles
    idles = by (h.stances at c side on)
      where
        by : SideIs g who c side (h.ghosts.side_states at side) (h.ghosts.late at (other_side side)) → Idles
        by (in_transfer d u i on_core e late) = absurd (nobody d u i)
        by (idle none e late) = (e, late)

    pub wired_between : h.ghosts.side_states at side ≡ side_state between false
    wired_between = idles.0

    pub late_between : h.ghosts.late at (other_side side) ≡ []
    late_between = idles.1
