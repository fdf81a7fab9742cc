-- One side of a channel goes on in its transfer, and the relation of all channels holds again.
use Rattle.std.proofs.Common.{◌≡◌, ◌≢◌, ◌⊎◌, inl, inr, ℕ, Bool, true, false, List, [], length, Option, Some, None, refl, sym, ap, ◌∙◌, subst, ⊎_elim, eq-eqb}
use Rattle.std.specs.Prelude.{◌&&◌, nat_eq, slice_get, slice_set}
use Rattle.std.proofs.lemmas.Bool.{cases_eq, ne_eqb}
use Rattle.std.proofs.lemmas.Option.{none-some, same_Some}
use Rattle.xs_instr.specs.declared.state.CoreState.{CoreState}
use Rattle.xs_instr.specs.declared.state.Sent.{Sent}
use Rattle.xs_instr.specs.Machine.{Machine, on_links, parts_in}
use Rattle.xc_meaning.specs.States.Channels.{Parcel, Side, first, other_side, second}
use Rattle.xc_meaning.specs.States.Worlds.{World}
use Rattle.xl_image.specs.Images.{pair_of}
use Rattle.xl_par.specs.Acquired.{Acquired}
use Rattle.xl_plan.specs.Layout.{core_of}
use Rattle.xr_simulation.specs.Images.{AreLines}
use Rattle.xr_simulation.specs.Roles.{Roles, used_by}
use Rattle.xr_simulation.specs.Runners.{Setting, Runner}
use Rattle.xr_simulation.specs.Transfers.{Transfer, owing}
use Rattle.xr_simulation.specs.Wired.{AreWired, IsLine, IsTransferring, SideIs, idle, boxes_in, in_transfer}
use Rattle.xr_simulation.proofs.Relation.CoreSteps.{same_runner}
use Rattle.xr_simulation.proofs.Relation.Seats.{role_cases, role_here, with_role}
use Rattle.xr_simulation.proofs.Relation.Lasting.{get_set_cases}
use Rattle.xr_channels.specs.Phases.{Phase, SideState, between, side_state}
use Rattle.xr_channels.specs.Channels.{Ghosts}
use Rattle.xr_channels.specs.ChannelsOverLinks.{ChannelsOverLinks}
use Rattle.xr_channels.proofs.All.Frames.{twice}
use Rattle.xr_channels.proofs.Sides.Updates.{moved_to, pick, same_side}

-- sides are the same, or not
side_cases : (x y : Side) → (x ≡ y) ⊎ (x ≢ y)
side_cases first first = inl refl
side_cases first second = inr (λ e. let no : true ≡ false = ap (same_side first) e in cc)
side_cases second first = inr (λ e. let no : true ≡ false = ap (same_side second) e in cc)
side_cases second second = inl refl

-- where a side that moves stands
moved_here : (g : Ghosts) (k : ℕ) (side : Side) (s : SideState) (late : List Parcel) → (moved_to g k side s late).side_states k side ≡ s
moved_here g k first s late = ap (λ b. pick (b && true) s (g.side_states k first)) (eq-eqb k k refl)
moved_here g k second s late = ap (λ b. pick (b && true) s (g.side_states k second)) (eq-eqb k k refl)

-- and where another one does
other_sides : (x y : Side) → x ≢ y → same_side x y ≡ false
other_sides first first ne = absurd (ne refl)
other_sides first second ne = refl
other_sides second first ne = refl
other_sides second second ne = absurd (ne refl)

not_both : (a : Bool) → (a && false) ≡ false
not_both true = refl
not_both false = refl

moved_elsewhere : (g : Ghosts) (k : ℕ) (side : Side) (s : SideState) (late : List Parcel) (j : ℕ) (x : Side) →
    ((j ≡ k) × (x ≡ side) → ⊥) → (moved_to g k side s late).side_states j x ≡ g.side_states j x
moved_elsewhere g k side s late j x ne =
    ⊎_elim
    (λ (same : j ≡ k). ap (λ b. pick b s (g.side_states j x)) (ap (λ b. nat_eq j k && b) (other_sides x side (λ e. ne (same, e))) ∙ not_both (nat_eq j k)))
    (λ (other : j ≢ k). ap (λ b. pick (b && same_side x side) s (g.side_states j x)) (ne_eqb j k other))
    (cases_eq j k)

-- What is late to the other side, likewise.

late_here : (g : Ghosts) (k : ℕ) (side : Side) (s : SideState) (late : List Parcel) →
    (moved_to g k side s late).late k (other_side side) ≡ late
late_here g k first s late = ap (λ b. pick (b && true) late (g.late k second)) (eq-eqb k k refl)
late_here g k second s late = ap (λ b. pick (b && true) late (g.late k first)) (eq-eqb k k refl)

late_elsewhere : (g : Ghosts) (k : ℕ) (side : Side) (s : SideState) (late : List Parcel) (j : ℕ) (x : Side) →
    ((j ≡ k) × (x ≡ side) → ⊥) → (moved_to g k side s late).late j (other_side x) ≡ g.late j (other_side x)
late_elsewhere g k side s late j x ne =
    ⊎_elim
    (λ (same : j ≡ k).
    let apart = other_sides (other_side x) (other_side side) (λ e. ne (same, sym (twice x) ∙ ap other_side e ∙ twice side)) in
    ap (λ b. pick b late (g.late j (other_side x))) (ap (λ b. nat_eq j k && b) apart ∙ not_both (nat_eq j k)))
    (λ (other : j ≢ k). ap (λ b. pick (b && same_side (other_side x) (other_side side)) late (g.late j (other_side x))) (ne_eqb j k other))
    (cases_eq j k)

-- one channel has one line, and one line one channel
pub one_line : (g : Setting) → AreLines g → (i j c : ℕ) → IsLine g.program i c → IsLine g.program j c → i ≡ j
one_line g lines i j c at_i at_j = (lines.wired.once i (pair_of g.program c) first j (pair_of g.program c) first (lines.line i c at_i) (lines.line j c at_j) refl).0

one_channel : (g : Setting) (line c d : ℕ) → IsLine g.program line c → IsLine g.program line d → c ≡ d
one_channel g line c d at_c at_d = same_Some c d (sym at_c ∙ at_d)

-- A thread's runner is another one, which is inside a transfer on this side of the channel, or no more; only it can be inside one there.
pub record Moves (g : Setting) (who : Roles) (c t : ℕ) (r s : Runner) (channel : ℕ) (side : Side) (phase : Phase) (late : List Parcel) : Type 0 where
  pub old : (transfer : Transfer) → r.transfer ≡ Some transfer → (transfer.channel ≡ channel) × (transfer.side ≡ side)
  pub new : (transfer : Transfer) → s.transfer ≡ Some transfer → transfer ≡ owing channel side phase late
  pub over : s.transfer ≡ None → (phase ≡ between) × (late ≡ [])
  pub mine : (d u : ℕ) → IsTransferring who d u channel side → (d ≡ c) × (u ≡ t)

module _ (g : Setting) (lines : AreLines g) (who : Roles) (m : Machine) (world : World) (h : AreWired g who m world) (c t : ℕ)
    (a : CoreState) (at_c : slice_get m.cores c ≡ Some a) (r : Runner) (hand : Option Acquired) (runs_r : who c t ≡ used_by r hand)
    (s : Runner) (hand' : Option Acquired)
    (channel : ℕ) (side : Side) (line : ℕ) (is_line : IsLine g.program line channel)
    (on_core : core_of g.program channel side ≡ c) (phase : Phase) (late : List Parcel)
    (moves : Moves g who c t r s channel side phase late) where
  abbrev who' : Roles
  who' = with_role who c t (used_by s hand')

  abbrev next : Ghosts
  next = moved_to h.ghosts line side (side_state phase false) late

  abbrev Here : (d u : ℕ) → Type 0
  Here d u = (d ≡ c) × (u ≡ t)

  -- who is inside a transfer then: the thread itself, on this side; or another one that was before
  abbrev IsNow : (d u k : ℕ) → Side → Type 0
  IsNow d u k x = (Here d u × (k ≡ channel) × (x ≡ side) × (s.transfer ≡ Some (owing channel side phase late))) ⊎
      ((Here d u → ⊥) × IsTransferring who d u k x)

  is_now : (d u k : ℕ) (x : Side) → IsTransferring who' d u k x → IsNow d u k x
  is_now d u k x i =
      ⊎_elim
      (λ here.
      let same : s ≡ i.runner = same_runner s i.runner hand' i.hand (sym here.2 ∙ i.runs) in
      let is : s.transfer ≡ Some i.transfer = ap (λ (v : Runner). v.transfer) same ∙ i.is in
      let new : i.transfer ≡ owing channel side phase late = moves.new i.transfer is in
      inl ((here.0, here.1), sym i.channel_is ∙ ap (λ (v : Transfer). v.channel) new, sym i.side_is ∙ ap (λ (v : Transfer). v.side) new, is ∙ ap Some new))
      (λ there.
      inr (
        there.0,
        record {
          runner = i.runner;
          hand = i.hand;
          runs = sym there.1 ∙ i.runs;
          transfer = i.transfer;
          is = i.is;
          channel_is = i.channel_is;
          side_is = i.side_is;
        },
      ))
      (role_cases who c t (used_by s hand') d u)

  -- another one that was inside one is so still
  abbrev still : (d u k : ℕ) (x : Side) → (Here d u → ⊥) → IsTransferring who d u k x → IsTransferring who' d u k x
  still d u k x ne i = record {
    runner = i.runner;
    hand = i.hand;
    runs = ⊎_elim (λ here. absurd (ne (here.0, here.1))) (λ there. there.1 ∙ i.runs) (role_cases who c t (used_by s hand') d u);
    transfer = i.transfer;
    is = i.is;
    channel_is = i.channel_is;
    side_is = i.side_is;
  }

  -- the thread was inside one on this side alone
  was_here : (k : ℕ) (x : Side) → IsTransferring who c t k x → (k ≡ channel) × (x ≡ side)
  was_here k x i =
      let same : r ≡ i.runner = same_runner r i.runner hand i.hand (sym runs_r ∙ i.runs) in
      let old = moves.old i.transfer (ap (λ (v : Runner). v.transfer) same ∙ i.is) in
      (sym i.channel_is ∙ old.0, sym i.side_is ∙ old.1)

  listed : (d u k : ℕ) (x : Side) → IsTransferring who' d u k x → (l : ℕ) × IsLine g.program l k × (core_of g.program k x ≡ d)
  listed d u k x i =
      ⊎_elim
      (λ own. (line, subst (IsLine g.program line) (sym own.1) is_line, ap (λ k. core_of g.program k x) own.1 ∙ ap (core_of g.program channel) own.2 ∙ on_core ∙ sym own.0.0))
      (λ other. h.listed d u k x other.1)
      (is_now d u k x i)

  -- where the sides stand
  elsewhere : (l : ℕ) (x : Side) → ((l ≡ line) × (x ≡ side) → ⊥) → next.side_states l x ≡ h.ghosts.side_states l x
  elsewhere l x ne = moved_elsewhere h.ghosts line side (side_state phase false) late l x ne

  here_is : (l : ℕ) (x : Side) → l ≡ line → x ≡ side → next.side_states l x ≡ side_state phase false
  here_is l x e f = ap (λ k. next.side_states k x) e ∙ ap (next.side_states line) f ∙ moved_here h.ghosts line side (side_state phase false) late

  late_is : (l : ℕ) (x : Side) → l ≡ line → x ≡ side → next.late l (other_side x) ≡ late
  late_is l x e f = ap (λ k. next.late k (other_side x)) e ∙ ap (λ y. next.late line (other_side y)) f ∙ late_here h.ghosts line side
      (side_state phase false) late

  -- a side of a line then
  abbrev Stands : (l k : ℕ) → Side → Type 0
  Stands l k x = SideIs g who' k x (next.side_states l x) (next.late l (other_side x))

  -- each stands as its thread does, or as before
  stances : (l k : ℕ) (x : Side) → IsLine g.program l k → Stands l k x
  stances l k x at_l = by (cases_eq l line) (side_cases x side)
    where
      away : ((l ≡ line) × (x ≡ side) → ⊥) → Stands l k x
      away ne = from (h.stances l k x at_l)
        where
          on_line : k ≡ channel → l ≡ line
          on_line e = one_line g lines l line channel (subst (IsLine g.program l) e at_l) is_line

          not_here : (d u : ℕ) → IsTransferring who d u k x → Here d u → ⊥
          not_here d u i here =
              let own = was_here k x (subst (λ v. IsTransferring who c v k x) here.1 (subst (λ v. IsTransferring who v u k x) here.0 i)) in
              ne (on_line own.0, own.1)

          from : SideIs g who k x (h.ghosts.side_states l x) (h.ghosts.late l (other_side x)) → Stands l k x
          from (in_transfer d u i core e was_late) =
              in_transfer d u (still d u k x (not_here d u i) i) core (elsewhere l x ne ∙ e)
              (late_elsewhere h.ghosts line side (side_state phase false) late l x ne ∙ was_late)
          from (idle nobody e was_late) =
              idle (λ d u i. ⊎_elim (λ own. ne (on_line own.1, own.2)) (λ other. nobody d u other.1) (is_now d u k x i))
              (elsewhere l x ne ∙ e)
              (late_elsewhere h.ghosts line side (side_state phase false) late l x ne ∙ was_late)

      by : (l ≡ line) ⊎ (l ≢ line) → (x ≡ side) ⊎ (x ≢ side) → Stands l k x
      by (inl e) (inl f) = here_stands s.transfer refl
        where
          k_is : k ≡ channel
          k_is = one_channel g line k channel (subst (λ v. IsLine g.program v k) e at_l) is_line

          here_stands : (o : Option Transfer) → s.transfer ≡ o → Stands l k x
          here_stands None none =
              idle
              (λ d u i.
              ⊎_elim
              (λ own. none-some (owing channel side phase late) (sym none ∙ own.3))
              (λ other. other.0 (moves.mine d u
              (subst (λ v. IsTransferring who d u channel v) f (subst (λ v. IsTransferring who d u v x) k_is other.1))))
              (is_now d u k x i))
              (here_is l x e f ∙ ap (λ v. side_state v false) (moves.over none).0) (late_is l x e f ∙ (moves.over none).1)
          here_stands (Some transfer) is =
              let new = moves.new transfer is in
              in_transfer c t (record {
                runner = s;
                hand = hand';
                runs = role_here who c t (used_by s hand');
                transfer = transfer;
                is = is;
                channel_is = ap (λ (v : Transfer). v.channel) new ∙ sym k_is;
                side_is = ap (λ (v : Transfer). v.side) new ∙ sym f;
              }) (ap (λ v. core_of g.program v x) k_is ∙ ap (core_of g.program channel) f ∙ on_core) (here_is l x e f ∙ ap (λ (v : Transfer). side_state v.phase false) (sym new))
              (late_is l x e f ∙ ap (λ (v : Transfer). v.late) (sym new))
      by (inl e) (inr ne) = away (λ both. ne both.1)
      by (inr ne) f = away (λ both. ne both.0)

  one : (d u d' u' k : ℕ) (x : Side) → IsTransferring who' d u k x → IsTransferring who' d' u' k x → (d' ≡ d) × (u' ≡ u)
  one d u d' u' k x i i' =
      ⊎_elim
      (λ own.
      ⊎_elim
      (λ own'. (own'.0.0 ∙ sym own.0.0, own'.0.1 ∙ sym own.0.1))
      (λ other'. absurd (other'.0 (moves.mine d' u' (subst (λ v. IsTransferring who d' u' channel v) own.2 (subst (λ v. IsTransferring who d' u' v x) own.1 other'.1)))))
      (is_now d' u' k x i'))
      (λ other.
      ⊎_elim
      (λ own'. absurd (other.0 (moves.mine d u (subst (λ v. IsTransferring who d u channel v) own'.2 (subst (λ v. IsTransferring who d u v x) own'.1 other.1)))))
      (λ other'. h.one d u d' u' k x other.1 other'.1)
      (is_now d' u' k x i'))
      (is_now d u k x i)

  -- whatever the machine is then, with as many ends
  pub wired_so : (m' : Machine) (world' : World) → length world'.inboxes ≡ length world.inboxes →
      ((d : ℕ) (b : CoreState) → slice_get m'.cores d ≡ Some b → length b.ends ≡ (parts_in g.image.cores d).ends) →
      ChannelsOverLinks g.image.chans m'.cores m'.links (boxes_in g.program world'.inboxes) next → AreWired g who' m' world'
  wired_so m' world' long ends over = record {
    ghosts = next;
    over = over;
    long = long ∙ h.long;
    ends = ends;
    listed = listed;
    stances = stances;
    one = one;
  }

  -- what the row leaves of the core's ends, and the program of the inboxes
  module _ (left : CoreState) (m' : Machine) (world' : World) (is : m'.cores ≡ slice_set m.cores c left) (sent : List Sent)
      (links_are : m'.links ≡ on_links m.links c sent) where
    ends_still : length left.ends ≡ length a.ends → (d : ℕ) (b : CoreState) → slice_get m'.cores d ≡ Some b →
        length b.ends ≡ (parts_in g.image.cores d).ends
    ends_still size d b at =
        ⊎_elim
        (λ (set : (d ≡ c) × (b ≡ left)). ap (λ (v : CoreState). length v.ends) set.1 ∙ size ∙ h.ends c a at_c ∙ ap (λ k. (parts_in g.image.cores k).ends) (sym set.0))
        (λ (old : (d ≢ c) × (slice_get m.cores d ≡ Some b)). h.ends d b old.1)
        (get_set_cases m.cores c d a left b at_c (ap (λ l. slice_get l d) (sym is) ∙ at))

    pub wired_moves : length left.ends ≡ length a.ends → length world'.inboxes ≡ length world.inboxes →
        ChannelsOverLinks g.image.chans (slice_set m.cores c left) (on_links m.links c sent) (boxes_in g.program world'.inboxes)
        (moved_to h.ghosts line side (side_state phase false) late) → AreWired g (with_role who c t (used_by s hand')) m' world'
    wired_moves size long over =
        wired_so m' world' long (ends_still size)
        (subst (λ l. ChannelsOverLinks g.image.chans l m'.links (boxes_in g.program world'.inboxes) next) (sym is)
        (subst (λ l. ChannelsOverLinks g.image.chans (slice_set m.cores c left) l (boxes_in g.program world'.inboxes) next) (sym links_are) over))
