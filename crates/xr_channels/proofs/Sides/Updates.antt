-- What a step writes down of a channel: where a side stands, what is late, and the parcels; and what then stands between the sides.
use Rattle.std.proofs.Common.{◌≡◌, ◌<◌, ◌≢◌, ℕ, Bool, true, false, List, [], ◌∷◌, ◌++◌, length, Some, refl, sym, ap, ◌∙◌, subst, arith, append-nil, eq-eqb, inl, inr}
use Rattle.std.specs.Prelude.{◌⊎◌, slice_get, slice_index_or, nat_eq, ◌&&◌}
use Rattle.xs_instr.specs.declared.image.Pair.{Pair}
use Rattle.xs_instr.specs.declared.state.CoreState.{CoreState}
use Rattle.xs_instr.specs.declared.state.Token.{Token}
use Rattle.xs_instr.specs.Machine.{link_of}
use Rattle.xc_meaning.specs.States.Channels.{Parcel, Side, first, second, other_side, Inboxes, no_parcels}
use Rattle.xr_channels.specs.Phases.{SideState, Direction}
use Rattle.xr_channels.specs.ChannelRel.{ChannelRel}
pub use Rattle.xr_channels.specs.ChannelSteps.{same_side, pick, moved_to}
use Rattle.xr_channels.specs.Channels.{Links, tokens_at, tokens_for, end_of_side, Ghosts, direction_to, Channels, IsWired}
use Rattle.xr_channels.proofs.Tokens.Views.{same_num, num_other}
use Rattle.xr_channels.proofs.Tokens.Changes.{Changed, Sends}
use Rattle.xr_channels.proofs.Laws.FreshRows.{AfterSending}
use Rattle.xr_channels.proofs.All.Frames.{parcels, boxed, boxed_here, boxed_there, length_box, get_box_other, twice, OnlyAt, stands_is, sent_is, line_is, talk_at, sends_wires, takes_wires, goes_wires}

-- The channel's parts afterwards.
pub record Update (k : ℕ) (side : Side) (old new : List Inboxes) (g g' : Ghosts) (s : SideState) (there here late : List Parcel) : Type 0 where
  pub only : OnlyAt k old new g g'
  pub spot_is : g'.side_states k side ≡ s
  pub other_is : g'.side_states k (other_side side) ≡ g.side_states k (other_side side)
  pub there_is : parcels new k (other_side side) ≡ there
  pub here_is : parcels new k side ≡ here
  pub late_is : g'.late k (other_side side) ≡ late
  pub back_is : g'.late k side ≡ g.late k side

-- neither, by the first test
both_false : {A : Type 0} (b : Bool) (x y : A) → pick (false && b) x y ≡ y
both_false true x y = refl
both_false false x y = refl

-- neither, by the second test
both_right : {A : Type 0} (b : Bool) (x y : A) → pick (b && false) x y ≡ y
both_right true x y = refl
both_right false x y = refl

-- at the side itself
pick_here : {A : Type 0} (k : ℕ) (side : Side) (x y : A) → pick (nat_eq k k && same_side side side) x y ≡ x
pick_here k first x y = ap (λ b. pick (b && true) x y) (eq-eqb k k refl)
pick_here k second x y = ap (λ b. pick (b && true) x y) (eq-eqb k k refl)

-- at the other side
pick_there : {A : Type 0} (k : ℕ) (side : Side) (x y : A) → pick (nat_eq k k && same_side (other_side side) side) x y ≡ y
pick_there k first x y = ap (λ b. pick (b && false) x y) (eq-eqb k k refl)
pick_there k second x y = ap (λ b. pick (b && false) x y) (eq-eqb k k refl)

-- of what is late, at the side itself
pick_back : {A : Type 0} (k : ℕ) (side : Side) (x y : A) → pick (nat_eq k k && same_side side (other_side side)) x y ≡ y
pick_back k first x y = ap (λ b. pick (b && false) x y) (eq-eqb k k refl)
pick_back k second x y = ap (λ b. pick (b && false) x y) (eq-eqb k k refl)

module _ (g : Ghosts) (k : ℕ) (side : Side) (s : SideState) (late : List Parcel) where
  -- another channel's spots
  only_spots : (j : ℕ) (x : Side) → k ≢ j → (moved_to g k side s late).side_states j x ≡ g.side_states j x
  only_spots j x ne = ap (λ b. pick (b && same_side x side) s (g.side_states j x)) (num_other j k (λ e. ne (sym e))) ∙ both_false (same_side x side) s (g.side_states j x)

  -- and what is late there
  only_late : (j : ℕ) (x : Side) → k ≢ j → (moved_to g k side s late).late j x ≡ g.late j x
  only_late j x ne = ap (λ b. pick (b && same_side x (other_side side)) late (g.late j x)) (num_other j k (λ e. ne (sym e))) ∙ both_false (same_side x (other_side side)) late (g.late j x)

  -- the side itself, and each other one
  pub spot_moved : (moved_to g k side s late).side_states k side ≡ s
  spot_moved = pick_here k side s (g.side_states k side)

  -- another side stands where it stood
  pub spot_stays : (j : ℕ) (x : Side) → (k ≡ j → side ≢ x) → (moved_to g k side s late).side_states j x ≡ g.side_states j x
  spot_stays j x ne = by (same_num k j) side x refl refl
    where
      by : (k ≡ j) ⊎ (k ≢ j) → (a b : Side) → side ≡ a → x ≡ b → (moved_to g k side s late).side_states j x ≡ g.side_states j x
      by (inr n) a b p q = only_spots j x n
      by (inl e) first first p q = absurd (ne e (p ∙ sym q))
      by (inl e) second second p q = absurd (ne e (p ∙ sym q))
      by (inl e) first second p q = ap (λ y. pick (nat_eq j k && same_side y side) s (g.side_states j x)) q ∙ ap (λ y. pick (nat_eq j k && same_side second y) s (g.side_states j x)) p ∙ both_right (nat_eq j k) s (g.side_states j x)
      by (inl e) second first p q = ap (λ y. pick (nat_eq j k && same_side y side) s (g.side_states j x)) q ∙ ap (λ y. pick (nat_eq j k && same_side first y) s (g.side_states j x)) p ∙ both_right (nat_eq j k) s (g.side_states j x)

  -- other inboxes, of this channel alone
  pub updated : (old new : List Inboxes) → ((j : ℕ) → k ≢ j → slice_index_or new j no_parcels ≡ slice_index_or old j no_parcels) → length new ≡ length old → Update k side old new g (moved_to g k side s late) s (parcels new k (other_side side)) (parcels new k side) late
  updated old new others size = record {
    only = record { side_states = only_spots; late = only_late; boxes = others; size = size };
    spot_is = pick_here k side s (g.side_states k side);
    other_is = pick_there k side s (g.side_states k (other_side side));
    there_is = refl;
    here_is = refl;
    late_is = pick_here k (other_side side) late (g.late k (other_side side));
    back_is = pick_back k side late (g.late k side);
  }

  -- no parcel moves
  pub still : (boxes : List Inboxes) → Update k side boxes boxes g (moved_to g k side s late) s (parcels boxes k (other_side side)) (parcels boxes k side) late
  still boxes = updated boxes boxes (λ j ne. refl) refl

  -- by other names of the parts
  change : (a b c d : List Parcel) (old new : List Inboxes) → a ≡ b → c ≡ d → Update k side old new g (moved_to g k side s late) s a c late → Update k side old new g (moved_to g k side s late) s b d late
  change a b c d old new e f u = subst (λ x. Update k side old new g (moved_to g k side s late) s x d late) e (subst (λ x. Update k side old new g (moved_to g k side s late) s a x late) f u)

  -- a parcel is put at the other side
  pub puts : (boxes : List Inboxes) (ps : List Parcel) → k < length boxes → Update k side boxes (boxed boxes k (other_side side) ps) g (moved_to g k side s late) s ps (parcels boxes k side) late
  puts boxes ps lt =
      change _ _ _ _ boxes (boxed boxes k (other_side side) ps) (boxed_here boxes k (other_side side) ps lt)
      (ap (parcels (boxed boxes k (other_side side) ps) k) (sym (twice side)) ∙ boxed_there boxes k (other_side side) ps lt ∙ ap (parcels boxes k) (twice side))
      (updated boxes (boxed boxes k (other_side side) ps) (λ j ne. get_box_other boxes k j _ ne) (length_box boxes k _))

  -- the own inbox has other parcels
  pub reads_on : (boxes : List Inboxes) (ps : List Parcel) → k < length boxes → Update k side boxes (boxed boxes k side ps) g (moved_to g k side s late) s (parcels boxes k (other_side side)) ps late
  reads_on boxes ps lt =
      change _ _ _ _ boxes (boxed boxes k side ps) (boxed_there boxes k side ps lt) (boxed_here boxes k side ps lt)
      (updated boxes (boxed boxes k side ps) (λ j ne. get_box_other boxes k j _ ne) (length_box boxes k _))

  -- both
  pub reads_and_puts : (boxes : List Inboxes) (ps qs : List Parcel) → k < length boxes → Update k side boxes (boxed (boxed boxes k side ps) k (other_side side) qs) g (moved_to g k side s late) s qs ps late
  reads_and_puts boxes ps qs lt =
      let mid = boxed boxes k side ps in
      let size : length mid ≡ length boxes = length_box boxes k _ in
      let lt' : k < length mid = omega (arith, size, lt) in
      change _ _ _ _ boxes (boxed mid k (other_side side) qs) (boxed_here mid k (other_side side) qs lt')
      (ap (parcels (boxed mid k (other_side side) qs) k) (sym (twice side)) ∙ boxed_there mid k (other_side side) qs lt' ∙ ap (parcels mid k) (twice side) ∙ boxed_here boxes k side ps lt)
      (updated boxes (boxed mid k (other_side side) qs) (λ j ne. get_box_other mid k j _ ne ∙ get_box_other boxes k j _ ne) (length_box mid k _ ∙ size))

-- A row, and the program's step with it.
module _ (pairs : List Pair) (wired : IsWired pairs) (cores : List CoreState) (links : Links) (boxes : List Inboxes) (g : Ghosts) (h : Channels pairs cores links boxes g) (k : ℕ) (p : Pair) (side : Side) (at_k : slice_get pairs k ≡ Some p) where
  -- the lines as they stand
  abbrev pub go_line : Direction
  go_line = direction_to cores links boxes g p k (other_side side)

  -- the line to this side
  abbrev pub come_line : Direction
  come_line = direction_to cores links boxes g p k side

  -- what stands
  pub stands_now : ChannelRel (g.side_states k side) (g.side_states k (other_side side)) go_line come_line
  stands_now = talk_at pairs wired cores links boxes g k p side h at_k

  -- with the side's spot by name
  pub at_spot : (s : SideState) → g.side_states k side ≡ s → ChannelRel s (g.side_states k (other_side side)) go_line come_line
  at_spot s e = subst (λ v. ChannelRel v (g.side_states k (other_side side)) go_line come_line) e stands_now

  module _ (cores' : List CoreState) (links' : Links) (boxes' : List Inboxes) (g' : Ghosts) (s : SideState) (there here late : List Parcel) (u : Update k side boxes boxes' g g' s there here late) (on_time : (end_of_side p (other_side side)).core ≡ (end_of_side p side).core → late ≡ []) where
    -- within a core nothing is late
    prompt : (x : Side) → (end_of_side p x).core ≡ (end_of_side p (other_side x)).core → g'.late k x ≡ []
    prompt x = by side x refl
      where
        mine : (end_of_side p side).core ≡ (end_of_side p (other_side side)).core → g'.late k side ≡ []
        mine e = u.back_is ∙ h.prompt k p side at_k e

        theirs : (end_of_side p (other_side side)).core ≡ (end_of_side p side).core → g'.late k (other_side side) ≡ []
        theirs e = u.late_is ∙ on_time e

        by : (a y : Side) → side ≡ a → (end_of_side p y).core ≡ (end_of_side p (other_side y)).core → g'.late k y ≡ []
        by first first e z = subst (λ v. (end_of_side p v).core ≡ (end_of_side p (other_side v)).core → g'.late k v ≡ []) e mine z
        by first second e z = subst (λ v. (end_of_side p (other_side v)).core ≡ (end_of_side p v).core → g'.late k (other_side v) ≡ []) e theirs z
        by second first e z = subst (λ v. (end_of_side p (other_side v)).core ≡ (end_of_side p v).core → g'.late k (other_side v) ≡ []) e theirs z
        by second second e z = subst (λ v. (end_of_side p v).core ≡ (end_of_side p (other_side v)).core → g'.late k v ≡ []) e mine z

    -- tokens go out
    pub sends_next : (ks : List Token) → Changed cores links cores' links' (end_of_side p (other_side side)) → Sends cores links cores' links' (end_of_side p side).core (end_of_side p (other_side side)) ks → AfterSending s (g.side_states k (other_side side)) (record { buffer = go_line.buffer; link = go_line.link ++ ks; inbox = there; late = late }) (record come_line { inbox = here }) ks ((end_of_side p (other_side side)).core ≡ (end_of_side p side).core) → Channels pairs cores' links' boxes' g'
    sends_next ks ch sent t =
        sends_wires pairs wired cores links boxes g h k p side at_k cores' links' boxes' g' u.only prompt ks ch sent
        (sent_is _ _ _ _ _ _ _ _ ks _ (sym u.spot_is) (sym u.other_is) (line_is _ _ _ _ _ _ _ _ refl refl (sym u.there_is) (sym u.late_is)) (line_is _ _ _ _ _ _ _ _ refl refl (sym u.here_is) (sym u.back_is)) t)

    -- tokens are taken
    pub takes_next : (tokens : List Token) → Changed cores links cores' links' (end_of_side p side) → tokens_at cores' (end_of_side p side).core (end_of_side p side).end ≡ tokens → ((a x f : ℕ) → tokens_for f (link_of links' a x) ≡ tokens_for f (link_of links a x)) → ChannelRel s (g.side_states k (other_side side)) (record { buffer = go_line.buffer; link = go_line.link; inbox = there; late = late }) (record come_line { buffer = tokens; inbox = here }) → Channels pairs cores' links' boxes' g'
    takes_next tokens ch got ways t =
        takes_wires pairs wired cores links boxes g h k p side at_k cores' links' boxes' g' u.only prompt tokens ch got ways
        (stands_is _ _ _ _ _ _ _ _ (sym u.spot_is) (sym u.other_is) (line_is _ _ _ _ _ _ _ _ refl (sym (append-nil _)) (sym u.there_is) (sym u.late_is)) (line_is _ _ _ _ _ _ _ _ refl refl (sym u.here_is) (sym u.back_is)) t)

    -- a token comes to the other side
    pub goes_next : (t : Token) (rest : List Token) → Changed cores links cores' links' (end_of_side p (other_side side)) → tokens_at cores' (end_of_side p (other_side side)).core (end_of_side p (other_side side)).end ≡ go_line.buffer ++ t ∷ [] → tokens_for (end_of_side p (other_side side)).end (link_of links' (end_of_side p (other_side (other_side side))).core (end_of_side p (other_side side)).core) ≡ rest → ChannelRel s (g.side_states k (other_side side)) (record { buffer = go_line.buffer ++ t ∷ []; link = rest; inbox = there; late = late }) (record come_line { inbox = here }) → Channels pairs cores' links' boxes' g'
    goes_next t rest ch got way talk =
        goes_wires pairs wired cores links boxes g h k p side at_k cores' links' boxes' g' u.only prompt t rest ch got way
        (stands_is _ _ _ _ _ _ _ _ (sym u.spot_is) (sym u.other_is) (line_is _ _ _ _ _ _ _ _ refl refl (sym u.there_is) (sym u.late_is)) (line_is _ _ _ _ _ _ _ _ refl refl (sym u.here_is) (sym u.back_is)) talk)
