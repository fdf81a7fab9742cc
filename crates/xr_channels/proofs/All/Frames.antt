-- One channel changes, and what stands between the sides of the others stays.
use Rattle.std.proofs.Common.{◌≡◌, ◌<◌, ◌≢◌, ℕ, suc, zero, List, [], ◌∷◌, ◌++◌, length, Some, refl, sym, ap, ◌∙◌, subst, arith, append_assoc, append-nil, inl, inr}
use Rattle.std.specs.Prelude.{◌⊎◌, slice_get, slice_set, slice_index_or}
use Rattle.xs_instr.specs.declared.image.Pair.{Pair}
use Rattle.xs_instr.specs.declared.state.CoreState.{CoreState}
use Rattle.xs_instr.specs.declared.state.Token.{Token}
use Rattle.xs_instr.specs.Ends.{Peer}
use Rattle.xs_instr.specs.Machine.{link_of}
use Rattle.xc_meaning.specs.States.Channels.{Parcel, Side, first, second, other_side, Inboxes, no_parcels, parcels_at, with_parcels}
use Rattle.xr_channels.specs.Phases.{SideState, encodes, unsent, ahead, Direction, TransitRel}
use Rattle.xr_channels.specs.ChannelRel.{ChannelRel}
pub use Rattle.xr_channels.specs.ChannelSteps.{parcels, boxed}
use Rattle.xr_channels.specs.Channels.{Links, tokens_at, tokens_for, end_of_side, Ghosts, direction_to, ChannelRelAt, Channels, IsWired}
use Rattle.xr_channels.proofs.Laws.FreshRows.{AfterSending, stands_flip}
use Rattle.xr_channels.proofs.Tokens.Views.{same_num}
use Rattle.xr_channels.proofs.Tokens.Changes.{Changed, Sends, near, far}

-- inboxes

-- inboxes that are written
pub get_box : (boxes : List Inboxes) (k : ℕ) (b : Inboxes) → k < length boxes → slice_index_or (slice_set boxes k b) k no_parcels ≡ b
get_box [] k b lt = absurd (omega arith)
get_box (x ∷ boxes) zero b lt = refl
get_box (x ∷ boxes) (suc k) b lt = get_box boxes k b (omega arith)

-- those of another channel
pub get_box_other : (boxes : List Inboxes) (k j : ℕ) (b : Inboxes) → k ≢ j → slice_index_or (slice_set boxes k b) j no_parcels ≡ slice_index_or boxes j no_parcels
get_box_other [] k j b ne = refl
get_box_other (x ∷ boxes) zero zero b ne = absurd (ne refl)
get_box_other (x ∷ boxes) zero (suc j) b ne = refl
get_box_other (x ∷ boxes) (suc k) zero b ne = refl
get_box_other (x ∷ boxes) (suc k) (suc j) b ne = get_box_other boxes k j b (λ e. ne (ap suc e))

-- there are as many
pub length_box : (boxes : List Inboxes) (k : ℕ) (b : Inboxes) → length (slice_set boxes k b) ≡ length boxes
length_box [] k b = refl
length_box (x ∷ boxes) zero b = refl
length_box (x ∷ boxes) (suc k) b = ap suc (length_box boxes k b)

-- the parcels of a side that is written
with_here : (b : Inboxes) (side : Side) (ps : List Parcel) → parcels_at (with_parcels b side ps) side ≡ ps
with_here b first ps = refl
with_here b second ps = refl

-- those of the other side
with_there : (b : Inboxes) (side : Side) (ps : List Parcel) → parcels_at (with_parcels b side ps) (other_side side) ≡ parcels_at b (other_side side)
with_there b first ps = refl
with_there b second ps = refl

-- the other side of the other side
pub twice : (side : Side) → other_side (other_side side) ≡ side
twice first = refl
twice second = refl

-- the inbox that is written
pub boxed_here : (boxes : List Inboxes) (k : ℕ) (side : Side) (ps : List Parcel) → k < length boxes → parcels (boxed boxes k side ps) k side ≡ ps
boxed_here boxes k side ps lt = ap (λ b. parcels_at b side) (get_box boxes k _ lt) ∙ with_here (slice_index_or boxes k no_parcels) side ps

-- the one at the other side
pub boxed_there : (boxes : List Inboxes) (k : ℕ) (side : Side) (ps : List Parcel) → k < length boxes → parcels (boxed boxes k side ps) k (other_side side) ≡ parcels boxes k (other_side side)
boxed_there boxes k side ps lt = ap (λ b. parcels_at b (other_side side)) (get_box boxes k _ lt) ∙ with_there (slice_index_or boxes k no_parcels) side ps

-- Only this channel's inboxes and ghosts change.
pub record OnlyAt (k : ℕ) (old new : List Inboxes) (g g' : Ghosts) : Type 0 where
  pub side_states : (j : ℕ) (side : Side) → k ≢ j → g'.side_states j side ≡ g.side_states j side
  pub late : (j : ℕ) (side : Side) → k ≢ j → g'.late j side ≡ g.late j side
  pub boxes : (j : ℕ) → k ≢ j → slice_index_or new j no_parcels ≡ slice_index_or old j no_parcels
  pub size : length new ≡ length old

-- a line by its parts
pub line_is : (b b' t t' : List Token) (i i' l l' : List Parcel) → b ≡ b' → t ≡ t' → i ≡ i' → l ≡ l' → ◌≡◌ {A = Direction} (record { buffer = b; link = t; inbox = i; late = l }) (record { buffer = b'; link = t'; inbox = i'; late = l' })
line_is b b' t t' i i' l l' p q r s = rw (p, q, r, s) refl

-- what stands, by its parts
pub stands_is : (s s' r r' : SideState) (go go' come come' : Direction) → s ≡ s' → r ≡ r' → go ≡ go' → come ≡ come' → ChannelRel s r go come → ChannelRel s' r' go' come'
stands_is s s' r r' go go' come come' p q x y h =
    subst (λ v. ChannelRel v r' go' come') p (subst (λ v. ChannelRel s v go' come') q (subst (λ v. ChannelRel s r v come') x (subst (λ v. ChannelRel s r go v) y h)))

-- what stands after tokens were sent, by its parts
pub sent_is : (s s' r r' : SideState) (go go' come come' : Direction) (ks : List Token) (is_near : Type 0) → s ≡ s' → r ≡ r' → go ≡ go' → come ≡ come' → AfterSending s r go come ks is_near → AfterSending s' r' go' come' ks is_near
sent_is s s' r r' go go' come come' ks is_near p q x y h =
    subst (λ v. AfterSending v r' go' come' ks is_near) p (subst (λ v. AfterSending s v go' come' ks is_near) q (subst (λ v. AfterSending s r v come' ks is_near) x (subst (λ v. AfterSending s r go v ks is_near) y h)))

module _ (pairs : List Pair) (wired : IsWired pairs) where
  -- a channel seen from either side
  pub talk_at : (cores : List CoreState) (links : Links) (boxes : List Inboxes) (g : Ghosts) (k : ℕ) (p : Pair) (side : Side) → Channels pairs cores links boxes g → slice_get pairs k ≡ Some p → ChannelRelAt cores links boxes g p k side
  talk_at cores links boxes g k p first h at_k = h.talks k p at_k
  talk_at cores links boxes g k p second h at_k = stands_flip _ _ _ _ (h.talks k p at_k)

  -- and back to its first side
  pub from_side : (cores : List CoreState) (links : Links) (boxes : List Inboxes) (g : Ghosts) (k : ℕ) (p : Pair) (side : Side) → ChannelRelAt cores links boxes g p k side → ChannelRelAt cores links boxes g p k first
  from_side cores links boxes g k p first h = h
  from_side cores links boxes g k p second h = stands_flip _ _ _ _ h

  -- the two sides are two
  side_other : (side : Side) → side ≡ other_side side → ⊥
  side_other first e = let no : ◌≡◌ {A = ℕ} 0 1 = ap number e in absurd (omega arith)
    where
      number : Side → ℕ
      number first = 0
      number second = 1
  side_other second e = let no : ◌≡◌ {A = ℕ} 1 0 = ap number e in absurd (omega arith)
    where
      number : Side → ℕ
      number first = 0
      number second = 1

  -- the two ends of a channel are two
  pub two_ends : (k : ℕ) (p : Pair) (side : Side) → slice_get pairs k ≡ Some p → end_of_side p side ≢ end_of_side p (other_side side)
  two_ends k p side at_k e = side_other side (wired.once k p side k p (other_side side) at_k at_k e).1

  module _ (cores : List CoreState) (links : Links) (boxes : List Inboxes) (g : Ghosts) (h : Channels pairs cores links boxes g) (k : ℕ) (p : Pair) (side : Side) (at_k : slice_get pairs k ≡ Some p) (cores' : List CoreState) (links' : Links) (boxes' : List Inboxes) (g' : Ghosts) where
    -- the channel stands again, and nothing else has changed
    pub wires_next : (x : Side) → Changed cores links cores' links' (end_of_side p x) → OnlyAt k boxes boxes' g g' → ((s : Side) → (end_of_side p s).core ≡ (end_of_side p (other_side s)).core → g'.late k s ≡ []) → ChannelRelAt cores' links' boxes' g' p k side → Channels pairs cores' links' boxes' g'
    wires_next x ch only prompt t = record {
      talks = λ j p' at_j. by j p' at_j (same_num k j);
      boxes = λ j p' at_j. let old = h.boxes j p' at_j in let size = only.size in omega (arith, old, size);
      prompt = λ j p' s at_j. prompt_at j p' s at_j (same_num k j);
      selves = ch.selves;
    }
      where
        is_pair : (a b : Pair) → Some a ≡ Some b → a ≡ b
        is_pair a b z = cc

        prompt_at : (j : ℕ) (p' : Pair) (s : Side) → slice_get pairs j ≡ Some p' → (k ≡ j) ⊎ (k ≢ j) → (end_of_side p' s).core ≡ (end_of_side p' (other_side s)).core → g'.late j s ≡ []
        prompt_at j p' s at_j (inr ne) same = only.late j s ne ∙ h.prompt j p' s at_j same
        prompt_at j p' s at_j (inl e) same =
            let at_k' = subst (λ v. slice_get pairs v ≡ Some p') (sym e) at_j in
            let is_p : p ≡ p' = is_pair p p' (sym at_k ∙ at_k') in
            ap (λ v. g'.late v s) (sym e) ∙ prompt s (subst (λ (v : Pair). (end_of_side v s).core ≡ (end_of_side v (other_side s)).core) (sym is_p) same)

        same_line : (j : ℕ) (p' : Pair) (s : Side) → slice_get pairs j ≡ Some p' → k ≢ j → direction_to cores links boxes g p' j s ≡ direction_to cores' links' boxes' g' p' j s
        same_line j p' s at_j ne =
            let away : end_of_side p' s ≢ end_of_side p x = λ e. ne (sym (wired.once j p' s k p x at_j at_k e).0) in
            line_is _ _ _ _ _ _ _ _ (sym (ch.buffers (end_of_side p' s).core (end_of_side p' s).end away)) (sym (ch.ways (end_of_side p' (other_side s)).core (end_of_side p' s).core (end_of_side p' s).end away)) (sym (ap (λ b. parcels_at b s) (only.boxes j ne))) (sym (only.late j s ne))

        by : (j : ℕ) (p' : Pair) → slice_get pairs j ≡ Some p' → (k ≡ j) ⊎ (k ≢ j) → ChannelRelAt cores' links' boxes' g' p' j first
        by j p' at_j (inl e) =
            let at_k' = subst (λ v. slice_get pairs v ≡ Some p') (sym e) at_j in
            let same : p ≡ p' = some_is p p' (sym at_k ∙ at_k') in
            subst (λ v. ChannelRelAt cores' links' boxes' g' p' v first) e (subst (λ v. ChannelRelAt cores' links' boxes' g' v k first) same (from_side cores' links' boxes' g' k p side t))
          where
            some_is : (a b : Pair) → Some a ≡ Some b → a ≡ b
            some_is a b z = cc
        by j p' at_j (inr ne) = stands_is _ _ _ _ _ _ _ _ (sym (only.side_states j first ne)) (sym (only.side_states j second ne)) (same_line j p' second at_j ne) (same_line j p' first at_j ne) (h.talks j p' at_j)

-- on time, all tokens of a link come at once
pub all_come : (s r : SideState) (go come : Direction) (ks : List Token) → go.late ≡ [] → go.link ≡ ks → TransitRel s r go come → TransitRel s r (record go { buffer = go.buffer ++ ks; link = [] }) come
all_come s r go come ks on_time e h =
    let o = h.outward in
    let all : go.link ++ unsent s.phase ≡ o.more = o.coming ∙ ap (λ l. o.more ++ encodes l) on_time ∙ append-nil o.more in
    record {
      outward = record {
        more = unsent s.phase;
        coming = sym (append-nil (unsent s.phase)) ∙ ap (λ l. unsent s.phase ++ encodes l) (sym on_time);
        come = ap (λ l. ahead r.phase ++ l) (append_assoc go.buffer ks (unsent s.phase) ∙ ap (λ l. go.buffer ++ l) (ap (λ l. l ++ unsent s.phase) (sym e) ∙ all)) ∙ o.come;
        path = o.path;
        late = o.late;
      };
      homeward = h.homeward;
      mine = h.mine;
      theirs = h.theirs;
    }

module _ (pairs : List Pair) (wired : IsWired pairs) (cores : List CoreState) (links : Links) (boxes : List Inboxes) (g : Ghosts) (h : Channels pairs cores links boxes g) (k : ℕ) (p : Pair) (side : Side) (at_k : slice_get pairs k ≡ Some p) (cores' : List CoreState) (links' : Links) (boxes' : List Inboxes) (g' : Ghosts) (only : OnlyAt k boxes boxes' g g') (prompt : (s : Side) → (end_of_side p s).core ≡ (end_of_side p (other_side s)).core → g'.late k s ≡ []) where
  -- the two lines as they were, with the parcels and ghosts as they are
  abbrev pub go_now : List Token → Direction
  go_now ks = record {
    buffer = tokens_at cores (end_of_side p (other_side side)).core (end_of_side p (other_side side)).end;
    link = tokens_for (end_of_side p (other_side side)).end (link_of links (end_of_side p (other_side (other_side side))).core (end_of_side p (other_side side)).core) ++ ks;
    inbox = parcels boxes' k (other_side side);
    late = g'.late k (other_side side);
  }

  -- the line to the own end
  abbrev pub come_now : List Token → Direction
  come_now tokens = record {
    buffer = tokens;
    link = tokens_for (end_of_side p side).end (link_of links (end_of_side p (other_side side)).core (end_of_side p side).core);
    inbox = parcels boxes' k side;
    late = g'.late k side;
  }

  -- the tokens at the own end
  abbrev pub here_now : List Token
  here_now = tokens_at cores (end_of_side p side).core (end_of_side p side).end

  -- the two ends are two
  my_end : end_of_side p side ≢ end_of_side p (other_side side)
  my_end = two_ends pairs wired k p side at_k

  -- the other end of the other end
  way_back : (s : Side) → end_of_side p (other_side (other_side s)) ≡ end_of_side p s
  way_back s = ap (end_of_side p) (twice s)

  -- a step that sends tokens to the peer
  pub sends_wires : (ks : List Token) → Changed cores links cores' links' (end_of_side p (other_side side)) → Sends cores links cores' links' (end_of_side p side).core (end_of_side p (other_side side)) ks → AfterSending (g'.side_states k side) (g'.side_states k (other_side side)) (go_now ks) (come_now here_now) ks ((end_of_side p (other_side side)).core ≡ (end_of_side p side).core) → Channels pairs cores' links' boxes' g'
  sends_wires ks ch sent t =
      wires_next pairs wired cores links boxes g h k p side at_k cores' links' boxes' g' (other_side side) ch only prompt (by sent)
    where
      core_back : (end_of_side p (other_side (other_side side))).core ≡ (end_of_side p side).core
      core_back = ap (λ (q : Peer). q.core) (way_back side)

      mine : come_now here_now ≡ direction_to cores' links' boxes' g' p k side
      mine = line_is _ _ _ _ _ _ _ _ (sym (ch.buffers (end_of_side p side).core (end_of_side p side).end my_end)) (sym (ch.ways (end_of_side p (other_side side)).core (end_of_side p side).core (end_of_side p side).end my_end)) refl refl

      by : Sends cores links cores' links' (end_of_side p side).core (end_of_side p (other_side side)) ks → ChannelRelAt cores' links' boxes' g' p k side
      by (far ne buffer way) =
          let out : go_now ks ≡ direction_to cores' links' boxes' g' p k (other_side side) =
          line_is _ _ _ _ _ _ _ _ (sym buffer)
          (ap (λ c. tokens_for (end_of_side p (other_side side)).end (link_of links c (end_of_side p (other_side side)).core) ++ ks) core_back ∙ sym way ∙ ap (λ c. tokens_for (end_of_side p (other_side side)).end (link_of links' c (end_of_side p (other_side side)).core)) (sym core_back))
          refl refl in
          stands_is _ _ _ _ _ _ _ _ refl refl out mine (record { talk = t.talk; fresh = t.away ne })
      by (near same buffer way) =
          let q = end_of_side p (other_side side) in
          let none : tokens_for q.end (link_of links (end_of_side p (other_side (other_side side))).core q.core) ≡ [] =
          ap (λ c. tokens_for q.end (link_of links c q.core)) (core_back ∙ sym same) ∙ ap (tokens_for q.end) (h.selves q.core) in
          let none' : tokens_for q.end (link_of links' (end_of_side p (other_side (other_side side))).core q.core) ≡ [] =
          ap (λ c. tokens_for q.end (link_of links' c q.core)) (core_back ∙ sym same) ∙ ap (tokens_for q.end) (ch.selves q.core) in
          let out : record (go_now ks) { buffer = (go_now ks).buffer ++ ks; link = [] } ≡ direction_to cores' links' boxes' g' p k (other_side side) =
          line_is _ _ _ _ _ _ _ _ (sym buffer) (sym none') refl refl in
          stands_is _ _ _ _ _ _ _ _ refl refl out mine (record { talk = all_come _ _ (go_now ks) (come_now here_now) ks (prompt (other_side side) (same ∙ sym core_back)) (ap (λ l. l ++ ks) none) t.talk; fresh = t.close same })

  -- a step that takes tokens at the own end
  pub takes_wires : (tokens : List Token) → Changed cores links cores' links' (end_of_side p side) → tokens_at cores' (end_of_side p side).core (end_of_side p side).end ≡ tokens → ((a x f : ℕ) → tokens_for f (link_of links' a x) ≡ tokens_for f (link_of links a x)) → ChannelRel (g'.side_states k side) (g'.side_states k (other_side side)) (go_now []) (come_now tokens) → Channels pairs cores' links' boxes' g'
  takes_wires tokens ch here ways t =
      wires_next pairs wired cores links boxes g h k p side at_k cores' links' boxes' g' side ch only prompt
      (stands_is _ _ _ _ _ _ _ _ refl refl
      (line_is _ _ _ _ _ _ _ _ (sym (ch.buffers (end_of_side p (other_side side)).core (end_of_side p (other_side side)).end (λ e. my_end (sym e)))) (append-nil _ ∙ sym (ways _ _ _)) refl refl)
      (line_is _ _ _ _ _ _ _ _ (sym here) (sym (ways _ _ _)) refl refl)
      t)

  -- a token comes to the other side's end
  pub goes_wires : (t : Token) (rest : List Token) → Changed cores links cores' links' (end_of_side p (other_side side)) → tokens_at cores' (end_of_side p (other_side side)).core (end_of_side p (other_side side)).end ≡ (go_now []).buffer ++ t ∷ [] → tokens_for (end_of_side p (other_side side)).end (link_of links' (end_of_side p (other_side (other_side side))).core (end_of_side p (other_side side)).core) ≡ rest → ChannelRel (g'.side_states k side) (g'.side_states k (other_side side)) (record (go_now []) { buffer = (go_now []).buffer ++ t ∷ []; link = rest }) (come_now here_now) → Channels pairs cores' links' boxes' g'
  goes_wires t rest ch there way talk =
      wires_next pairs wired cores links boxes g h k p side at_k cores' links' boxes' g' (other_side side) ch only prompt
      (stands_is _ _ _ _ _ _ _ _ refl refl
      (line_is _ _ _ _ _ _ _ _ (sym there) (sym way) refl refl)
      (line_is _ _ _ _ _ _ _ _ (sym (ch.buffers (end_of_side p side).core (end_of_side p side).end my_end)) (sym (ch.ways (end_of_side p (other_side side)).core (end_of_side p side).core (end_of_side p side).end my_end)) refl refl)
      talk)
