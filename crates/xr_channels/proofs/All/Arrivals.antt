-- What comes over a link, and what is put late.
use Rattle.std.proofs.Common.{◌≡◌, ◌<◌, ◌≢◌, ℕ, Bool, true, false, List, [], ◌∷◌, ◌++◌, Some, refl, sym, ap, ◌∙◌, subst, inl, inr}
use Rattle.std.specs.Prelude.{◌⊎◌, slice_get, slice_set}
use Rattle.xs_instr.specs.declared.image.Pair.{Pair}
use Rattle.xs_instr.specs.declared.state.CoreState.{CoreState}
use Rattle.xs_instr.specs.declared.state.Item.{Item}
use Rattle.xs_instr.specs.declared.state.Moved.TheVariants.{Tok, Credit}
use Rattle.xs_instr.specs.declared.state.Token.{Token}
use Rattle.xs_instr.specs.Ends.{Peer}
use Rattle.xs_instr.specs.Machine.{link_of, link_put, came}
use Rattle.xc_meaning.specs.States.Channels.{Parcel, offer, opening, word, closing, taken, Side, first, second, other_side, Inboxes}
use Rattle.xr_channels.specs.Phases.{offers, opens, closes, Phase, between, sends_end, awaits_ack, checks_end, sends_ack, was_closed, streams, SideState, side_state, LateBy, AreWords, Path, answers, switches_mode, reads_by, Direction, TransitRel, Question}
use Rattle.xr_channels.specs.ChannelRel.{QuestionsArrived, ChannelRel}
pub use Rattle.xr_channels.specs.ChannelSteps.{LateKind, late_offer, late_opening, late_word}
use Rattle.xr_channels.specs.Channels.{Links, tokens_at, tokens_for, end_of_side, Ghosts, Channels, IsWired}
use Rattle.xr_channels.proofs.Sides.Late.{puts_first, put_then_comes, comes_first, token_comes}
use Rattle.xr_channels.proofs.Tokens.Lines.{put_late, come_on}
use Rattle.xr_channels.proofs.Sides.Found.{is_taken}
use Rattle.xr_channels.proofs.Tokens.Views.{IsEnd, Square}
use Rattle.xr_channels.proofs.Tokens.Changes.{peer, Changed, IsSelfless, token_comes_to, credit_comes}
use Rattle.xr_channels.proofs.Tokens.Locals.{same_wires}
use Rattle.xr_channels.proofs.Laws.FreshRows.{trap_fresh, token_fresh, late_fresh}
use Rattle.xr_channels.proofs.All.Frames.{parcels, boxed, twice}
use Rattle.xr_channels.proofs.Sides.Updates.{at_spot, stands_now, moved_to, Update, puts, takes_next, goes_next, go_line, come_line, stands_now}

-- of each late parcel, by where its sender stands
pub late_kind : (phase : Phase) (inside : Bool) (x : Parcel) (rest : List Parcel) → LateBy phase inside (x ∷ rest) → (i : Bool) × LateKind phase inside x rest i
late_kind between i x rest h = cc
late_kind (sends_end v) i x rest (n, inl h) = cc
late_kind (sends_end v) i x rest (n, inr h) =
    let a : x ≡ offer v = cc in
    let b : rest ≡ [] = cc in
    (false, subst (λ y. LateKind (sends_end v) i y rest false) (sym a) (subst (λ y. LateKind (sends_end v) i (offer v) y false) (sym b) (late_offer v (inl refl) n)))
late_kind (awaits_ack (offers v)) i x rest (n, inl h) = cc
late_kind (awaits_ack (offers v)) i x rest (n, inr h) =
    let a : x ≡ offer v = cc in
    let b : rest ≡ [] = cc in
    (false, subst (λ y. LateKind (awaits_ack (offers v)) i y rest false) (sym a) (subst (λ y. LateKind (awaits_ack (offers v)) i (offer v) y false) (sym b) (late_offer v (inr refl) n)))
late_kind (awaits_ack opens) i x rest (inl h) = let z = h.1 in cc
late_kind (awaits_ack opens) i x rest (inr h) =
    let z = h.1 in
    let a : x ≡ opening = cc in
    let b : rest ≡ [] = cc in
    (true, subst (λ y. LateKind (awaits_ack opens) i y rest true) (sym a) (subst (λ y. LateKind (awaits_ack opens) i opening y true) (sym b) (late_opening refl h.0)))
late_kind (awaits_ack closes) i x rest h = let z = h.1 in cc
late_kind checks_end i x rest h = let z = h.1 in cc
late_kind sends_ack i x rest h = cc
late_kind was_closed i x rest h = let z = h.1 in cc
late_kind streams i (offer v) rest h = absurd h.1
late_kind streams i opening rest h = absurd h.1
late_kind streams i (word v) rest h = (true, late_word v rest refl h.0)
late_kind streams i closing rest h = absurd h.1
late_kind streams i taken rest h = absurd h.1

-- it is no answer
pub no_answer : (phase : Phase) (inside : Bool) (x : Parcel) (rest : List Parcel) (i : Bool) → LateKind phase inside x rest i → answers (x ∷ []) ≡ 0
no_answer phase inside x rest i (late_offer v f n) = refl
no_answer phase inside x rest i (late_opening f n) = refl
no_answer phase inside x rest i (late_word v ps f n) = refl

-- what it needs to be put
pub record LateFacts (phase : Phase) (inside : Bool) (x : Parcel) (rest : List Parcel) (i : Bool) : Type 0 where
  pub none : answers (x ∷ []) ≡ 0
  pub path : (t : Bool) → Path t inside (x ∷ []) i
  pub late : LateBy phase i rest
  pub same : reads_by phase i ≡ reads_by phase inside

-- each kind has it
pub late_facts : (phase : Phase) (inside : Bool) (x : Parcel) (rest : List Parcel) (i : Bool) → LateKind phase inside x rest i → LateBy phase inside (x ∷ rest) → LateFacts phase inside x rest i
late_facts phase inside x rest i (late_offer v (inl f) n) h = record {
  none = refl;
  path = λ t. subst (λ b. Path t b (offer v ∷ []) false) (sym n) refl;
  late = subst (λ y. LateBy y false []) (sym f) (refl, inl refl);
  same = ap (λ b. reads_by phase b) (sym n);
}
late_facts phase inside x rest i (late_offer v (inr f) n) h = record {
  none = refl;
  path = λ t. subst (λ b. Path t b (offer v ∷ []) false) (sym n) refl;
  late = subst (λ y. LateBy y false []) (sym f) (refl, inl refl);
  same = ap (λ b. reads_by phase b) (sym n);
}
late_facts phase inside x rest i (late_opening f n) h = record {
  none = refl;
  path = λ t. subst (λ b. Path t b (opening ∷ []) true) (sym n) refl;
  late = subst (λ y. LateBy y true []) (sym f) (inl (refl, refl));
  same = subst (λ y. reads_by y true ≡ reads_by y inside) (sym f) refl;
}
late_facts phase inside x rest i (late_word v ps f n) h =
    let words : AreWords ps = (subst (λ y. LateBy y inside (word v ∷ ps)) f h).1 in
    record {
      none = refl;
      path = λ t. subst (λ b. Path t b (word v ∷ []) true) (sym n) refl;
      late = subst (λ y. LateBy y true ps) (sym f) (refl, words);
      same = ap (λ b. reads_by phase b) (sym n);
    }

-- it is put
pub late_talk : (s r : SideState) (i : Bool) (go come : Direction) (x : Parcel) (rest : List Parcel) → go.late ≡ x ∷ rest → LateKind s.phase s.inside x rest i → TransitRel s r go come → TransitRel (side_state s.phase i) r (put_late go x rest) come
late_talk s r i go come x rest e kind h =
    let f = late_facts s.phase s.inside x rest i kind (subst (λ l. LateBy s.phase s.inside l) e h.outward.late) in
    puts_first s r i go come x rest e f.none (f.path (switches_mode r.phase)) f.late f.same h

-- and its first token comes
pub late_comes : (s r : SideState) (i : Bool) (go come : Direction) (x : Parcel) (rest : List Parcel) (e : go.late ≡ x ∷ rest) → LateKind s.phase s.inside x rest i → (h : TransitRel s r go come) (t : Token) (l : List Token) → go.link ≡ t ∷ l → h.outward.more ≡ [] → TransitRel (side_state s.phase i) r (come_on (put_late go x rest) t l) come
late_comes s r i go come x rest e kind h t l link start =
    let f = late_facts s.phase s.inside x rest i kind (subst (λ k. LateBy s.phase s.inside k) e h.outward.late) in
    put_then_comes s r i go come x rest e f.none (f.path (switches_mode r.phase)) f.late f.same h t l link start

-- nothing of the machine changes
pub nothing_changes : (cores : List CoreState) (links : Links) (z : Peer) → IsSelfless links → Square links → Changed cores links cores links z
nothing_changes cores links z selves square = record { buffers = λ x f n. refl; ways = λ a x f n. refl; selves = selves; square = square }

module _ (pairs : List Pair) (wired : IsWired pairs) (cores : List CoreState) (links : Links) (boxes : List Inboxes) (g : Ghosts) (h : Channels pairs cores links boxes g) (square : Square links) (k : ℕ) (p : Pair) (side : Side) (at_k : slice_get pairs k ≡ Some p) where
  -- the side's core and end, the other side, and the two lines
  abbrev pub c : ℕ
  c = (end_of_side p side).core

  abbrev pub e : ℕ
  e = (end_of_side p side).end

  abbrev pub other : Side
  other = other_side side

  abbrev pub there : Direction
  there = go_line pairs wired cores links boxes g h k p side at_k

  abbrev pub here : Direction
  here = come_line pairs wired cores links boxes g h k p side at_k

  -- A side's late parcel is put at the other side: nothing happens in the machine.
  pub puts_wires : (x : Parcel) (rest : List Parcel) (i : Bool) → g.late k other ≡ x ∷ rest → LateKind (g.side_states k side).phase (g.side_states k side).inside x rest i → QuestionsArrived (side_state (g.side_states k side).phase i) (g.side_states k other) (put_late there x rest) here → Channels pairs cores links (boxed boxes k other (parcels boxes k other ++ x ∷ [])) (moved_to g k side (side_state (g.side_states k side).phase i) rest)
  puts_wires x rest i late kind fresh =
      takes_next pairs wired cores links boxes g h k p side at_k cores links (boxed boxes k other (parcels boxes k other ++ x ∷ [])) (moved_to g k side (side_state (g.side_states k side).phase i) rest) (side_state (g.side_states k side).phase i) _ _ rest
      (puts g k side (side_state (g.side_states k side).phase i) rest boxes (parcels boxes k other ++ x ∷ []) (h.boxes k p at_k))
      (λ same. let none : [] ≡ x ∷ rest = sym (prompt_other same) ∙ late in cc)
      here.buffer (nothing_changes cores links (end_of_side p side) h.selves square) refl (λ a y f. refl)
      (record { talk = late_talk (g.side_states k side) (g.side_states k other) i there here x rest late kind (stands_now pairs wired cores links boxes g h k p side at_k).talk; fresh = fresh })
    where
      prompt_other : (end_of_side p other).core ≡ c → g.late k other ≡ []
      prompt_other = by side at_k
        where
          by : (s : Side) → slice_get pairs k ≡ Some p → (end_of_side p (other_side s)).core ≡ (end_of_side p s).core → g.late k (other_side s) ≡ []
          by first z y = h.prompt k p second z y
          by second z y = h.prompt k p first z y

  -- The side traps on its CHKCT ACK, since another parcel than the answer stands first: what it has still to put is put now.
  pub trap_puts : (z : Question) (b : Bool) (x : Parcel) (rest : List Parcel) (y : Parcel) (ps : List Parcel) → g.side_states k side ≡ side_state (awaits_ack z) b → g.late k other ≡ x ∷ rest → parcels boxes k side ≡ y ∷ ps → is_taken y ≡ false → (i : Bool) × LateKind (awaits_ack z) b x rest i × Channels pairs cores links (boxed boxes k other (parcels boxes k other ++ x ∷ [])) (moved_to g k side (side_state (awaits_ack z) i) rest)
  trap_puts z b x rest y ps at late found wrong =
      let kind = late_kind (awaits_ack z) b x rest (subst (λ l. LateBy (awaits_ack z) b l) late stands.talk.outward.late) in (
        kind.0,
        kind.1,
        subst (λ f. Channels pairs cores links (boxed boxes k other (parcels boxes k other ++ x ∷ [])) (moved_to g k side (side_state f kind.0) rest)) (ap (λ (s : SideState). s.phase) at)
            (puts_wires x rest kind.0 late
            (subst (λ (s : SideState). LateKind s.phase s.inside x rest kind.0) (sym at) kind.1)
            (subst (λ (s : SideState). QuestionsArrived (side_state s.phase kind.0) (g.side_states k other) (put_late there x rest) here) (sym at) (early kind.0 kind.1))),
      )
    where
      stands : ChannelRel (side_state (awaits_ack z) b) (g.side_states k other) there here
      stands = at_spot pairs wired cores links boxes g h k p side at_k (side_state (awaits_ack z) b) at

      no_answer_first : (w : Parcel) → is_taken w ≡ false → answers (w ∷ []) ≡ 0
      no_answer_first (offer v) e = refl
      no_answer_first opening e = refl
      no_answer_first (word v) e = refl
      no_answer_first closing e = refl
      no_answer_first taken e = cc

      outside : (f : Phase) (w : Parcel) (ws : List Parcel) (i : Bool) → awaits_ack z ≡ f → LateKind f b w ws i → (b ≡ false) × (reads_by (awaits_ack z) false ≡ false)
      outside f w ws i e (late_offer v (inl o) n) = let none : awaits_ack z ≡ sends_end v = e ∙ o in cc
      outside f w ws i e (late_offer v (inr o) n) = (n, subst (λ u. reads_by u false ≡ false) (sym (e ∙ o)) refl)
      outside f w ws i e (late_opening o n) = (n, subst (λ u. reads_by u false ≡ false) (sym (e ∙ o)) refl)
      outside f w ws i e (late_word v vs o n) = let none : awaits_ack z ≡ streams = e ∙ o in cc

      early : (i : Bool) → LateKind (awaits_ack z) b x rest i → QuestionsArrived (side_state (awaits_ack z) i) (g.side_states k other) (put_late there x rest) here
      early i kind =
          let out = outside (awaits_ack z) x rest i refl kind in
          let st = subst (λ w. ChannelRel (side_state (awaits_ack z) w) (g.side_states k other) there here) out.0 stands in
          trap_fresh z (g.side_states k other) i there here x rest y ps st.talk out.1 found (no_answer_first y wrong) (no_answer (awaits_ack z) b x rest i kind) st.fresh

  -- nothing but tokens changes
  unchanged : Update k side boxes boxes g g (g.side_states k side) (parcels boxes k other) (parcels boxes k side) (g.late k other)
  unchanged = record {
    only = record { side_states = λ j s n. refl; late = λ j s n. refl; boxes = λ j n. refl; size = refl };
    spot_is = refl;
    other_is = refl;
    there_is = refl;
    here_is = refl;
    late_is = refl;
    back_is = refl;
  }

  -- within a core nothing is late
  prompt_there : (end_of_side p other).core ≡ c → g.late k other ≡ []
  prompt_there = by side at_k
    where
      by : (s : Side) → slice_get pairs k ≡ Some p → (end_of_side p (other_side s)).core ≡ (end_of_side p s).core → g.late k (other_side s) ≡ []
      by first z y = h.prompt k p second z y
      by second z y = h.prompt k p first z y

  -- A token goes from a side to the other: it belongs to the inbox there, or a parcel of the side is late, and is put first.
  pub data Arrival (cores' : List CoreState) (links' : Links) : Type 0 where
    belongs : Channels pairs cores' links' boxes g → Arrival cores' links'
    after_late : (x : Parcel) (rest : List Parcel) (i : Bool) → g.late k other ≡ x ∷ rest → LateKind (g.side_states k side).phase (g.side_states k side).inside x rest i → Channels pairs cores' links' (boxed boxes k other (parcels boxes k other ++ x ∷ [])) (moved_to g k side (side_state (g.side_states k side).phase i) rest) → Arrival cores' links'

  -- the other side of the other one
  far_back : end_of_side p (other_side other) ≡ end_of_side p side
  far_back = ap (end_of_side p) (twice side)

  -- what a token that comes belongs to
  pub arrives : (cores' : List CoreState) (links' : Links) (t : Token) (rest : List Token) → Changed cores links cores' links' (end_of_side p other) → tokens_at cores' (end_of_side p other).core (end_of_side p other).end ≡ there.buffer ++ t ∷ [] → there.link ≡ t ∷ rest → tokens_for (end_of_side p other).end (link_of links' (end_of_side p (other_side other)).core (end_of_side p other).core) ≡ rest → Arrival cores' links'
  arrives cores' links' t rest ch buffer link way = by (comes_first (g.side_states k side) (g.side_states k other) there t rest talk.outward link)
    where
      stands : ChannelRel (g.side_states k side) (g.side_states k other) there here
      stands = stands_now pairs wired cores links boxes g h k p side at_k

      talk : TransitRel (g.side_states k side) (g.side_states k other) there here
      talk = stands.talk

      by : ((m : List Token) × (talk.outward.more ≡ t ∷ m)) ⊎ ((talk.outward.more ≡ []) × (x : Parcel) × (ps : List Parcel) × (there.late ≡ x ∷ ps)) → Arrival cores' links'
      by (inl m) = belongs (goes_next pairs wired cores links boxes g h k p side at_k cores' links' boxes g (g.side_states k side) _ _ (g.late k other) unchanged prompt_there t rest ch buffer way (record { talk = token_comes (g.side_states k side) (g.side_states k other) there here t rest m.0 talk link m.1; fresh = token_fresh (g.side_states k side) (g.side_states k other) there here t rest stands.fresh }))
      by (inr m) =
          let kind = late_kind (g.side_states k side).phase (g.side_states k side).inside m.1 m.2 (subst (λ l. LateBy (g.side_states k side).phase (g.side_states k side).inside l) m.3 talk.outward.late) in
          after_late m.1 m.2 kind.0 m.3 kind.1
          (goes_next pairs wired cores links boxes g h k p side at_k cores' links' (boxed boxes k other (parcels boxes k other ++ m.1 ∷ [])) (moved_to g k side (side_state (g.side_states k side).phase kind.0) m.2) (side_state (g.side_states k side).phase kind.0) _ _ m.2
          (puts g k side (side_state (g.side_states k side).phase kind.0) m.2 boxes (parcels boxes k other ++ m.1 ∷ []) (h.boxes k p at_k))
          (λ same. let none : [] ≡ m.1 ∷ m.2 = sym (prompt_there same) ∙ m.3 in cc)
          t rest ch buffer way
          (record {
            talk = late_comes (g.side_states k side) (g.side_states k other) kind.0 there here m.1 m.2 m.3 kind.1 talk t rest link m.0;
            fresh = late_fresh (g.side_states k side) (g.side_states k other) kind.0 there here m.1 m.2 t rest talk m.0 (no_answer _ _ _ _ _ kind.1) stands.fresh;
          }))

-- The first item of a link is a token for the end of a side, sent by the core of the other one.
module _ (pairs : List Pair) (wired : IsWired pairs) (cores : List CoreState) (links : Links) (boxes : List Inboxes) (g : Ghosts) (h : Channels pairs cores links boxes g) (square : Square links) (k : ℕ) (p : Pair) (side : Side) (at_k : slice_get pairs k ≡ Some p) (core : CoreState) (at_b : slice_get cores (end_of_side p (other_side side)).core ≡ Some core) (away : (end_of_side p side).core ≢ (end_of_side p (other_side side)).core) where
  -- when it comes
  pub move_followed : (tick : ℕ) (t : Token) (rest : List Item) → IsEnd core.ends (end_of_side p (other_side side)).end → link_of links (end_of_side p side).core (end_of_side p (other_side side)).core ≡ record { tick = tick; moved = Tok (end_of_side p (other_side side)).end t } ∷ rest → Arrival pairs wired cores links boxes g h square k p side at_k (slice_set cores (end_of_side p (other_side side)).core (came core (Tok (end_of_side p (other_side side)).end t))) (link_put links (end_of_side p side).core (end_of_side p (other_side side)).core rest)
  move_followed tick t rest is_end is =
      let a = (end_of_side p side).core in
      let q = end_of_side p (other_side side) in
      let m = token_comes_to cores links a q.core tick rest core at_b h.selves square (wired.core k p side at_k) (wired.core k p (other_side side) at_k) away q.end t is_end is in
      let back : (end_of_side p (other_side (other_side side))).core ≡ a = ap (λ (z : Peer). z.core) (far_back pairs wired cores links boxes g h square k p side at_k) in
      arrives pairs wired cores links boxes g h square k p side at_k
      (slice_set cores q.core (came core (Tok q.end t))) (link_put links a q.core rest) t (tokens_for q.end (link_of (link_put links a q.core rest) a q.core)) m.0 m.1
      (ap (λ x. tokens_for q.end (link_of links x q.core)) back ∙ m.2)
      (ap (λ x. tokens_for q.end (link_of (link_put links a q.core rest) x q.core)) back)

-- a credit comes
pub credit_followed : (pairs : List Pair) (cores : List CoreState) (links : Links) (boxes : List Inboxes) (g : Ghosts) (a b tick e : ℕ) (rest : List Item) (core : CoreState) → slice_get cores b ≡ Some core → Square links → a < 4 → b < 4 → a ≢ b → link_of links a b ≡ record { tick = tick; moved = Credit e } ∷ rest → Channels pairs cores links boxes g → Channels pairs (slice_set cores b (came core (Credit e))) (link_put links a b rest) boxes g
credit_followed pairs cores links boxes g a b tick e rest core at_b square la lb ne is h =
    let c = credit_comes cores links a b tick rest core at_b h.selves square la lb ne e is (peer b e) in
    same_wires pairs cores (slice_set cores b (came core (Credit e))) links (link_put links a b rest) boxes g c.1 c.2 c.0.selves h
