-- What a core sends goes to cores that are there, and has places on its links.
use Rattle.std.proofs.Common.{◌≡◌, ◌≤◌, ◌<◌, ◌+◌, ℕ, zero, suc, Bool, true, false, List, [], ◌∷◌, ◌++◌, Option, Some, None, length, refl, sym, ap, subst, ◌∙◌, inl, inr, arith, length-append}
use Rattle.std.specs.Prelude.{nat_eq, slice_get, slice_set, ◌≢◌, ◌⊎◌}
use Rattle.xs_instr.specs.declared.image.Home.{Home}
use Rattle.xs_instr.specs.declared.image.Image.{Image}
use Rattle.xs_instr.specs.declared.image.Stim.{Stim}
use Rattle.xs_instr.specs.declared.state.ChanEnd.{ChanEnd}
use Rattle.xs_instr.specs.declared.state.CoreState.{CoreState}
use Rattle.xs_instr.specs.declared.state.Moved.{Moved}
use Rattle.xs_instr.specs.declared.state.Sent.{Sent}
use Rattle.xs_instr.specs.Did.{Did, Made, Paused, Traps, Idle}
use Rattle.xs_instr.specs.Ends.{all_sent, goes_by, peer_of}
use Rattle.xs_instr.specs.Slot.{slot}
use Rattle.xs_instr.specs.Valid.{Valid}
use Rattle.xs_fabric.specs.Changes.{Changes, sent_of, ends_after}
use Rattle.xs_fabric.specs.Lockstep.{Part, after, core_round, turn, turns}
use Rattle.xs_fabric.specs.Rounds.{begun, own_round}
use Rattle.xs_fabric.specs.OnLinks.{put_on}
use Rattle.xs_fabric.specs.Rooms.{AllGoToCores, CanSend}
use Rattle.xs_fabric.proofs.Clocks.{turns_clock}
use Rattle.xs_fabric.proofs.FourPeers.{valid_peers}
use Rattle.xs_fabric.proofs.Links.{Links}
use Rattle.xs_fabric.proofs.Others.{put_row}
use Rattle.xs_fabric.proofs.Rows.{slot_kept}
use Rattle.xs_fabric.proofs.Ways.{get_put_column}
use Rattle.xs_core.proofs.Lists.{get_set}
use Rattle.xs_core.proofs.Weights.{same_num}
use Rattle.xs_instr.specs.declared.state.Item.{Item}
use Rattle.xs_instr.specs.Machine.{items_in, link_in, link_of, link_put, link_put_in, home_of, on_links}

-- each is so
abbrev pub AllSent : (Sent → Type 0) → List Sent → Type 0
AllSent P [] = Unit {0}
AllSent P (s ∷ sent) = P s × AllSent P sent

pub sent_append : (P : Sent → Type 0) (xs ys : List Sent) → AllSent P xs → AllSent P ys → AllSent P (xs ++ ys)
sent_append P [] ys a b = b
sent_append P (x ∷ xs) ys a b = (a.0, sent_append P xs ys a.1 b)

-- whatever goes from the core to a peer at that tick is such
abbrev pub Goes : Home → (Sent → Type 0) → ℕ → Type 0
Goes home P clock = (e : ℕ) (m : Moved) → P (record { to = (peer_of home.pairs home.number e).core; tick = clock; moved = m })

all_such : (P : Sent → Type 0) (to tick : ℕ) (ms : List Moved) → ((m : Moved) → P (record { to = to; tick = tick; moved = m })) → AllSent P (all_sent to tick ms)
all_such P to tick [] h = tt
all_such P to tick (m ∷ ms) h = (h m, all_such P to tick ms h)

goes_such : (P : Sent → Type 0) (clock to : ℕ) (ends : List ChanEnd) (ms : List Moved) (b : Bool) → ((m : Moved) → P (record { to = to; tick = clock; moved = m })) → AllSent P (goes_by ends to clock ms b).sent
goes_such P clock to ends ms true h = tt
goes_such P clock to ends ms false h = all_such P to clock ms h

changes_such : (P : Sent → Type 0) (home : Home) (clock : ℕ) (ends ends' : List ChanEnd) (sent : List Sent) → Goes home P clock → Changes home clock ends ends' sent → AllSent P sent
changes_such P home clock ends ends' sent h (inl none) = subst (AllSent P) (sym none.1) tt
changes_such P home clock ends ends' sent h (inr (inl g)) =
    subst (AllSent P) (ap (λ x. x.sent) g.gone) (goes_such P clock (peer_of home.pairs home.number g.e).core _ _ (nat_eq (peer_of home.pairs home.number g.e).core home.number) (h g.e))
changes_such P home clock ends ends' sent h (inr (inr g)) =
    subst (AllSent P) (ap (λ x. x.sent) g.gone) (goes_such P clock (peer_of home.pairs home.number g.e).core _ _ (nat_eq (peer_of home.pairs home.number g.e).core home.number) (h g.e))

pub turn_such : (P : Sent → Type 0) (home : Home) (p : Part) (n : ℕ) → Goes home P p.core.clock → AllSent P p.sent → AllSent P (turn home p n).sent
unfolding turn
turn_such P home p n h all = go (slot home p.core n) (changes_such P home p.core.clock p.core.ends (ends_after p.core (slot home p.core n)) (sent_of (slot home p.core n)) h (slot_kept home p.core n))
  where
    go : (d : Did CoreState) → AllSent P (sent_of d) → AllSent P (after home p n d).sent
    go (Made left made sent) more = sent_append P p.sent sent all more
    go (Traps kind) more = all
    go Paused more = all
    go Idle more = all

pub turns_such : (P : Sent → Type 0) (home : Home) (p : Part) (n : ℕ) → Goes home P p.core.clock → AllSent P p.sent → AllSent P (turns home p n).sent
unfolding turns
turns_such P home p zero h all = all
turns_such P home p (suc n) h all = turn_such P home (turns home p n) n (subst (Goes home P) (sym (turns_clock home p n)) h) (turns_such P home p n h all)

-- a link that is there and is written
put_there : (links : Links) (a b : ℕ) (out : List (List Item)) (old new : List Item) → slice_get links a ≡ Some out → slice_get out b ≡ Some old → (link_of links a b ≡ old) × (link_of (link_put links a b new) a b ≡ new)
put_there links a b out old new row at_b = (
  ap (λ o. link_in o b) row ∙ ap items_in at_b,
  ap (λ o. link_of (link_put_in links a b new o) a b) row ∙ ap (λ o. link_in o b) (get_set links a out (slice_set out b new) row) ∙ ap items_in (get_set out b old new at_b),
)

-- a link that isn't there holds nothing, also after it is written
no_put : (links : Links) (a b : ℕ) → (slice_get links a ≡ None) ⊎ ((out : List (List Item)) × (slice_get links a ≡ Some out) × (slice_get out b ≡ None)) → link_of links a b ≡ []
no_put links a b (inl none) = ap (λ o. link_in o b) none
no_put links a b (inr h) = ap (λ o. link_in o b) h.1 ∙ ap items_in h.2

longer : (x : List Item) (i : Item) → length (x ++ i ∷ []) ≡ length x + 1
longer x i = length-append x (i ∷ [])

-- what is sent makes no link shorter
put_grows : (links : Links) (c : ℕ) (s : Sent) (a b : ℕ) → length (link_of links a b) ≤ length (link_of (put_on links c s) a b)
put_grows links c s a b = go (same_num c a) (same_num s.to b)
  where
    at_it : length (link_of links c s.to) ≤ length (link_of (put_on links c s) c s.to)
    at_it = row (slice_get links c) refl
      where
        link : (out : List (List Item)) → slice_get links c ≡ Some out → (o : Option (List Item)) → slice_get out s.to ≡ o → length (link_of links c s.to) ≤ length (link_of (put_on links c s) c s.to)
        link out h None g = let e = ap length (no_put links c s.to (inr (out, h, g))) in omega (arith, e)
        link out h (Some old) g =
            let i : Item = record { tick = s.tick; moved = s.moved } in
            let e = put_there links c s.to out old (link_of links c s.to ++ i ∷ []) h g in
            let more = longer (link_of links c s.to) i in
            let now = ap length e.1 in
            omega (arith, more, now)

        row : (o : Option (List (List Item))) → slice_get links c ≡ o → length (link_of links c s.to) ≤ length (link_of (put_on links c s) c s.to)
        row None h = let e = ap length (no_put links c s.to (inl h)) in omega (arith, e)
        row (Some out) h = link out h (slice_get out s.to) refl

    go : (c ≡ a) ⊎ (c ≢ a) → (s.to ≡ b) ⊎ (s.to ≢ b) → length (link_of links a b) ≤ length (link_of (put_on links c s) a b)
    go (inr ne) same =
        let e = ap length (put_row links c s.to a b (link_of links c s.to ++ record { tick = s.tick; moved = s.moved } ∷ []) ne) in
        omega (arith, e)
    go (inl e) (inr ne) =
        let k = ap length (get_put_column links c s.to a b (link_of links c s.to ++ record { tick = s.tick; moved = s.moved } ∷ []) ne) in
        omega (arith, k)
    go (inl e) (inl f) =
        subst (λ v. length (link_of links v b) ≤ length (link_of (put_on links c s) v b)) e
        (subst (λ v. length (link_of links c v) ≤ length (link_of (put_on links c s) c v)) f at_it)

sent_grows : (links : Links) (c : ℕ) (sent : List Sent) (a b : ℕ) → length (link_of links a b) ≤ length (link_of (on_links links c sent) a b)
sent_grows links c [] a b = omega arith
sent_grows links c (s ∷ sent) a b =
    let one = put_grows links c s a b in
    let rest = sent_grows (put_on links c s) c sent a b in
    omega (arith, one, rest)

-- there is a place for the first, where there is one for all
pub first_place : (links : Links) (c : ℕ) (s : Sent) (sent : List Sent) → length (link_of (on_links links c (s ∷ sent)) c s.to) ≤ 512 → length (link_of links c s.to) < 512
first_place links c s sent all = row (slice_get links c) refl
  where
    link : (out : List (List Item)) → slice_get links c ≡ Some out → (o : Option (List Item)) → slice_get out s.to ≡ o → length (link_of links c s.to) < 512
    link out h None g = let e = ap length (no_put links c s.to (inr (out, h, g))) in omega (arith, e)
    link out h (Some old) g =
        let i : Item = record { tick = s.tick; moved = s.moved } in
        let e = put_there links c s.to out old (link_of links c s.to ++ i ∷ []) h g in
        let more = longer (link_of links c s.to) i in
        let now = ap length e.1 in
        let rest = sent_grows (put_on links c s) c sent c s.to in
        omega (arith, more, now, rest, all)

    row : (o : Option (List (List Item))) → slice_get links c ≡ o → length (link_of links c s.to) < 512
    row None h = let e = ap length (no_put links c s.to (inl h)) in omega (arith, e)
    row (Some out) h = link out h (slice_get out s.to) refl

pub can_send_first : (links : Links) (c : ℕ) (s : Sent) (sent box : List Sent) → box ≡ s ∷ sent → CanSend c links box → (s.to < 4) × (length (link_of links c s.to) < 512) × CanSend c (put_on links c s) sent
can_send_first links c s sent box is can =
    let h = subst (CanSend c links) is can in
    (h.to.0, first_place links c s sent (h.places s.to h.to.0), record { to = h.to.1; places = h.places })

-- what goes to cores, as the clauses say it
to_cores : (sent : List Sent) → AllSent (λ s. s.to < 4) sent → AllGoToCores sent
to_cores [] h = tt
to_cores (s ∷ sent) h = (h.0, to_cores sent h.1)

module _ (L : Image) (valid : Valid L) (s : Stim) (c : ℕ) (lt : c < 4) where
  goes_to_cores : (clock : ℕ) → Goes (home_of L s c) (λ x. x.to < 4) clock
  goes_to_cores clock = λ e m. valid_peers L valid c e lt

  -- what a turn sends goes to cores that are there
  pub turn_goes_to_cores : (p : Part) (t : ℕ) → p.sent ≡ [] → AllGoToCores (turn (home_of L s c) p t).sent
  turn_goes_to_cores p t none =
      to_cores _ (turn_such (λ x. x.to < 4) (home_of L s c) p t (goes_to_cores p.core.clock) (subst (AllSent (λ x. x.to < 4)) (sym none) tt))

  -- and so does what the core sends in its part of a round
  pub round_goes_to_cores : (links : Links) (core : CoreState) → AllGoToCores (own_round (home_of L s c) links core).sent
  unfolding core_round
  round_goes_to_cores links core =
      to_cores _ (turns_such (λ x. x.to < 4) (home_of L s c) (begun (home_of L s c) links core) 8 (goes_to_cores (begun (home_of L s c) links core).core.clock) tt)
