-- What comes over a link has room, told by the core to which it comes.
use Rattle.std.proofs.Common.{◌≡◌, ◌≤◌, ◌<◌, ◌+◌, ℕ, zero, suc, Bool, true, false, List, [], ◌∷◌, ◌++◌, length, Some, refl, ap, ◌∙◌, subst, arith, le_refl}
use Rattle.std.proofs.lemmas.Bool.{eqb-true}
use Rattle.std.specs.Prelude.{nat_eq, slice_get, slice_set}
use Rattle.xs_instr.specs.declared.image.Image.{Image}
use Rattle.xs_instr.specs.declared.image.Stim.{Stim}
use Rattle.xs_instr.specs.declared.state.CoreState.{CoreState}
use Rattle.xs_instr.specs.declared.state.Item.{Item}
use Rattle.xs_instr.specs.declared.state.Moved.{Moved}
use Rattle.xs_instr.specs.declared.state.Moved.TheVariants.{Tok, Credit}
use Rattle.xs_instr.specs.Ends.{Peer}
use Rattle.xs_instr.specs.Machine.{Machine, Move, boot, came, home_of, link_of, link_put}
use Rattle.xs_instr.specs.Valid.{IsThere, Valid}
use Rattle.xs_core.specs.Deliver.{HasRoomAt, HasRoomFrom, level_if}
use Rattle.xs_core.specs.Room.{Kind, Tokens, Credits, weight, items_weight, on_way, level, ends_in, total}
use Rattle.xs_core.proofs.Lists.{get_set}
use Rattle.xs_core.proofs.Peers.{peer_there, peer_twice}
use Rattle.xs_fabric.specs.Lockstep.{all_came, due_by, due_from, due_of, is_due, late_from}
use Rattle.xs_fabric.specs.Rooms.{AllHaveRoom}
use Rattle.xs_fabric.specs.Runs.{Leads}
use Rattle.xs_fabric.proofs.Links.{get_put, late_keeps}
use Rattle.xs_fabric.proofs.LockstepLeads.{all_moves_lead, machine, one_event, then_leads}
use Rattle.xs_fabric.proofs.Sound.{Sound, AllThere, end_there, peer_at, row_below, target, way_least, weight_target}
use Rattle.xs_fabric.proofs.Stepped.{boot_sound, runs_sound}

-- what events lead to is sound
pub led_sound : (L : Image) → Valid L → (s : Stim) (m : Machine) → Leads L s (boot L) m → Sound L m
led_sound L valid s m way = runs_sound L valid s way.events (boot L) m (boot_sound L valid) way.to

module _ (L : Image) (valid : Valid L) (s : Stim) (m : Machine) (sound : Sound L m) (a b : ℕ) (i : Item) (rest : List Item) (link : link_of m.links a b ≡ i ∷ rest) (core : CoreState) (at_b : slice_get m.cores b ≡ Some core) where
  at_target : IsThere L.cores b (target i.moved)
  at_target = (subst (AllThere L b) link (sound.bound a b)).0

  on_its_way : (k : Kind) (e : ℕ) → weight k e i.moved ≡ 1 → 1 ≤ on_way k e m.links b 4
  on_its_way k e w =
      let lt = row_below m.links a b i rest sound.square link in
      let least = way_least k e m.links a b 4 lt in
      let s = ap (items_weight k e) link in
      omega (arith, least, s, w)

  -- what a peer on the same core has is not more than what that peer has with what is on its way to it
  near_least : (near : Kind) (q : Peer) (same : Bool) → nat_eq q.core b ≡ same → level_if near core.ends q.end same ≤ total near m q.core q.end
  near_least near q false e = omega arith
  near_least near q true e =
      let here = ap (λ o. level near (slice_get (ends_in o) q.end)) (ap (slice_get m.cores) (eqb-true q.core b e) ∙ at_b) in
      omega (arith, here)

  has_room : (k near : Kind) (e : ℕ) → IsThere L.cores b e → weight k e i.moved ≡ 1 → total k m b e + total near m (peer_at L b e).core (peer_at L b e).end ≡ 8 → HasRoomAt (home_of L s b) k near core.ends e
  has_room k near e there w sum =
      let within = end_there L valid m sound b e there in
      let least = near_least near (peer_at L b e) (nat_eq (peer_at L b e).core b) refl in
      let here = ap (λ o. level k (slice_get (ends_in o) e)) at_b in
      let way = on_its_way k e w in
      record {
        there = subst (λ o. e < length (ends_in o)) at_b within;
        room = omega (arith, sum, least, here, way);
      }

  pub first_has_room_from : HasRoomFrom (home_of L s b) core.ends i.moved
  first_has_room_from = go i.moved refl
    where
      go : (x : Moved) → i.moved ≡ x → HasRoomFrom (home_of L s b) core.ends x
      go (Tok e k) g =
          let there : IsThere L.cores b e = subst (λ v. IsThere L.cores b (target v)) g at_target in
          let q = peer_at L b e in
          let back = peer_twice L valid b e there in
          let sum = sound.sums q.core q.end (peer_there L valid b e there) in
          let sum' = subst (λ (v : Peer). total Credits m q.core q.end + total Tokens m v.core v.end ≡ 8) back sum in
          has_room Tokens Credits e there (ap (weight Tokens e) g ∙ weight_target e) (omega (arith, sum'))
      go (Credit e) g =
          let there : IsThere L.cores b e = subst (λ v. IsThere L.cores b (target v)) g at_target in
          has_room Credits Tokens e there (ap (weight Credits e) g ∙ weight_target e) (sound.sums b e there)

room_append : (L : Image) (s : Stim) (c : ℕ) (core : CoreState) (xs ys : List Item) → AllHaveRoom (home_of L s c) core xs → AllHaveRoom (home_of L s c) (all_came core xs) ys → AllHaveRoom (home_of L s c) core (xs ++ ys)
room_append L s c core [] ys a b = b
room_append L s c core (x ∷ xs) ys a b = (a.0, room_append L s c (came core x.moved) xs ys a.1 b)

module _ (L : Image) (valid : Valid L) (s : Stim) (c : ℕ) where
  -- the items of a link, as far as they are due
  moves_room : (m : Machine) (core : CoreState) (a clock : ℕ) (items : List Item) → Leads L s (boot L) m → slice_get m.cores c ≡ Some core → link_of m.links a c ≡ items → AllHaveRoom (home_of L s c) core (due_of clock items)
  moves_room m core a clock [] way g e = tt
  moves_room m core a clock (i ∷ items) way g e =
      let m1 = machine (slice_set m.cores c (came core i.moved)) (link_put m.links a c items) m.trace in
      go (is_due clock i)
      (first_has_room_from L valid s m (led_sound L valid s m way) a c i items e core g)
      (moves_room m1 (came core i.moved) a clock items (then_leads L s (boot L) m m1 way (one_event L s m m1 (Move a c) (rw (e, g) refl))) (get_set m.cores c core (came core i.moved) g) (get_put m.links a c i items items e))
    where
      go : (b : Bool) → HasRoomFrom (home_of L s c) core.ends i.moved → AllHaveRoom (home_of L s c) (came core i.moved) (due_of clock items) → AllHaveRoom (home_of L s c) core (due_by i (due_of clock items) b)
      go true room rest = (room, rest)
      go false room rest = tt

  -- what is due on one link has room, after what was due on those of lower cores came
  pub link_room : (m : Machine) (core : CoreState) (clock n : ℕ) → Leads L s (boot L) m → slice_get m.cores c ≡ Some core → AllHaveRoom (home_of L s c) (all_came core (due_from m.links c clock n)) (due_of clock (link_of m.links n c))
  link_room m core clock n way g =
      let core1 = all_came core (due_from m.links c clock n) in
      let m1 = machine (slice_set m.cores c core1) (late_from m.links c clock n) m.trace in
      let way1 = then_leads L s (boot L) m m1 way (all_moves_lead L s c m core clock n g) in
      moves_room m1 core1 n clock (link_of m.links n c) way1 (get_set m.cores c core core1 g) (late_keeps m.links c clock n n (le_refl n))

  -- what is due on the links from the cores below n
  pub all_room : (m : Machine) (core : CoreState) (clock n : ℕ) → Leads L s (boot L) m → slice_get m.cores c ≡ Some core → AllHaveRoom (home_of L s c) core (due_from m.links c clock n)
  all_room m core clock zero way g = tt
  all_room m core clock (suc n) way g =
      room_append L s c core (due_from m.links c clock n) (due_of clock (link_of m.links n c)) (all_room m core clock n way g) (link_room m core clock n way g)
