-- Each step, and so each run, keeps what is sound.
use Rattle.std.proofs.Common.{◌≡◌, ◌<◌, ◌+◌, ◌-◌, ℕ, zero, suc, Bool, true, false, List, [], ◌∷◌, ◌++◌, Option, Some, None, length, drop, replicate, refl, sym, ap, ◌∙◌, inl, inr, subst, arith, length-drop}
use Rattle.std.specs.Prelude.{slice_get, slice_set, nat_eq, nat_lt, ◌≢◌, ◌⊎◌}
use Rattle.xs_instr.specs.declared.image.Image.{Image}
use Rattle.xs_instr.specs.declared.image.Stim.{Stim}
use Rattle.xs_instr.specs.declared.state.ChanEnd.{ChanEnd}
use Rattle.xs_instr.specs.declared.state.CoreState.{CoreState}
use Rattle.xs_instr.specs.declared.state.Item.{Item}
use Rattle.xs_instr.specs.declared.state.Moved.{Moved}
use Rattle.xs_instr.specs.declared.state.Sent.{Sent}
use Rattle.xs_instr.specs.declared.state.Thread.{Thread}
use Rattle.xs_instr.specs.declared.trace.Record.{Record}
use Rattle.xs_instr.specs.Did.{Did, Made, Paused, Traps, Idle}
use Rattle.xs_instr.specs.Ends.{Gone, tokens_to, credits_to, goes_by}
use Rattle.xs_instr.specs.Slot.{slot, ticked, last_clock, trapped, trapped_at, fault_of}
use Rattle.xs_instr.specs.Machine.{Machine, Event, Step, Tick, Move, link_of, link_put, on_links, parts_in, home_of, noted, came, and_then, stepped, step_at, tick_by, tick_at, move_to, move_at, does, runs, boot, boot_end, no_links}
use Rattle.xs_instr.specs.Valid.{Valid, IsThere}
use Rattle.xs_fabric.specs.Changes.{Gives, Takes, Changes, sent_of, ends_after}
use Rattle.xs_core.specs.Room.{Kind, Tokens, Credits, weights, items_weight, on_way, level, ends_in, ends_of, total}
use Rattle.xs_core.proofs.Lists.{get_set, get_set_other}
use Rattle.xs_fabric.proofs.Rows.{slot_kept}
use Rattle.xs_core.proofs.Weights.{same_num, length_set, get_below, length_all_arrive, weights_tokens, weights_tokens_here, weights_tokens_other, weights_credits, weights_credits_here, weights_credits_other}
use Rattle.xs_fabric.proofs.Ways.{Square, square_sent}
use Rattle.xs_core.proofs.Peers.{peer_there, core_below}
use Rattle.xs_fabric.proofs.Sound.{Sound, AllThere, AreBound, peer_at, machine, end_there, ends_new, ends_old, sizes_set, same_sound, move_sound}
use Rattle.xs_fabric.proofs.Steps.{Shifts, sums_given, sums_taken, AllFor, all_for_tokens, all_for_credits, bound_sent, post_here, post_none}

-- one end of core c is changed
abbrev changed : Machine → ℕ → CoreState → ℕ → ChanEnd → Machine
changed m c core e end = machine (slice_set m.cores c (record core { ends = slice_set core.ends e end })) m.links m.trace

module _ (m : Machine) (c : ℕ) (core : CoreState) (e : ℕ) (end end' : ChanEnd) (at_c : slice_get m.cores c ≡ Some core) (here : slice_get core.ends e ≡ Some end) where
  paid_here : (k : Kind) → total k (changed m c core e end') c e ≡ level k (Some end') + on_way k e m.links c 4
  paid_here k =
      let a = ap (λ l. level k (slice_get l e)) (ends_new m.cores m.links m.trace c core (record core { ends = slice_set core.ends e end' }) at_c) in
      let b = ap (level k) (get_set core.ends e end end' here) in
      omega (arith, a, b)

  was_here : (k : Kind) → total k m c e ≡ level k (Some end) + on_way k e m.links c 4
  was_here k =
      let a = ap (λ o. level k (slice_get (ends_in o) e)) at_c in
      let b = ap (level k) here in
      omega (arith, a, b)

  paid_other : (k : Kind) (x y : ℕ) → (c ≡ x → e ≡ y → ⊥) → total k (changed m c core e end') x y ≡ total k m x y
  paid_other k x y n = go (same_num c x)
    where
      go : (c ≡ x) ⊎ (c ≢ x) → total k (changed m c core e end') x y ≡ total k m x y
      go (inr ne) =
          let a = ap (λ l. level k (slice_get l y)) (ends_old m.cores m.links m.links m.trace m.trace c x (record core { ends = slice_set core.ends e end' }) ne) in
          omega (arith, a)
      go (inl s) =
          let ey : e ≢ y = λ w. n s w in
          let a = ap (λ l. level k (slice_get l y)) (ends_new m.cores m.links m.trace c core (record core { ends = slice_set core.ends e end' }) at_c) in
          let b = ap (level k) (get_set_other core.ends e y end' ey) in
          let d = ap (λ o. level k (slice_get (ends_in o) y)) at_c in
          let at_c' : total k (changed m c core e end') c y ≡ total k m c y = omega (arith, a, b, d) in
          subst (λ v. total k (changed m c core e end') v y ≡ total k m v y) s at_c'

  paid_same : (k : Kind) (x y : ℕ) → level k (Some end') ≡ level k (Some end) → total k (changed m c core e end') x y ≡ total k m x y
  paid_same k x y h = go (same_num c x) (same_num e y)
    where
      go : (c ≡ x) ⊎ (c ≢ x) → (e ≡ y) ⊎ (e ≢ y) → total k (changed m c core e end') x y ≡ total k m x y
      go (inr ne) w = paid_other k x y (λ a _. ne a)
      go (inl s) (inr ne) = paid_other k x y (λ _ b. ne b)
      go (inl s) (inl t) =
          let a = paid_here k in
          let b = was_here k in
          let r : total k (changed m c core e end') c e ≡ total k m c e = omega (arith, a, b, h) in
          subst (λ v. total k (changed m c core e end') v y ≡ total k m v y) s (subst (λ v. total k (changed m c core e end') c v ≡ total k m c v) t r)

module _ (L : Image) (valid : Valid L) (s : Stim) (m : Machine) (sound : Sound L m) (c : ℕ) (core new : CoreState) (trace : List Record) (at_c : slice_get m.cores c ≡ Some core) where
  below : c < 4
  below = let lt = get_below m.cores c core at_c in let four = sound.four in omega (arith, lt, four)

  is_there : (e : ℕ) (end : ChanEnd) → slice_get core.ends e ≡ Some end → IsThere L.cores c e
  is_there e end h = let lt = get_below core.ends e end h in let size = sound.sizes c core at_c in omega (arith, lt, size)

  size_gone : (ends : List ChanEnd) (d tick : ℕ) (ms : List Moved) (b : Bool) → length ends ≡ length core.ends → new.ends ≡ (goes_by ends d tick ms b).ends → length new.ends ≡ length core.ends
  size_gone ends d tick ms true size h = ap length h ∙ length_all_arrive ends ms ∙ size
  size_gone ends d tick ms false size h = ap length h ∙ size

  square_gone : (ends : List ChanEnd) (d tick : ℕ) (ms : List Moved) (b : Bool) → Square (on_links m.links c (goes_by ends d tick ms b).sent)
  square_gone ends d tick ms true = sound.square
  square_gone ends d tick ms false = square_sent m.links c d tick ms sound.square

  bound_gone : (ends : List ChanEnd) (d tick : ℕ) (ms : List Moved) (b : Bool) → d < 4 → AllFor L d ms → AreBound L (on_links m.links c (goes_by ends d tick ms b).sent)
  bound_gone ends d tick ms true ld h = sound.bound
  bound_gone ends d tick ms false ld h = bound_sent L m.links c d tick ms sound.square below ld sound.bound h

  gives_sound : (sent : List Sent) → Gives (home_of L s c) core.clock core.ends new.ends sent → Sound L (machine (slice_set m.cores c new) (on_links m.links c sent) trace)
  gives_sound sent g =
      let e = g.e in
      let end = g.end in
      let n = length g.ks in
      let q = peer_at L c e in
      let end' : ChanEnd = record end { credits = end.credits - n } in
      let ends = slice_set core.ends e end' in
      let ms = tokens_to q.end g.ks in
      let b = nat_eq q.core c in
      let gone = goes_by ends q.core core.clock ms b in
      let is_ends = sym (ap (λ (x : Gone). x.ends) g.gone) in
      let is_sent = ap (λ (x : Gone). x.sent) g.gone in
      let size = length_set core.ends e end' in
      let there = is_there e end g.here in
      let q_there = peer_there L valid c e there in
      let ld = core_below L valid q.core q.end q_there in
      let m' = machine (slice_set m.cores c new) (on_links m.links c gone.sent) trace in
      let none : (k : Kind) (x y : ℕ) → y < length (ends_of m x) → (weights k y ms ≡ 0) ⊎ (q.core ≢ x) → total k m' x y ≡ total k (changed m c core e end') x y = λ k x y lt w. post_none L m c q.core core.clock core ends ms trace sound below ld at_c size k x y b new refl is_ends lt w in
      let shifts : Shifts L m m' Credits Tokens c e q.core q.end n = record {
        lost =
            let a = none Credits c e (end_there L valid m sound c e there) (inl (weights_tokens q.end e g.ks)) in
            let p = paid_here m c core e end end' at_c g.here Credits in
            let w = was_here m c core e end end' at_c g.here Credits in
            let enough = g.enough in
            omega (arith, a, p, w, enough);
        kept = λ x y h ne. none Credits x y (end_there L valid m sound x y h) (inl (weights_tokens q.end y g.ks)) ∙ paid_other m c core e end end' at_c g.here Credits x y ne;
        gained =
            let a = post_here L m c q.core core.clock core ends ms trace sound below ld at_c size Tokens q.end b new refl is_ends (end_there L valid m sound q.core q.end q_there) in
            let w = weights_tokens_here q.end g.ks in
            let p = paid_same m c core e end end' at_c g.here Tokens q.core q.end refl in
            omega (arith, a, w, p);
        held = λ x y h ne. none Tokens x y (end_there L valid m sound x y h) (elim (same_num q.core x) [ inl a ↦ inl (weights_tokens_other q.end y g.ks (λ z. ne a z)) | inr a ↦ inr a ]) ∙ paid_same m c core e end end' at_c g.here Tokens x y refl;
      } in
      let all : Sound L m' = record {
        four = length_set m.cores c new ∙ sound.four;
        sizes = sizes_set L m.cores c core new at_c (size_gone ends q.core core.clock ms b size is_ends) sound.sizes;
        square = square_gone ends q.core core.clock ms b;
        bound = bound_gone ends q.core core.clock ms b ld (all_for_tokens L q.core q.end g.ks q_there);
        sums = sums_given L valid m m' c e n sound there shifts;
      } in
      subst (λ (x : List Sent). Sound L (machine (slice_set m.cores c new) (on_links m.links c x) trace)) is_sent all

  takes_sound : (sent : List Sent) → Takes (home_of L s c) core.clock core.ends new.ends sent → Sound L (machine (slice_set m.cores c new) (on_links m.links c sent) trace)
  takes_sound sent g =
      let e = g.e in
      let end = g.end in
      let n = g.n in
      let q = peer_at L c e in
      let end' : ChanEnd = record end { tokens = drop n end.tokens } in
      let ends = slice_set core.ends e end' in
      let ms = credits_to q.end n in
      let b = nat_eq q.core c in
      let gone = goes_by ends q.core core.clock ms b in
      let is_ends = sym (ap (λ (x : Gone). x.ends) g.gone) in
      let is_sent = ap (λ (x : Gone). x.sent) g.gone in
      let size = length_set core.ends e end' in
      let there = is_there e end g.here in
      let q_there = peer_there L valid c e there in
      let ld = core_below L valid q.core q.end q_there in
      let m' = machine (slice_set m.cores c new) (on_links m.links c gone.sent) trace in
      let none : (k : Kind) (x y : ℕ) → y < length (ends_of m x) → (weights k y ms ≡ 0) ⊎ (q.core ≢ x) → total k m' x y ≡ total k (changed m c core e end') x y = λ k x y lt w. post_none L m c q.core core.clock core ends ms trace sound below ld at_c size k x y b new refl is_ends lt w in
      let shifts : Shifts L m m' Tokens Credits c e q.core q.end n = record {
        lost =
            let a = none Tokens c e (end_there L valid m sound c e there) (inl (weights_credits q.end e n)) in
            let p = paid_here m c core e end end' at_c g.here Tokens in
            let w = was_here m c core e end end' at_c g.here Tokens in
            let len = length-drop n end.tokens in
            let enough = g.enough in
            omega (arith, a, p, w, len, enough);
        kept = λ x y h ne. none Tokens x y (end_there L valid m sound x y h) (inl (weights_credits q.end y n)) ∙ paid_other m c core e end end' at_c g.here Tokens x y ne;
        gained =
            let a = post_here L m c q.core core.clock core ends ms trace sound below ld at_c size Credits q.end b new refl is_ends (end_there L valid m sound q.core q.end q_there) in
            let w = weights_credits_here q.end n in
            let p = paid_same m c core e end end' at_c g.here Credits q.core q.end refl in
            omega (arith, a, w, p);
        held = λ x y h ne. none Credits x y (end_there L valid m sound x y h) (elim (same_num q.core x) [ inl a ↦ inl (weights_credits_other q.end y n (λ z. ne a z)) | inr a ↦ inr a ]) ∙ paid_same m c core e end end' at_c g.here Credits x y refl;
      } in
      let all : Sound L m' = record {
        four = length_set m.cores c new ∙ sound.four;
        sizes = sizes_set L m.cores c core new at_c (size_gone ends q.core core.clock ms b size is_ends) sound.sizes;
        square = square_gone ends q.core core.clock ms b;
        bound = bound_gone ends q.core core.clock ms b ld (all_for_credits L q.core q.end n q_there);
        sums = sums_taken L valid m m' c e n sound there shifts;
      } in
      subst (λ (x : List Sent). Sound L (machine (slice_set m.cores c new) (on_links m.links c x) trace)) is_sent all

  step_sound : (sent : List Sent) → Changes (home_of L s c) core.clock core.ends new.ends sent → Sound L (machine (slice_set m.cores c new) (on_links m.links c sent) trace)
  step_sound sent (inl h) =
      subst (λ (x : List Sent). Sound L (machine (slice_set m.cores c new) (on_links m.links c x) trace)) (sym h.1)
      (same_sound L m c core new trace sound at_c h.0)
  step_sound sent (inr (inl g)) = gives_sound sent g
  step_sound sent (inr (inr g)) = takes_sound sent g

trapped_ends : (core : CoreState) (t : ℕ) → (trapped core t).ends ≡ core.ends
trapped_ends core t = go (slice_get core.threads t)
  where
    go : (o : Option Thread) → (trapped_at core t o).ends ≡ core.ends
    go None = refl
    go (Some x) = refl

module _ (L : Image) (valid : Valid L) (s : Stim) (m : Machine) (sound : Sound L m) (m' : Machine) where
  some_is : (a : Machine) → Some a ≡ Some m' → Sound L a → Sound L m'
  some_is a h g = let e : a ≡ m' = cc in subst (λ (x : Machine). Sound L x) e g

  did_sound : (c t : ℕ) (core : CoreState) (d : Did CoreState) → slice_get m.cores c ≡ Some core → slot (home_of L s c) core t ≡ d → stepped (home_of L s c) m c t core d ≡ Some m' → Sound L m'
  did_sound c t core (Made new made sent) g e h =
      let changes = subst (λ (d : Did CoreState). Changes (home_of L s c) core.clock core.ends (ends_after core d) (sent_of d)) e (slot_kept (home_of L s c) core t) in
      some_is (machine (slice_set m.cores c new) (on_links m.links c sent) (noted m.trace made)) h
      (step_sound L valid s m sound c core new (noted m.trace made) g sent changes)
  did_sound c t core (Traps kind) g e h =
      some_is (machine (slice_set m.cores c (trapped core t)) m.links (m.trace ++ fault_of (home_of L s c) core t kind ∷ [])) h
      (same_sound L m c core (trapped core t) _ sound g (trapped_ends core t))
  did_sound c t core Paused g e h = cc
  did_sound c t core Idle g e h = cc

  step_at_sound : (c t : ℕ) (o : Option CoreState) → slice_get m.cores c ≡ o → step_at (home_of L s c) m c t o ≡ Some m' → Sound L m'
  step_at_sound c t None g h = cc
  step_at_sound c t (Some core) g h = did_sound c t core (slot (home_of L s c) core t) g refl h

  tick_by_sound : (c : ℕ) (core : CoreState) (b : Bool) → slice_get m.cores c ≡ Some core → tick_by m c core b ≡ Some m' → Sound L m'
  tick_by_sound c core true g h = some_is (machine (slice_set m.cores c (ticked core)) m.links m.trace) h (same_sound L m c core (ticked core) m.trace sound g refl)
  tick_by_sound c core false g h = cc

  tick_at_sound : (c : ℕ) (o : Option CoreState) → slice_get m.cores c ≡ o → tick_at m c o ≡ Some m' → Sound L m'
  tick_at_sound c None g h = cc
  tick_at_sound c (Some core) g h = tick_by_sound c core (nat_lt core.clock last_clock) g h

  move_to_sound : (a b : ℕ) (i : Item) (rest : List Item) (o : Option CoreState) → link_of m.links a b ≡ i ∷ rest → slice_get m.cores b ≡ o → move_to m a b i rest o ≡ Some m' → Sound L m'
  move_to_sound a b i rest None e g h = cc
  move_to_sound a b i rest (Some core) e g h =
      some_is (machine (slice_set m.cores b (came core i.moved)) (link_put m.links a b rest) m.trace) h (move_sound L valid m a b i rest core sound e g)

  move_at_sound : (a b : ℕ) (items : List Item) → link_of m.links a b ≡ items → move_at m a b items ≡ Some m' → Sound L m'
  move_at_sound a b [] e h = cc
  move_at_sound a b (i ∷ rest) e h = move_to_sound a b i rest (slice_get m.cores b) e refl h

  does_sound : (ev : Event) → does L s m ev ≡ Some m' → Sound L m'
  does_sound (Step c t) h = step_at_sound c t (slice_get m.cores c) refl h
  does_sound (Tick c) h = tick_at_sound c (slice_get m.cores c) refl h
  does_sound (Move a b) h = move_at_sound a b (link_of m.links a b) refl h

pub runs_sound : (L : Image) → Valid L → (s : Stim) (es : List Event) (m m' : Machine) → Sound L m → runs L s m es ≡ Some m' → Sound L m'
runs_sound L valid s [] m m' sound h = let e : m ≡ m' = cc in subst (λ (x : Machine). Sound L x) e sound
runs_sound L valid s (e ∷ es) m m' sound h = go (does L s m e) refl (λ n w k. runs_sound L valid s es n m' w k) h
  where
    go : (o : Option Machine) → does L s m e ≡ o → ((n : Machine) → Sound L n → runs L s n es ≡ Some m' → Sound L m') → and_then o (λ n. runs L s n es) ≡ Some m' → Sound L m'
    go None g rest k = cc
    go (Some n) g rest k = rest n (does_sound L valid s m sound n e g) k

no_items_at : (b : ℕ) → link_of no_links 0 b ≡ []
no_items_at zero = refl
no_items_at (suc zero) = refl
no_items_at (suc (suc zero)) = refl
no_items_at (suc (suc (suc zero))) = refl
no_items_at (suc (suc (suc (suc b)))) = refl

no_link : (a b : ℕ) → link_of no_links a b ≡ []
no_link zero b = no_items_at b
no_link (suc zero) b = no_items_at b
no_link (suc (suc zero)) b = no_items_at b
no_link (suc (suc (suc zero))) b = no_items_at b
no_link (suc (suc (suc (suc a)))) b = refl

no_way : (k : Kind) (e c n : ℕ) → on_way k e no_links c n ≡ 0
no_way k e c zero = refl
no_way k e c (suc n) = let r = no_way k e c n in let s = ap (items_weight k e) (no_link n c) in omega (arith, r, s)

get_replicate : (n e : ℕ) (x : ChanEnd) → e < n → slice_get (replicate n x) e ≡ Some x
get_replicate zero e x h = let no : ⊥ = omega arith in absurd no
get_replicate (suc n) zero x h = refl
get_replicate (suc n) (suc e) x h = get_replicate n e x (omega arith)

length_replicate : (n : ℕ) (x : ChanEnd) → length (replicate n x) ≡ n
length_replicate zero x = refl
length_replicate (suc n) x = ap suc (length_replicate n x)

boot_ends : (L : Image) (c : ℕ) → c < 4 → ends_of (boot L) c ≡ replicate (parts_in L.cores c).ends boot_end
boot_ends L zero h = refl
boot_ends L (suc zero) h = refl
boot_ends L (suc (suc zero)) h = refl
boot_ends L (suc (suc (suc zero))) h = refl
boot_ends L (suc (suc (suc (suc c)))) h = let no : ⊥ = omega arith in absurd no

boot_sizes : (L : Image) (c : ℕ) (core : CoreState) → slice_get (boot L).cores c ≡ Some core → length core.ends ≡ (parts_in L.cores c).ends
boot_sizes L c core h =
    let lt : c < 4 = get_below (boot L).cores c core h in
    sym (ap (λ o. length (ends_in o)) h) ∙ ap length (boot_ends L c lt) ∙ length_replicate (parts_in L.cores c).ends boot_end

boot_columns : (a : ℕ) (out : List (List Item)) → slice_get no_links a ≡ Some out → length out ≡ 4
boot_columns zero out h = let e : replicate 4 [] ≡ out = cc in sym (ap length e)
boot_columns (suc zero) out h = let e : replicate 4 [] ≡ out = cc in sym (ap length e)
boot_columns (suc (suc zero)) out h = let e : replicate 4 [] ≡ out = cc in sym (ap length e)
boot_columns (suc (suc (suc zero))) out h = let e : replicate 4 [] ≡ out = cc in sym (ap length e)
boot_columns (suc (suc (suc (suc a)))) out h = cc

boot_total : (L : Image) → Valid L → (c e : ℕ) → IsThere L.cores c e → (total Credits (boot L) c e ≡ 8) × (total Tokens (boot L) c e ≡ 0)
boot_total L valid c e h =
    let ends = boot_ends L c (core_below L valid c e h) in
    let got = ap (λ l. slice_get l e) ends ∙ get_replicate (parts_in L.cores c).ends e boot_end h in
    let a = ap (level Credits) got in
    let b = ap (level Tokens) got in
    let w = no_way Credits e c 4 in
    let v = no_way Tokens e c 4 in
    (omega (arith, a, w), omega (arith, b, v))

pub boot_sound : (L : Image) → Valid L → Sound L (boot L)
boot_sound L valid = record {
  four = refl;
  sizes = boot_sizes L;
  square = record { rows = refl; columns = boot_columns };
  bound = λ a b. subst (AllThere L b) (sym (no_link a b)) tt;
  sums = λ c e h.
      let a = (boot_total L valid c e h).0 in
      let b = (boot_total L valid _ _ (peer_there L valid c e h)).1 in
      omega (arith, a, b);
}
