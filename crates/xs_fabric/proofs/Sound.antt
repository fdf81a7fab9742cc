-- What holds of each machine that a valid image's events lead to.
use Rattle.std.proofs.Common.{◌≡◌, ◌≤◌, ◌<◌, ◌+◌, ℕ, zero, suc, List, [], ◌∷◌, Option, Some, None, length, refl, sym, ap, ◌∙◌, inl, inr, subst, arith}
use Rattle.std.specs.Prelude.{slice_get, slice_set, nat_eq, ◌≢◌, ◌⊎◌}
use Rattle.xs_instr.specs.declared.image.Image.{Image}
use Rattle.xs_instr.specs.declared.state.CoreState.{CoreState}
use Rattle.xs_instr.specs.declared.state.Item.{Item}
use Rattle.xs_instr.specs.declared.state.Moved.{Moved}
use Rattle.xs_instr.specs.declared.state.Moved.TheVariants.{Tok, Credit}
use Rattle.xs_instr.specs.declared.trace.Record.{Record}
use Rattle.xs_instr.specs.Ends.{Peer, peer_of}
use Rattle.xs_instr.specs.Machine.{Machine, link_in, link_of, link_put, parts_in, came}
use Rattle.xs_instr.specs.Valid.{Valid, IsThere}
use Rattle.xs_core.specs.Room.{Kind, Tokens, Credits, weight, items_weight, on_way, level, ends_in, ends_of, total, HasRoom}
use Rattle.xs_core.proofs.Lists.{get_set, get_set_other}
use Rattle.xs_fabric.proofs.Links.{Links, get_put_other}
use Rattle.xs_core.proofs.Weights.{same_num, length_set, get_there, get_below, arrive, length_arrives, eq_itself}
use Rattle.xs_fabric.proofs.Ways.{Square, square_put, get_put_there, get_put_column, way_put, way_column}
use Rattle.xs_core.proofs.Peers.{peer_there, peer_twice, core_below}
use Rattle.xw_words.specs.Words.{truth}

-- the end that something is for
abbrev pub target : Moved → ℕ
target (Tok e k) = e
target (Credit e) = e

abbrev pub AllThere : Image → ℕ → List Item → Type 0
AllThere L b [] = Unit {0}
AllThere L b (i ∷ items) = IsThere L.cores b (target i.moved) × AllThere L b items

abbrev pub AreBound : Image → Links → Type 0
AreBound L links = (a b : ℕ) → AllThere L b (link_of links a b)

abbrev pub peer_at : Image → ℕ → ℕ → Peer
peer_at L c e = peer_of L.chans c e

pub record Sound (L : Image) (m : Machine) : Type 0 where
  pub four : length m.cores ≡ 4
  pub sizes : (c : ℕ) (core : CoreState) → slice_get m.cores c ≡ Some core → length core.ends ≡ (parts_in L.cores c).ends
  pub square : Square m.links
  pub bound : AreBound L m.links
  pub sums : (c e : ℕ) → IsThere L.cores c e → total Credits m c e + total Tokens m (peer_at L c e).core (peer_at L c e).end ≡ 8

abbrev pub machine : List CoreState → Links → List Record → Machine
machine cores links trace = record { cores = cores; links = links; trace = trace }

pub end_there : (L : Image) → Valid L → (m : Machine) → Sound L m → (c e : ℕ) → IsThere L.cores c e → e < length (ends_of m c)
end_there L valid m sound c e h =
    let lt = core_below L valid c e h in
    let four = sound.four in
    let lt' : c < length m.cores = omega (arith, lt, four) in
    let core = get_there m.cores c lt' in
    let size = sound.sizes c core.0 core.1 in
    let within : e < length core.0.ends = omega (arith, size, h) in
    subst (λ o. e < length (ends_in o)) (sym core.1) within

pub way_least : (k : Kind) (e : ℕ) (links : Links) (a b n : ℕ) → a < n → items_weight k e (link_of links a b) ≤ on_way k e links b n
way_least k e links a b zero h = omega arith
way_least k e links a b (suc n) h = go (same_num a n) (λ lt. way_least k e links a b n lt)
  where
    go : (a ≡ n) ⊎ (a ≢ n) → (a < n → items_weight k e (link_of links a b) ≤ on_way k e links b n) → items_weight k e (link_of links a b) ≤ on_way k e links b (suc n)
    go (inl m) rest =
        let s : items_weight k e (link_of links a b) ≡ items_weight k e (link_of links n b) = ap (λ v. items_weight k e (link_of links v b)) m in
        omega (arith, s)
    go (inr m) rest = let lt : a < n = omega arith in let r = rest lt in omega (arith, r)

pub row_below : (links : Links) (a b : ℕ) (i : Item) (rest : List Item) → Square links → link_of links a b ≡ i ∷ rest → a < 4
row_below links a b i rest q h = go (slice_get links a) refl
  where
    go : (o : Option (List (List Item))) → slice_get links a ≡ o → a < 4
    go None g = let none : [] ≡ i ∷ rest = ap (λ o. link_in o b) (sym g) ∙ h in cc
    go (Some out) g = let lt = get_below links a out g in let rows = q.rows in omega (arith, lt, rows)

pub weight_target : (e : ℕ) → truth (nat_eq e e) ≡ 1
weight_target e = ap truth (eq_itself e)

-- the end of a link's first item has room for it
pub first_has_room : (L : Image) → Valid L → (m : Machine) → Sound L m → (a b : ℕ) (i : Item) (rest : List Item) → link_of m.links a b ≡ i ∷ rest → HasRoom (ends_of m b) i.moved
first_has_room L valid m sound a b i rest h = go i.moved refl
  where
    at_target : IsThere L.cores b (target i.moved)
    at_target = (subst (AllThere L b) h (sound.bound a b)).0

    on : (k : Kind) (e : ℕ) → weight k e i.moved ≡ 1 → 1 ≤ on_way k e m.links b 4
    on k e w =
        let lt = row_below m.links a b i rest sound.square h in
        let least = way_least k e m.links a b 4 lt in
        let s = ap (items_weight k e) h in
        omega (arith, least, s, w)

    go : (x : Moved) → i.moved ≡ x → HasRoom (ends_of m b) x
    go (Tok e k) g =
        let there : IsThere L.cores b e = subst (λ v. IsThere L.cores b (target v)) g at_target in
        let q = peer_at L b e in
        let back = peer_twice L valid b e there in
        let sum = sound.sums q.core q.end (peer_there L valid b e there) in
        let sum' = subst (λ (v : Peer). total Credits m q.core q.end + total Tokens m v.core v.end ≡ 8) back sum in
        let w = on Tokens e (ap (weight Tokens e) g ∙ weight_target e) in
        record { there = end_there L valid m sound b e there; room = omega (arith, sum', w) }
    go (Credit e) g =
        let there : IsThere L.cores b e = subst (λ v. IsThere L.cores b (target v)) g at_target in
        let sum = sound.sums b e there in
        let w = on Credits e (ap (weight Credits e) g ∙ weight_target e) in
        record { there = end_there L valid m sound b e there; room = omega (arith, sum, w) }

pub bound_put : (L : Image) (links : Links) (a b : ℕ) (x : List Item) → Square links → a < 4 → b < 4 → AreBound L links → AllThere L b x → AreBound L (link_put links a b x)
bound_put L links a b x q la lb h g d e = go (same_num a d) (same_num b e)
  where
    go : (a ≡ d) ⊎ (a ≢ d) → (b ≡ e) ⊎ (b ≢ e) → AllThere L e (link_of (link_put links a b x) d e)
    go s (inr n) = subst (AllThere L e) (sym (get_put_column links a b d e x n)) (h d e)
    go (inr n) (inl s) =
        subst (λ v. AllThere L v (link_of (link_put links a b x) d v)) s
        (subst (AllThere L b) (sym (get_put_other links a d b x n)) (h d b))
    go (inl r) (inl s) =
        subst (λ v. AllThere L v (link_of (link_put links a b x) d v)) s
        (subst (λ v. AllThere L b (link_of (link_put links a b x) v b)) r
        (subst (AllThere L b) (sym (get_put_there links a b x q la lb)) g))

pub ends_new : (cores : List CoreState) (links : Links) (trace : List Record) (c : ℕ) (core new : CoreState) → slice_get cores c ≡ Some core → ends_of (machine (slice_set cores c new) links trace) c ≡ new.ends
ends_new cores links trace c core new h = ap ends_in (get_set cores c core new h)

pub ends_old : (cores : List CoreState) (links links' : Links) (trace trace' : List Record) (c x : ℕ) (new : CoreState) → c ≢ x → ends_of (machine (slice_set cores c new) links trace) x ≡ ends_of (machine cores links' trace') x
ends_old cores links links' trace trace' c x new n = ap ends_in (get_set_other cores c x new n)

-- the sizes stay where one core's do
pub sizes_set : (L : Image) (cores : List CoreState) (c : ℕ) (core new : CoreState) → slice_get cores c ≡ Some core → length new.ends ≡ length core.ends → ((x : ℕ) (k : CoreState) → slice_get cores x ≡ Some k → length k.ends ≡ (parts_in L.cores x).ends) → (x : ℕ) (k : CoreState) → slice_get (slice_set cores c new) x ≡ Some k → length k.ends ≡ (parts_in L.cores x).ends
sizes_set L cores c core new h same sizes x k g = go (same_num c x)
  where
    some_is : (a b : CoreState) → Some a ≡ Some b → a ≡ b
    some_is a b e = cc

    go : (c ≡ x) ⊎ (c ≢ x) → length k.ends ≡ (parts_in L.cores x).ends
    go (inr n) = sizes x k (sym (get_set_other cores c x new n) ∙ g)
    go (inl e) =
        let g' = subst (λ v. slice_get (slice_set cores c new) v ≡ Some k) (sym e) g in
        let is = some_is new k (sym (get_set cores c core new h) ∙ g') in
        let there = same ∙ sizes c core h in
        subst (λ v. length k.ends ≡ (parts_in L.cores v).ends) e (ap (λ (v : CoreState). length v.ends) (sym is) ∙ there)

-- a core is changed, but its ends are not
pub same_sound : (L : Image) (m : Machine) (c : ℕ) (core new : CoreState) (trace : List Record) → Sound L m → slice_get m.cores c ≡ Some core → new.ends ≡ core.ends → Sound L (machine (slice_set m.cores c new) m.links trace)
same_sound L m c core new trace sound h same = record {
  four = length_set m.cores c new ∙ sound.four;
  sizes = sizes_set L m.cores c core new h (ap length same) sound.sizes;
  square = sound.square;
  bound = sound.bound;
  sums = λ x e there.
      let p = peer_at L x e in
      let a = ap (λ l. level Credits (slice_get l e)) (ends_same x (same_num c x)) in
      let b = ap (λ l. level Tokens (slice_get l p.end)) (ends_same p.core (same_num c p.core)) in
      let sum = sound.sums x e there in
      omega (arith, a, b, sum);
}
  where
    ends_same : (x : ℕ) → (c ≡ x) ⊎ (c ≢ x) → ends_of (machine (slice_set m.cores c new) m.links trace) x ≡ ends_of m x
    ends_same x (inr n) = ends_old m.cores m.links m.links trace m.trace c x new n
    ends_same x (inl e) =
        subst (λ v. ends_of (machine (slice_set m.cores c new) m.links trace) v ≡ ends_of m v) e
        (ends_new m.cores m.links trace c core new h ∙ same ∙ sym (ap ends_in h))

-- a link's first item comes to its end
pub move_sound : (L : Image) → Valid L → (m : Machine) (a b : ℕ) (i : Item) (rest : List Item) (core : CoreState) → Sound L m → link_of m.links a b ≡ i ∷ rest → slice_get m.cores b ≡ Some core → Sound L (machine (slice_set m.cores b (came core i.moved)) (link_put m.links a b rest) m.trace)
move_sound L valid m a b i rest core sound h g = record {
  four = length_set m.cores b _ ∙ sound.four;
  sizes = sizes_set L m.cores b core (came core i.moved) g (length_arrives core.ends i.moved) sound.sizes;
  square = square_put m.links a b rest sound.square;
  bound = bound_put L m.links a b rest sound.square la lb sound.bound (subst (AllThere L b) h (sound.bound a b)).1;
  sums = λ x e there.
      let p = peer_at L x e in
      let one = total_same Credits x e (end_there L valid m sound x e there) (same_num b x) in
      let two = total_same Tokens p.core p.end (end_there L valid m sound p.core p.end (peer_there L valid x e there)) (same_num b p.core) in
      let sum = sound.sums x e there in
      omega (arith, one, two, sum);
}
  where
    la : a < 4
    la = row_below m.links a b i rest sound.square h

    lb : b < 4
    lb = let lt = get_below m.cores b core g in let four = sound.four in omega (arith, lt, four)

    new : Machine
    new = machine (slice_set m.cores b (came core i.moved)) (link_put m.links a b rest) m.trace

    here : (k : Kind) (e : ℕ) → e < length (ends_of m b) → total k (machine (slice_set m.cores b (came core i.moved)) (link_put m.links a b rest) m.trace) b e ≡ total k m b e
    here k e lt =
        let ends = ap ends_in g in
        let lt' : e < length core.ends = subst (λ l. e < length l) ends lt in
        let new_ends = ends_new m.cores (link_put m.links a b rest) m.trace b core (came core i.moved) g in
        let p = ap (λ l. level k (slice_get l e)) new_ends in
        let q = ap (λ l. level k (slice_get l e)) ends in
        let r = arrive k core.ends e i.moved lt' in
        let s = way_put k e m.links a b rest sound.square la lb in
        let t = ap (items_weight k e) h in
        omega (arith, p, q, r, s, t)

    total_same : (k : Kind) (x e : ℕ) → e < length (ends_of m x) → (b ≡ x) ⊎ (b ≢ x) → total k (machine (slice_set m.cores b (came core i.moved)) (link_put m.links a b rest) m.trace) x e ≡ total k m x e
    total_same k x e lt (inr n) =
        let p = ap (λ l. level k (slice_get l e)) (ends_old m.cores (link_put m.links a b rest) m.links m.trace m.trace b x (came core i.moved) n) in
        let q = way_column k e m.links a b x 4 rest n in
        omega (arith, p, q)
    total_same k x e lt (inl s) =
        let lt' = subst (λ v. e < length (ends_of m v)) (sym s) lt in
        subst (λ v. total k (machine (slice_set m.cores b (came core i.moved)) (link_put m.links a b rest) m.trace) v e ≡ total k m v e) s (here k e lt')
