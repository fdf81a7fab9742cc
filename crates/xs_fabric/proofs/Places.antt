-- A link never holds more than 512 items: for each of 32 ends 8 tokens and 8 credits.
use Rattle.std.proofs.Common.{◌≡◌, ◌≤◌, ◌<◌, ◌+◌, ◌*◌, ℕ, zero, suc, Bool, true, false, List, [], ◌∷◌, length, ap, refl, le_refl, inl, inr, subst, arith}
use Rattle.std.specs.Prelude.{nat_eq, ◌≢◌, ◌⊎◌}
use Rattle.xs_instr.specs.declared.image.CoreImage.{CoreImage}
use Rattle.xs_instr.specs.declared.image.Image.{Image}
use Rattle.xs_instr.specs.declared.state.Item.{Item}
use Rattle.xs_instr.specs.declared.state.Moved.{Moved}
use Rattle.xs_instr.specs.declared.state.Moved.TheVariants.{Tok, Credit}
use Rattle.xs_instr.specs.Ends.{Peer}
use Rattle.xs_instr.specs.Machine.{Machine, link_of, parts_by, parts_in}
use Rattle.xs_instr.specs.Valid.{AreGoodCores, IsThere, Valid}
use Rattle.xs_core.specs.Room.{Tokens, Credits, weight, items_weight, total}
use Rattle.xs_core.proofs.Weights.{same_num}
use Rattle.xs_core.proofs.Peers.{peer_there, peer_twice}
use Rattle.xs_fabric.proofs.Sound.{Sound, AllThere, target, peer_at, row_below, way_least, weight_target}

-- no core has more than 32 ends
few_ends : (ks : List CoreImage) (n c : ℕ) → AreGoodCores n ks → (parts_in ks c).ends ≤ 32
few_ends [] n c h = omega arith
few_ends (k ∷ ks) n c h = go (nat_eq k.number c) (few_ends ks (k.number + 1) c h.3)
  where
    go : (b : Bool) → (parts_in ks c).ends ≤ 32 → (parts_by k (parts_in ks c) b).ends ≤ 32
    go true rest = h.2.ends
    go false rest = rest

-- how many items are for one of the ends below n
abbrev for_ends : ℕ → List Item → ℕ
for_ends zero items = 0
for_ends (suc n) items = for_ends n items + (items_weight Tokens n items + items_weight Credits n items)

abbrev for_ends_one : ℕ → Moved → ℕ
for_ends_one zero m = 0
for_ends_one (suc n) m = for_ends_one n m + (weight Tokens n m + weight Credits n m)

for_ends_first : (n : ℕ) (i : Item) (items : List Item) → for_ends n (i ∷ items) ≡ for_ends_one n i.moved + for_ends n items
for_ends_first zero i items = omega arith
for_ends_first (suc n) i items = let rest = for_ends_first n i items in omega (arith, rest)

weight_one : (m : Moved) → weight Tokens (target m) m + weight Credits (target m) m ≡ 1
weight_one (Tok e k) = let w = weight_target e in omega (arith, w)
weight_one (Credit e) = let w = weight_target e in omega (arith, w)

counted_once : (n : ℕ) (m : Moved) → target m < n → 1 ≤ for_ends_one n m
counted_once zero m lt = absurd (omega arith)
counted_once (suc n) m lt = go (same_num (target m) n) (λ less. counted_once n m less)
  where
    go : (target m ≡ n) ⊎ (target m ≢ n) → (target m < n → 1 ≤ for_ends_one n m) → 1 ≤ for_ends_one n m + (weight Tokens n m + weight Credits n m)
    go (inl e) rest =
        let w = subst (λ v. weight Tokens v m + weight Credits v m ≡ 1) e (weight_one m) in
        omega (arith, w)
    go (inr ne) rest = let less : target m < n = omega arith in let r = rest less in omega (arith, r)

all_counted : (L : Image) (b n : ℕ) (items : List Item) → n ≡ (parts_in L.cores b).ends → AllThere L b items → length items ≤ for_ends n items
all_counted L b n [] is h = omega arith
all_counted L b n (i ∷ items) is h =
    let there = h.0 in
    let lt : target i.moved < n = omega (arith, is, there) in
    let one = counted_once n i.moved lt in
    let first = for_ends_first n i items in
    let rest = all_counted L b n items is h.1 in
    omega (arith, one, first, rest)

module _ (L : Image) (valid : Valid L) (m : Machine) (sound : Sound L m) (a b : ℕ) (la : a < 4) where
  tokens_few : (e : ℕ) → IsThere L.cores b e → items_weight Tokens e (link_of m.links a b) ≤ 8
  tokens_few e there =
      let q = peer_at L b e in
      let back = peer_twice L valid b e there in
      let sum = sound.sums q.core q.end (peer_there L valid b e there) in
      let sum' = subst (λ (v : Peer). total Credits m q.core q.end + total Tokens m v.core v.end ≡ 8) back sum in
      let least = way_least Tokens e m.links a b 4 la in
      omega (arith, sum', least)

  credits_few : (e : ℕ) → IsThere L.cores b e → items_weight Credits e (link_of m.links a b) ≤ 8
  credits_few e there =
      let sum = sound.sums b e there in
      let least = way_least Credits e m.links a b 4 la in
      omega (arith, sum, least)

  ends_few : (n : ℕ) → n ≤ (parts_in L.cores b).ends → for_ends n (link_of m.links a b) ≤ 16 * n
  ends_few zero le = omega arith
  ends_few (suc n) le =
      let there : IsThere L.cores b n = omega (arith, le) in
      let rest = ends_few n (omega (arith, le)) in
      let t = tokens_few n there in
      let c = credits_few n there in
      omega (arith, rest, t, c)

  pub link_has_places : length (link_of m.links a b) ≤ 512
  link_has_places =
      let n = (parts_in L.cores b).ends in
      let all = all_counted L b n (link_of m.links a b) refl (sound.bound a b) in
      let few = ends_few n (le_refl n) in
      let most = few_ends L.cores 0 b valid.cores in
      omega (arith, all, few, most)

-- so do all, also where there is no such core
pub links_have_places : (L : Image) → Valid L → (m : Machine) → Sound L m → (a b : ℕ) → length (link_of m.links a b) ≤ 512
links_have_places L valid m sound a b = go (link_of m.links a b) refl
  where
    go : (items : List Item) → link_of m.links a b ≡ items → length (link_of m.links a b) ≤ 512
    go [] e = let none = ap length e in omega (arith, none)
    go (i ∷ rest) e = link_has_places L valid m sound a b (row_below m.links a b i rest sound.square e)
