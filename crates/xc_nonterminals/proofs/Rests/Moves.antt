-- Steps over the rests of a symbol, for one room.
use Rattle.std.proofs.Common.{◌≡◌, ℕ, zero, suc, ◌+◌, ◌≤◌, ◌⊎◌, inl, inr, Bool, true, false, ◌&&◌, leb, List, [], ◌∷◌, if◌then◌else◌, Option, Some, None, refl, arith}
use Rattle.std.proofs.lemmas.Bool.{and_parts, leb-true}
use Rattle.xc_tree.specs.declared.token.Tok.{Tok}
use Rattle.xc_tree.specs.Symbol.{Symbol, Value}
use Rattle.xc_tree.specs.Grammar.{Extent}
use Rattle.xc_tree.specs.Derives.{Room, unlimited, at_most, HasRoom, whole}
use Rattle.xc_nonterminals.specs.Follows.{StandsAt}
use Rattle.xc_nonterminals.proofs.Rests.Rests.{Part, ValuesOf, Rest, Ends, Starts, Open}
use Rattle.xc_nonterminals.proofs.Rests.Opening.{fronts, keep, spread, grown, layers, over, behind, behind_part, behind_parts, as_token, all_ready, is_any, peak, sift, keep_if, least, OneFits, NoneFits, Within, moves}
use Rattle.xc_nonterminals.proofs.Rests.Behinds.{TokenAt, token_derives, token_stands, as_back}
use Rattle.xc_nonterminals.proofs.Rests.Spreads.{spreads, max_has}
use Rattle.xc_nonterminals.proofs.Rests.Overs.{at_behind}
use Rattle.xc_nonterminals.proofs.Rests.Narrows.{Narrows, compose, narrow, at_token}

-- one of some rests has room
abbrev pub OneHas : {V : Type 0} → Room → List (Rest V) → Type 0
OneHas room [] = ⊥
OneHas room (r ∷ rs) = HasRoom room r.need ⊎ OneHas room rs

module _ {toks : List Tok} {room : Room} {s : Symbol} {i k : ℕ} where
  pub grows : (n : ℕ) (t : Symbol) → StandsAt toks k t → (rs : List (Rest (Value s))) → Narrows toks room s i k rs k k (grown n (fronts s) t rs)
  grows zero t at rs = at_token t at rs
  grows (suc n) t at rs = compose (compose (at_token t at rs) (spreads k (keep (fronts s) t rs)) (omega arith)) (grows n t at (spread (keep (fronts s) t rs))) (omega arith)

  pub overs : (t : Symbol) (v : Value t) → TokenAt toks k t v → (rs : List (Rest (Value s))) → all_ready (fronts s) t (grown layers (fronts s) t rs) ≡ true → Narrows toks room s i k rs (k + 1) (k + 1) (over (fronts s) t v rs)
  overs t v at rs e = compose (grows layers t (token_stands toks k t v at) rs) (at_behind toks room s i k t v at (grown layers (fronts s) t rs) e) (omega arith)

-- a rest behind a token shows that the token is a prefix
module _ (toks : List Tok) (room : Room) {V : Type 0} (k : ℕ) (t : Symbol) (v : Value t) (at : TokenAt toks k t v) where
  part_here : (n : ℕ) (p : Part) (ps : List Part) (f : ValuesOf (p ∷ ps) → Bool) (m : Extent → ValuesOf (p ∷ ps) → V) (rs' : List (Rest V)) (o : Option (Value p.symbol)) → as_token p.symbol t v ≡ o → (rs : List (Rest V)) → (OneHas room rs' → Starts toks room rs k (k + 1)) → OneHas room (behind_part n p ps f m o rs') → Starts toks room (record { need = n; parts = p ∷ ps; fits = f; make = m } ∷ rs) k (k + 1)
  part_here n p ps f m rs' None e rs g h = inr (g h)
  part_here n p ps f m rs' (Some u) e rs g (inl h) = let l = max_has room n p.above h in inl (l.0, inl (l.1, whole (token_derives p.symbol (as_back toks k p.symbol t v u e at))))
  part_here n p ps f m rs' (Some u) e rs g (inr h) = inr (g h)

  rest_here : (n : ℕ) (ps : List Part) (f : ValuesOf ps → Bool) (m : Extent → ValuesOf ps → V) (rs' rs : List (Rest V)) → (OneHas room rs' → Starts toks room rs k (k + 1)) → OneHas room (behind_parts t v n ps f m rs') → Starts toks room (record { need = n; parts = ps; fits = f; make = m } ∷ rs) k (k + 1)
  rest_here n [] f m rs' rs g h = inr (g h)
  rest_here n (p ∷ ps) f m rs' rs g h = part_here n p ps f m rs' (as_token p.symbol t v) refl rs g h

  pub behind_here : (rs : List (Rest V)) → OneHas room (behind t v rs) → Starts toks room rs k (k + 1)
  behind_here [] h = absurd h
  behind_here (r ∷ rs) h = rest_here r.need r.parts r.fits r.make (behind t v rs) rs (behind_here rs) h

module _ {toks : List Tok} {room : Room} {s : Symbol} {i k : ℕ} {rs : List (Rest (Value s))} where
  -- over a token
  pub pass : (t : Symbol) (v : Value t) → TokenAt toks k t v → Open toks room s i k k rs → all_ready (fronts s) t (grown layers (fronts s) t rs) ≡ true → OneHas room (over (fronts s) t v rs) → Open toks room s i (k + 1) (k + 1) (over (fronts s) t v rs)
  pass t v at o e h =
      let g = grows {room = room} {s = s} {i = i} layers t (token_stands toks k t v at) rs in
      narrow o (overs t v at rs e) (omega arith) (o.prefix (k + 1) (g.starts_back (k + 1) (behind_here toks room k t v at (grown layers (fronts s) t rs) h)))

  -- where it stays
  pub stay : {rs' : List (Rest (Value s))} → Open toks room s i k k rs → Narrows toks room s i k rs k k rs' → Open toks room s i k k rs'
  stay o b = narrow o b (omega arith) o.here

-- room for one of some rests
pub any_has : {V : Type 0} (rs : List (Rest V)) → is_any rs ≡ true → OneHas unlimited rs
any_has [] e = absurd (cc)
any_has (r ∷ rs) e = inl tt

least_has : {V : Type 0} (room n : ℕ) (rs : List (Rest V)) → least n rs ≤ room → (n ≤ room) ⊎ OneHas (at_most room) rs
least_has room n [] h = inl h
least_has room n (r ∷ rs) h = go (leb r.need n) (least_has room (if leb r.need n then r.need else n) rs h)
  where
    go : (b : Bool) → ((if b then r.need else n) ≤ room) ⊎ OneHas (at_most room) rs → (n ≤ room) ⊎ OneHas (at_most room) (r ∷ rs)
    go true (inl l) = inr (inl l)
    go true (inr l) = inr (inr l)
    go false (inl l) = inl l
    go false (inr l) = inr (inr l)

pub within_le : (n room : ℕ) → Within n room → n ≤ room
within_le zero room h = omega arith
within_le (suc n) room h = h

pub one_has : {V : Type 0} (room : ℕ) (rs : List (Rest V)) → OneFits room rs → OneHas (at_most room) rs
one_has room [] h = absurd h
one_has room (r ∷ rs) h = elim (least_has room r.need rs (within_le (least r.need rs) room h)) [ inl l ↦ inl l | inr l ↦ inr l ]

pub one_any : {V : Type 0} (room : ℕ) (rs : List (Rest V)) → OneFits room rs → OneHas unlimited rs
one_any room [] h = absurd h
one_any room (r ∷ rs) h = inl tt

pub peak_has : {V : Type 0} (room : ℕ) (rs : List (Rest V)) → is_any rs ≡ true → peak rs ≤ room → OneHas (at_most room) rs
peak_has room [] e h = absurd (cc)
peak_has room (r ∷ rs) e h = let l : r.need ≤ room = grind arith in inl l

-- no rest without room ends or begins
module _ (toks : List Tok) (i k room : ℕ) {V : Type 0} where
  pub none_ends : (rs : List (Rest V)) (j : ℕ) (v : V) → NoneFits room rs → Ends toks (at_most room) rs i k j v → ⊥
  none_ends [] j v h x = x
  none_ends (r ∷ rs) j v h (inl x) = let a = h.0 in let b = x.1 in absurd (omega arith)
  none_ends (r ∷ rs) j v h (inr x) = none_ends rs j v h.1 x

  pub none_starts : (rs : List (Rest V)) (n : ℕ) → NoneFits room rs → Starts toks (at_most room) rs k n → ⊥
  none_starts [] n h x = x
  none_starts (r ∷ rs) n h (inl x) = let a = h.0 in let b = x.0 in absurd (omega arith)
  none_starts (r ∷ rs) n h (inr x) = none_starts rs n h.1 x

-- fewer rests need no more room
sift_one : {V : Type 0} (c : Bool) (r : Rest V) (rs kept : List (Rest V)) → peak kept ≤ peak rs → peak (keep_if c r kept) ≤ peak (r ∷ rs)
sift_one true r rs kept h = grind arith
sift_one false r rs kept h = grind arith

pub sift_peak : {V : Type 0} (b : Rest V → Bool) (rs : List (Rest V)) → peak (sift b rs) ≤ peak rs
sift_peak b [] = omega arith
sift_peak b (r ∷ rs) = sift_one (b r) r rs (sift b rs) (sift_peak b rs)

-- what `moves` says
pub record Moves {V : Type 0} (fs : List Symbol) (t : Symbol) (rs rs' : List (Rest V)) : Type 0 where
  pub ready : all_ready fs t (grown layers fs t rs) ≡ true
  pub any : is_any rs' ≡ true
  pub needs : peak rs' ≤ peak rs

pub moves_from : {V : Type 0} (fs : List Symbol) (t : Symbol) (rs rs' : List (Rest V)) → moves fs t rs rs' ≡ true → Moves fs t rs rs'
moves_from fs t rs rs' e =
    let p = and_parts (all_ready fs t (grown layers fs t rs) && is_any rs') (leb (peak rs') (peak rs)) e in
    let q = and_parts (all_ready fs t (grown layers fs t rs)) (is_any rs') p.0 in
    record { ready = q.0; any = q.1; needs = leb-true (peak rs') (peak rs) p.1 }
