-- The tokens of each text rise.
use Rattle.std.proofs.Common.{◌≡◌, inl, inr, ℕ, zero, suc, ◌+◌, ◌<◌, ◌≤◌, Bool, true, false, if◌then◌else◌, nat_eq, List, [], ◌∷◌, ◌++◌, length, map, take, slice_get, Some, None, refl, sym, subst, ◌∙◌, arith}
use Rattle.xw_words.specs.declared.pos.Pos.{Pos}
use Rattle.xc_tree.specs.declared.token.Tok.{Tok}
use Rattle.xc_tree.specs.declared.lexing.Start.{Start}
use Rattle.xc_tree.specs.declared.lexing.Start.TheVariants.{End, Blank, LineEnd, LineComment, BlockComment, Hash, Letter, Digit, Other}
use Rattle.xc_tree.specs.Places.{next_pos, pos_behind, pos_at}
use Rattle.xc_tree.specs.Extents.{Extent, extents, Tiles, token_place, token_places}
use Rattle.xc_tree.specs.Lexes.{IsBefore}
use Rattle.xc_lexer.proofs.Extents.{pieces_tile, tokens_stand}
use Rattle.xc_wellformed.specs.Laws.{TextsRise}

-- places behind bytes

ahead : (p : Pos) (b : ℕ) → IsBefore p (next_pos p b)
unfolding next_pos
ahead p b = by (nat_eq b 10)
  where
    by : (c : Bool) → IsBefore p (if c then record { line = p.line + 1; col = 1 } else record { line = p.line; col = p.col + 1 })
    by true = inl (omega arith)
    by false = inr (refl, omega arith)

before_through : (p q r : Pos) → IsBefore p q → IsBefore q r → IsBefore p r
before_through p q r (inl a) (inl b) = inl (omega arith)
before_through p q r (inl a) (inr b) = inl (let e = b.0 in omega arith)
before_through p q r (inr a) (inl b) = inl (let e = a.0 in omega arith)
before_through p q r (inr a) (inr b) = inr (a.0 ∙ b.0, (let x = a.1 in let y = b.1 in omega arith))

-- behind more bytes
behind : (p q : Pos) (bs : List ℕ) → IsBefore p q → IsBefore p (pos_behind q bs)
unfolding pos_behind
behind p q [] h = h
behind p q (b ∷ bs) h = behind p (next_pos q b) bs (before_through p q (next_pos q b) h (ahead q b))

rises : (p : Pos) (bs : List ℕ) (k l : ℕ) → k < l → l ≤ length bs → IsBefore (pos_behind p (take k bs)) (pos_behind p (take l bs))
unfolding pos_behind
rises p [] k l h g = absurd (let q : ⊥ = omega arith in q)
rises p (b ∷ bs) zero zero h g = absurd (let q : ⊥ = omega arith in q)
rises p (b ∷ bs) zero (suc l) h g = behind p (next_pos p b) (take l bs) (ahead p b)
rises p (b ∷ bs) (suc k) zero h g = absurd (let q : ⊥ = omega arith in q)
rises p (b ∷ bs) (suc k) (suc l) h g = rises (next_pos p b) bs k l (omega arith) (omega arith)

abbrev line_of : Pos → ℕ
line_of p = p.line

next_line : (p : Pos) (b : ℕ) → 0 < p.line → 0 < (next_pos p b).line
unfolding next_pos
next_line p b h = by (nat_eq b 10)
  where
    by : (c : Bool) → 0 < line_of (if c then record { line = p.line + 1; col = 1 } else record { line = p.line; col = p.col + 1 })
    by true = omega arith
    by false = h

line_behind : (p : Pos) (bs : List ℕ) → 0 < p.line → 0 < (pos_behind p bs).line
unfolding pos_behind
line_behind p [] h = h
line_behind p (b ∷ bs) h = line_behind (next_pos p b) bs (next_line p b h)

-- places of bytes from i on and below j, each behind the one before
abbrev Spots : List ℕ → ℕ → ℕ → List Pos → Type 0
Spots text i j [] = i ≤ j
Spots text i j (p ∷ ps) = (k : ℕ) × (i ≤ k) × (k < j) × (p ≡ pos_at text k) × Spots text (k + 1) j ps

lower : (text : List ℕ) (h i j : ℕ) (ps : List Pos) → h ≤ i → Spots text i j ps → Spots text h j ps
lower text h i j [] l s = omega arith
lower text h i j (p ∷ ps) l s = let a = s.1 in (s.0, omega arith, s.2, s.3, s.4)

spots_both : (text : List ℕ) (i j k : ℕ) (ps qs : List Pos) → Spots text i j ps → Spots text j k qs → Spots text i k (ps ++ qs)
spots_both text i j k [] qs s t = lower text i j k qs s t
spots_both text i j k (p ∷ ps) qs s t = let a = s.2 in let b = end j k qs t in (s.0, s.1, omega arith, s.3, spots_both text (s.0 + 1) j k ps qs s.4 t)
  where
    end : (x y : ℕ) (rs : List Pos) → Spots text x y rs → x ≤ y
    end x y [] u = u
    end x y (r ∷ rs) u = let a = u.1 in let b = u.2 in omega arith

one_spot : (text : List ℕ) (i j : ℕ) (b : Start) → i < j → Spots text i j (token_place text i b)
one_spot text i j Letter h = (i, omega arith, h, refl, omega arith)
one_spot text i j Digit h = (i, omega arith, h, refl, omega arith)
one_spot text i j Other h = (i, omega arith, h, refl, omega arith)
one_spot text i j End h = omega arith
one_spot text i j Blank h = omega arith
one_spot text i j LineEnd h = omega arith
one_spot text i j LineComment h = omega arith
one_spot text i j BlockComment h = omega arith
one_spot text i j Hash h = omega arith

all_spots : (text : List ℕ) (i j : ℕ) (xs : List Extent) → Tiles i j xs → Spots text i j (token_places text xs)
all_spots text i j [] t = omega arith
all_spots text i j (x ∷ xs) t =
    spots_both text i x.to j (token_place text x.from x.begins) (token_places text xs)
    (subst (λ (k : ℕ). Spots text i x.to (token_place text k x.begins)) (sym t.0) (one_spot text i x.to x.begins t.1)) (all_spots text x.to j xs t.2)

-- the one at a place of the list
record Spot (text : List ℕ) (i j : ℕ) (p : Pos) : Type 0 where
  pub byte : ℕ
  pub from : i ≤ byte
  pub below : byte < j
  pub place : p ≡ pos_at text byte

spot_at : (text : List ℕ) (i j : ℕ) (ps : List Pos) (a : ℕ) (p : Pos) → Spots text i j ps → slice_get ps a ≡ Some p → Spot text i j p
spot_at text i j [] a p s e = absurd (none_some p e)
  where
    none_some : (x : Pos) → None ≡ Some x → ⊥
    none_some x q = cc
spot_at text i j (q ∷ ps) zero p s e = record { byte = s.0; from = s.1; below = s.2; place = some_same p q (sym e) ∙ s.3 }
  where
    some_same : (x y : Pos) → Some x ≡ Some y → x ≡ y
    some_same x y r = cc
spot_at text i j (q ∷ ps) (suc a) p s e = let r = spot_at text (s.0 + 1) j ps a p s.4 e in record { byte = r.byte; from = let f = r.from in let g = s.1 in omega arith; below = r.below; place = r.place }

two_spots : (text : List ℕ) (i j : ℕ) (ps : List Pos) (a b : ℕ) (p q : Pos) → j ≤ length text → a < b → Spots text i j ps → slice_get ps a ≡ Some p → slice_get ps b ≡ Some q → IsBefore p q
two_spots text i j [] a b p q long l s e f = absurd (none_some p e)
  where
    none_some : (x : Pos) → None ≡ Some x → ⊥
    none_some x r = cc
two_spots text i j (r ∷ ps) zero zero p q long l s e f = absurd (let x : ⊥ = omega arith in x)
two_spots text i j (r ∷ ps) zero (suc b) p q long l s e f =
    let t = spot_at text (s.0 + 1) j ps b q s.4 f in
    subst (λ (x : Pos). IsBefore x q) (sym (some_same p r (sym e) ∙ s.3)) (subst (λ (x : Pos). IsBefore (pos_at text s.0) x) (sym t.place)
    (rises (record { line = 1; col = 1 }) text s.0 t.byte (let a = t.from in omega arith) (let a = t.below in omega arith)))
  where
    some_same : (x y : Pos) → Some x ≡ Some y → x ≡ y
    some_same x y g = cc
two_spots text i j (r ∷ ps) (suc a) zero p q long l s e f = absurd (let x : ⊥ = omega arith in x)
two_spots text i j (r ∷ ps) (suc a) (suc b) p q long l s e f = two_spots text (s.0 + 1) j ps a b p q long (omega arith) s.4 e f

pos_of : (toks : List Tok) (i : ℕ) (t : Tok) → slice_get toks i ≡ Some t → slice_get (map (λ (x : Tok). x.pos) toks) i ≡ Some t.pos
pos_of [] i t e = absurd (none_some t e)
  where
    none_some : (x : Tok) → None ≡ Some x → ⊥
    none_some x q = cc
pos_of (x ∷ toks) zero t e = cc
pos_of (x ∷ toks) (suc i) t e = pos_of toks i t e

pub texts_rise : TextsRise
texts_rise text toks l =
    let spots = all_spots text 0 (length text) (extents l.leads) (pieces_tile text toks l) in
    let stand = tokens_stand text toks l in
    record {
      lines = λ i t e.
          let s = spot_at text 0 (length text) (token_places text (extents l.leads)) i t.pos spots (subst (λ (ps : List Pos). slice_get ps i ≡ Some t.pos) stand (pos_of toks i t e)) in
          subst (λ (p : Pos). 0 < p.line) (sym s.place) (line_behind (record { line = 1; col = 1 }) (take s.byte text) (omega arith));
      rise = λ i j t u h e f.
          two_spots text 0 (length text) (token_places text (extents l.leads)) i j t.pos u.pos (omega arith) h spots
          (subst (λ (ps : List Pos). slice_get ps i ≡ Some t.pos) stand (pos_of toks i t e)) (subst (λ (ps : List Pos). slice_get ps j ≡ Some u.pos) stand (pos_of toks j u f));
    }
