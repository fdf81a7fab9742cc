-- The pieces of a text lie one behind the other, and each byte is in one.
use Rattle.std.proofs.Common.{◌≡◌, ℕ, ◌+◌, ◌<◌, ◌≤◌, Bool, true, false, cond, ◌&&◌, nat_le, nat_lt, inl, inr, List, [], ◌∷◌, length, refl, ap, subst, ◌∙◌, arith}
use Rattle.std.specs.Prelude.{count_by}
use Rattle.std.proofs.lemmas.Bool.{cases_lt, le-leb, lt-leb, lt-ltb, le-ltb}
use Rattle.std.proofs.lemmas.List.Sums.{sum_by-cons}
use Rattle.xc_tree.specs.declared.token.Tok.{Tok}
use Rattle.xc_tree.specs.Pieces.{Stand, Fault}
use Rattle.xc_tree.specs.Lexes.{Leads, here, onward, Lexes}
use Rattle.xc_tree.specs.Extents.{Extent, extents, Tiles, covers, EachOnce}
use Rattle.xc_lexer.proofs.Pieces.{piece_after}
use Rattle.std.specs.Prelude.{map}
use Rattle.std.proofs.lemmas.List.{map-append}
use Rattle.std.proofs.Common.{◌++◌, sym}
use Rattle.xw_words.specs.declared.pos.Pos.{Pos}
use Rattle.xc_tree.specs.declared.lexing.Start.{Start}
use Rattle.xc_tree.specs.declared.lexing.Start.TheVariants.{End, Blank, LineEnd, LineComment, BlockComment, Hash, Letter, Digit, Other}
use Rattle.xc_tree.specs.declared.lexing.Reading.{Reading}
use Rattle.xc_tree.specs.declared.lexing.Reading.TheVariants.{Formless, TooLarge, Fine}
use Rattle.xc_tree.specs.Bytes.{start_at}
use Rattle.xc_tree.specs.Places.{pos_at}
use Rattle.xc_tree.specs.Pieces.{PieceOf, number_faults, number_token}
use Rattle.xc_tree.specs.Extents.{token_place, token_places}
use Rattle.xc_lexer.proofs.Rows.{no_first}

tiles : (text : List ℕ) (s last : Stand) (t : List Tok) (f : List Fault) (l : Leads text s t f last) → Tiles s.at last.at (extents l)
tiles text s last t f here = refl
tiles text s last t f (onward {s' = r} u {ts} g {fs} p q) = (refl, (piece_after text s u g r p).0, tiles text r last ts fs q)

pub pieces_tile : (text : List ℕ) (toks : List Tok) (l : Lexes text toks) → Tiles 0 (length text) (extents l.leads)
pieces_tile text toks l = subst (λ n. Tiles 0 n (extents l.leads)) l.ends (tiles text _ l.last toks [] l.leads)

counts : (k : ℕ) (x : Extent) (xs : List Extent) (b : Bool) (n : ℕ) → covers k x ≡ b → count_by (covers k) xs ≡ n → count_by (covers k) (x ∷ xs) ≡ cond b 1 0 + n
counts k x xs b n e h = sum_by-cons (λ y. cond (covers k y) 1 0) x xs ∙ (λ i. cond (e i) 1 0 + h i)

no_end : (a : Bool) → (a && false) ≡ false
no_end true = refl
no_end false = refl

none_below : (i j k : ℕ) (xs : List Extent) → Tiles i j xs → k < i → count_by (covers k) xs ≡ 0
none_below i j k [] t h = refl
none_below i j k (x ∷ xs) t h =
    let e : covers k x ≡ false = ap (λ b. b && nat_lt k x.to) (lt-leb x.from k (omega (arith, t.0))) in
    counts k x xs false 0 e (none_below x.to j k xs t.2 (omega (arith, t.1)))

once : (i j k : ℕ) (xs : List Extent) → Tiles i j xs → i ≤ k → k < j → count_by (covers k) xs ≡ 1
once i j k [] t a b = absurd (omega (arith, t))
once i j k (x ∷ xs) t a b =
    let begun : nat_le x.from k ≡ true = le-leb x.from k (omega (arith, t.0)) in
    elim (cases_lt k x.to) [
      | inl h ↦
          let e : covers k x ≡ true = (λ i. begun i && lt-ltb k x.to h i) in
          counts k x xs true 0 e (none_below x.to j k xs t.2 h)
      | inr h ↦
          let e : covers k x ≡ false = ap (λ b. nat_le x.from k && b) (le-ltb k x.to h) ∙ no_end (nat_le x.from k) in
          counts k x xs false 1 e (once x.to j k xs t.2 h b)
    ]

pub each_once : (text : List ℕ) (toks : List Tok) (l : Lexes text toks) → EachOnce (length text) (extents l.leads)
each_once text toks l = λ k h. once 0 (length text) k (extents l.leads) (pieces_tile text toks l) (omega arith) h

-- where tokens stand
abbrev poses : List Tok → List Pos
poses t = map (λ k. k.pos) t

number_place : (text : List ℕ) (i : ℕ) (r : Reading) → number_faults i r ≡ [] → poses (number_token text i r) ≡ pos_at text i ∷ []
number_place text i Formless e = absurd (cc)
number_place text i TooLarge e = absurd (cc)
number_place text i (Fine n) e = refl

piece_place : (text : List ℕ) (s s' : Stand) (t : List Tok) (f : List Fault) (x : Start) → PieceOf text s x t f s' → f ≡ [] → poses t ≡ token_place text s.at x
piece_place text s s' t f End p e = absurd p
piece_place text s s' t f Blank p e = ap poses p.0
piece_place text s s' t f LineEnd p e = ap poses p.0
piece_place text s s' t f LineComment p e = ap poses p.2
piece_place text s s' t f BlockComment (inl p) e = ap poses p.2
piece_place text s s' t f BlockComment (inr p) e = ap poses p.1
piece_place text s s' t f Hash p e = ap poses p.0
piece_place text s s' t f Letter p e = ap poses p.2
piece_place text s s' t f Digit p e = ap poses p.2 ∙ number_place text s.at _ (sym p.3 ∙ e)
piece_place text s s' t f Other (inl p) e = ap poses p.3
piece_place text s s' t f Other (inr p) e = let h = sym p.2 ∙ e in absurd (cc)

row_places : (text : List ℕ) (s last : Stand) (t : List Tok) (f : List Fault) (l : Leads text s t f last) → f ≡ [] → poses t ≡ token_places text (extents l)
row_places text s last t f here e = refl
row_places text s last t f (onward {s' = r} u {ts} g {fs} p q) e =
    let n = no_first g fs e in
    map-append (λ (k : Tok). k.pos) u ts ∙ (λ i. piece_place text s r u g (start_at text s.at) p n.0 i ++ row_places text r last ts fs q n.1 i)

pub tokens_stand : (text : List ℕ) (toks : List Tok) (l : Lexes text toks) → poses toks ≡ token_places text (extents l.leads)
tokens_stand text toks l = row_places text _ l.last toks [] l.leads refl
