-- The tokens of a text stand in its order.
use Rattle.std.proofs.Common.{◌≡◌, ◌+◌, ◌<◌, ◌≤◌, ℕ, zero, suc, List, [], ◌∷◌, ◌++◌, length, map, Some, slice_get, refl, sym, subst, arith}
use Rattle.xw_words.specs.declared.pos.Pos.{Pos}
use Rattle.xc_tree.specs.declared.token.Tok.{Tok}
use Rattle.xc_tree.specs.declared.lexing.Start.{Start}
use Rattle.xc_tree.specs.declared.lexing.Start.TheVariants.{End, Blank, LineEnd, LineComment, BlockComment, Hash, Letter, Digit, Other}
use Rattle.xc_tree.specs.Extents.{Extent, Tiles, extents, token_place, token_places}
use Rattle.xc_tree.specs.Lexes.{Lexes, IsBefore}
use Rattle.xc_tree.specs.Places.{pos_at}
use Rattle.xc_tree.specs.Programs.{Rise}
use Rattle.xc_lexer.proofs.Extents.{pieces_tile, tokens_stand}
use Rattle.xc_lexer.proofs.Spans.{pos_before}

-- places of a text from a on, each behind the one before it
abbrev pub Rising : List ℕ → ℕ → List Pos → Type 0
Rising text a [] = a ≤ length text
Rising text a (p ∷ ps) = (k : ℕ) × (a ≤ k) × (k < length text) × (p ≡ pos_at text k) × Rising text (k + 1) ps

in_text : (text : List ℕ) (a : ℕ) (ps : List Pos) → Rising text a ps → a ≤ length text
in_text text a [] h = h
in_text text a (p ∷ ps) h = let from = h.1 in let to = h.2 in omega (arith, from, to)

earlier : (text : List ℕ) (a b : ℕ) (ps : List Pos) → a ≤ b → Rising text b ps → Rising text a ps
earlier text a b [] l h = omega (arith, l, h)
earlier text a b (p ∷ ps) l h = let from = h.1 in (h.0, omega (arith, l, from), h.2, h.3, h.4)

-- a token's place, and those behind its piece
of_piece : (text : List ℕ) (a b : ℕ) (s : Start) (ps : List Pos) → a < b → Rising text b ps → Rising text a (token_place text a s ++ ps)
of_piece text a b Letter ps l h = let within = in_text text b ps h in (a, omega arith, omega (arith, l, within), refl, earlier text (a + 1) b ps (omega (arith, l)) h)
of_piece text a b Digit ps l h = let within = in_text text b ps h in (a, omega arith, omega (arith, l, within), refl, earlier text (a + 1) b ps (omega (arith, l)) h)
of_piece text a b Other ps l h = let within = in_text text b ps h in (a, omega arith, omega (arith, l, within), refl, earlier text (a + 1) b ps (omega (arith, l)) h)
of_piece text a b End ps l h = earlier text a b ps (omega (arith, l)) h
of_piece text a b Blank ps l h = earlier text a b ps (omega (arith, l)) h
of_piece text a b LineEnd ps l h = earlier text a b ps (omega (arith, l)) h
of_piece text a b LineComment ps l h = earlier text a b ps (omega (arith, l)) h
of_piece text a b BlockComment ps l h = earlier text a b ps (omega (arith, l)) h
of_piece text a b Hash ps l h = earlier text a b ps (omega (arith, l)) h

of_pieces : (text : List ℕ) (a : ℕ) (xs : List Extent) → Tiles a (length text) xs → Rising text a (token_places text xs)
of_pieces text a [] h = omega (arith, h)
of_pieces text a (x ∷ xs) h =
    subst (λ i. Rising text a (token_place text i x.begins ++ token_places text xs)) (sym h.0)
    (of_piece text a x.to x.begins (token_places text xs) h.1 (of_pieces text x.to xs h.2))

abbrev pub poses : List Tok → List Pos
poses toks = map (λ tok. tok.pos) toks

pub rising : (text : List ℕ) (toks : List Tok) → Lexes text toks → Rising text 0 (poses toks)
rising text toks l = subst (Rising text 0) (sym (tokens_stand text toks l)) (of_pieces text 0 (extents l.leads) (pieces_tile text toks l))

-- a token of these stands at a byte of the text
at_byte : (text : List ℕ) (a : ℕ) (toks : List Tok) (i : ℕ) (t : Tok) → Rising text a (poses toks) → slice_get toks i ≡ Some t → (k : ℕ) × (a ≤ k) × (k < length text) × (t.pos ≡ pos_at text k)
at_byte text a [] i t h e = absurd (cc)
at_byte text a (x ∷ xs) zero t h e = let same : x ≡ t = cc in (h.0, h.1, h.2, subst (λ (p : Tok). p.pos ≡ pos_at text h.0) same h.3)
at_byte text a (x ∷ xs) (suc i) t h e =
    let later = at_byte text (h.0 + 1) xs i t h.4 e in
    let from = h.1 in
    let on = later.1 in
    (later.0, omega (arith, from, on), later.2, later.3)

each_before : (text : List ℕ) (a : ℕ) (toks : List Tok) → Rising text a (poses toks) → Rise toks
each_before text a [] h i j t u e f l = absurd (cc)
each_before text a (x ∷ xs) h i zero t u e f l = absurd (omega (arith, l))
each_before text a (x ∷ xs) h zero (suc j) t u e f l =
    let later = at_byte text (h.0 + 1) xs j u h.4 f in
    let on = later.1 in
    let same : x ≡ t = cc in
    let here : t.pos ≡ pos_at text h.0 = subst (λ (p : Tok). p.pos ≡ pos_at text h.0) same h.3 in
    subst (λ p. IsBefore p u.pos) (sym here) (subst (IsBefore (pos_at text h.0)) (sym later.3) (pos_before text h.0 later.0 (omega (arith, on)) h.2))
each_before text a (x ∷ xs) h (suc i) (suc j) t u e f l = each_before text (h.0 + 1) xs h.4 i j t u e f (omega (arith, l))

-- the tokens of a text stand at rising places
pub rise : (text : List ℕ) (toks : List Tok) → Lexes text toks → Rise toks
rise text toks l = each_before text 0 toks (rising text toks l)
