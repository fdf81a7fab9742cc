-- The tokens of a text stand in its order, and the place behind the text behind all of them.
use Rattle.std.proofs.Common.{◌≡◌, ◌+◌, ◌<◌, ◌≤◌, ℕ, zero, suc, List, [], ◌∷◌, length, refl, sym, subst, arith}
use Rattle.xc_tree.specs.declared.token.Tok.{Tok}
use Rattle.xc_tree.specs.Lexes.{Lexes, IsBefore}
use Rattle.xc_tree.specs.Parses.{place_at}
use Rattle.xc_tree.specs.Places.{pos_at}
use Rattle.xc_lexer.proofs.Order.{Rising, poses, rising}
use Rattle.xc_lexer.proofs.Spans.{pos_before}
use Rattle.xr_front.specs.Rules.{end_of}

few : (text : List ℕ) (a : ℕ) (toks : List Tok) → Rising text a (poses toks) → a + length toks ≤ length text
few text a [] h = omega (arith, h)
few text a (t ∷ ts) h = let from = h.1 in let rest = few text (h.0 + 1) ts h.4 in omega (arith, from, rest)

-- a text has no more tokens than bytes
pub tokens_few : (text : List ℕ) (toks : List Tok) → Lexes text toks → length toks ≤ length text
tokens_few text toks l = let h = few text 0 toks (rising text toks l) in omega (arith, h)

stands : (text : List ℕ) (a : ℕ) (toks : List Tok) (i : ℕ) → Rising text a (poses toks) → (k : ℕ) × (a ≤ k) × (place_at toks (end_of text) i ≡ pos_at text k)
stands text a [] i h = (length text, h, refl)
stands text a (t ∷ ts) zero h = (h.0, h.1, h.3)
stands text a (t ∷ ts) (suc i) h =
    let later = stands text (h.0 + 1) ts i h.4 in
    let from = h.1 in
    let on = later.1 in
    (later.0, omega (arith, from, on), later.2)

in_order : (text : List ℕ) (a : ℕ) (toks : List Tok) (i j : ℕ) → Rising text a (poses toks) → i < j → j ≤ length toks → IsBefore (place_at toks (end_of text) i) (place_at toks (end_of text) j)
in_order text a [] i j h l m = absurd (omega (arith, l, m))
in_order text a (t ∷ ts) i zero h l m = absurd (omega (arith, l))
in_order text a (t ∷ ts) zero (suc j) h l m =
    let later = stands text (h.0 + 1) ts j h.4 in
    let on = later.1 in
    subst (λ p. IsBefore p (place_at ts (end_of text) j)) (sym h.3)
    (subst (IsBefore (pos_at text h.0)) (sym later.2) (pos_before text h.0 later.0 (omega (arith, on)) h.2))
in_order text a (t ∷ ts) (suc i) (suc j) h l m = in_order text (h.0 + 1) ts i j h.4 (omega (arith, l)) (omega (arith, m))

-- a token stands before each later one, and before the place behind the text
pub tokens_in_order : (text : List ℕ) (toks : List Tok) → Lexes text toks → (i j : ℕ) → i < j → j ≤ length toks → IsBefore (place_at toks (end_of text) i) (place_at toks (end_of text) j)
tokens_in_order text toks l i j = in_order text 0 toks i j (rising text toks l)
