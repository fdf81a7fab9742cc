-- Where a token stands that a longer reading of the symbol goes on with, the rests that are at their end don't count.
use Rattle.std.proofs.Common.{◌≡◌, ℕ, ◌≤◌, Bool, true, false, List, [], ◌∷◌, subst, sym, arith}
use Rattle.xc_tree.specs.declared.token.Tok.{Tok}
use Rattle.xc_tree.specs.Symbol.{Symbol, Value}
use Rattle.xc_tree.specs.Derives.{Room, unlimited, at_most}
use Rattle.xc_nonterminals.specs.Follows.{OneOf}
use Rattle.xc_nonterminals.proofs.Derivations.TokenSets.{front}
use Rattle.xc_nonterminals.proofs.Rests.Rests.{Part, Rest, ValuesOf, RowOf, BeginsOf}
use Rattle.xc_nonterminals.proofs.Rests.Opening.{fronts, sift, keep_if, peak}
use Rattle.xc_nonterminals.proofs.Rests.Narrows.{Gone, narrow, sifted}
use Rattle.xc_nonterminals.proofs.Reading.Paths.{Roomy}

abbrev pub any_part : List Part → Bool
any_part [] = false
any_part (p ∷ ps) = true

-- whether something of a rest is left
abbrev pub is_left : {V : Type 0} → Rest V → Bool
is_left r = any_part r.parts

ends_here : (toks : List Tok) (room : Room) (ps : List Part) (k j : ℕ) (vs : ValuesOf ps) → any_part ps ≡ false → RowOf toks room ps k j vs → j ≡ k
ends_here toks room [] k j vs e r = r
ends_here toks room (p ∷ ps) k j vs e r = absurd (cc)

begins_nowhere : (toks : List Tok) (room : Room) (ps : List Part) (k n : ℕ) → any_part ps ≡ false → BeginsOf toks room ps k n → ⊥
begins_nowhere toks room [] k n e b = b
begins_nowhere toks room (p ∷ ps) k n e b = absurd (cc)

left_peak : {V : Type 0} (rs : List (Rest V)) (room : ℕ) → peak rs ≤ room → peak (sift is_left rs) ≤ room
left_peak [] room h = h
left_peak (r ∷ rs) room h = by_part (is_left r) (left_peak rs room (omega arith))
  where
    by_part : (b : Bool) → peak (sift is_left rs) ≤ room → peak (keep_if b r (sift is_left rs)) ≤ room
    by_part true l = omega arith
    by_part false l = l

gone : {toks : List Tok} (limit : Room) {s : Symbol} (i : ℕ) {k : ℕ} → OneOf toks k (fronts s) → (r : Rest (Value s)) → is_left r ≡ false → Gone toks limit s i k k r
gone {toks} limit {s} i {k} o r e = record {
  ends = λ j v x. front s v (subst (λ n. OneOf toks n (fronts s)) (sym (ends_here toks limit r.parts k j x.0 e x.2)) o);
  starts = λ n x. absurd (begins_nowhere toks limit r.parts k n e x.1);
}

module _ {toks : List Tok} {room : ℕ} {s : Symbol} {i k : ℕ} {rs : List (Rest (Value s))} where
  pub unfinished : Roomy toks room s i k rs → OneOf toks k (fronts s) → Roomy toks room s i k (sift is_left rs)
  unfinished st o = record {
    stands = record {
      free = narrow st.stands.free (sifted is_left (gone unlimited i o) rs) (omega arith) st.stands.free.here;
      held = narrow st.stands.held (sifted is_left (gone (at_most room) i o) rs) (omega arith) st.stands.held.here;
    };
    needs = left_peak rs room st.needs;
  }
