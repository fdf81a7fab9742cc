-- What reading a program says of all tokens, and of the rules that they break.
use Rattle.std.proofs.Common.{◌≡◌, ℕ, ◌+◌, ◌<◌, ◌≤◌, ◌⊎◌, inl, inr, List, length, get_or, refl, sym as sym', ap, subst, arith}
use Rattle.std.proofs.lemmas.Bool.{cases_lt}
use Rattle.std.proofs.lemmas.Option.{slice_get_read, slice_get_past}
use Rattle.xw_words.specs.declared.pos.Pos.{Pos}
use Rattle.xc_tree.specs.declared.token.Tok.{Tok}
use Rattle.xc_tree.specs.Plain.{Item}
use Rattle.xc_tree.specs.Symbol.{program}
use Rattle.xc_tree.specs.Derives.{Derives, whole, at_most, IsProgram, deepest}
use Rattle.xc_tree.specs.Depth.{of_program}
use Rattle.xc_tree.specs.Parses.{Breaks201, Breaks202, BreaksRule, FirstBroken, place_or, place_at}
use Rattle.xc_nonterminals.specs.Reading.{Reads, Refuses, TooDeep}
use Rattle.xc_nonterminals.specs.Programs.{NoProgram, NoShallow}
use Rattle.xc_nonterminals.proofs.Derivations.Forth.{lift, lift_prefix}
use Rattle.xc_nonterminals.proofs.Derivations.Cuts.{one_of_within, derives_within_tokens, prefix_within_tokens, derives_cut, prefix_cut}
use Rattle.xc_nonterminals.proofs.Derivations.Depths.{deep_within, derives_within}

-- A program was read up to the end of the tokens.
module _ {toks : List Tok} {j : ℕ} {v : List Item} (r : Reads toks deepest program 0 j v) (h : length toks ≤ j) where
  at_end : j ≡ length toks
  at_end = let g = derives_within_tokens r.derives (omega arith) in omega arith

  shallow : Derives toks (at_most deepest) program 0 (length toks) v
  shallow = subst (λ n. Derives toks (at_most deepest) program 0 n v) at_end r.derives

  pub is_program : IsProgram toks v
  is_program = lift shallow

  pub only_program : (items : List Item) → IsProgram toks items → items ≡ v
  only_program items d = elim (r.only (length toks) items d) [ inl e ↦ e.1 | inr f ↦ let g = one_of_within f.goes_on in absurd (omega arith) ]

  pub program_depth : of_program v ≤ deepest
  program_depth = deep_within shallow

  pub unbroken : (rule i : ℕ) → BreaksRule toks rule i → ⊥
  unbroken rule i (inl (e, b)) = b.no_program v is_program
  unbroken rule i (inr (e, b)) = let l = b.within in b.too_deep (derives_cut (i + 1) shallow (omega arith) (omega arith))

-- a program was read, and behind it stands a token
pub ends_short : {toks : List Tok} {j : ℕ} {v : List Item} → Reads toks deepest program 0 j v → j < length toks → NoProgram toks j
ends_short {toks} {j} r h = record {
  prefix = whole r.derives;
  none = λ items d. elim (r.only (length toks) items d) [ inl e ↦ let f = e.0 in absurd (omega arith) | inr f ↦ let g = one_of_within f.goes_on in absurd (omega arith) ];
  most = r.most;
}

pub no_program : {toks : List Tok} {m : ℕ} → Refuses toks deepest program 0 m → NoProgram toks m
no_program {toks} r = record {
  prefix = r.prefix;
  none = λ items d. let f = r.never (length toks) items d in let g = one_of_within f.goes_on in absurd (omega arith);
  most = r.most;
}

pub no_shallow : {toks : List Tok} {m : ℕ} → TooDeep toks deepest program 0 m → NoShallow toks m
no_shallow r = record { prefix = r.prefix; begins = r.begins; most = r.most }

-- each program that the tokens are has a node that is too deep
pub each_deep : {toks : List Tok} {m : ℕ} → NoShallow toks m → (items : List Item) → IsProgram toks items → deepest < of_program items
each_deep {toks} {m} n items d = elim (cases_lt deepest (of_program items)) [
  | inl h ↦ h
  | inr h ↦
      let s : Derives toks (at_most deepest) program 0 (length toks) items = derives_within (at_most deepest) d h in
      let a = n.most (length toks) (whole s) in
      let b = prefix_within_tokens n.begins (omega arith) in
      absurd (omega arith)
]

-- which rule is broken first
module _ {toks : List Tok} {m : ℕ} (end : Pos) where
  module _ (n : NoProgram toks m) where
    broken_201 : Breaks201 toks m
    broken_201 = record {
      no_program = n.none;
      within = prefix_within_tokens n.prefix (omega arith);
      before = lift_prefix n.prefix;
      wrong = λ h q. let l = n.most (m + 1) q in absurd (omega arith);
    }

    least_201 : (rule i : ℕ) → BreaksRule toks rule i → (m < i) ⊎ ((m ≡ i) × (201 ≤ rule))
    least_201 rule i (inl (e, b)) = elim (cases_lt i m) [
      | inl h ↦
          let l = broken_201.within in
          absurd (b.wrong (omega arith) (lift_prefix (prefix_cut (i + 1) n.prefix (omega arith) (omega arith))))
      | inr h ↦ let l = n.most i b.before in inr (omega arith, omega (arith, e))
    ]
    least_201 rule i (inr (e, b)) = let l = n.most (i + 1) b.beginning in absurd (b.too_deep (prefix_cut (i + 1) n.prefix (omega arith) l))

    pub first_201 : FirstBroken toks end (record { rule = 201; pos = place_at toks end m })
    first_201 = record { at = m; breaks = inl (refl, broken_201); place = refl; least = least_201 }

  module _ (n : NoShallow toks m) where
    broken_202 : Breaks202 toks m
    broken_202 = record {
      within = let l = prefix_within_tokens n.begins (omega arith) in omega arith;
      before = n.prefix;
      beginning = n.begins;
      too_deep = λ q. let l = n.most (m + 1) q in absurd (omega arith);
    }

    least_202 : (rule i : ℕ) → BreaksRule toks rule i → (m < i) ⊎ ((m ≡ i) × (202 ≤ rule))
    least_202 rule i (inl (e, b)) = elim (cases_lt m i) [
      | inl h ↦ inl h
      | inr h ↦
          let l = broken_202.within in
          absurd (b.wrong (omega arith) (prefix_cut (i + 1) n.begins (omega arith) (omega arith)))
    ]
    least_202 rule i (inr (e, b)) = elim (cases_lt i m) [
      | inl h ↦ absurd (b.too_deep (prefix_cut (i + 1) n.prefix (omega arith) (omega arith)))
      | inr h ↦ elim (cases_lt m i) [ inl g ↦ inl g | inr g ↦ inr (omega arith, omega (arith, e)) ]
    ]

    pub first_202 : FirstBroken toks end (record { rule = 202; pos = place_at toks end m })
    first_202 = record { at = m; breaks = inr (refl, broken_202); place = refl; least = least_202 }

-- the place of a token, and of the end
pub place_read : (toks : List Tok) (end : Pos) (i : ℕ) (t : Tok) → i < length toks → t ≡ get_or toks i t → t.pos ≡ place_at toks end i
place_read toks end i t h e = sym' (ap (place_or end) (slice_get_read toks (length toks) i t refl h e))

pub place_past : (toks : List Tok) (end : Pos) (i : ℕ) → length toks ≤ i → end ≡ place_at toks end i
place_past toks end i h = sym' (ap (place_or end) (slice_get_past toks i h))
