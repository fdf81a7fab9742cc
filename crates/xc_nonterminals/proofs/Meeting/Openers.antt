-- The alternatives that a token opens; and what begins with `break` is `break ;`, which doesn't stand directly in a case.
use Rattle.std.proofs.Common.{◌≡◌, ℕ, ◌≤◌, ◌⊎◌, inl, inr, Bool, true, false, ◌||◌, List, [], ◌∷◌, refl, ap}
use Rattle.std.proofs.lemmas.Bool.{or_parts}
use Rattle.xw_words.specs.declared.pos.Pos.{Pos}
use Rattle.xc_tree.specs.declared.token.Tok.{Tok}
use Rattle.xc_tree.specs.declared.token.Kind.TheVariants.{Key}
use Rattle.xc_tree.specs.Plain as plain
use Rattle.xc_tree.specs.Symbol.{Symbol, statement, case_item}
use Rattle.xc_tree.specs.Grammar.{Rule, rules}
use Rattle.xc_tree.specs.Derives.{On, Room, below, Derives}
use Rattle.xc_nonterminals.specs.Follows.{StandsAt, OneOf, has}
use Rattle.xc_nonterminals.proofs.Derivations.Covers.{row_firsts, row_nullable}
use Rattle.xc_nonterminals.proofs.Derivations.TokenSets.{one_is}
use Rattle.xc_nonterminals.proofs.Derivations.Firsts.{row_first, begins_first}
use Rattle.xc_nonterminals.proofs.Rests.Alternatives.{ByRules, BeginsRules, by_rules}
use Rattle.xc_nonterminals.proofs.Derivations.Lists.{unrow}
use Rattle.xc_tree.specs.Terminals as terminal

abbrev keep_rule : {V : Type 0} → Bool → Rule V → List (Rule V) → List (Rule V)
keep_rule true r rs = r ∷ rs
keep_rule false r rs = rs

abbrev pub opened_by : {V : Type 0} → Symbol → List (Rule V) → List (Rule V)
opened_by t [] = []
opened_by t (r ∷ rs) = keep_rule (has (row_firsts r.parts) t || row_nullable r.parts) r (opened_by t rs)

not_null : (ss : List Symbol) (t : Symbol) → has (row_firsts ss) t || row_nullable ss ≡ false → row_nullable ss ≡ true → ⊥
not_null ss t e n = let p = or_parts (has (row_firsts ss) t) (row_nullable ss) e in let h = p.1 in absurd (cc)

module _ (toks : List Tok) (room : Room) (i : ℕ) (t : Symbol) (at : StandsAt toks i t) where
  shut : (ss : List Symbol) → has (row_firsts ss) t || row_nullable ss ≡ false → OneOf toks i (row_firsts ss) → ⊥
  shut ss e o = let p = or_parts (has (row_firsts ss) t) (row_nullable ss) e in let g = one_is t at o in let h = p.0 in absurd (cc)

  pub by_opened : {V : Type 0} (rs : List (Rule V)) (j : ℕ) (v : V) → ByRules toks room rs i j v → ByRules toks room (opened_by t rs) i j v
  by_opened [] j v x = x
  by_opened (r ∷ rs) j v x = go (has (row_firsts r.parts) t || row_nullable r.parts) refl (by_opened rs j v) x
    where
      go : (b : Bool) → has (row_firsts r.parts) t || row_nullable r.parts ≡ b → (ByRules toks room rs i j v → ByRules toks room (opened_by t rs) i j v) → ByRules toks room (r ∷ rs) i j v → ByRules toks room (keep_rule b r (opened_by t rs)) i j v
      go true e h (inl y) = inl y
      go true e h (inr y) = inr (h y)
      go false e h (inl y) = elim (row_first toks (below room r.nodes) r.parts i j y.0 y.2) [ inl z ↦ absurd (not_null r.parts t e z.1) | inr o ↦ absurd (shut r.parts e o) ]
      go false e h (inr y) = h y

  pub begins_opened : {V : Type 0} (rs : List (Rule V)) (n : ℕ) → BeginsRules toks room rs i n → (n ≤ i) ⊎ BeginsRules toks room (opened_by t rs) i n
  begins_opened [] n x = absurd x
  begins_opened (r ∷ rs) n x = go (has (row_firsts r.parts) t || row_nullable r.parts) refl (begins_opened rs n) x
    where
      go : (b : Bool) → has (row_firsts r.parts) t || row_nullable r.parts ≡ b → (BeginsRules toks room rs i n → (n ≤ i) ⊎ BeginsRules toks room (opened_by t rs) i n) → BeginsRules toks room (r ∷ rs) i n → (n ≤ i) ⊎ BeginsRules toks room (keep_rule b r (opened_by t rs)) i n
      go true e f (inl y) = inr (inl y)
      go true e f (inr y) = elim (f y) [ inl h ↦ inl h | inr z ↦ inr (inr z) ]
      go false e f (inl y) = elim (begins_first toks (below room r.nodes) r.parts i n y.1) [ inl h ↦ inl h | inr o ↦ absurd (shut r.parts e o) ]
      go false e f (inr y) = f y

module _ {toks : List Tok} {i : ℕ} {p : Pos} (on : On toks i (Key 0) p) where
  pub statement_breaks : {room : Room} {j : ℕ} {v : plain.Statement} → Derives toks room statement i j v → plain.is_break v ≡ true
  statement_breaks {room} {j} {v} d = elim (by_opened toks room i terminal.break_word (p, on) (rules statement) j v (by_rules toks room statement i j v refl d)) [
    | inl y ↦ ap plain.is_break y.4
    | inr z ↦ absurd z
  ]

  pub no_item : {room : Room} {j : ℕ} {v : plain.Statement} → Derives toks room case_item i j v → ⊥
  no_item {room} {j} {v} d = elim (by_opened toks room i terminal.break_word (p, on) (rules case_item) j v (by_rules toks room case_item i j v refl d)) [
    | inl y ↦ let e = statement_breaks (unrow y.2).1 in let f = y.3 in absurd (cc)
    | inr z ↦ absurd z
  ]
