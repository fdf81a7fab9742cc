-- Rests behind a token, and behind a symbol that all of them begin with.
use Rattle.std.proofs.Common.{◌≡◌, ℕ, ◌+◌, ◌≤◌, Bool, true, false, List, Option, Some, None, nat_eq, if◌then◌else◌, refl, sym as sym', ap, ap₂, subst, ◌∙◌, arith}
use Rattle.std.proofs.lemmas.Bool.{eq-eqb, eqb-true}
use Rattle.xw_words.specs.declared.pos.Pos.{Pos}
use Rattle.xc_tree.specs.declared.token.Tok.{Tok}
use Rattle.xc_tree.specs.declared.token.Kind.{Kind}
use Rattle.xc_tree.specs.declared.token.Kind.TheVariants.{Name, Num, Key, Sym}
use Rattle.xc_tree.specs.Symbol.{Symbol, sym, key, a_name, a_number, Value, Numeral}
use Rattle.xc_tree.specs.Grammar.{Rule, rules}
use Rattle.xc_tree.specs.Derives.{On, Among, Room, Derives, a_sym, a_key, named, counted, by_rule, Prefix, nothing, whole, begins}
use Rattle.xc_nonterminals.specs.Follows.{StandsAt}
use Rattle.xc_nonterminals.proofs.Rests.Opening.{is_token, as_token}
use Rattle.xc_nonterminals.proofs.Derivations.TokenSets.{false_true, same_kind}

-- this token stands at a place, with this value
abbrev pub TokenAt : List Tok → ℕ → (t : Symbol) → Value t → Type 0
TokenAt toks k (sym o) p = On toks k (Sym o) p
TokenAt toks k (key w) p = On toks k (Key w) p
TokenAt toks k a_name x = On toks k (Name x.text) x.pos
TokenAt toks k a_number x = On toks k (Num x.value x.is_unsigned) x.pos
TokenAt toks k _ x = ⊥

pub token_stands : (toks : List Tok) (k : ℕ) (t : Symbol) (v : Value t) → TokenAt toks k t v → StandsAt toks k t
token_stands toks k (sym o) v on = (v, on)
token_stands toks k (key w) v on = (v, on)
token_stands toks k a_name v on = (v.text, v.pos, on)
token_stands toks k a_number v on = (v.value, v.is_unsigned, v.pos, on)
token_stands toks k _ v on = absurd on

pub no_rule : (t : Symbol) → is_token t ≡ true → {r : Rule (Value t)} → Among (rules t) r → ⊥
no_rule (sym o) e a = let h = a.there in absurd (cc)
no_rule (key w) e a = let h = a.there in absurd (cc)
no_rule a_name e a = let h = a.there in absurd (cc)
no_rule a_number e a = let h = a.there in absurd (cc)
no_rule _ e a = absurd (false_true e)

pub token_derives : {toks : List Tok} {room : Room} (t : Symbol) {k : ℕ} {v : Value t} → TokenAt toks k t v → Derives toks room t k (k + 1) v
token_derives (sym o) on = a_sym on
token_derives (key w) on = a_key on
token_derives a_name on = named on
token_derives a_number on = counted on
token_derives _ on = absurd on

-- what a token derives
pub token_derived : {toks : List Tok} {room : Room} {t : Symbol} {k m : ℕ} {v : Value t} → is_token t ≡ true → Derives toks room t k m v → (m ≡ k + 1) × TokenAt toks k t v
token_derived e (a_sym on) = (refl, on)
token_derived e (a_key on) = (refl, on)
token_derived e (named on) = (refl, on)
token_derived e (counted on) = (refl, on)
token_derived {t} e (by_rule a h row f) = absurd (no_rule t e a)

abbrev pos_or : Option Tok → Pos
pos_or None = record { line = 0; col = 0 }
pos_or (Some t) = t.pos

pub token_prefix : {toks : List Tok} {room : Room} {t : Symbol} {k n : ℕ} → is_token t ≡ true → Prefix toks room t k n → n ≤ k + 1
token_prefix e nothing = omega arith
token_prefix e (whole d) = omega (arith, (token_derived e d).0)
token_prefix {t} e (begins a h b) = absurd (no_rule t e a)

-- two tokens at one place are the same
one_token : {toks : List Tok} {k : ℕ} {a b : Kind} {p q : Pos} → On toks k a p → On toks k b q → (a ≡ b) × (p ≡ q)
one_token x y = (same_kind x y, ap pos_or (sym' x.there ∙ y.there))

no_sym : (c : Bool) (a b : ℕ) (v w : Pos) → nat_eq a b ≡ c → a ≡ b → v ≡ w → ◌≡◌ {A = Option Pos} (if c then Some v else None) (Some w)
no_sym true a b v w e f g = ap Some g
no_sym false a b v w e f g = let h = eq-eqb a b f in absurd (cc)

number_same : {v w : Numeral} → w.value ≡ v.value → w.is_unsigned ≡ v.is_unsigned → w.pos ≡ v.pos → w ≡ v
number_same f g h = λ i. record { value = f i; is_unsigned = g i; pos = h i }

pub as_same : (toks : List Tok) (k : ℕ) (s t : Symbol) (v : Value t) (w : Value s) → TokenAt toks k s w → TokenAt toks k t v → as_token s t v ≡ Some w
as_same toks k (sym a) (sym b) v w x y = let e = one_token x y in no_sym (nat_eq a b) a b v w refl (let f = e.0 in cc) (sym' e.1)
as_same toks k (key a) (key b) v w x y = let e = one_token x y in no_sym (nat_eq a b) a b v w refl (let f = e.0 in cc) (sym' e.1)
as_same toks k a_name a_name v w x y = let e = one_token x y in let f : w.text ≡ v.text = (let g = e.0 in cc) in ap Some (sym' (ap₂ (λ (t : List ℕ) (p : Pos). record { text = t; pos = p }) f e.1))
as_same toks k a_number a_number v w x y =
    let e = one_token x y in
    let f : w.value ≡ v.value = (let g = e.0 in cc) in
    let h : w.is_unsigned ≡ v.is_unsigned = (let g = e.0 in cc) in
    ap Some (sym' (number_same f h e.1))
as_same toks k (sym a) (key b) v w x y = let e = (one_token x y).0 in absurd (cc)
as_same toks k (sym a) a_name v w x y = let e = (one_token x y).0 in absurd (cc)
as_same toks k (sym a) a_number v w x y = let e = (one_token x y).0 in absurd (cc)
as_same toks k (key a) (sym b) v w x y = let e = (one_token x y).0 in absurd (cc)
as_same toks k (key a) a_name v w x y = let e = (one_token x y).0 in absurd (cc)
as_same toks k (key a) a_number v w x y = let e = (one_token x y).0 in absurd (cc)
as_same toks k a_name (sym b) v w x y = let e = (one_token x y).0 in absurd (cc)
as_same toks k a_name (key b) v w x y = let e = (one_token x y).0 in absurd (cc)
as_same toks k a_name a_number v w x y = let e = (one_token x y).0 in absurd (cc)
as_same toks k a_number (sym b) v w x y = let e = (one_token x y).0 in absurd (cc)
as_same toks k a_number (key b) v w x y = let e = (one_token x y).0 in absurd (cc)
as_same toks k a_number a_name v w x y = let e = (one_token x y).0 in absurd (cc)
as_same toks k (sym a) _ v w x y = absurd y
as_same toks k (key a) _ v w x y = absurd y
as_same toks k a_name _ v w x y = absurd y
as_same toks k a_number _ v w x y = absurd y
as_same toks k _ _ v w x y = absurd x

module _ (toks : List Tok) (k : ℕ) where
  same_sym : (c : Bool) (a b : ℕ) (v w : Pos) → nat_eq a b ≡ c → ◌≡◌ {A = Option Pos} (if c then Some v else None) (Some w) → On toks k (Sym b) v → On toks k (Sym a) w
  same_sym true a b v w e f on = let g = eqb-true a b e in let h : v ≡ w = cc in subst (λ (p : Pos). On toks k (Sym a) p) h (subst (λ (n : ℕ). On toks k (Sym n) v) (sym' g) on)
  same_sym false a b v w e f on = absurd (cc)

  same_key : (c : Bool) (a b : ℕ) (v w : Pos) → nat_eq a b ≡ c → ◌≡◌ {A = Option Pos} (if c then Some v else None) (Some w) → On toks k (Key b) v → On toks k (Key a) w
  same_key true a b v w e f on = let g = eqb-true a b e in let h : v ≡ w = cc in subst (λ (p : Pos). On toks k (Key a) p) h (subst (λ (n : ℕ). On toks k (Key n) v) (sym' g) on)
  same_key false a b v w e f on = absurd (cc)

  pub as_back : (s t : Symbol) (v : Value t) (w : Value s) → as_token s t v ≡ Some w → TokenAt toks k t v → TokenAt toks k s w
  as_back (sym a) (sym b) v w e on = same_sym (nat_eq a b) a b v w refl e on
  as_back (key a) (key b) v w e on = same_key (nat_eq a b) a b v w refl e on
  as_back a_name a_name v w e on = let h : v ≡ w = cc in subst (λ (x : Value a_name). On toks k (Name x.text) x.pos) h on
  as_back a_number a_number v w e on = let h : v ≡ w = cc in subst (λ (x : Value a_number). On toks k (Num x.value x.is_unsigned) x.pos) h on
  as_back (sym a) (key b) v w e on = absurd (cc)
  as_back (sym a) a_name v w e on = absurd (cc)
  as_back (sym a) a_number v w e on = absurd (cc)
  as_back (key a) (sym b) v w e on = absurd (cc)
  as_back (key a) a_name v w e on = absurd (cc)
  as_back (key a) a_number v w e on = absurd (cc)
  as_back a_name (sym b) v w e on = absurd (cc)
  as_back a_name (key b) v w e on = absurd (cc)
  as_back a_name a_number v w e on = absurd (cc)
  as_back a_number (sym b) v w e on = absurd (cc)
  as_back a_number (key b) v w e on = absurd (cc)
  as_back a_number a_name v w e on = absurd (cc)
  as_back (sym a) _ v w e on = absurd on
  as_back (key a) _ v w e on = absurd on
  as_back a_name _ v w e on = absurd on
  as_back a_number _ v w e on = absurd on
  as_back _ _ v w e on = absurd (cc)

-- a token at a place has one value
pub same_value : (toks : List Tok) (k : ℕ) (t : Symbol) (v w : Value t) → TokenAt toks k t v → TokenAt toks k t w → w ≡ v
same_value toks k (sym o) v w x y = let e = as_same toks k (sym o) (sym o) v w y x in (one_token y x).1
same_value toks k (key o) v w x y = (one_token y x).1
same_value toks k a_name v w x y = let e = as_same toks k a_name a_name v w y x in cc
same_value toks k a_number v w x y = let e = as_same toks k a_number a_number v w y x in cc
same_value toks k _ v w x y = absurd x
