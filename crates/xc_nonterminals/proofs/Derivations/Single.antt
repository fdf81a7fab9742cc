-- Symbols that are one token.
use Rattle.std.proofs.Common.{◌≡◌, ℕ, ◌+◌, ◌≤◌, ◌⊎◌, inl, inr, Bool, true, false, nat_eq, List, [], Option, Some, None, refl, sym as sym', ap, ◌∙◌, arith}
use Rattle.std.proofs.Common.{get_or, ◌<◌, length}
use Rattle.std.proofs.lemmas.Bool.{eq-eqb}
use Rattle.std.proofs.lemmas.Option.{get_or_from_slice_get, slice_get-get_or, slice_get_within}
use Rattle.xc_tree.specs.declared.token.Tok.{Tok}
use Rattle.xc_tree.specs.declared.token.Kind.{Kind}
use Rattle.xc_tree.specs.declared.token.Kind.TheVariants.{Name, Num, Key, Sym}
use Rattle.xc_tree.specs.declared.tree.Id.{Id}
use Rattle.xw_words.specs.declared.pos.Pos.{Pos}
use Rattle.xc_tree.specs.Symbol.{Symbol, sym, key, a_name, a_number, Value, Numeral}
use Rattle.xc_tree.specs.Derives.{On, Room, Derives, a_sym, a_key, named, counted, by_rule, Prefix, nothing, whole, begins}
use Rattle.xc_nonterminals.specs.Follows.{OneOf, has}
use Rattle.xc_nonterminals.specs.Reading.{Reads, Refuses}
use Rattle.xc_nonterminals.proofs.Derivations.TokenSets.{false_true}

abbrev kind_in : Option Tok → Kind
kind_in None = Key 0
kind_in (Some t) = t.kind

abbrev pos_in : Option Tok → Pos
pos_in None = record { line = 0; col = 0 }
pos_in (Some t) = t.pos

abbrev name_in : Kind → List ℕ
name_in (Name t) = t
name_in _ = []

abbrev value_in : Kind → ℕ
value_in (Num n u) = n
value_in _ = 0

abbrev sign_in : Kind → Bool
sign_in (Num n u) = u
sign_in _ = false

-- which of the kinds it is
abbrev which : Kind → ℕ
which (Name t) = 0
which (Num n u) = 1
which (Key w) = 2
which (Sym o) = 3

pub unlike : {k k' : Kind} → k ≡ k' → nat_eq (which k) (which k') ≡ false → ⊥
unlike {k} {k'} e f = false_true (sym' f ∙ (ap (λ x. nat_eq (which k) (which x)) (sym' e) ∙ eq-eqb (which k) (which k) refl))

pub one_pos : {toks : List Tok} {i : ℕ} {k k' : Kind} {p p' : Pos} → On toks i k p → On toks i k' p' → p ≡ p'
one_pos a b = ap pos_in (sym' a.there ∙ b.there)

pub one_kind : {toks : List Tok} {i : ℕ} {k k' : Kind} {p p' : Pos} → On toks i k p → On toks i k' p' → k ≡ k'
one_kind a b = ap kind_in (sym' a.there ∙ b.there)

-- where the token at a place stands
pub on_pos : {toks : List Tok} {i : ℕ} {k : Kind} {p : Pos} → On toks i k p → (d : Tok) → p ≡ (get_or toks i d).pos
on_pos {toks} {i} on d = ap (λ t. t.pos) (sym' (get_or_from_slice_get toks i _ d on.there))

-- what a token derives, and its prefixes
record Lone (toks : List Tok) (i : ℕ) (s : Symbol) (v : Value s) : Type 0 where
  derives : (room : Room) → Derives toks room s i (i + 1) v
  only : (room : Room) (k : ℕ) (w : Value s) → Derives toks room s i k w → (k ≡ i + 1) × (w ≡ v)
  most : (room : Room) (n : ℕ) → Prefix toks room s i n → n ≤ i + 1

lone_reads : {toks : List Tok} {i : ℕ} {s : Symbol} {v : Value s} → Lone toks i s v → (room : ℕ) → Reads toks room s i (i + 1) v
lone_reads l room = record {
  derives = l.derives _;
  only = λ k w d. inl (l.only _ k w d);
  most = λ n q. l.most _ n q;
}

lone_refuses : {toks : List Tok} {i : ℕ} {s : Symbol} → ((room : Room) (k : ℕ) (w : Value s) → Derives toks room s i k w → ⊥) → ((room : Room) (n : ℕ) → Prefix toks room s i n → n ≤ i) → (room : ℕ) → Refuses toks room s i i
lone_refuses none most room = record { prefix = nothing; never = λ k w d. absurd (none _ k w d); most = λ n q. most _ n q }

module _ {toks : List Tok} {i : ℕ} where
  sym_derived : {o : ℕ} {room : Room} {k : ℕ} {q : Pos} → Derives toks room (sym o) i k q → (k ≡ i + 1) × On toks i (Sym o) q
  sym_derived (a_sym on) = (refl, on)
  sym_derived (by_rule a h row f) = let e = a.there in absurd (cc)

  key_derived : {w : ℕ} {room : Room} {k : ℕ} {q : Pos} → Derives toks room (key w) i k q → (k ≡ i + 1) × On toks i (Key w) q
  key_derived (a_key on) = (refl, on)
  key_derived (by_rule a h row f) = let e = a.there in absurd (cc)

  name_derived : {room : Room} {k : ℕ} {v : Id} → Derives toks room a_name i k v → (k ≡ i + 1) × On toks i (Name v.text) v.pos
  name_derived (named on) = (refl, on)
  name_derived (by_rule a h row f) = let e = a.there in absurd (cc)

  number_derived : {room : Room} {k : ℕ} {v : Numeral} → Derives toks room a_number i k v → (k ≡ i + 1) × On toks i (Num v.value v.is_unsigned) v.pos
  number_derived (counted on) = (refl, on)
  number_derived (by_rule a h row f) = let e = a.there in absurd (cc)

  -- a prefix of a symbol without alternatives is nothing or the whole
  sym_prefix : {o : ℕ} {room : Room} {n : ℕ} → Prefix toks room (sym o) i n → (n ≤ i) ⊎ ((v : Pos) × Derives toks room (sym o) i n v)
  sym_prefix nothing = inl (omega arith)
  sym_prefix (whole {v} d) = inr (v, d)
  sym_prefix (begins a h b) = let e = a.there in absurd (cc)

  key_prefix : {w : ℕ} {room : Room} {n : ℕ} → Prefix toks room (key w) i n → (n ≤ i) ⊎ ((v : Pos) × Derives toks room (key w) i n v)
  key_prefix nothing = inl (omega arith)
  key_prefix (whole {v} d) = inr (v, d)
  key_prefix (begins a h b) = let e = a.there in absurd (cc)

  name_prefix : {room : Room} {n : ℕ} → Prefix toks room a_name i n → (n ≤ i) ⊎ ((v : Id) × Derives toks room a_name i n v)
  name_prefix nothing = inl (omega arith)
  name_prefix (whole {v} d) = inr (v, d)
  name_prefix (begins a h b) = let e = a.there in absurd (cc)

  number_prefix : {room : Room} {n : ℕ} → Prefix toks room a_number i n → (n ≤ i) ⊎ ((v : Numeral) × Derives toks room a_number i n v)
  number_prefix nothing = inl (omega arith)
  number_prefix (whole {v} d) = inr (v, d)
  number_prefix (begins a h b) = let e = a.there in absurd (cc)

  pub sym_reads : {o : ℕ} {p : Pos} → On toks i (Sym o) p → (room : ℕ) → Reads toks room (sym o) i (i + 1) p
  sym_reads on = lone_reads (record {
    derives = λ room. a_sym on;
    only = λ room k w d. let e = sym_derived d in (e.0, one_pos e.1 on);
    most = λ room n q. elim (sym_prefix q) [ inl h ↦ omega arith | inr d ↦ omega (arith, (sym_derived d.1).0) ];
  })

  pub sym_refuses : {o : ℕ} → ((p : Pos) → On toks i (Sym o) p → ⊥) → (room : ℕ) → Refuses toks room (sym o) i i
  sym_refuses none = lone_refuses (λ room k w d. none w (sym_derived d).1) (λ room n q. elim (sym_prefix q) [ inl h ↦ h | inr d ↦ absurd (none d.0 (sym_derived d.1).1) ])

  pub key_reads : {w : ℕ} {p : Pos} → On toks i (Key w) p → (room : ℕ) → Reads toks room (key w) i (i + 1) p
  key_reads on = lone_reads (record {
    derives = λ room. a_key on;
    only = λ room k w d. let e = key_derived d in (e.0, one_pos e.1 on);
    most = λ room n q. elim (key_prefix q) [ inl h ↦ omega arith | inr d ↦ omega (arith, (key_derived d.1).0) ];
  })

  pub key_refuses : {w : ℕ} → ((p : Pos) → On toks i (Key w) p → ⊥) → (room : ℕ) → Refuses toks room (key w) i i
  key_refuses none = lone_refuses (λ room k w d. none w (key_derived d).1) (λ room n q. elim (key_prefix q) [ inl h ↦ h | inr d ↦ absurd (none d.0 (key_derived d.1).1) ])

  one_name : (v w : Id) → On toks i (Name v.text) v.pos → On toks i (Name w.text) w.pos → w ≡ v
  one_name v w a b =
      let f : List ℕ → Pos → Id = λ t p. record { text = t; pos = p } in
      ap (λ t. f t w.pos) (ap name_in (one_kind b a)) ∙ ap (f v.text) (one_pos b a)

  pub name_reads : {v : Id} → On toks i (Name v.text) v.pos → (room : ℕ) → Reads toks room a_name i (i + 1) v
  name_reads {v} on = lone_reads (record {
    derives = λ room. named on;
    only = λ room k w d. let e = name_derived d in (e.0, one_name v w on e.1);
    most = λ room n q. elim (name_prefix q) [ inl h ↦ omega arith | inr d ↦ omega (arith, (name_derived d.1).0) ];
  })

  pub name_refuses : ((t : List ℕ) (p : Pos) → On toks i (Name t) p → ⊥) → (room : ℕ) → Refuses toks room a_name i i
  name_refuses none = lone_refuses (λ room k w d. none w.text w.pos (name_derived d).1) (λ room n q. elim (name_prefix q) [ inl h ↦ h | inr d ↦ absurd (none d.0.text d.0.pos (name_derived d.1).1) ])

  one_number : (v w : Numeral) → On toks i (Num v.value v.is_unsigned) v.pos → On toks i (Num w.value w.is_unsigned) w.pos → w ≡ v
  one_number v w a b =
      let f : ℕ → Bool → Pos → Numeral = λ n u p. record { value = n; is_unsigned = u; pos = p } in
      ap (λ n. f n w.is_unsigned w.pos) (ap value_in (one_kind b a)) ∙ ap (λ u. f v.value u w.pos) (ap sign_in (one_kind b a)) ∙ ap (f v.value v.is_unsigned) (one_pos b a)

  pub number_reads : {v : Numeral} → On toks i (Num v.value v.is_unsigned) v.pos → (room : ℕ) → Reads toks room a_number i (i + 1) v
  number_reads {v} on = lone_reads (record {
    derives = λ room. counted on;
    only = λ room k w d. let e = number_derived d in (e.0, one_number v w on e.1);
    most = λ room n q. elim (number_prefix q) [ inl h ↦ omega arith | inr d ↦ omega (arith, (number_derived d.1).0) ];
  })

  pub number_refuses : ((n : ℕ) (u : Bool) (p : Pos) → On toks i (Num n u) p → ⊥) → (room : ℕ) → Refuses toks room a_number i i
  number_refuses none = lone_refuses (λ room k w d. none w.value w.is_unsigned w.pos (number_derived d).1) (λ room n q. elim (number_prefix q) [ inl h ↦ h | inr d ↦ absurd (none d.0.value d.0.is_unsigned d.0.pos (number_derived d.1).1) ])

-- the token at a place, as its kind was looked at
module _ (toks : List Tok) (i : ℕ) (d : Tok) where
  pub on_kind : (k : Kind) → i < length toks → (get_or toks i d).kind ≡ k → On toks i k (get_or toks i d).pos
  on_kind k h e =
      let f : Kind → Option Tok = λ k. Some (record { kind = k; pos = (get_or toks i d).pos }) in
      record { there = slice_get-get_or toks i d h ∙ ap f e }

  pub other_kind : (k k' : Kind) (p : Pos) → i < length toks → (get_or toks i d).kind ≡ k → On toks i k' p → k' ≡ k
  other_kind k k' p h e on = one_kind on (on_kind k h e)

pub past_all : {toks : List Tok} {i : ℕ} {k : Kind} {p : Pos} → (i < length toks → ⊥) → On toks i k p → ⊥
past_all {toks} {i} {k} {p} h on = h (slice_get_within toks i (record { kind = k; pos = p }) on.there)

-- a word or symbol is one of some tokens
pub one_word : {toks : List Tok} {i w : ℕ} {p : Pos} (ts : List Symbol) → On toks i (Key w) p → has ts (key w) ≡ true → OneOf toks i ts
one_word {w} {p} ts on e = record { token = key w; stands = (p, on); among = e }

pub one_symbol : {toks : List Tok} {i o : ℕ} {p : Pos} (ts : List Symbol) → On toks i (Sym o) p → has ts (sym o) ≡ true → OneOf toks i ts
one_symbol {o} {p} ts on e = record { token = sym o; stands = (p, on); among = e }

pub one_name_of : {toks : List Tok} {i : ℕ} {t : List ℕ} {p : Pos} (ts : List Symbol) → On toks i (Name t) p → has ts a_name ≡ true → OneOf toks i ts
one_name_of {t} {p} ts on e = record { token = a_name; stands = (t, p, on); among = e }
