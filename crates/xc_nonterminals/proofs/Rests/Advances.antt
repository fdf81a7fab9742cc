-- The symbol that all open rests begin with is read, refused or too deep.
use Rattle.std.proofs.Common.{◌≡◌, ℕ, ◌≤◌, ◌⊎◌, inl, inr, true, List, subst, arith}
use Rattle.xc_tree.specs.declared.token.Tok.{Tok}
use Rattle.xc_tree.specs.Symbol.{Symbol, Value}
use Rattle.xc_tree.specs.Derives.{Room, unlimited, at_most, Derives, Prefix, whole}
use Rattle.xc_nonterminals.specs.Reading.{IsFront, Reads, Refuses, TooDeep}
use Rattle.xc_nonterminals.proofs.Rests.Rests.{Rest, Ends, Starts, Open, inside}
use Rattle.xc_nonterminals.proofs.Rests.Opening.{all_apart, heads_apart, Heads, no_head, one_head, popped, deepened, peak}
use Rattle.xc_nonterminals.proofs.Derivations.Forth.{lift, lift_prefix}
use Rattle.xc_nonterminals.proofs.Rests.Heads.{split_ends, join_ends, split_starts, join_starts, apart_ends, apart_starts}

-- with this room a symbol is read so, or not at all
pub record Known (toks : List Tok) (room : Room) (t : Symbol) (k j : ℕ) (v : Value t) : Type 0 where
  pub derives : Derives toks room t k j v
  pub only : (l : ℕ) (w : Value t) → Derives toks room t k l w → ((l ≡ j) × (w ≡ v)) ⊎ IsFront toks t l w
  pub most : (n : ℕ) → Prefix toks room t k n → n ≤ j

pub record Never (toks : List Tok) (room : Room) (t : Symbol) (k m : ℕ) : Type 0 where
  pub never : (l : ℕ) (w : Value t) → Derives toks room t k l w → IsFront toks t l w
  pub most : (n : ℕ) → Prefix toks room t k n → n ≤ m

module _ {toks : List Tok} {room : ℕ} {t : Symbol} {k j : ℕ} where
  pub known_free : {v : Value t} → Reads toks room t k j v → Known toks unlimited t k j v
  known_free r = record { derives = lift r.derives; only = r.only; most = r.most }

  pub known_held : {v : Value t} → Reads toks room t k j v → Known toks (at_most room) t k j v
  known_held r = record { derives = r.derives; only = λ l w d. r.only l w (lift d); most = λ n q. r.most n (lift_prefix q) }

  pub never_free : Refuses toks room t k j → Never toks unlimited t k j
  never_free r = record { never = r.never; most = r.most }

  pub never_held : TooDeep toks room t k j → Never toks (at_most room) t k j
  never_held r = record { never = r.never; most = r.most }

module _ {toks : List Tok} {room : Room} {s : Symbol} {i : ℕ} {t : Symbol} {a : ℕ} {rs : List (Rest (Value s))} (hs : Heads t a rs) where
  -- it is read
  pub advance : {k m j : ℕ} {x : Value t} → Open toks room s i k m rs → all_apart s hs ≡ true → Known toks (inside room a) t k j x → m ≤ j → Prefix toks room s i j → Open toks room s i j j (popped hs x)
  advance {k} {m} {j} {x} o e r l h = record {
    derives = λ q v y. o.derives q v (join_ends toks room s i hs k j q x v r.derives y);
    only = λ q v d. elim (o.only q v d) [
      | inl g ↦ inl g
      | inr y ↦ let z = split_ends toks room s i hs k q v y in elim (r.only z.0 z.1 z.3) [
        | inl f ↦ inr (subst (λ (b : ℕ). Ends toks room (popped hs x) i b q v) f.0 (subst (λ (w : Value t). Ends toks room (popped hs w) i z.0 q v) f.1 z.4))
        | inr g ↦ inl (apart_ends toks room s i hs z.0 q z.1 v e g z.4)
      ]
    ];
    prefix = λ n y. o.prefix n (join_starts toks room s i hs k j n x r.derives y);
    here = h;
    most = λ n q. elim (o.most n q) [
      | inl b ↦ inl (omega arith)
      | inr y ↦ elim (split_starts toks room s i hs k n y) [
        | inl p ↦ inl (r.most n p.1)
        | inr z ↦ elim (r.only z.0 z.1 z.3) [
          | inl f ↦ inr (subst (λ (b : ℕ). Starts toks room (popped hs x) b n) f.0 (subst (λ (w : Value t). Starts toks room (popped hs w) z.0 n) f.1 z.4))
          | inr g ↦ let c = apart_starts toks room s i hs z.0 n z.1 e g z.4 in let b = r.most z.0 (whole z.3) in inl (omega arith)
        ]
      ]
    ];
  }

  -- it isn't
  pub refused : {k m j : ℕ} → Open toks room s i k m rs → all_apart s hs ≡ true → Never toks (inside room a) t k j → m ≤ j → Never toks room s i j
  refused {k} {m} {j} o e r l = record {
    never = λ q v d. elim (o.only q v d) [
      | inl g ↦ g
      | inr y ↦ let z = split_ends toks room s i hs k q v y in apart_ends toks room s i hs z.0 q z.1 v e (r.never z.0 z.1 z.3) z.4
    ];
    most = λ n q. elim (o.most n q) [
      | inl b ↦ omega arith
      | inr y ↦ elim (split_starts toks room s i hs k n y) [
        | inl p ↦ r.most n p.1
        | inr z ↦ let c = apart_starts toks room s i hs z.0 n z.1 e (r.never z.0 z.1 z.3) z.4 in let b = r.most z.0 (whole z.3) in omega arith
      ]
    ];
  }

-- the first of the rests that begin with a symbol begins where that does
pub apart_all : {V : Type 0} (s : Symbol) {t : Symbol} {a : ℕ} {rs : List (Rest V)} (hs : Heads t a rs) → heads_apart s hs ≡ true → all_apart s hs ≡ true
apart_all s no_head e = absurd (cc)
apart_all s (one_head hs) e = e

module _ {toks : List Tok} (room : ℕ) (s : Symbol) {V : Type 0} {t : Symbol} {a : ℕ} where
  pub lead_free : {rs : List (Rest V)} {k n : ℕ} (hs : Heads t a rs) → heads_apart s hs ≡ true → Prefix toks (inside unlimited a) t k n → Starts toks unlimited rs k n
  lead_free no_head e q = absurd (cc)
  lead_free (one_head hs) e q = inl (tt, inl (tt, q))

  pub lead_held : {rs : List (Rest V)} {k n : ℕ} (hs : Heads t a rs) → heads_apart s hs ≡ true → peak rs ≤ room → Prefix toks (inside (at_most room) a) t k n → Starts toks (at_most room) rs k n
  lead_held no_head e h q = absurd (cc)
  lead_held (one_head {n} {ps} hs) e h q = let l : n ≤ room = grind arith in let g : a ≤ room = grind arith in inl (l, inl (g, q))

-- behind the symbol no rest needs more room
pub popped_needs : {V : Type 0} {t : Symbol} {a : ℕ} {rs : List (Rest V)} (room : ℕ) (hs : Heads t a rs) (x : Value t) → peak rs ≤ room → peak (popped hs x) ≤ room
popped_needs room no_head x h = omega arith
popped_needs room (one_head {n} {ps} hs) x h = let l = popped_needs room hs x (grind arith) in grind arith

-- where it is too deep as far as it was read
module _ (toks : List Tok) (i room : ℕ) {V : Type 0} {t : Symbol} {a : ℕ} where
  pub freed_ends : {rs : List (Rest V)} (hs : Heads t a rs) (x : Value t) (k j : ℕ) (v : V) → Ends toks unlimited (deepened room hs x) i k j v → Ends toks unlimited (popped hs x) i k j v
  freed_ends no_head x k j v e = e
  freed_ends (one_head hs) x k j v (inl e) = inl e
  freed_ends (one_head hs) x k j v (inr e) = inr (freed_ends hs x k j v e)

  pub deep_ends : {rs : List (Rest V)} (hs : Heads t a rs) (x : Value t) (k j : ℕ) (v : V) → Ends toks unlimited (popped hs x) i k j v → Ends toks unlimited (deepened room hs x) i k j v
  deep_ends no_head x k j v e = e
  deep_ends (one_head hs) x k j v (inl e) = inl e
  deep_ends (one_head hs) x k j v (inr e) = inr (deep_ends hs x k j v e)

  pub freed_starts : {rs : List (Rest V)} (hs : Heads t a rs) (x : Value t) (k n : ℕ) → Starts toks unlimited (deepened room hs x) k n → Starts toks unlimited (popped hs x) k n
  freed_starts no_head x k n e = e
  freed_starts (one_head hs) x k n (inl e) = inl e
  freed_starts (one_head hs) x k n (inr e) = inr (freed_starts hs x k n e)

  pub deep_starts : {rs : List (Rest V)} (hs : Heads t a rs) (x : Value t) (k n : ℕ) → Starts toks unlimited (popped hs x) k n → Starts toks unlimited (deepened room hs x) k n
  deep_starts no_head x k n e = e
  deep_starts (one_head hs) x k n (inl e) = inl e
  deep_starts (one_head hs) x k n (inr e) = inr (deep_starts hs x k n e)

  pub no_end : {rs : List (Rest V)} (hs : Heads t a rs) (x : Value t) (k j : ℕ) (v : V) → Ends toks (at_most room) (deepened room hs x) i k j v → ⊥
  no_end no_head x k j v e = e
  no_end (one_head hs) x k j v (inl e) = let h = e.1 in absurd (omega arith)
  no_end (one_head hs) x k j v (inr e) = no_end hs x k j v e

  pub no_start : {rs : List (Rest V)} (hs : Heads t a rs) (x : Value t) (k n : ℕ) → Starts toks (at_most room) (deepened room hs x) k n → ⊥
  no_start no_head x k n e = e
  no_start (one_head hs) x k n (inl e) = let h = e.0 in absurd (omega arith)
  no_start (one_head hs) x k n (inr e) = no_start hs x k n e
