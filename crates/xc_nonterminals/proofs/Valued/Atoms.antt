-- Operands: numbers, names, elements, signs, casts and brackets.
use Rattle.std.proofs.Common.{◌≡◌, ℕ, ◌+◌, ◌-◌, ◌<◌, ◌≤◌, inl, inr, Bool, true, false, IsTrue, length, List, [], ◌∷◌, refl, subst, arith}
use Rattle.std.proofs.Math.Nat.{eq-or-lt_of_le}
use Rattle.xw_words.specs.declared.pos.Pos.{Pos}
use Rattle.xc_tree.specs.declared.token.Tok.{Tok}
use Rattle.xc_tree.specs.declared.token.Kind.TheVariants.{Name, Num, Key, Sym}
use Rattle.xc_tree.specs.Plain as plain
use Rattle.xc_tree.specs.Symbol.{a_name, a_number, expr, level, lval}
use Rattle.xc_tree.specs.Derives.{On}
use Rattle.xc_nonterminals.specs.declared.stop.Stop.{Stop}
use Rattle.xc_nonterminals.specs.Follows.{OneOf, begins_operand}
use Rattle.xc_nonterminals.specs.Reading.{Reads, Refuses, TooDeep}
use Rattle.xc_nonterminals.specs.Stops.{Stopped}
use Rattle.xc_nonterminals.specs.Operands.{IsType}
use Rattle.xc_nonterminals.proofs.Reading.Paths.{Roomy, begin, roomy, over_symbol, over_word, over_name, over_number, lacks_symbol, read, stops, finish, none_left}
use Rattle.xc_nonterminals.proofs.Rests.Choices.{all_open, pass_symbol, spread_out, dead, no_one, stuck}
use Rattle.xc_tree.specs.Terminals as terminal

abbrev node : plain.Form → Pos → plain.Expression
node f p = plain.expression f p

-- what holds of each sign
pub each_sign : (P : ℕ → Type 0) → P 13 → P 14 → P 15 → P 16 → (o : ℕ) → 13 ≤ o → o ≤ 16 → P o
each_sign P a b c d o l h = elim (eq-or-lt_of_le l) [
  | inl e ↦ subst P e a
  | inr l ↦ let x : 14 ≤ o = omega arith in elim (eq-or-lt_of_le x) [
    | inl e ↦ subst P e b
    | inr l ↦ let y : 15 ≤ o = omega arith in elim (eq-or-lt_of_le y) [
      | inl e ↦ subst P e c
      | inr l ↦ let e : 16 ≡ o = omega arith in subst P e d
    ]
  ]
]

module _ {toks : List Tok} {room at : ℕ} (h : 1 ≤ room) where
  pub reads_number : {n : ℕ} {u : Bool} {p : Pos} → On toks at (Num n u) p → Reads toks room (level 0) at (at + 1) (node (plain.number n u) p)
  reads_number on = finish (over_number (begin refl h) on refl) refl

  pub reads_name : {t : List ℕ} {p : Pos} → On toks at (Name t) p → ((q : Pos) → On toks (at + 1) (Sym 4) q → ⊥) → Reads toks room (level 0) at (at + 1) (node (plain.name t) p)
  reads_name on none = finish (lacks_symbol 4 (over_name (begin refl h) on refl) none) refl

  -- an element: its place is read, or reading it stopped
  module _ {t : List ℕ} {p q : Pos} (on : On toks at (Name t) p) (opened : On toks (at + 1) (Sym 4) q) where
    pub reads_element : {j : ℕ} {v : plain.Expression} {r : Pos} → Reads toks (room - 1) expr (at + 1 + 1) j v → On toks j (Sym 5) r → Reads toks room (level 0) at (j + 1) (node (plain.index t v) p)
    reads_element r close = finish (over_symbol (read (over_symbol (over_name (begin refl h) on refl) opened refl) r refl) close refl) refl

    pub open_element : {j : ℕ} {v : plain.Expression} → Reads toks (room - 1) expr (at + 1 + 1) j v → ((r : Pos) → On toks j (Sym 5) r → ⊥) → Refuses toks room (level 0) at j
    open_element r none = none_left (lacks_symbol 5 (read (over_symbol (over_name (begin refl h) on refl) opened refl) r refl) none)

    pub stops_element : (e : Stop) → Stopped toks (room - 1) expr (at + 1 + 1) e → Stopped toks room (level 0) at e
    stops_element e r = stops e (over_symbol (over_name (begin refl h) on refl) opened refl) r refl

  -- an operand behind a sign
  pub reads_signed : (o : ℕ) {p : Pos} {j : ℕ} {v : plain.Expression} → 13 ≤ o → o ≤ 16 → On toks at (Sym o) p → Reads toks (room - 1) (level 0) (at + 1) j v → Reads toks room (level 0) at j (node (plain.unary o v) p)
  reads_signed o {p} {j} {v} l m on r =
      each_sign (λ x. On toks at (Sym x) p → Reads toks room (level 0) at j (node (plain.unary x v) p))
      (λ on. finish (read (over_symbol (begin refl h) on refl) r refl) refl)
      (λ on. finish (read (over_symbol (begin refl h) on refl) r refl) refl)
      (λ on. finish (read (over_symbol (begin refl h) on refl) r refl) refl)
      (λ on. finish (read (over_symbol (begin refl h) on refl) r refl) refl) o l m on

  pub stops_signed : (o : ℕ) {p : Pos} (e : Stop) → 13 ≤ o → o ≤ 16 → On toks at (Sym o) p → Stopped toks (room - 1) (level 0) (at + 1) e → Stopped toks room (level 0) at e
  stops_signed o {p} e l m on r =
      each_sign (λ x. On toks at (Sym x) p → Stopped toks room (level 0) at e)
      (λ on. stops e (over_symbol (begin refl h) on refl) r refl)
      (λ on. stops e (over_symbol (begin refl h) on refl) r refl)
      (λ on. stops e (over_symbol (begin refl h) on refl) r refl)
      (λ on. stops e (over_symbol (begin refl h) on refl) r refl) o l m on

  -- an operand behind a cast
  module _ {p q : Pos} (opened : On toks at (Sym 0) p) where
    module _ (on : On toks (at + 1) (Key 11) q) where
      pub reads_int : {r : Pos} {j : ℕ} {v : plain.Expression} → On toks (at + 1 + 1) (Sym 1) r → Reads toks (room - 1) (level 0) (at + 1 + 1 + 1) j v → Reads toks room (level 0) at j (node (plain.cast false v) p)
      reads_int close r = finish (read (over_symbol (over_word (over_symbol (begin refl h) opened refl) on refl) close refl) r refl) refl

      pub stops_int : {r : Pos} (e : Stop) → On toks (at + 1 + 1) (Sym 1) r → Stopped toks (room - 1) (level 0) (at + 1 + 1 + 1) e → Stopped toks room (level 0) at e
      stops_int e close r = stops e (over_symbol (over_word (over_symbol (begin refl h) opened refl) on refl) close refl) r refl

      pub open_int : ((r : Pos) → On toks (at + 1 + 1) (Sym 1) r → ⊥) → Refuses toks room (level 0) at (at + 1 + 1)
      open_int none = none_left (lacks_symbol 1 (over_word (over_symbol (begin refl h) opened refl) on refl) none)

    module _ (on : On toks (at + 1) (Key 26) q) where
      pub reads_unsigned : {r : Pos} {j : ℕ} {v : plain.Expression} → On toks (at + 1 + 1) (Sym 1) r → Reads toks (room - 1) (level 0) (at + 1 + 1 + 1) j v → Reads toks room (level 0) at j (node (plain.cast true v) p)
      reads_unsigned close r = finish (read (over_symbol (over_word (over_symbol (begin refl h) opened refl) on refl) close refl) r refl) refl

      pub stops_unsigned : {r : Pos} (e : Stop) → On toks (at + 1 + 1) (Sym 1) r → Stopped toks (room - 1) (level 0) (at + 1 + 1 + 1) e → Stopped toks room (level 0) at e
      stops_unsigned e close r = stops e (over_symbol (over_word (over_symbol (begin refl h) opened refl) on refl) close refl) r refl

      pub open_unsigned : ((r : Pos) → On toks (at + 1 + 1) (Sym 1) r → ⊥) → Refuses toks room (level 0) at (at + 1 + 1)
      open_unsigned none = none_left (lacks_symbol 1 (over_word (over_symbol (begin refl h) opened refl) on refl) none)

-- a cast by the word of its type, which tells whether it is `unsigned`
pub cast_reads : {toks : List Tok} {room at : ℕ} {p : Pos} {u : Bool} {r : Pos} {j : ℕ} {v : plain.Expression} → 1 ≤ room → On toks at (Sym 0) p → IsType toks (at + 1) → (IsTrue u → (at + 1 < length toks) × ((q : Pos) × On toks (at + 1) (Key 26) q)) → ((u ≡ false) → (q : Pos) → On toks (at + 1) (Key 26) q → ⊥) → On toks (at + 1 + 1) (Sym 1) r → Reads toks (room - 1) (level 0) (at + 1 + 1 + 1) j v → Reads toks room (level 0) at j (node (plain.cast u v) p)
cast_reads {u = true} h paren type f g close r = let y = f refl in reads_unsigned h paren y.1.1 close r
cast_reads {u = false} h paren (inl y) f g close r = reads_int h paren y.1 close r
cast_reads {u = false} h paren (inr y) f g close r = absurd (g refl y.0 y.1)

-- with no room
module _ {toks : List Tok} {at : ℕ} where
  pub deep_number : {n : ℕ} {u : Bool} {p : Pos} → On toks at (Num n u) p → TooDeep toks 0 (level 0) at at
  deep_number {n} {u} {p} on = dead a_number (spread_out (all_open refl)) (n, u, p, on) refl (omega arith, tt)

  pub deep_name : {t : List ℕ} {p : Pos} → On toks at (Name t) p → TooDeep toks 0 (level 0) at at
  deep_name {t} {p} on = dead a_name (spread_out (all_open refl)) (t, p, on) refl (omega arith, (omega arith, tt))

  pub deep_sign : (o : ℕ) {p : Pos} → 13 ≤ o → o ≤ 16 → On toks at (Sym o) p → TooDeep toks 0 (level 0) at at
  deep_sign o {p} l m on =
      each_sign (λ x. On toks at (Sym x) p → TooDeep toks 0 (level 0) at at)
      (λ on. dead terminal.tilde (all_open refl) (p, on) refl (omega arith, tt))
      (λ on. dead terminal.bang (all_open refl) (p, on) refl (omega arith, tt))
      (λ on. dead terminal.plus (all_open refl) (p, on) refl (omega arith, tt))
      (λ on. dead terminal.minus (all_open refl) (p, on) refl (omega arith, tt)) o l m on

  pub deep_int : {p q : Pos} → On toks at (Sym 0) p → On toks (at + 1) (Key 11) q → TooDeep toks 0 (level 0) at (at + 1)
  deep_int {p} {q} opened on = dead terminal.int_word (pass_symbol (all_open refl) opened refl tt) (q, on) refl (omega arith, tt)

  pub deep_unsigned : {p q : Pos} → On toks at (Sym 0) p → On toks (at + 1) (Key 26) q → TooDeep toks 0 (level 0) at (at + 1)
  deep_unsigned {p} {q} opened on = dead terminal.unsigned_word (pass_symbol (all_open refl) opened refl tt) (q, on) refl (omega arith, tt)

module _ {toks : List Tok} (room : ℕ) {at : ℕ} where
  -- no operand begins here
  pub no_operand : (OneOf toks at begins_operand → ⊥) → Refuses toks room (level 0) at at
  no_operand none = stuck (no_one begins_operand (all_open refl) none)

  -- in brackets, which aren't those of a cast
  module _ {p : Pos} (opened : On toks at (Sym 0) p) (none : OneOf toks (at + 1) (terminal.int_word ∷ terminal.unsigned_word ∷ []) → ⊥) where
    inside : Roomy toks room (level 0) at (at + 1) (record { need = 0; parts = record { above = 0; symbol = expr } ∷ record { above = 0; symbol = terminal.end_paren } ∷ []; fits = λ x. true; make = λ e x. x.0 } ∷ [])
    inside = roomy (no_one (terminal.int_word ∷ terminal.unsigned_word ∷ []) (pass_symbol (all_open refl) opened refl tt) none) tt

    pub reads_brackets : {j : ℕ} {v : plain.Expression} {q : Pos} → Reads toks room expr (at + 1) j v → On toks j (Sym 1) q → Reads toks room (level 0) at (j + 1) v
    reads_brackets r close = finish (over_symbol (read inside r refl) close refl) refl

    pub stops_brackets : (e : Stop) → Stopped toks room expr (at + 1) e → Stopped toks room (level 0) at e
    stops_brackets e r = stops e inside r refl

    pub open_brackets : {j : ℕ} {v : plain.Expression} → Reads toks room expr (at + 1) j v → ((q : Pos) → On toks j (Sym 1) q → ⊥) → Refuses toks room (level 0) at j
    open_brackets r none = none_left (lacks_symbol 1 (read inside r refl) none)

-- A name or an element, as what is assigned to.
module _ {toks : List Tok} {room at : ℕ} (h : 1 ≤ room) where
  pub reads_variable : {t : List ℕ} {p : Pos} → On toks at (Name t) p → ((q : Pos) → On toks (at + 1) (Sym 4) q → ⊥) → Reads toks room lval at (at + 1) (node (plain.name t) p)
  reads_variable on none = finish (lacks_symbol 4 (over_name (begin refl h) on refl) none) refl

  module _ {t : List ℕ} {p q : Pos} (on : On toks at (Name t) p) (opened : On toks (at + 1) (Sym 4) q) where
    pub reads_place : {j : ℕ} {v : plain.Expression} {r : Pos} → Reads toks (room - 1) expr (at + 1 + 1) j v → On toks j (Sym 5) r → Reads toks room lval at (j + 1) (node (plain.index t v) p)
    reads_place r close = finish (over_symbol (read (over_symbol (over_name (begin refl h) on refl) opened refl) r refl) close refl) refl

    pub open_place : {j : ℕ} {v : plain.Expression} → Reads toks (room - 1) expr (at + 1 + 1) j v → ((r : Pos) → On toks j (Sym 5) r → ⊥) → Refuses toks room lval at j
    open_place r none = none_left (lacks_symbol 5 (read (over_symbol (over_name (begin refl h) on refl) opened refl) r refl) none)

    pub stops_place : (e : Stop) → Stopped toks (room - 1) expr (at + 1 + 1) e → Stopped toks room lval at e
    stops_place e r = stops e (over_symbol (over_name (begin refl h) on refl) opened refl) r refl

pub deep_variable : {toks : List Tok} {at : ℕ} {t : List ℕ} {p : Pos} → On toks at (Name t) p → TooDeep toks 0 lval at at
deep_variable {t} {p} on = dead a_name (all_open refl) (t, p, on) refl (omega arith, (omega arith, tt))
