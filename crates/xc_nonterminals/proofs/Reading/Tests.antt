-- What the tests for tokens find.
use Rattle.std.proofs.Common.{◌≡◌, ℕ, zero, suc, ◌-◌, ◌<◌, ◌≤◌, ◌⊎◌, inl, inr, Bool, true, false, ◌||◌, List, [], ◌∷◌, nat_eq, length, get_or, slice_get, Some, refl, sym as sym', ap, subst, ◌∙◌, arith}
use Rattle.std.proofs.lemmas.Bool.{or_cases, eqb-true}
use Rattle.xw_words.specs.declared.pos.Pos.{Pos}
use Rattle.xc_tree.specs.declared.token.Tok.{Tok}
use Rattle.xc_tree.specs.declared.token.Kind.{Kind}
use Rattle.xc_tree.specs.declared.token.Kind.TheVariants.{Name, Num, Key, Sym}
use Rattle.xc_tree.specs.Symbol.{Symbol, sym, key, a_name, a_number, level, Marked}
use Rattle.xc_tree.specs.Derives.{On}
use Rattle.xc_nonterminals.specs.Follows.{OneOf, StandsAt, has, is_same, follows, begins_operand, after_expression, binary_operators}
use Rattle.xc_nonterminals.specs.Levels.{IsOperator}
use Rattle.xc_nonterminals.specs.Operands.{IsSymbol, IsType}
use Rattle.xc_nonterminals.proofs.Derivations.TokenSets.{false_true}
use Rattle.xc_nonterminals.proofs.Derivations.Inverse.{same_kind}
use Rattle.xc_nonterminals.proofs.Valued.Operators.{operator_goes_on, bracket_goes_on, Onward, goes_onward}
use Rattle.xc_nonterminals.proofs.Valued.Atoms.{each_sign}
use Rattle.xc_nonterminals.proofs.Valued.Choosing.{has_within, expr_goes, question_goes}
use Rattle.xc_tree.specs.Terminals as terminal

-- the symbols of a list of tokens
abbrev pub Among : ℕ → List Symbol → Type 0
Among s [] = ⊥
Among s (x ∷ xs) = (x ≡ sym s) ⊎ Among s xs

same_token : (x : Symbol) (s : ℕ) → is_same x (sym s) ≡ true → x ≡ sym s
same_token (sym a) s e = ap sym (eqb-true a s e)
same_token x s e = absurd (false_true e)

pub among_of : (xs : List Symbol) (s : ℕ) → has xs (sym s) ≡ true → Among s xs
among_of [] s e = absurd (false_true e)
among_of (x ∷ xs) s e = elim (or_cases (is_same x (sym s)) (has xs (sym s)) e) [ inl h ↦ inl (same_token x s h) | inr h ↦ inr (among_of xs s h) ]

-- the kinds of token that an expression begins with
abbrev pub BeginsAs : Kind → Type 0
BeginsAs (Name t) = Unit {0}
BeginsAs (Num n u) = Unit {0}
BeginsAs (Sym s) = (s ≡ 0) ⊎ ((13 ≤ s) × (s ≤ 16))
BeginsAs (Key w) = ⊥

pub from_among : (s : ℕ) → Among s begins_operand → (s ≡ 0) ⊎ ((13 ≤ s) × (s ≤ 16))
from_among s (inl e) = absurd (cc)
from_among s (inr (inl e)) = absurd (cc)
from_among s (inr (inr (inl e))) = let f : s ≡ 0 = cc in inl f
from_among s (inr (inr (inr (inl e)))) = let f : s ≡ 16 = cc in inr (omega arith, omega arith)
from_among s (inr (inr (inr (inr (inl e))))) = let f : s ≡ 15 = cc in inr (omega arith, omega arith)
from_among s (inr (inr (inr (inr (inr (inl e)))))) = let f : s ≡ 13 = cc in inr (omega arith, omega arith)
from_among s (inr (inr (inr (inr (inr (inr (inl e))))))) = let f : s ≡ 14 = cc in inr (omega arith, omega arith)
from_among s (inr (inr (inr (inr (inr (inr (inr e))))))) = absurd e

get_some : (xs : List Tok) (i : ℕ) (t : Tok) → i < length xs → slice_get xs i ≡ Some (get_or xs i t)
get_some [] i t h = absurd (omega arith)
get_some (x ∷ xs) zero t h = refl
get_some (x ∷ xs) (suc i) t h = get_some xs i t (omega arith)

pos_of : {t : Tok} {k : Kind} {p : Pos} → Some t ≡ Some (record { kind = k; pos = p }) → p ≡ t.pos
pos_of {t} {k} {p} e = let f : ◌≡◌ {A = Tok} t (record { kind = k; pos = p }) = cc in sym' (ap (λ x. x.pos) f)

-- the token that was read from a place stands there
pub stands_there : (toks : List Tok) (i : ℕ) (t : Tok) (k : Kind) → i < length toks → t ≡ get_or toks i t → (get_or toks i t).kind ≡ k → On toks i k (get_or toks i t).pos
stands_there toks i t k h e f = let g : ◌≡◌ {A = Tok} (get_or toks i t) (record { kind = k; pos = (get_or toks i t).pos }) = ap (λ x. record { kind = x; pos = (get_or toks i t).pos }) f in record { there = get_some toks i t h ∙ ap Some g }

-- the place of the token that was read from there
pub stands_here : {toks : List Tok} {i : ℕ} {k : Kind} {p : Pos} (t : Tok) → i < length toks → On toks i k p → On toks i k (get_or toks i t).pos
stands_here {toks} {i} {k} {p} t h on = let e : Some (get_or toks i t) ≡ Some (record { kind = k; pos = p }) = sym' (get_some toks i t h) ∙ on.there in let f : p ≡ (get_or toks i t).pos = pos_of e in subst (On toks i k) f on

-- what one finds of an operator
pub lower : {toks : List Tok} {i l : ℕ} {o : Marked} → 0 < l → IsOperator toks i l o → IsOperator toks i (suc (l - 1)) o
lower {toks} {i} {l} {o} h s = let e : l ≡ suc (l - 1) = omega arith in subst (λ x. IsOperator toks i x o) e s

module _ {toks : List Tok} {i : ℕ} where
  pub name_begins : {t : List ℕ} {p : Pos} → On toks i (Name t) p → OneOf toks i begins_operand
  name_begins {t} {p} on = record { token = a_name; stands = (t, p, on); among = refl }

  pub number_begins : {n : ℕ} {u : Bool} {p : Pos} → On toks i (Num n u) p → OneOf toks i begins_operand
  number_begins {n} {u} {p} on = record { token = a_number; stands = (n, u, p, on); among = refl }

  pub symbol_begins : {s : ℕ} {p : Pos} → On toks i (Sym s) p → (s ≡ 0) ⊎ ((13 ≤ s) × (s ≤ 16)) → OneOf toks i begins_operand
  symbol_begins {s} {p} on (inl e) = record { token = sym s; stands = (p, on); among = subst (λ x. has begins_operand (sym x) ≡ true) (sym' e) refl }
  symbol_begins {s} {p} on (inr h) = record { token = sym s; stands = (p, on); among = each_sign (λ x. has begins_operand (sym x) ≡ true) refl refl refl refl s h.0 h.1 }

  pub begins_by : (t : Symbol) → StandsAt toks i t → has begins_operand t ≡ true → (k : Kind) × (p : Pos) × On toks i k p × BeginsAs k
  begins_by a_name on e = (Name on.0, on.1, on.2, tt)
  begins_by a_number on e = (Num on.0 on.1, on.2, on.3, tt)
  begins_by (sym s) on e = (Sym s, on.0, on.1, from_among s (among_of begins_operand s e))
  begins_by (key w) on e = absurd (false_true e)
  begins_by t on e = absurd on

  -- the token there is one that an expression begins with
  pub begins_as : {k : Kind} {p : Pos} → On toks i k p → OneOf toks i begins_operand → BeginsAs k
  begins_as {k} on o = let y = begins_by o.token o.stands o.among in subst BeginsAs (same_kind y.2 on) y.3

  pub is_symbol : {s : ℕ} {p : Pos} (o : ℕ) → On toks i (Sym s) p → s ≡ o → IsSymbol toks i o
  is_symbol {s} {p} o on e = (p, subst (λ x. On toks i (Sym x) p) e on)

  -- what an expression goes on with
  pub operator_after : {l : ℕ} {o : Marked} → l < 10 → IsOperator toks i (suc l) o → OneOf toks i after_expression
  operator_after h s = expr_goes toks i (operator_goes_on toks 10 h s)

  pub bracket_after : {p : Pos} → On toks i (Sym 4) p → OneOf toks i after_expression
  bracket_after on = expr_goes toks i (bracket_goes_on toks 10 on)

  pub question_after : {p : Pos} → On toks i (Sym 9) p → OneOf toks i after_expression
  question_after on = question_goes toks on

  after_by : (t : Symbol) → StandsAt toks i t → has after_expression t ≡ true → IsSymbol toks i 9 ⊎ Onward toks 10 i
  after_by (sym s) on e = elim (or_cases (nat_eq 9 s) (has (terminal.bracket ∷ binary_operators) (sym s)) e) [
    | inl h ↦ inl (on.0, subst (λ x. On toks i (Sym x) on.0) (sym' (eqb-true 9 s h)) on.1)
    | inr h ↦ inr (goes_onward toks 10 i (record { token = sym s; stands = on; among = has_within (terminal.bracket ∷ binary_operators) (follows (level 10)) (sym s) refl h }))
  ]
  after_by (key w) on e = absurd (false_true e)
  after_by a_name on e = absurd (false_true e)
  after_by a_number on e = absurd (false_true e)
  after_by t on e = absurd on

  pub after_is : OneOf toks i after_expression → IsSymbol toks i 9 ⊎ Onward toks 10 i
  after_is o = after_by o.token o.stands o.among

  type_by : (t : Symbol) → StandsAt toks i t → has (terminal.int_word ∷ terminal.unsigned_word ∷ []) t ≡ true → IsType toks i
  type_by (key w) on e = elim (or_cases (nat_eq 11 w) (nat_eq 26 w || false) e) [
    | inl h ↦ inl (on.0, subst (λ x. On toks i (Key x) on.0) (sym' (eqb-true 11 w h)) on.1)
    | inr h ↦ elim (or_cases (nat_eq 26 w) false h) [
      | inl h ↦ inr (on.0, subst (λ x. On toks i (Key x) on.0) (sym' (eqb-true 26 w h)) on.1)
      | inr h ↦ absurd (false_true h)
    ]
  ]
  type_by (sym o) on e = absurd (false_true e)
  type_by a_name on e = absurd (false_true e)
  type_by a_number on e = absurd (false_true e)
  type_by t on e = absurd on

  pub type_is : OneOf toks i (terminal.int_word ∷ terminal.unsigned_word ∷ []) → IsType toks i
  type_is o = type_by o.token o.stands o.among

-- behind the last token stands none
past_end : (xs : List Tok) (i : ℕ) (t : Tok) → slice_get xs i ≡ Some t → i < length xs
past_end [] i t e = absurd (cc)
past_end (x ∷ xs) zero t e = omega arith
past_end (x ∷ xs) (suc i) t e = let h = past_end xs i t e in omega arith

stands_within : (toks : List Tok) (i : ℕ) (t : Symbol) → StandsAt toks i t → i < length toks
stands_within toks i (sym o) s = past_end toks i _ s.1.there
stands_within toks i (key w) s = past_end toks i _ s.1.there
stands_within toks i a_name s = past_end toks i _ s.2.there
stands_within toks i a_number s = past_end toks i _ s.3.there
stands_within toks i _ s = absurd s

pub nothing_past : {toks : List Tok} {i : ℕ} {xs : List Symbol} → length toks ≤ i → OneOf toks i xs → ⊥
nothing_past {toks} {i} h o = let g = stands_within toks i o.token o.stands in absurd (omega arith)

pub none_past : (toks : List Tok) (i : ℕ) → length toks ≤ i → OneOf toks i begins_operand → ⊥
none_past toks i h o = let y = begins_by o.token o.stands o.among in let g = past_end toks i _ y.2.there in absurd (omega arith)

pub name_within : {toks : List Tok} {i : ℕ} → StandsAt toks i a_name → i < length toks
name_within {toks} {i} s = past_end toks i _ s.2.there
