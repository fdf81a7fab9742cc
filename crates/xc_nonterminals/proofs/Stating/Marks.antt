-- Places where one of several tokens stands: the operators that assign, and the types of words.
use Rattle.std.proofs.Common.{◌≡◌, ℕ, ◌+◌, ◌≤◌, ◌⊎◌, inl, inr, List, [], ◌∷◌, refl, sym as sym', ap, subst, get_or, lit≤, arith}
use Rattle.std.proofs.lemmas.Bool.{cases_lt, or_cases}
use Rattle.xw_words.specs.declared.pos.Pos.{Pos}
use Rattle.xc_tree.specs.declared.token.Tok.{Tok}
use Rattle.xc_tree.specs.declared.token.Kind.{Kind}
use Rattle.xc_tree.specs.declared.token.Kind.TheVariants.{Sym}
use Rattle.xc_tree.specs.Symbol.{Symbol, sym, a_name, assign_op, Value}
use Rattle.xc_tree.specs.Derives.{On, named}
use Rattle.xc_nonterminals.specs.Follows.{OneOf, StandsAt, first, has, is_same}
use Rattle.xc_nonterminals.specs.declared.stop.Stop.{Stop}
use Rattle.xc_nonterminals.specs.declared.stop.Stop.TheVariants.{Wrong, Deep, Memory}
use Rattle.xc_nonterminals.specs.Reading.{Reads, Refuses}
use Rattle.xc_nonterminals.specs.Stops.{Stopped}
use Rattle.xc_nonterminals.proofs.Rests.Rests.{Rest}
use Rattle.xc_nonterminals.proofs.Rests.Opening.{keep, fronts}
use Rattle.xc_nonterminals.proofs.Derivations.TokenSets.{is_same_eq}
use Rattle.xc_nonterminals.proofs.Derivations.Single.{on_pos}
use Rattle.xc_nonterminals.proofs.Reading.Paths.{Roomy, begin, at_word, over_symbol, lacks, none_left, finish}
use Rattle.xc_tree.specs.Terminals as terminal

-- one of some tokens is the first of them or one of the others
pub first_of : {toks : List Tok} {i : ℕ} (t : Symbol) (ts : List Symbol) → OneOf toks i (t ∷ ts) → StandsAt toks i t ⊎ OneOf toks i ts
first_of {toks} {i} t ts o = elim (or_cases (is_same t o.token) (has ts o.token) o.among) [
  | inl e ↦ inl (subst (StandsAt toks i) (sym' (is_same_eq t o.token e)) o.stands)
  | inr e ↦ inr (record { token = o.token; stands = o.stands; among = e })
]

pub none_of : {toks : List Tok} {i : ℕ} → OneOf toks i [] → ⊥
none_of o = let e = o.among in absurd (cc)

-- none of some tokens stands at a place
abbrev pub Never : List Tok → ℕ → List Symbol → Type 0
Never toks i [] = Unit {0}
Never toks i (t ∷ ts) = (StandsAt toks i t → ⊥) × Never toks i ts

pub never_one : {toks : List Tok} {i : ℕ} (ts : List Symbol) → Never toks i ts → OneOf toks i ts → ⊥
never_one [] n o = none_of o
never_one (t ∷ ts) n o = elim (first_of t ts o) [ inl x ↦ n.0 x | inr q ↦ never_one ts n.1 q ]

-- a token as it was looked at
pub on_it : {toks : List Tok} {i : ℕ} {k : Kind} {p : Pos} → On toks i k p → (d : Tok) → On toks i k (get_or toks i d).pos
on_it {toks} {i} {k} on d = subst (λ q. On toks i k q) (on_pos on d) on

-- where a type stands, and either of its words leaves the same rests open
pub at_a_type : {toks : List Tok} {room : ℕ} {s : Symbol} {i k : ℕ} {rs : List (Rest (Value s))} → Roomy toks room s i k rs → OneOf toks k (terminal.int_word ∷ terminal.unsigned_word ∷ []) → keep (fronts s) terminal.unsigned_word rs ≡ keep (fronts s) terminal.int_word rs → Roomy toks room s i k (keep (fronts s) terminal.int_word rs)
at_a_type {toks} {room} {s} {i} {k} {rs} st o e = elim (first_of terminal.int_word (terminal.unsigned_word ∷ []) o) [
  | inl x ↦ at_word st x.1
  | inr q ↦ elim (first_of terminal.unsigned_word [] q) [
    | inl x ↦ subst (Roomy toks room s i k) e (at_word st x.1)
    | inr z ↦ absurd (none_of z)
  ]
]

-- a number from a on is a, or one from the next on
from_next : (P : ℕ → Type 0) (a o : ℕ) → P a → (a + 1 ≤ o → P o) → a ≤ o → P o
from_next P a o p f h = elim (cases_lt a o) [
  | inl l ↦ f (omega arith)
  | inr l ↦ let e : a ≡ o = omega arith in subst P e p
]

abbrev pub IsMark : List Tok → ℕ → ℕ → Type 0
IsMark toks i o = (p : Pos) → On toks i (Sym o) p → (room : ℕ) → Reads toks room assign_op i (i + 1) (record { mark = o; pos = p })

module _ {toks : List Tok} {i : ℕ} where
  pub mark_reads : (o : ℕ) → 37 ≤ o → o ≤ 46 → IsMark toks i o
  mark_reads o l h =
      let P : ℕ → Type 0 = IsMark toks i in
      from_next P 37 o (λ p on room. finish (over_symbol (begin refl tt) on refl) refl)
      (from_next P 38 o (λ p on room. finish (over_symbol (begin refl tt) on refl) refl)
      (from_next P 39 o (λ p on room. finish (over_symbol (begin refl tt) on refl) refl)
      (from_next P 40 o (λ p on room. finish (over_symbol (begin refl tt) on refl) refl)
      (from_next P 41 o (λ p on room. finish (over_symbol (begin refl tt) on refl) refl)
      (from_next P 42 o (λ p on room. finish (over_symbol (begin refl tt) on refl) refl)
      (from_next P 43 o (λ p on room. finish (over_symbol (begin refl tt) on refl) refl)
      (from_next P 44 o (λ p on room. finish (over_symbol (begin refl tt) on refl) refl)
      (from_next P 45 o (λ p on room. finish (over_symbol (begin refl tt) on refl) refl)
      (from_next P 46 o (λ p on room. finish (over_symbol (begin refl tt) on refl) refl)
      (λ g. absurd (omega arith))))))))))) l

  -- a token that is none of these stands there
  pub mark_refuses : ((o : ℕ) (p : Pos) → 37 ≤ o → o ≤ 46 → On toks i (Sym o) p → ⊥) → (room : ℕ) → Refuses toks room assign_op i i
  mark_refuses none room =
      let no : (o : ℕ) → 37 ≤ o → o ≤ 46 → StandsAt toks i (sym o) → ⊥ = λ o l h x. none o x.0 l h x.1 in
      let never : Never toks i (first assign_op) = (
        no 37 (lit≤ tt) (lit≤ tt),
        (
          no 38 (lit≤ tt) (lit≤ tt),
          (
            no 39 (lit≤ tt) (lit≤ tt),
            (
              no 40 (lit≤ tt) (lit≤ tt),
              (
                no 41 (lit≤ tt) (lit≤ tt),
                (
                  no 42 (lit≤ tt) (lit≤ tt),
                  (
                    no 43 (lit≤ tt) (lit≤ tt),
                    (
                      no 44 (lit≤ tt) (lit≤ tt),
                      (
                        no 45 (lit≤ tt) (lit≤ tt),
                        (
                          no 46 (lit≤ tt) (lit≤ tt),
                          tt,
                        ),
                      ),
                    ),
                  ),
                ),
              ),
            ),
          ),
        ),
      ) in
      none_left (lacks (first assign_op) (begin refl tt) (never_one (first assign_op) never))

abbrev mark_in : Kind → ℕ
mark_in (Sym o) = o
mark_in _ = 0

pub other_mark : {a b : ℕ} → Sym a ≡ Sym b → a ≡ b
other_mark e = ap mark_in e

-- a name that stands there isn't refused
pub name_stops : (toks : List Tok) (i room : ℕ) (s : Symbol) → StandsAt toks i a_name → (e : Stop) → Stopped toks room a_name i e → Stopped toks room s i e
name_stops toks i room s at (Wrong m) x = absurd (none_of (x.never (i + 1) _ (named at.2)).goes_on)
name_stops toks i room s at (Deep m) x = absurd (none_of (x.never (i + 1) _ (named at.2)).goes_on)
name_stops toks i room s at Memory x = tt
