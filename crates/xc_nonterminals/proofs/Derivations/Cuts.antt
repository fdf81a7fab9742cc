-- What the tokens up to a place derive goes no further than they do, and each front of a prefix is a prefix.
use Rattle.std.proofs.Common.{◌≡◌, ℕ, ◌+◌, ◌<◌, ◌≤◌, ◌⊎◌, inl, inr, List, length, subst, arith}
use Rattle.std.proofs.lemmas.Bool.{cases_lt}
use Rattle.std.proofs.lemmas.Option.{slice_get_within}
use Rattle.xw_words.specs.declared.pos.Pos.{Pos}
use Rattle.xc_tree.specs.declared.token.Tok.{Tok}
use Rattle.xc_tree.specs.declared.token.Kind.{Kind}
use Rattle.xc_tree.specs.Symbol.{Symbol, sym, key, a_name, a_number, Value, Values}
use Rattle.xc_tree.specs.Derives.{On, Room, Derives, a_sym, a_key, named, counted, by_rule, Row, done, next, Prefix, nothing, whole, begins, Begins, in_this, after}
use Rattle.xc_nonterminals.specs.Follows.{StandsAt, OneOf}

-- a token stands at one of the places
pub on_within : {toks : List Tok} {i : ℕ} {k : Kind} {p : Pos} → On toks i k p → i < length toks
on_within {toks} {i} {k} {p} on = slice_get_within toks i (record { kind = k; pos = p }) on.there

stands_within : (toks : List Tok) (i : ℕ) (t : Symbol) → StandsAt toks i t → i < length toks
stands_within toks i (sym o) (p, on) = on_within on
stands_within toks i (key w) (p, on) = on_within on
stands_within toks i a_name (x, p, on) = on_within on
stands_within toks i a_number (n, u, p, on) = on_within on
stands_within toks i _ at = absurd at

pub one_of_within : {toks : List Tok} {i : ℕ} {ts : List Symbol} → OneOf toks i ts → i < length toks
one_of_within {toks} {i} o = stands_within toks i o.token o.stands

mutual
  pub derives_within_tokens : {toks : List Tok} {room : Room} {s : Symbol} {i j : ℕ} {v : Value s} → Derives toks room s i j v → i ≤ length toks → j ≤ length toks
  derives_within_tokens (a_sym on) h = let g = on_within on in omega arith
  derives_within_tokens (a_key on) h = let g = on_within on in omega arith
  derives_within_tokens (named on) h = let g = on_within on in omega arith
  derives_within_tokens (counted on) h = let g = on_within on in omega arith
  derives_within_tokens (by_rule a g row f) h = row_within_tokens row h

  pub row_within_tokens : {toks : List Tok} {room : Room} {ss : List Symbol} {i j : ℕ} {vs : Values ss} → Row toks room ss i j vs → i ≤ length toks → j ≤ length toks
  row_within_tokens done h = h
  row_within_tokens (next d r) h = row_within_tokens r (derives_within_tokens d h)

mutual
  pub prefix_within_tokens : {toks : List Tok} {room : Room} {s : Symbol} {i n : ℕ} → Prefix toks room s i n → i ≤ length toks → n ≤ length toks
  prefix_within_tokens nothing h = h
  prefix_within_tokens (whole d) h = derives_within_tokens d h
  prefix_within_tokens (begins a g b) h = begins_within_tokens b h

  pub begins_within_tokens : {toks : List Tok} {room : Room} {ss : List Symbol} {i n : ℕ} → Begins toks room ss i n → i ≤ length toks → n ≤ length toks
  begins_within_tokens (in_this q) h = prefix_within_tokens q h
  begins_within_tokens (after d b) h = begins_within_tokens b (derives_within_tokens d h)

-- the prefixes of a token
token_cut : {toks : List Tok} {room : Room} {s : Symbol} {i : ℕ} (m : ℕ) → Prefix toks room s i (i + 1) → i ≤ m → m ≤ i + 1 → Prefix toks room s i m
token_cut {toks} {room} {s} {i} m q a b = elim (cases_lt i m) [
  | inl h ↦ let e : i + 1 ≡ m = omega arith in subst (Prefix toks room s i) e q
  | inr h ↦ let e : i ≡ m = omega arith in subst (Prefix toks room s i) e nothing
]

mutual
  pub derives_cut : {toks : List Tok} {room : Room} {s : Symbol} {i n : ℕ} {v : Value s} (m : ℕ) → Derives toks room s i n v → i ≤ m → m ≤ n → Prefix toks room s i m
  derives_cut m (a_sym on) a b = token_cut m (whole (a_sym on)) a b
  derives_cut m (a_key on) a b = token_cut m (whole (a_key on)) a b
  derives_cut m (named on) a b = token_cut m (whole (named on)) a b
  derives_cut m (counted on) a b = token_cut m (whole (counted on)) a b
  derives_cut {toks} {room} {s} {i} m (by_rule x h row f) a b = elim (row_cut m row a b) [ inl e ↦ subst (Prefix toks room s i) e nothing | inr y ↦ begins x h y ]

  pub row_cut : {toks : List Tok} {room : Room} {ss : List Symbol} {i n : ℕ} {vs : Values ss} (m : ℕ) → Row toks room ss i n vs → i ≤ m → m ≤ n → (i ≡ m) ⊎ Begins toks room ss i m
  row_cut m done a b = inl (omega arith)
  row_cut {toks} {room} m (next {s} {ss = rest} {i} {j} d r) a b = elim (cases_lt j m) [
    | inr h ↦ inr (in_this (derives_cut m d a h))
    | inl h ↦ let l : j ≤ m = omega arith in elim (row_cut m r l b) [ inl e ↦ inr (in_this (subst (Prefix toks room s i) e (whole d))) | inr y ↦ inr (after d y) ]
  ]

mutual
  -- each front of a prefix is a prefix
  pub prefix_cut : {toks : List Tok} {room : Room} {s : Symbol} {i n : ℕ} (m : ℕ) → Prefix toks room s i n → i ≤ m → m ≤ n → Prefix toks room s i m
  prefix_cut {toks} {room} {s} {i} m nothing a b = let e : i ≡ m = omega arith in subst (Prefix toks room s i) e nothing
  prefix_cut m (whole d) a b = derives_cut m d a b
  prefix_cut m (begins x h y) a b = begins x h (begins_cut m y a b)

  pub begins_cut : {toks : List Tok} {room : Room} {ss : List Symbol} {i n : ℕ} (m : ℕ) → Begins toks room ss i n → i ≤ m → m ≤ n → Begins toks room ss i m
  begins_cut m (in_this q) a b = in_this (prefix_cut m q a b)
  begins_cut m (after {j} d y) a b = elim (cases_lt j m) [
    | inr h ↦ in_this (derives_cut m d a h)
    | inl h ↦ let l : j ≤ m = omega arith in after d (begins_cut m y l b)
  ]
