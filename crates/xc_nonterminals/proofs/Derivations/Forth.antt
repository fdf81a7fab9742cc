-- No symbol ends before it begins, and what there is room for is so without a limit.
use Rattle.std.proofs.Common.{◌≡◌, ℕ, zero, suc, ◌+◌, ◌-◌, ◌<◌, ◌≤◌, inl, inr, Bool, false, true, List, refl, sym as sym', ap, ◌∙◌, subst, arith}
use Rattle.std.proofs.lemmas.Bool.{and_cases}
use Rattle.xc_tree.specs.declared.token.Tok.{Tok}
use Rattle.xc_tree.specs.Symbol.{Symbol, Value, Values}
use Rattle.xc_tree.specs.Derives.{Room, unlimited, at_most, HasRoom, below, Derives, a_sym, a_key, named, counted, by_rule, Row, done, next, Prefix, nothing, whole, begins, Begins, in_this, after}
use Rattle.xc_nonterminals.specs.Follows.{OneOf, first, nullable}
use Rattle.xc_nonterminals.proofs.Rests.Rests.{inside, left}
use Rattle.xc_nonterminals.proofs.Derivations.Covers.{Fits, all_fit, row_nullable}
use Rattle.xc_nonterminals.proofs.Derivations.Firsts.{derived_first}

mutual
  -- no symbol ends before it begins
  pub forth : {toks : List Tok} {room : Room} {s : Symbol} {i j : ℕ} {v : Value s} → Derives toks room s i j v → i ≤ j
  forth (a_sym on) = omega arith
  forth (a_key on) = omega arith
  forth (named on) = omega arith
  forth (counted on) = omega arith
  forth (by_rule a h row f) = row_forth row

  pub row_forth : {toks : List Tok} {room : Room} {ss : List Symbol} {i j : ℕ} {vs : Values ss} → Row toks room ss i j vs → i ≤ j
  row_forth done = omega arith
  row_forth (next d r) = let a = forth d in let b = row_forth r in omega arith

mutual
  pub prefix_forth : {toks : List Tok} {room : Room} {s : Symbol} {i n : ℕ} → Prefix toks room s i n → i ≤ n
  prefix_forth nothing = omega arith
  prefix_forth (whole d) = forth d
  prefix_forth (begins a h b) = begins_forth b

  pub begins_forth : {toks : List Tok} {room : Room} {ss : List Symbol} {i n : ℕ} → Begins toks room ss i n → i ≤ n
  begins_forth (in_this q) = prefix_forth q
  begins_forth (after d b) = let x = forth d in let y = begins_forth b in omega arith

-- more room
pub data Wider : Room → Room → Type 0 where
  freed : {room : Room} → Wider room unlimited
  widened : {m n : ℕ} → m ≤ n → Wider (at_most m) (at_most n)

wider_has : {a b : Room} (n : ℕ) → Wider a b → HasRoom a n → HasRoom b n
wider_has n freed h = tt
wider_has n (widened l) h = omega arith

wider_below : {a b : Room} (n : ℕ) → Wider a b → Wider (below a n) (below b n)
wider_below n freed = freed
wider_below n (widened l) = widened (omega arith)

mutual
  pub widen : {toks : List Tok} {a b : Room} {s : Symbol} {i j : ℕ} {v : Value s} → Wider a b → Derives toks a s i j v → Derives toks b s i j v
  widen w (a_sym on) = a_sym on
  widen w (a_key on) = a_key on
  widen w (named on) = named on
  widen w (counted on) = counted on
  widen w (by_rule {r} a h row f) = by_rule a (wider_has r.nodes w h) (widen_row (wider_below r.nodes w) row) f

  pub widen_row : {toks : List Tok} {a b : Room} {ss : List Symbol} {i j : ℕ} {vs : Values ss} → Wider a b → Row toks a ss i j vs → Row toks b ss i j vs
  widen_row w done = done
  widen_row w (next d r) = next (widen w d) (widen_row w r)

mutual
  pub widen_prefix : {toks : List Tok} {a b : Room} {s : Symbol} {i n : ℕ} → Wider a b → Prefix toks a s i n → Prefix toks b s i n
  widen_prefix w nothing = nothing
  widen_prefix w (whole d) = whole (widen w d)
  widen_prefix w (begins {r} a h b) = begins a (wider_has r.nodes w h) (widen_begins (wider_below r.nodes w) b)

  pub widen_begins : {toks : List Tok} {a b : Room} {ss : List Symbol} {i n : ℕ} → Wider a b → Begins toks a ss i n → Begins toks b ss i n
  widen_begins w (in_this q) = in_this (widen_prefix w q)
  widen_begins w (after d b) = after (widen w d) (widen_begins w b)

-- with no limit
pub lift : {toks : List Tok} {room : Room} {s : Symbol} {i j : ℕ} {v : Value s} → Derives toks room s i j v → Derives toks unlimited s i j v
lift d = widen freed d

pub lift_prefix : {toks : List Tok} {room : Room} {s : Symbol} {i n : ℕ} → Prefix toks room s i n → Prefix toks unlimited s i n
lift_prefix q = widen_prefix freed q

-- a symbol that derives no nothing ends behind its beginning
pub ahead : {toks : List Tok} {room : Room} {s : Symbol} {i j : ℕ} {v : Value s} → nullable s ≡ false → Derives toks room s i j v → OneOf toks i (first s)
ahead {toks} {room} {s} {i} {j} {v} e d = elim (derived_first toks room s i j v d) [ inl h ↦ let g = h.1 in absurd (cc) | inr o ↦ o ]

-- the rooms inside nodes
pub inside_most : (room a : ℕ) → inside (at_most room) a ≡ at_most (left room a)
inside_most room zero = refl
inside_most room (suc a) = refl

pub inside_free : (a : ℕ) → inside unlimited a ≡ unlimited
inside_free zero = refl
inside_free (suc a) = refl

at_most_same : {a b : ℕ} → a ≡ b → at_most a ≡ at_most b
at_most_same e = cc

inside_is : (r x : ℕ) → inside (at_most r) x ≡ at_most (r - x)
inside_is r zero = at_most_same (omega arith)
inside_is r (suc x) = refl

pub inside_below : (room : Room) (a n : ℕ) → below (inside room a) n ≡ inside room (a + n)
inside_below unlimited a n = ap (λ (y : Room). below y n) (inside_free a) ∙ sym' (inside_free (a + n))
inside_below (at_most r) a n = let e : r - a - n ≡ r - (a + n) = omega arith in ap (λ (y : Room). below y n) (inside_is r a) ∙ at_most_same e ∙ sym' (inside_is r (a + n))

-- room for a node inside some others
pub inside_has : (room : Room) (a n : ℕ) → HasRoom room a → HasRoom (inside room a) n → HasRoom room (a + n)
inside_has unlimited a n h g = tt
inside_has (at_most r) a n h g = let k : n ≤ r - a = subst (λ (y : Room). HasRoom y n) (inside_is r a) g in omega arith

pub has_inside : (room : Room) (a n : ℕ) → HasRoom room (a + n) → HasRoom room a × HasRoom (inside room a) n
has_inside unlimited a n h = (tt, subst (λ (y : Room). HasRoom y n) (sym' (inside_free a)) tt)
has_inside (at_most r) a n h = (omega arith, subst (λ (y : Room). HasRoom y n) (sym' (inside_is r a)) (omega arith))

pub inside_same : (room : Room) (n : ℕ) → below room n ≡ inside room n
inside_same unlimited n = sym' (inside_free n)
inside_same (at_most r) n = sym' (inside_is r n)

null_row : {s : Symbol} {parts : List Symbol} → Fits s parts → nullable s ≡ false → row_nullable parts ≡ false
null_row {parts} f e = go (row_nullable parts) refl
  where
    go : (b : Bool) → row_nullable parts ≡ b → b ≡ false
    go true h = let g = f.null h in absurd (cc)
    go false h = refl

mutual
  -- a symbol that isn't nothing has tokens
  pub strict : {toks : List Tok} {room : Room} {s : Symbol} {i j : ℕ} {v : Value s} → nullable s ≡ false → Derives toks room s i j v → i < j
  strict e (a_sym on) = omega arith
  strict e (a_key on) = omega arith
  strict e (named on) = omega arith
  strict e (counted on) = omega arith
  strict {s} e (by_rule {r} a h row f) = row_strict (null_row (all_fit s r a.at a.there) e) row

  row_strict : {toks : List Tok} {room : Room} {ss : List Symbol} {i j : ℕ} {vs : Values ss} → row_nullable ss ≡ false → Row toks room ss i j vs → i < j
  row_strict e done = absurd (cc)
  row_strict e (next {s} {ss} d r) = elim (and_cases (nullable s) (row_nullable ss) e) [
    | inl g ↦ let a = strict g d in let b = row_forth r in omega arith
    | inr g ↦ let a = forth d in let b = row_strict g r in omega arith
  ]
