-- How many tokens the statements have that a symbol derives, or that stand in what it derives.
use Rattle.std.proofs.Common.{◌≡◌, ℕ, zero, suc, ◌+◌, ◌-◌, ◌<◌, ◌≤◌, Bool, List, [], ◌∷◌, ◌++◌, length, get_or, slice_get, Option, Some, None, refl, sym as sym', ap, subst, ◌∙◌, arith}
use Rattle.std.proofs.lemmas.Option.{slice_get-get_or}
use Rattle.xw_words.specs.declared.pos.Pos.{Pos}
use Rattle.xc_tree.specs.declared.token.Tok.{Tok}
use Rattle.xc_tree.specs.Plain as plain
use Rattle.xc_tree.specs.Plain.{tokens, held, maybe_tokens, all_tokens, branch_tokens, branches_tokens, case_tokens, cases_tokens}
use Rattle.xc_tree.specs.Symbol.{Symbol, sym, key, a_name, a_number, many, maybe, body, block, block_item, decl, statement, closed, case_item, for_start, for_step, branch, case, assign, Value, Values}
use Rattle.xc_tree.specs.Grammar.{Rule, Extent, rules, statement_of}
use Rattle.xc_tree.specs.Derives.{Room, extent, position, Derives, a_sym, a_key, named, counted, by_rule, Row, done, next}

-- of a list, and of what may be absent
abbrev pub total : {V : Type 0} → (V → ℕ) → List V → ℕ
total f [] = 0
total f (x ∷ xs) = f x + total f xs

abbrev pub or_zero : {V : Type 0} → (V → ℕ) → Option V → ℕ
or_zero f None = 0
or_zero f (Some x) = f x

-- the tokens of the statements in the value of a symbol, the one included that it is
abbrev pub inner : (s : Symbol) → Value s → ℕ
inner (many s) xs = total (inner s) xs
inner (maybe s) x = or_zero (inner s) x
inner body s = tokens s
inner block ss = total tokens ss
inner block_item s = tokens s
inner decl s = tokens s
inner statement s = tokens s
inner closed s = tokens s
inner case_item s = tokens s
inner for_start s = tokens s
inner for_step s = tokens s
inner branch b = branch_tokens b
inner case c = case_tokens c
inner assign a = held a
inner _ x = 0

abbrev pub repeated : Option ℕ → Option ℕ
repeated (Some zero) = Some 0
repeated _ = None

-- how many tokens the symbol has besides these, where that is always as many
abbrev pub besides : Symbol → Option ℕ
besides (sym o) = Some 1
besides (key w) = Some 1
besides a_name = Some 1
besides a_number = Some 1
besides (many s) = repeated (besides s)
besides (maybe s) = repeated (besides s)
besides body = Some 0
besides block = Some 2
besides block_item = Some 0
besides decl = Some 0
besides statement = Some 0
besides closed = Some 0
besides case_item = Some 0
besides for_start = Some 0
besides for_step = Some 0
besides _ = None

-- so many tokens, and those besides, are all from i up to j; or they are among these
abbrev Spans : Option ℕ → ℕ → ℕ → ℕ → Type 0
Spans (Some m) n i j = n + m + i ≡ j
Spans None n i j = n + i ≤ j

abbrev RowSpans : (ss : List Symbol) → Values ss → ℕ → ℕ → Type 0
RowSpans [] vs i j = i ≡ j
RowSpans (s ∷ ss) vs i j = (m : ℕ) × Spans (besides s) (inner s vs.0) i m × RowSpans ss vs.1 m j

abbrev row_inner : (ss : List Symbol) → Values ss → ℕ
row_inner [] vs = 0
row_inner (s ∷ ss) vs = inner s vs.0 + row_inner ss vs.1

spans_within : (o : Option ℕ) (n i j : ℕ) → Spans o n i j → n + i ≤ j
spans_within (Some m) n i j e = omega arith
spans_within None n i j e = e

row_bound : (ss : List Symbol) (vs : Values ss) (i j : ℕ) → RowSpans ss vs i j → row_inner ss vs + i ≤ j
row_bound [] vs i j e = omega arith
row_bound (s ∷ ss) vs i j (m, e, r) =
    let a = spans_within (besides s) (inner s vs.0) i m e in
    let b = row_bound ss vs.1 m j r in
    omega (arith, a, b)

-- an alternative spans its tokens, where its parts span theirs
abbrev Fills : {V : Type 0} → Option ℕ → (V → ℕ) → Rule V → Type 0
Fills o f r = (i j : ℕ) (e : Extent) (x : Values r.parts) → e.count ≡ j - i → row_inner r.parts x + i ≤ j → RowSpans r.parts x i j → Spans o (f (r.make e x)) i j

infixr 20 ◌&◌
data AllFill {V : Type 0} (o : Option ℕ) (f : V → ℕ) : List (Rule V) → Type 0 where
  none : AllFill o f []
  ◌&◌ : {r : Rule V} {rs : List (Rule V)} → Fills o f r → AllFill o f rs → AllFill o f (r ∷ rs)

among_fills : {V : Type 0} (o : Option ℕ) (f : V → ℕ) (rs : List (Rule V)) (r : Rule V) (at : ℕ) → AllFill o f rs → slice_get rs at ≡ Some r → Fills o f r
among_fills o f [] r at none e = absurd (cc)
among_fills o f (x ∷ rs) r zero (a & more) e = let g : x ≡ r = cc in subst (λ y. Fills o f y) g a
among_fills o f (x ∷ rs) r (suc at) (a & more) e = among_fills o f rs r at more e

-- the lists of the tree
pub all_total : (ss : List plain.Statement) → all_tokens (plain.statements ss) ≡ total tokens ss
all_total [] = refl
all_total (s ∷ ss) = ap (λ n. tokens s + n) (all_total ss)

pub branches_total : (bs : List plain.Branch) → branches_tokens (plain.branches bs) ≡ total branch_tokens bs
branches_total [] = refl
branches_total (b ∷ bs) = ap (λ n. branch_tokens b + n) (branches_total bs)

pub cases_total : (cs : List plain.Case) → cases_tokens (plain.cases cs) ≡ total case_tokens cs
cases_total [] = refl
cases_total (c ∷ cs) = ap (λ n. case_tokens c + n) (cases_total cs)

pub maybe_or_zero : (o : Option plain.Statement) → maybe_tokens (plain.maybe o) ≡ or_zero tokens o
maybe_or_zero None = refl
maybe_or_zero (Some s) = refl

nothing_spans : (o : Option ℕ) (i j : ℕ) → i ≡ j → Spans (repeated o) 0 i j
nothing_spans (Some zero) i j e = omega arith
nothing_spans (Some (suc m)) i j e = omega arith
nothing_spans None i j e = omega arith

one_spans : (o : Option ℕ) (n i m j : ℕ) → Spans o n i m → m ≡ j → Spans (repeated o) n i j
one_spans (Some zero) n i m j e f = omega arith
one_spans (Some (suc k)) n i m j e f = omega arith
one_spans None n i m j e f = omega arith

more_span : (o : Option ℕ) (a b i l m j : ℕ) → Spans o a i l → Spans (repeated o) b l m → m ≡ j → Spans (repeated o) (a + b) i j
more_span (Some zero) a b i l m j e f g = omega arith
more_span (Some (suc k)) a b i l m j e f g = omega arith
more_span None a b i l m j e f g = omega arith

many_fill : (s : Symbol) → AllFill (repeated (besides s)) (total (inner s)) (rules (many s))
many_fill s = (λ i j e x c b r. nothing_spans (besides s) i j r) & (λ i j e x c b r. more_span (besides s) (inner s x.0) (total (inner s) x.1.0) i r.0 r.2.0 j r.1 r.2.1 r.2.2) & none

maybe_fill : (s : Symbol) → AllFill (repeated (besides s)) (or_zero (inner s)) (rules (maybe s))
maybe_fill s = (λ i j e x c b r. nothing_spans (besides s) i j r) & (λ i j e x c b r. one_spans (besides s) (inner s x.0) i r.0 j r.1 r.2) & none

-- where no statement is in the value
nothing_fill : {V : Type 0} (rs : List (Rule V)) → AllFill None (λ x. 0) rs
nothing_fill [] = none
nothing_fill (r ∷ rs) = (λ i j e x c b h. omega (arith, b)) & nothing_fill rs

fills : (s : Symbol) → AllFill (besides s) (inner s) (rules s)
fills (sym o) = none
fills (key w) = none
fills a_name = none
fills a_number = none
fills (many s) = many_fill s
fills (maybe s) = maybe_fill s
fills body = (λ i j e x c b r. omega (arith, c, b, all_total x.0)) & none
fills block = (λ i j e x c b r. omega (arith, r.1, r.2.1, r.2.2.1, r.2.2.2)) & none
fills block_item = (λ i j e x c b r. omega (arith, r.1, r.2)) & (λ i j e x c b r. omega (arith, r.1, r.2)) & none
fills decl = (λ i j e x c b r. omega (arith, c, b)) & (λ i j e x c b r. omega (arith, c, b)) & (λ i j e x c b r. omega (arith, c, b)) & none
fills statement =
    (λ i j e x c b r. omega (arith, c, b)) & (λ i j e x c b r. omega (arith, c, b, all_total x.0)) & (λ i j e x c b r. omega (arith, c, b)) &
    (λ i j e x c b r. omega (arith, c, b)) & (λ i j e x c b r. omega (arith, c, b)) & (λ i j e x c b r. omega (arith, c, b)) &
    (λ i j e x c b r. omega (arith, c, b)) & (λ i j e x c b r. omega (arith, c, b)) & (λ i j e x c b r. omega (arith, c, b)) &
    (λ i j e x c b r. omega (arith, c, b)) &
    (λ i j e x c b r. omega (arith, c, b, maybe_or_zero x.1.1.0, maybe_or_zero x.1.1.1.1.1.1.0)) &
    (λ i j e x c b r. omega (arith, c, b)) & (λ i j e x c b r. omega (arith, c, b)) & (λ i j e x c b r. omega (arith, c, b)) &
    (λ i j e x c b r. omega (arith, c, b, branches_total x.1.1.0)) & (λ i j e x c b r. omega (arith, c, b)) &
    (λ i j e x c b r. omega (arith, c, b, cases_total x.1.1.1.0)) &
    (λ i j e x c b r. omega (arith, c, b, all_total x.1.0)) & (λ i j e x c b r. omega (arith, c, b, all_total x.1.0)) & none
fills closed = (λ i j e x c b r. omega (arith, r.1, r.2)) & none
fills case_item = (λ i j e x c b r. omega (arith, r.1, r.2)) & (λ i j e x c b r. omega (arith, r.1, r.2)) & none
fills for_start = (λ i j e x c b r. omega (arith, c, b)) & (λ i j e x c b r. omega (arith, c, b)) & none
fills for_step = (λ i j e x c b r. omega (arith, c, b)) & none
fills branch = (λ i j e x c b r. omega (arith, b)) & none
fills case = (λ i j e x c b r. omega (arith, b, all_total x.1.1.1.1.0)) & (λ i j e x c b r. omega (arith, b, all_total x.1.1.0)) & none
fills assign = (λ i j e x c b r. omega (arith, b)) & (λ i j e x c b r. omega (arith, b)) & (λ i j e x c b r. omega (arith, b)) & (λ i j e x c b r. omega (arith, b)) & none
fills s = nothing_fill (rules s)

mutual
  spanned : {toks : List Tok} {room : Room} {s : Symbol} {i j : ℕ} {v : Value s} → Derives toks room s i j v → Spans (besides s) (inner s v) i j
  spanned (a_sym on) = omega arith
  spanned (a_key on) = omega arith
  spanned (named on) = omega arith
  spanned (counted on) = omega arith
  spanned {toks} {s} {i} {j} (by_rule {r} {vs} a h row f) =
      let e = row_spanned row in
      among_fills (besides s) (inner s) (rules s) r a.at (fills s) a.there i j (extent toks i j) vs refl (row_bound r.parts vs i j e) e

  row_spanned : {toks : List Tok} {room : Room} {ss : List Symbol} {i j : ℕ} {vs : Values ss} → Row toks room ss i j vs → RowSpans ss vs i j
  row_spanned done = refl
  row_spanned (next {j = m} d r) = (m, spanned d, row_spanned r)

-- The tokens of a statement, or of some one behind the other: those from i up to j.
pub tokens_of : {toks : List Tok} {room : Room} {s : Symbol} {i j : ℕ} {v : Value s} → besides s ≡ Some 0 → Derives toks room s i j v → inner s v ≡ j - i
tokens_of {s} {i} {j} {v} e d = let h : Spans (Some 0) (inner s v) i j = subst (λ o. Spans o (inner s v) i j) e (spanned d) in omega (arith, h)

-- those of the statements in what a symbol derives are no more than its own
pub tokens_within : {toks : List Tok} {room : Room} {s : Symbol} {i j : ℕ} {v : Value s} → Derives toks room s i j v → inner s v ≤ j - i
tokens_within {s} {i} {j} {v} d = let h = spans_within (besides s) (inner s v) i j (spanned d) in omega (arith, h)

pub statement_tokens : {toks : List Tok} {room : Room} {i j : ℕ} {v : plain.Statement} → Derives toks room statement i j v → tokens v ≡ j - i
statement_tokens d = tokens_of refl d

pub block_tokens : {toks : List Tok} {room : Room} {i j : ℕ} {ss : List plain.Statement} → Derives toks room block i j ss → all_tokens (plain.statements ss) ≡ j - i - 2
block_tokens {ss} d = let h = spanned d in omega (arith, h, all_total ss)

pub maybe_start_tokens : {toks : List Tok} {room : Room} {i j : ℕ} {o : Option plain.Statement} → Derives toks room (maybe for_start) i j o → maybe_tokens (plain.maybe o) ≡ j - i
maybe_start_tokens {o} d = maybe_or_zero o ∙ tokens_of refl d

pub maybe_step_tokens : {toks : List Tok} {room : Room} {i j : ℕ} {o : Option plain.Statement} → Derives toks room (maybe for_step) i j o → maybe_tokens (plain.maybe o) ≡ j - i
maybe_step_tokens {o} d = maybe_or_zero o ∙ tokens_of refl d

pub start_tokens : {toks : List Tok} {room : Room} {i j : ℕ} {v : plain.Statement} → Derives toks room for_start i j v → tokens v ≡ j - i
start_tokens d = tokens_of refl d

pub step_tokens : {toks : List Tok} {room : Room} {i j : ℕ} {v : plain.Statement} → Derives toks room for_step i j v → tokens v ≡ j - i
step_tokens d = tokens_of refl d

-- what a statement holds is within its tokens
pub held_within : {toks : List Tok} {room : Room} {i j : ℕ} (a : plain.Action) (first last : Pos) (own : ℕ) → Derives toks room statement i j (plain.statement a first last own) → held a ≤ j - i
held_within a first last own d = let h = statement_tokens d in omega (arith, h)

-- the place of a token that was read
pub placed : (toks : List Tok) (i : ℕ) (t : Tok) → i < length toks → (get_or toks i t).pos ≡ position (slice_get toks i)
placed toks i t h = sym' (ap position (slice_get-get_or toks i t h))

-- a statement whose own tokens are all but those that it holds
pub whole_is : (toks : List Tok) (i j n : ℕ) (a : plain.Action) (first last : Tok) → i < j → j ≤ length toks → n ≡ held a → plain.statement a (get_or toks i first).pos (get_or toks (j - 1) last).pos (j - i - n) ≡ statement_of (extent toks i j) a
whole_is toks i j n a first last h l e =
    let p = placed toks i first (omega arith) in
    let q = placed toks (j - 1) last (omega arith) in
    cc

-- one more
pub all_tokens_push : (ss : List plain.Statement) (s : plain.Statement) → all_tokens (plain.statements (ss ++ (s ∷ []))) ≡ all_tokens (plain.statements ss) + tokens s
all_tokens_push [] s = omega arith
all_tokens_push (x ∷ ss) s = let e = all_tokens_push ss s in omega (arith, e)

pub branches_tokens_push : (bs : List plain.Branch) (b : plain.Branch) → branches_tokens (plain.branches (bs ++ (b ∷ []))) ≡ branches_tokens (plain.branches bs) + branch_tokens b
branches_tokens_push [] b = omega arith
branches_tokens_push (x ∷ bs) b = let e = branches_tokens_push bs b in omega (arith, e)

pub cases_tokens_push : (cs : List plain.Case) (c : plain.Case) → cases_tokens (plain.cases (cs ++ (c ∷ []))) ≡ cases_tokens (plain.cases cs) + case_tokens c
cases_tokens_push [] c = omega arith
cases_tokens_push (x ∷ cs) c = let e = cases_tokens_push cs c in omega (arith, e)

-- Loops from a place h on: what was read up to k, and one more up to j. Between statements stands nothing.
module _ (h k j : ℕ) where
  pub items_more : (ss : List plain.Statement) (s : plain.Statement) → h ≤ k → k ≤ j → all_tokens (plain.statements ss) ≡ k - h → tokens s ≡ j - k → all_tokens (plain.statements (ss ++ (s ∷ []))) ≡ j - h
  items_more ss s a b e f = let p = all_tokens_push ss s in omega arith

  pub branches_more : (bs : List plain.Branch) (b : plain.Branch) → k ≤ j → branches_tokens (plain.branches bs) + h ≤ k → branch_tokens b ≤ j - k → branches_tokens (plain.branches (bs ++ (b ∷ []))) + h ≤ j
  branches_more bs b a e f = let p = branches_tokens_push bs b in omega arith

  pub cases_more : (cs : List plain.Case) (c : plain.Case) → k ≤ j → cases_tokens (plain.cases cs) + h ≤ k → case_tokens c ≤ j - k → cases_tokens (plain.cases (cs ++ (c ∷ []))) + h ≤ j
  cases_more cs c a e f = let p = cases_tokens_push cs c in omega arith

-- what each kind of statement holds, by where the parts stand that were read
module _ {toks : List Tok} {room : Room} where
  pub held_if : {m j : ℕ} (c : plain.Expression) {s : plain.Statement} → Derives toks room statement m j s → j - m ≡ held (plain.if_then c s plain.absent)
  held_if c d = let e = statement_tokens d in omega arith

  pub held_if_else : {m k j : ℕ} (c : plain.Expression) {s o : plain.Statement} → Derives toks room statement m k s → Derives toks room statement (k + 1) j o → k - m + (j - k - 1) ≡ held (plain.if_then c s (plain.present o))
  held_if_else c d g = let e = statement_tokens d in let f = statement_tokens g in omega arith

  pub held_while : {m j : ℕ} (c : plain.Expression) {s : plain.Statement} → Derives toks room statement m j s → j - m ≡ held (plain.while_loop c s)
  held_while c d = sym' (statement_tokens d)

  pub held_do : (m : ℕ) {j : ℕ} (c : plain.Expression) {s : plain.Statement} → Derives toks room statement (m + 1) j s → j - m - 1 ≡ held (plain.do_while s c)
  held_do m c d = let e = statement_tokens d in omega arith

  pub held_for : {p q u w m j : ℕ} {a b : Option plain.Statement} (c : Option plain.Expression) {s : plain.Statement} → Derives toks room (maybe for_start) p q a → Derives toks room (maybe for_step) u w b → Derives toks room statement m j s → q - p + (w - u) + (j - m) ≡ held (plain.for_loop (plain.maybe a) c (plain.maybe b) s)
  held_for c x y d = let e = maybe_start_tokens x in let f = maybe_step_tokens y in let g = statement_tokens d in omega arith

  -- a block from m on
  pub held_block : {m j : ℕ} {ss : List plain.Statement} → Derives toks room block m j ss → j - m - 2 ≡ held (plain.block (plain.statements ss))
  held_block d = sym' (block_tokens d)

  -- a word at m and a block behind it
  pub held_transaction : (m : ℕ) {j : ℕ} {ss : List plain.Statement} (b : Bool) → Derives toks room block (m + 1) j ss → j - m - 3 ≡ held (plain.transaction b (plain.statements ss))
  held_transaction m b d = let e = block_tokens d in omega arith

  -- a branch whose statement stands from m on, and a case whose statements do
  pub held_branch : {m j : ℕ} (p : Option plain.Place) {s : plain.Statement} → Derives toks room statement m j s → j - m ≡ branch_tokens (plain.branch p s)
  held_branch p d = sym' (statement_tokens d)

  pub held_case : {m j : ℕ} (p : Pos) (g : Option plain.Expression) (i : Option plain.Input) {ss : List plain.Statement} → Derives toks room (many case_item) m j ss → j - m ≡ case_tokens (plain.case p g i (plain.statements ss))
  held_case p g i {ss} d = sym' (all_total ss ∙ tokens_of refl d)

  -- the tokens of a branch's or a case's statements are among its own
  pub branch_within : {m j : ℕ} {b : plain.Branch} → Derives toks room branch m j b → branch_tokens b ≤ j - m
  branch_within d = tokens_within d

  pub case_within : {m j : ℕ} {c : plain.Case} → Derives toks room case m j c → case_tokens c ≤ j - m
  case_within d = tokens_within d
