-- Where tokens rise, the places of a program by which paths are made differ: they are those of some tokens, in their order.
use Rattle.std.proofs.Common.{◌≡◌, inl, inr, ℕ, zero, suc, ◌+◌, ◌<◌, ◌≤◌, Bool, false, List, [], ◌∷◌, ◌++◌, length, map, slice_get, Option, None, Some, refl, sym as sym', ap, subst, ◌∙◌, arith}
use Rattle.xw_words.specs.declared.pos.Pos.{Pos}
use Rattle.xc_tree.specs.declared.token.Tok.{Tok}
use Rattle.xc_tree.specs.declared.tree.Id.{Id}
use Rattle.xc_tree.specs.declared.tree.Param.{Param}
use Rattle.xc_tree.specs.Plain as plain
use Rattle.xc_tree.specs.Lexes.{IsBefore}
use Rattle.xc_tree.specs.Symbol.{Symbol, sym, key, a_name, a_number, many, maybe, commas, program, item, head, params, param, body, block, block_item, decl, dv, initial, statement, closed, case_item, for_start, for_step, branch, case, assign, rhs, call, input, dest, Declarator, a_word, an_array, Value, Values}
use Rattle.xc_tree.specs.Grammar.{Rule, Extent, rules, kept, declared, named as kind_named}
use Rattle.xc_tree.specs.Derives.{Room, Among, position, extent, Derives, a_sym, a_key, named, counted, by_rule, Row, done, next}
use Rattle.xc_kernel.specs.Programs.{functions}
use Rattle.xc_kernel.specs.Sound.{IsOfText}
use Rattle.xc_wellformed.specs.Rising.{TokensRise, IsRising}
use Rattle.xc_wellformed.proofs.Places.{of_right, of_maybe_right, of_declarations, of_target, of_statement, of_action, of_maybe, of_statements, of_branch, of_branches, of_case, of_cases, of_params, of_function, In, Differ, FunctionDiffers}
use Rattle.xc_wellformed.proofs.Spread.{halves}
use Rattle.xc_wellformed.proofs.Walk.Arguments.{AllIn}

-- some of a list, in its order
data Sub : List Pos → List Pos → Type 0 where
  nil : Sub [] []
  keep : {x : Pos} {xs ys : List Pos} → Sub xs ys → Sub (x ∷ xs) (x ∷ ys)
  drop : {y : Pos} {xs ys : List Pos} → Sub xs ys → Sub xs (y ∷ ys)

no_item : (ys : List Pos) → Sub [] ys
no_item [] = nil
no_item (y ∷ ys) = drop (no_item ys)

whole : (xs : List Pos) → Sub xs xs
whole [] = nil
whole (x ∷ xs) = keep (whole xs)

front : (xs ys : List Pos) → Sub xs (xs ++ ys)
front [] ys = no_item ys
front (x ∷ xs) ys = keep (front xs ys)

skip : (zs xs ys : List Pos) → Sub xs ys → Sub xs (zs ++ ys)
skip [] xs ys s = s
skip (z ∷ zs) xs ys s = drop (skip zs xs ys s)

behind : (xs ys zs : List Pos) → Sub ys zs → Sub (xs ++ ys) (xs ++ zs)
behind [] ys zs s = s
behind (x ∷ xs) ys zs s = keep (behind xs ys zs s)

-- the same by another name
by_name : (xs ys zs : List Pos) → xs ≡ ys → Sub ys zs → Sub xs zs
by_name xs ys zs e s = subst (λ (l : List Pos). Sub l zs) (sym' e) s

keep_by : (x y : Pos) (xs ys : List Pos) → x ≡ y → Sub xs ys → Sub (x ∷ xs) (y ∷ ys)
keep_by x y xs ys e s = subst (λ (z : Pos). Sub (x ∷ xs) (z ∷ ys)) e (keep s)

abbrev flat : {V : Type 0} → (V → List Pos) → List V → List Pos
flat f [] = []
flat f (x ∷ xs) = f x ++ flat f xs

abbrev opt : {V : Type 0} → (V → List Pos) → Option V → List Pos
opt f None = []
opt f (Some x) = f x

abbrev of_item : plain.Item → List Pos
of_item (plain.port p) = []
of_item (plain.function h b) = of_function (record { head = h; body = b })

abbrev of_declarator : Declarator → List Pos
of_declarator (a_word n r) = n.pos ∷ of_maybe_right r
of_declarator (an_array n l p) = n.pos ∷ []

abbrev of_param : Param → List Pos
of_param p = p.name.pos ∷ []

abbrev of_id : Id → List Pos
of_id n = n.pos ∷ []

-- lists as the tree has them

maybe_right_is : (o : Option plain.RightSide) → of_maybe_right o ≡ opt of_right o
maybe_right_is None = refl
maybe_right_is (Some r) = refl

maybe_is : (o : Option plain.Statement) → of_maybe (plain.maybe o) ≡ opt of_statement o
maybe_is None = refl
maybe_is (Some s) = refl

statements_are : (ss : List plain.Statement) → of_statements (plain.statements ss) ≡ flat of_statement ss
statements_are [] = refl
statements_are (s ∷ ss) = ap (λ (l : List Pos). of_statement s ++ l) (statements_are ss)

branches_are : (bs : List plain.Branch) → of_branches (plain.branches bs) ≡ flat of_branch bs
branches_are [] = refl
branches_are (b ∷ bs) = ap (λ (l : List Pos). of_branch b ++ l) (branches_are bs)

cases_are : (cs : List plain.Case) → of_cases (plain.cases cs) ≡ flat of_case cs
cases_are [] = refl
cases_are (c ∷ cs) = ap (λ (l : List Pos). of_case c ++ l) (cases_are cs)

params_are : (ps : List Param) → of_params ps ≡ flat of_param ps
params_are [] = refl
params_are (p ∷ ps) = ap (λ (l : List Pos). p.name.pos ∷ l) (params_are ps)

declarators_are : (u : Bool) (ds : List Declarator) → of_declarations (map (declared u) ds) ≡ flat of_declarator ds
declarators_are u [] = refl
declarators_are u (a_word n r ∷ ds) = ap (λ (l : List Pos). n.pos ∷ (of_maybe_right r ++ l)) (declarators_are u ds)
declarators_are u (an_array n l p ∷ ds) = ap (λ (l : List Pos). n.pos ∷ l) (declarators_are u ds)

channels_are : (ns : List Id) → of_declarations (map (kind_named (plain.channel false)) ns) ≡ flat of_id ns
channels_are [] = refl
channels_are (n ∷ ns) = ap (λ (l : List Pos). n.pos ∷ l) (channels_are ns)

timers_are : (ns : List Id) → of_declarations (map (kind_named plain.timer) ns) ≡ flat of_id ns
timers_are [] = refl
timers_are (n ∷ ns) = ap (λ (l : List Pos). n.pos ∷ l) (timers_are ns)

kept_are : (is : List (Option plain.Item)) → flat of_item (kept is) ≡ flat (opt of_item) is
kept_are [] = refl
kept_are (None ∷ is) = kept_are is
kept_are (Some i ∷ is) = ap (λ (l : List Pos). of_item i ++ l) (kept_are is)

-- the places in what a symbol derives, by that of the statement that it is
abbrev inner : (s : Symbol) → Value s → Pos → List Pos
inner (key w) = λ v p. v ∷ []
inner a_name = λ v p. v.pos ∷ []
inner (many s) = λ v p. flat (λ x. inner s x p) v
inner (maybe s) = λ v p. opt (λ x. inner s x p) v
inner (commas s) = λ v p. flat (λ x. inner s x p) v
inner program = λ v p. flat of_item v
inner item = λ v p. opt of_item v
inner head = λ v p. v.name.pos ∷ of_params v.params
inner params = λ v p. of_params v
inner param = λ v p. v.name.pos ∷ []
inner body = λ v p. of_statement v
inner block = λ v p. flat of_statement v
inner block_item = λ v p. of_statement v
inner decl = λ v p. of_statement v
inner dv = λ v p. of_declarator v
inner initial = λ v p. of_right v
inner statement = λ v p. of_statement v
inner closed = λ v p. of_statement v
inner case_item = λ v p. of_statement v
inner for_start = λ v p. of_statement v
inner for_step = λ v p. of_statement v
inner branch = λ v p. of_branch v
inner case = λ v p. of_case v
inner assign = λ v p. of_action p v
inner rhs = λ v p. of_right v
inner call = λ v p. v.called.pos ∷ []
inner input = λ v p. of_target v.target
inner dest = λ v p. of_target v
inner _ = λ v p. []

abbrev row_inner : (ss : List Symbol) → Values ss → Pos → List Pos
row_inner [] vs p = []
row_inner (s ∷ ss) vs p = inner s vs.0 p ++ row_inner ss vs.1 p

-- a word that is the first part stands at the first token
abbrev FirstIs : (s : Symbol) → Value s → Pos → Type 0
FirstIs (key w) = λ v p. p ≡ v
FirstIs _ = λ v p. Unit {0}

abbrev BeginsAt : (ss : List Symbol) → Values ss → Pos → Type 0
BeginsAt [] vs p = Unit {0}
BeginsAt (s ∷ ss) vs p = FirstIs s vs.0 p

-- the places of an alternative are some of those of its parts
record Among' (f : Pos → List Pos) (ss : List Symbol) (vs : Values ss) (p : Pos) : Type 0 where
  pub at : Pos
  pub some : Sub (f p) (row_inner ss vs at)

abbrev Fits : {V : Type 0} → (V → Pos → List Pos) → Rule V → Type 0
Fits f r = (e : Extent) (x : Values r.parts) → BeginsAt r.parts x e.first → (p : Pos) → Among' (f (r.make e x)) r.parts x p

infixr 20 ◌&◌
data AllFit {V : Type 0} (f : V → Pos → List Pos) : List (Rule V) → Type 0 where
  none : AllFit f []
  ◌&◌ : {r : Rule V} {rs : List (Rule V)} → Fits f r → AllFit f rs → AllFit f (r ∷ rs)

among_all : {V : Type 0} (f : V → Pos → List Pos) (rs : List (Rule V)) (r : Rule V) (at : ℕ) → AllFit f rs → slice_get rs at ≡ Some r → Fits f r
among_all f [] r at none e = absurd (cc)
among_all f (x ∷ rs) r zero (a & more) e = let g : x ≡ r = cc in subst (λ y. Fits f y) g a
among_all f (x ∷ rs) r (suc at) (a & more) e = among_all f rs r at more e

-- where there are none
nothing : {V : Type 0} (rs : List (Rule V)) → AllFit (λ x p. []) rs
nothing [] = none
nothing (r ∷ rs) = (λ e x h p. record { at = p; some = no_item (row_inner r.parts x p) }) & nothing rs

all_fit : (s : Symbol) → AllFit (inner s) (rules s)
all_fit (sym o) = none
all_fit (key w) = none
all_fit a_name = none
all_fit a_number = none
all_fit (many s) =
    (λ e x h p. record { at = p; some = nil }) &
    (λ e x h p. record { at = p; some = behind (inner s x.0 p) _ _ (front (flat (λ y. inner s y p) x.1.0) []) }) & none
all_fit (maybe s) = (λ e x h p. record { at = p; some = nil }) & (λ e x h p. record { at = p; some = front (inner s x.0 p) [] }) & none
all_fit (commas s) =
    (λ e x h p. record { at = p; some = whole (inner s x.0 p ++ []) }) &
    (λ e x h p. record { at = p; some = behind (inner s x.0 p) _ _ (front (flat (λ y. inner s y p) x.1.1.0) []) }) & none
all_fit program = (λ e x h p. record { at = p; some = by_name _ _ _ (kept_are x.0) (front (flat (opt of_item) x.0) []) }) & none
all_fit item =
    (λ e x h p. record { at = p; some = no_item _ }) &
    (λ e x h p. record { at = p; some = keep (behind (of_params x.0.params) _ _ (front (of_statement x.1.0) [])) }) &
    (λ e x h p. record { at = p; some = no_item _ }) & none
all_fit head = (λ e x h p. record { at = p; some = keep (front (of_params x.1.1.1.0) []) }) & none
all_fit params =
    (λ e x h p. record { at = p; some = nil }) &
    (λ e x h p. record { at = p; some = no_item _ }) &
    (λ e x h p. record { at = p; some = by_name _ _ _ (params_are x.0) (front (flat of_param x.0) []) }) & none
all_fit param =
    (λ e x h p. record { at = p; some = whole (x.1.0.pos ∷ []) }) &
    (λ e x h p. record { at = p; some = whole (x.1.1.0.pos ∷ []) }) &
    (λ e x h p. record { at = p; some = whole (x.1.0.pos ∷ []) }) &
    (λ e x h p. record { at = p; some = whole (x.1.0.pos ∷ []) }) &
    (λ e x h p. record { at = p; some = drop (whole (x.1.0.pos ∷ [])) }) &
    (λ e x h p. record { at = p; some = whole (x.1.0.pos ∷ []) }) & none
all_fit body = (λ e x h p. record { at = p; some = by_name _ _ _ (statements_are x.0) (front (flat of_statement x.0) []) }) & none
all_fit block = (λ e x h p. record { at = p; some = front (flat of_statement x.1.0) [] }) & none
all_fit block_item = (λ e x h p. record { at = p; some = front (of_statement x.0) [] }) & (λ e x h p. record { at = p; some = front (of_statement x.0) [] }) & none
all_fit decl =
    (λ e x h p. record { at = p; some = by_name _ _ _ (declarators_are x.0 x.1.0) (front (flat of_declarator x.1.0) []) }) &
    (λ e x h p. record { at = p; some = drop (by_name _ _ _ (channels_are x.1.0) (front (flat of_id x.1.0) [])) }) &
    (λ e x h p. record { at = p; some = drop (by_name _ _ _ (timers_are x.1.0) (front (flat of_id x.1.0) [])) }) & none
all_fit dv =
    (λ e x h p. record { at = p; some = keep (by_name _ _ _ (maybe_right_is x.1.0) (front (opt of_right x.1.0) [])) }) &
    (λ e x h p. record { at = p; some = whole (x.0.pos ∷ []) }) & none
all_fit initial = (λ e x h p. record { at = p; some = front (of_right x.1.0) [] }) & none
all_fit statement =
    (λ e x h p. record { at = p; some = no_item _ }) &
    (λ e x h p. record { at = p; some = by_name _ _ _ (statements_are x.0) (front (flat of_statement x.0) []) }) &
    (λ e x h p. record { at = e.first; some = front (of_action e.first x.0) [] }) &
    (λ e x h p. record { at = p; some = whole (x.0.called.pos ∷ []) }) &
    (λ e x h p. record { at = p; some = no_item _ }) &
    (λ e x h p. record { at = p; some = front (of_target x.0.target) [] }) &
    (λ e x h p. record { at = p; some = drop (whole (of_statement x.1.1.1.1.0 ++ [])) }) &
    (λ e x h p. record { at = p; some = drop (behind (of_statement x.1.1.1.1.0) _ _ (drop (front (of_statement x.1.1.1.1.1.1.0) []))) }) &
    (λ e x h p. record { at = p; some = keep_by _ _ _ _ h (front (of_statement x.1.1.1.1.0) []) }) &
    (λ e x h p. record { at = p; some = keep_by _ _ _ _ h (front (of_statement x.1.0) _) }) &
    (λ e x h p. record {
      at = p;
      some = keep_by _ _ _ _ h
          (subst (λ (l : List Pos). Sub (l ++ (of_maybe (plain.maybe x.1.1.1.1.1.1.0) ++ of_statement x.1.1.1.1.1.1.1.1.0)) (opt of_statement x.1.1.0 ++ (opt (λ y. []) x.1.1.1.1.0 ++ (opt of_statement x.1.1.1.1.1.1.0 ++ (of_statement x.1.1.1.1.1.1.1.1.0 ++ []))))) (sym' (maybe_is x.1.1.0))
          (behind (opt of_statement x.1.1.0) _ _ (skip (opt (λ y. []) x.1.1.1.1.0) _ _
          (subst (λ (l : List Pos). Sub (l ++ of_statement x.1.1.1.1.1.1.1.1.0) (opt of_statement x.1.1.1.1.1.1.0 ++ (of_statement x.1.1.1.1.1.1.1.1.0 ++ []))) (sym' (maybe_is x.1.1.1.1.1.1.0))
          (behind (opt of_statement x.1.1.1.1.1.1.0) _ _ (front (of_statement x.1.1.1.1.1.1.1.1.0) []))))));
    }) &
    (λ e x h p. record { at = p; some = drop (by_name _ _ _ (maybe_right_is x.1.0) (front (opt of_right x.1.0) [])) }) &
    (λ e x h p. record { at = p; some = no_item _ }) &
    (λ e x h p. record { at = p; some = no_item _ }) &
    (λ e x h p. record { at = p; some = drop (by_name _ _ _ (branches_are x.1.1.0) (front (flat of_branch x.1.1.0) [])) }) &
    (λ e x h p. record { at = p; some = drop (drop (drop (drop (drop (front (of_branch x.1.1.1.1.1.1.1.1.1.1.1.1.1.1.0) []))))) }) &
    (λ e x h p. record { at = p; some = drop (behind (of_case x.1.1.0) _ _ (by_name _ _ _ (cases_are x.1.1.1.0) (front (flat of_case x.1.1.1.0) []))) }) &
    (λ e x h p. record { at = p; some = drop (by_name _ _ _ (statements_are x.1.0) (front (flat of_statement x.1.0) [])) }) &
    (λ e x h p. record { at = p; some = drop (by_name _ _ _ (statements_are x.1.0) (front (flat of_statement x.1.0) [])) }) & none
all_fit closed = (λ e x h p. record { at = p; some = front (of_statement x.0) [] }) & none
all_fit case_item = (λ e x h p. record { at = p; some = front (of_statement x.0) [] }) & (λ e x h p. record { at = p; some = front (of_statement x.0) [] }) & none
all_fit for_start =
    (λ e x h p. record { at = e.first; some = front (of_action e.first x.0) [] }) &
    (λ e x h p. record { at = p; some = whole (x.1.0.pos ∷ (of_right x.1.1.1.0 ++ [])) }) & none
all_fit for_step = (λ e x h p. record { at = e.first; some = front (of_action e.first x.0) [] }) & none
all_fit branch = (λ e x h p. record { at = p; some = skip (opt (λ y. []) x.0) _ _ (front (of_statement x.1.0) []) }) & none
all_fit case =
    (λ e x h p. record { at = p; some = keep (skip (opt (λ y. []) x.1.0) _ _ (behind (of_target x.1.1.0.target) _ _ (by_name _ _ _ (statements_are x.1.1.1.1.0) (front (flat of_statement x.1.1.1.1.0) _)))) }) &
    (λ e x h p. record { at = p; some = keep (by_name _ _ _ (statements_are x.1.1.0) (front (flat of_statement x.1.1.0) _)) }) & none
all_fit assign =
    (λ e x h p. record { at = p; some = front (of_right x.1.1.0) [] }) &
    (λ e x h p. record { at = p; some = no_item _ }) &
    (λ e x h p. record { at = p; some = no_item _ }) &
    (λ e x h p. record { at = p; some = no_item _ }) & none
all_fit rhs = (λ e x h p. record { at = p; some = no_item _ }) & (λ e x h p. record { at = p; some = whole (x.0.called.pos ∷ []) }) & none
all_fit call = (λ e x h p. record { at = p; some = whole (x.0.pos ∷ []) }) & none
all_fit input = (λ e x h p. record { at = p; some = drop (front (of_target x.1.1.1.0) _) }) & none
all_fit dest =
    (λ e x h p. record { at = p; some = no_item _ }) &
    (λ e x h p. record { at = p; some = no_item _ }) &
    (λ e x h p. record { at = p; some = whole (x.1.0.pos ∷ []) }) & none
all_fit s = nothing (rules s)

-- a token from one place on that stands there
record Stands (toks : List Tok) (i : ℕ) (p : Pos) : Type 0 where
  pub number : ℕ
  pub from : i ≤ number
  pub token : Tok
  pub there : slice_get toks number ≡ Some token
  pub place : token.pos ≡ p

-- places of rising tokens, from i on and below j
abbrev Ups : List Tok → ℕ → ℕ → List Pos → Type 0
Ups toks i j [] = i ≤ j
Ups toks i j (p ∷ ps) = (s : Stands toks i p) × Ups toks (s.number + 1) j ps

from_lower : (toks : List Tok) (h i j : ℕ) (ps : List Pos) → h ≤ i → Ups toks i j ps → Ups toks h j ps
from_lower toks h i j [] l u = omega arith
from_lower toks h i j (p ∷ ps) l u = (record { number = u.0.number; from = let f = u.0.from in omega arith; token = u.0.token; there = u.0.there; place = u.0.place }, u.1)

ups_both : (toks : List Tok) (i j k : ℕ) (ps qs : List Pos) → Ups toks i j ps → Ups toks j k qs → Ups toks i k (ps ++ qs)
ups_both toks i j k [] qs u v = from_lower toks i j k qs u v
ups_both toks i j k (p ∷ ps) qs u v = (u.0, ups_both toks (u.0.number + 1) j k ps qs u.1 v)

ups_some : (toks : List Tok) (i j : ℕ) (xs ys : List Pos) → Sub xs ys → Ups toks i j ys → Ups toks i j xs
ups_some toks i j _ _ nil u = u
ups_some toks i j _ _ (keep {xs = xs} {ys = ys} s) u = (u.0, ups_some toks (u.0.number + 1) j xs ys s u.1)
ups_some toks i j xs _ (drop {ys = ys} s) u = from_lower toks i (u.0.number + 1) j xs (let f = u.0.from in omega arith) (ups_some toks (u.0.number + 1) j xs ys s u.1)

no_rule : (s : Symbol) (v : Value s) (r : Rule (Value s)) (p : Pos) → Among (rules s) r → FirstIs s v p
no_rule (key w) v r p a = absurd (none_some r a.there)
  where
    none_some : (x : Rule (Value (key w))) → None ≡ Some x → ⊥
    none_some x q = cc
no_rule other v r p a = tt

first_is : {toks : List Tok} {room : Room} {s : Symbol} {i j : ℕ} {v : Value s} → Derives toks room s i j v → FirstIs s v (position (slice_get toks i))
first_is (a_sym on) = tt
first_is (a_key on) = ap position on.there
first_is (named on) = tt
first_is (counted on) = tt
first_is {toks} {s} {i} {v} (by_rule {r} a h row f) = no_rule s _ r (position (slice_get toks i)) a

begins_at : {toks : List Tok} {room : Room} {ss : List Symbol} {i j : ℕ} {vs : Values ss} → Row toks room ss i j vs → BeginsAt ss vs (position (slice_get toks i))
begins_at done = tt
begins_at (next d r) = first_is d

mutual
  ups : {toks : List Tok} {room : Room} {s : Symbol} {i j : ℕ} {v : Value s} → Derives toks room s i j v → (p : Pos) → Ups toks i j (inner s v p)
  ups (a_sym on) p = omega arith
  ups {i} (a_key on) p = (record { number = i; from = omega arith; token = _; there = on.there; place = refl }, omega arith)
  ups {i} (named on) p = (record { number = i; from = omega arith; token = _; there = on.there; place = refl }, omega arith)
  ups (counted on) p = omega arith
  ups {toks} {s} {i} {j} (by_rule {r} {vs} a h row f) p =
      let g = among_all (inner s) (rules s) r a.at (all_fit s) a.there (extent toks i j) vs (begins_at row) p in
      ups_some toks i j _ (row_inner r.parts vs g.at) g.some (row_ups row g.at)

  row_ups : {toks : List Tok} {room : Room} {ss : List Symbol} {i j : ℕ} {vs : Values ss} → Row toks room ss i j vs → (p : Pos) → Ups toks i j (row_inner ss vs p)
  row_ups done p = omega arith
  row_ups {toks} {ss} {i} {j} (next d r) p = ups_both toks i _ j _ _ (ups d p) (row_ups r p)

-- such places differ
later : (toks : List Tok) (i j : ℕ) (ps : List Pos) (q : Pos) → Ups toks i j ps → In q ps → Stands toks i q
later toks i j [] q u h = absurd h
later toks i j (p ∷ ps) q u (inl e) = record { number = u.0.number; from = u.0.from; token = u.0.token; there = u.0.there; place = u.0.place ∙ e }
later toks i j (p ∷ ps) q u (inr h) = let s = later toks (u.0.number + 1) j ps q u.1 h in record { number = s.number; from = let f = s.from in let g = u.0.from in omega arith; token = s.token; there = s.there; place = s.place }

not_before_itself : (p : Pos) → IsBefore p p → ⊥
not_before_itself p (inl l) = omega arith
not_before_itself p (inr h) = let l = h.1 in omega arith

module _ (toks : List Tok) (rise : TokensRise toks) where
  differ : (i j : ℕ) (ps : List Pos) → Ups toks i j ps → Differ ps
  differ i j [] u = tt
  differ i j (p ∷ ps) u = (
    subst (λ (q : Pos). 0 < q.line) u.0.place (rise.lines u.0.number u.0.token u.0.there),
    ((λ h. clash h), differ (u.0.number + 1) j ps u.1),
  )
    where
      clash : In p ps → ⊥
      clash h =
          let s = later toks (u.0.number + 1) j ps p u.1 h in
          let b = rise.rise u.0.number s.number u.0.token s.token (let f = s.from in omega arith) u.0.there s.there in
          not_before_itself p (subst (λ (q : Pos). IsBefore q p) u.0.place (subst (λ (q : Pos). IsBefore u.0.token.pos q) s.place b))

each_differs : (items : List plain.Item) → Differ (flat of_item items) → AllIn FunctionDiffers (functions items)
each_differs [] d = tt
each_differs (plain.port p ∷ items) d = each_differs items d
each_differs (plain.function h b ∷ items) d =
    let s = halves (of_function (record { head = h; body = b })) (flat of_item items) d in
    (s.left, each_differs items s.right)

-- the functions of a program whose tokens rise have differing places
pub functions_differ : (P : List plain.Item) → IsRising P → AllIn FunctionDiffers (functions P)
functions_differ P r = each_differs P (differ r.toks r.rise 0 (length r.toks) (flat of_item P) (ups r.derived (record { line = 0; col = 0 })))

-- what was read from a text rises
pub of_text : (P : List plain.Item) → IsOfText P → IsRising P
of_text P text = record {
  toks = text.read.toks;
  derived = text.read.derived;
  few = text.read.few;
  rise = record { lines = text.lines; rise = λ i j t u h e f. text.read.rising i j t u e f h };
}
