-- Which rests a token opens, and what they are behind it: all of it computes.
use Rattle.std.proofs.Common.{ℕ, zero, suc, ◌+◌, ◌<◌, ◌≤◌, Bool, true, false, not, ◌&&◌, ◌||◌, max, List, [], ◌∷◌, ◌++◌, if◌then◌else◌, nat_eq, leb, Option, Some, None}
use Rattle.xc_tree.specs.Symbol.{Symbol, sym, key, a_name, a_number, many, maybe, commas, portdecl, dir, place, result, word, params, param, block, block_item, dv, initial, statement, case_item, branch, case, guard, assign, rhs, call, arguments, lval, output, input, time, stamp, waits, test, dest, sign, atom, Value, Values}
use Rattle.xc_tree.specs.Grammar.{Rule, Extent, rules}
use Rattle.xc_nonterminals.specs.Follows.{has, first, follows, nullable}
use Rattle.xc_nonterminals.proofs.Rests.Rests.{Part, ValuesOf, Rest}

-- whether a symbol is a token
abbrev pub is_token : Symbol → Bool
is_token (sym o) = true
is_token (key w) = true
is_token a_name = true
is_token a_number = true
is_token _ = false

-- the symbols that stand for their alternatives here: these have no condition, and values that don't speak of their extent
abbrev pub is_plain : Symbol → Bool
is_plain (many s) = true
is_plain (maybe s) = true
is_plain (commas s) = true
is_plain portdecl = true
is_plain dir = true
is_plain place = true
is_plain result = true
is_plain word = true
is_plain params = true
is_plain param = true
is_plain block = true
is_plain block_item = true
is_plain dv = true
is_plain initial = true
is_plain branch = true
is_plain case = true
is_plain guard = true
is_plain assign = true
is_plain rhs = true
is_plain call = true
is_plain arguments = true
is_plain lval = true
is_plain output = true
is_plain input = true
is_plain time = true
is_plain stamp = true
is_plain waits = true
is_plain test = true
is_plain dest = true
is_plain sign = true
is_plain atom = true
is_plain _ = false

-- the tokens that some parts can begin with, and whether they may be no token
abbrev pub firsts : List Part → List Symbol
firsts [] = []
firsts (p ∷ ps) = first p.symbol ++ (if nullable p.symbol then firsts ps else [])

abbrev pub nullables : List Part → Bool
nullables [] = true
nullables (p ∷ ps) = nullable p.symbol && nullables ps

-- an alternative's symbols, below so many nodes, and what stands behind them
abbrev pub put : ℕ → List Symbol → List Part → List Part
put a [] ps = ps
put a (s ∷ ss) ps = record { above = a; symbol = s } ∷ put a ss ps

-- the values of both
abbrev pub front : (a : ℕ) (ss : List Symbol) (ps : List Part) → ValuesOf (put a ss ps) → Values ss
front a [] ps x = tt
front a (s ∷ ss) ps x = (x.0, front a ss ps x.1)

abbrev pub back : (a : ℕ) (ss : List Symbol) (ps : List Part) → ValuesOf (put a ss ps) → ValuesOf ps
back a [] ps x = x
back a (s ∷ ss) ps x = back a ss ps x.1

abbrev pub nowhere : Extent
nowhere = record { first = record { line = 0; col = 0 }; last = record { line = 0; col = 0 }; count = 0 }

-- a whole alternative
abbrev pub begun : {V : Type 0} → Rule V → Rest V
begun r = record {
  need = r.nodes;
  parts = put r.nodes r.parts [];
  fits = λ x. r.fits (front r.nodes r.parts [] x);
  make = λ e x. r.make e (front r.nodes r.parts [] x);
}

abbrev pub begin_all : {V : Type 0} → List (Rule V) → List (Rest V)
begin_all [] = []
begin_all (r ∷ rs) = begun r ∷ begin_all rs

-- at its beginning all alternatives of a symbol are open
abbrev pub beginnings : (s : Symbol) → List (Rest (Value s))
beginnings s = begin_all (rules s)

-- a rest whose first part is taken for one of its alternatives
abbrev pub opened : {V : Type 0} (n : ℕ) (p : Part) (ps : List Part) → (ValuesOf (p ∷ ps) → Bool) → (Extent → ValuesOf (p ∷ ps) → V) → Rule (Value p.symbol) → Rest V
opened n p ps f m r = record {
  need = max n (p.above + r.nodes);
  parts = put (p.above + r.nodes) r.parts ps;
  fits = λ x. r.fits (front (p.above + r.nodes) r.parts ps x) && f (r.make nowhere (front (p.above + r.nodes) r.parts ps x), back (p.above + r.nodes) r.parts ps x);
  make = λ e x. m e (r.make nowhere (front (p.above + r.nodes) r.parts ps x), back (p.above + r.nodes) r.parts ps x);
}

abbrev pub open_all : {V : Type 0} (n : ℕ) (p : Part) (ps : List Part) → (ValuesOf (p ∷ ps) → Bool) → (Extent → ValuesOf (p ∷ ps) → V) → List (Rule (Value p.symbol)) → List (Rest V)
open_all n p ps f m [] = []
open_all n p ps f m (r ∷ rs) = opened n p ps f m r ∷ open_all n p ps f m rs

abbrev pub spread_if : {V : Type 0} → Bool → (n : ℕ) (p : Part) (ps : List Part) → (ValuesOf (p ∷ ps) → Bool) → (Extent → ValuesOf (p ∷ ps) → V) → List (Rest V)
spread_if true n p ps f m = open_all n p ps f m (rules p.symbol)
spread_if false n p ps f m = record { need = n; parts = p ∷ ps; fits = f; make = m } ∷ []

abbrev pub spread_parts : {V : Type 0} (n : ℕ) (ps : List Part) → (ValuesOf ps → Bool) → (Extent → ValuesOf ps → V) → List (Rest V)
spread_parts n [] f m = record { need = n; parts = []; fits = f; make = m } ∷ []
spread_parts n (p ∷ ps) f m = spread_if (is_plain p.symbol) n p ps f m

-- the rests with each first part that is a plain symbol taken for its alternatives
abbrev pub spread : {V : Type 0} → List (Rest V) → List (Rest V)
spread [] = []
spread (r ∷ rs) = spread_parts r.need r.parts r.fits r.make ++ spread rs

-- a rest may begin with a token, or with none where the symbol doesn't go on with that token
abbrev pub opens : {V : Type 0} → List Symbol → Symbol → Rest V → Bool
opens fs t r = has (firsts r.parts) t || (nullables r.parts && not (has fs t))

abbrev pub keep_if : {V : Type 0} → Bool → Rest V → List (Rest V) → List (Rest V)
keep_if true r rs = r ∷ rs
keep_if false r rs = rs

abbrev pub sift : {V : Type 0} → (Rest V → Bool) → List (Rest V) → List (Rest V)
sift b [] = []
sift b (r ∷ rs) = keep_if (b r) r (sift b rs)

abbrev pub keep : {V : Type 0} → List Symbol → Symbol → List (Rest V) → List (Rest V)
keep fs t rs = sift (opens fs t) rs

-- those that a token opens, with plain symbols taken for their alternatives n times
abbrev pub grown : {V : Type 0} → ℕ → List Symbol → Symbol → List (Rest V) → List (Rest V)
grown zero fs t rs = keep fs t rs
grown (suc n) fs t rs = grown n fs t (spread (keep fs t rs))

-- how deep plain symbols stand at the beginning of one another
abbrev pub layers : ℕ
layers = 6

-- the value of a token, where it is the same
abbrev pub as_token : (s t : Symbol) → Value t → Option (Value s)
as_token (sym a) (sym b) v = if nat_eq a b then Some v else None
as_token (key a) (key b) v = if nat_eq a b then Some v else None
as_token a_name a_name v = Some v
as_token a_number a_number v = Some v
as_token _ _ v = None

abbrev pub behind_part : {V : Type 0} (n : ℕ) (p : Part) (ps : List Part) → (ValuesOf (p ∷ ps) → Bool) → (Extent → ValuesOf (p ∷ ps) → V) → Option (Value p.symbol) → List (Rest V) → List (Rest V)
behind_part n p ps f m None rs = rs
behind_part n p ps f m (Some v) rs = record { need = max n p.above; parts = ps; fits = λ x. f (v, x); make = λ e x. m e (v, x) } ∷ rs

abbrev pub behind_parts : {V : Type 0} (t : Symbol) → Value t → (n : ℕ) (ps : List Part) → (ValuesOf ps → Bool) → (Extent → ValuesOf ps → V) → List (Rest V) → List (Rest V)
behind_parts t v n [] f m rs = rs
behind_parts t v n (p ∷ ps) f m rs = behind_part n p ps f m (as_token p.symbol t v) rs

-- the rests that begin with a token, behind it
abbrev pub behind : {V : Type 0} (t : Symbol) → Value t → List (Rest V) → List (Rest V)
behind t v [] = []
behind t v (r ∷ rs) = behind_parts t v r.need r.parts r.fits r.make (behind t v rs)

abbrev pub over : {V : Type 0} → List Symbol → (t : Symbol) → Value t → List (Rest V) → List (Rest V)
over fs t v rs = behind t v (grown layers fs t rs)

-- each rest begins with a token, or is at its end where the symbol s may go on with the token t
abbrev pub is_ready : List Symbol → Symbol → List Part → Bool
is_ready fs t [] = has fs t
is_ready fs t (p ∷ ps) = is_token p.symbol

abbrev pub all_ready : {V : Type 0} → List Symbol → Symbol → List (Rest V) → Bool
all_ready fs t [] = true
all_ready fs t (r ∷ rs) = is_ready fs t r.parts && all_ready fs t rs

abbrev pub is_any : {V : Type 0} → List V → Bool
is_any [] = false
is_any (r ∷ rs) = true

-- the most nodes above what is left
abbrev pub peak_parts : List Part → ℕ
peak_parts [] = 0
peak_parts (p ∷ ps) = max p.above (peak_parts ps)

abbrev pub peak_of : {V : Type 0} → Rest V → ℕ
peak_of r = max r.need (peak_parts r.parts)

abbrev pub peak : {V : Type 0} → List (Rest V) → ℕ
peak [] = 0
peak (r ∷ rs) = max (peak_of r) (peak rs)

-- there is room for so many nodes; for none there always is
abbrev pub Within : ℕ → ℕ → Type 0
Within zero room = Unit {0}
Within (suc n) room = suc n ≤ room

-- the rests that need the least room
abbrev pub least : {V : Type 0} → ℕ → List (Rest V) → ℕ
least n [] = n
least n (r ∷ rs) = least (if leb r.need n then r.need else n) rs

abbrev pub OneFits : {V : Type 0} → ℕ → List (Rest V) → Type 0
OneFits room [] = ⊥
OneFits room (r ∷ rs) = Within (least r.need rs) room

-- no rest has room
abbrev pub NoneFits : {V : Type 0} → ℕ → List (Rest V) → Type 0
NoneFits room [] = Unit {0}
NoneFits room (r ∷ rs) = (room < r.need) × NoneFits room rs

-- lists of tokens
abbrev pub within : List Symbol → List Symbol → Bool
within [] ys = true
within (x ∷ xs) ys = has ys x && within xs ys

abbrev pub is_disjoint : List Symbol → List Symbol → Bool
is_disjoint [] ys = true
is_disjoint (x ∷ xs) ys = not (has ys x) && is_disjoint xs ys

-- the tokens that a reading of a symbol goes on with, whatever its value is
abbrev pub fronts : Symbol → List Symbol
fronts statement = []
fronts block_item = []
fronts case_item = []
fronts branch = []
fronts s = follows s

-- what a longer reading of t goes on with begins none of the parts behind it; where these may be no token, a longer reading
-- of s goes on with it
abbrev pub is_apart : Symbol → Symbol → List Part → Bool
is_apart s t ps = is_disjoint (follows t) (firsts ps) && (not (nullables ps) || within (follows t) (fronts s))

-- a token moves some rests on: each that it opens begins with it, one is left, and none needs more room
abbrev pub moves : {V : Type 0} → List Symbol → Symbol → (rs behind : List (Rest V)) → Bool
moves fs t rs rs' = all_ready fs t (grown layers fs t rs) && is_any rs' && leb (peak rs') (peak rs)

-- a rest begins otherwise than with one of these tokens, or with none
abbrev pub needs_none : {V : Type 0} → List Symbol → Rest V → Bool
needs_none ts r = nullables r.parts || not (within (firsts r.parts) ts)

-- the rests that don't begin with one of these tokens alone
abbrev pub without : {V : Type 0} → List Symbol → List (Rest V) → List (Rest V)
without ts rs = sift (needs_none ts) rs

-- all rests begin with this symbol below so many nodes
pub data Heads {V : Type 0} (t : Symbol) (a : ℕ) : List (Rest V) → Type 0 where
  no_head : Heads t a []
  one_head : {n : ℕ} {ps : List Part} {f : ValuesOf (record { above = a; symbol = t } ∷ ps) → Bool} {m : Extent → ValuesOf (record { above = a; symbol = t } ∷ ps) → V} {rs : List (Rest V)} → Heads t a rs → Heads t a (record { need = n; parts = record { above = a; symbol = t } ∷ ps; fits = f; make = m } ∷ rs)

-- they behind it
abbrev pub popped : {V : Type 0} {t : Symbol} {a : ℕ} {rs : List (Rest V)} → Heads t a rs → Value t → List (Rest V)
popped no_head v = []
popped {a} (one_head {n} {ps} {f} {m} hs) v = record { need = max n a; parts = ps; fits = λ x. f (v, x); make = λ e x. m e (v, x) } ∷ popped hs v

-- they behind it, where it has no room
abbrev pub deepened : {V : Type 0} {t : Symbol} {a : ℕ} {rs : List (Rest V)} → ℕ → Heads t a rs → Value t → List (Rest V)
deepened room no_head v = []
deepened room (one_head {n} {ps} {f} {m} hs) v = record { need = suc room; parts = ps; fits = λ x. f (v, x); make = λ e x. m e (v, x) } ∷ deepened room hs v

abbrev pub all_apart : {V : Type 0} {t : Symbol} {a : ℕ} {rs : List (Rest V)} → Symbol → Heads t a rs → Bool
all_apart s no_head = true
all_apart {t} s (one_head {ps} hs) = is_apart s t ps && all_apart s hs

-- there are some, and behind each t is told from what it goes on with
abbrev pub heads_apart : {V : Type 0} {t : Symbol} {a : ℕ} {rs : List (Rest V)} → Symbol → Heads t a rs → Bool
heads_apart s no_head = false
heads_apart {t} s (one_head {ps} hs) = is_apart s t ps && all_apart s hs
