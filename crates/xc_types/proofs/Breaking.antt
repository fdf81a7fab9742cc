-- The first of all that the sites of a program break is the first rule that the program breaks.
use Rattle.std.proofs.Common.{◌≡◌, ℕ, ◌<◌, ◌⊎◌, inl, inr, zero, suc, List, [], ◌∷◌, ◌++◌, length, map, slice_index_or, Some, None, refl, sym, ap, subst, arith}
use Rattle.std.specs.Prelude.{Contains}
use Rattle.xw_words.proofs.Lists.{some_same}
use Rattle.xw_words.specs.declared.pos.Pos.{Pos}
use Rattle.xw_words.specs.declared.pos.Broken.{Broken}
use Rattle.xc_tree.specs.Checks.{Rule, rules, Breaks}
use Rattle.xc_tree.specs.Least.{IsLeastOf}
use Rattle.xc_tree.specs.Types.Named.{NamedProgram}
use Rattle.xc_tree.specs.Types.Sites.{Site, sites}
use Rattle.xc_tree.proofs.Leasts.{either, of_same, none_broken}
use Rattle.xc_types.specs.Checker.{all_broken, broken_at, broken_of, first_among}
use Rattle.xc_types.proofs.Firsts.{Itself, itself, first_from}

-- it is one of these
abbrev Among : List Broken → Broken → Type 0
Among [] b = ⊥
Among (x ∷ xs) b = Itself (Some x) b ⊎ Among xs b

least_among : (xs : List Broken) → IsLeastOf (Among xs) (first_among None xs)
least_among [] = none_broken (Among []) (λ b h. h)
least_among (x ∷ xs) = subst (IsLeastOf (Among (x ∷ xs))) (sym (first_from (Some x) xs)) (either (Itself (Some x)) (Among xs) (Some x) (first_among None xs) (itself (Some x)) (least_among xs))

among_front : (xs ys : List Broken) (b : Broken) → Among xs b → Among (xs ++ ys) b
among_front [] ys b h = absurd h
among_front (x ∷ xs) ys b (inl e) = inl e
among_front (x ∷ xs) ys b (inr h) = inr (among_front xs ys b h)

among_back : (xs ys : List Broken) (b : Broken) → Among ys b → Among (xs ++ ys) b
among_back [] ys b h = h
among_back (x ∷ xs) ys b h = inr (among_back xs ys b h)

among_split : (xs ys : List Broken) (b : Broken) → Among (xs ++ ys) b → Among xs b ⊎ Among ys b
among_split [] ys b h = inr h
among_split (x ∷ xs) ys b (inl e) = inl (inl e)
among_split (x ∷ xs) ys b (inr h) = by (among_split xs ys b h)
  where
    by : Among xs b ⊎ Among ys b → Among (x ∷ xs) b ⊎ Among ys b
    by (inl k) = inl (inr k)
    by (inr k) = inr k

has_first : {A : Type 0} (x : A) (xs : List A) → Contains (x ∷ xs) x
has_first x xs = (0, omega arith, refl)

has_later : {A : Type 0} (x y : A) (xs : List A) → Contains xs y → Contains (x ∷ xs) y
has_later x y xs h = (suc h.0, let k = h.1 in omega arith, h.2)

has_none : {A : Type 0} (y : A) → Contains [] y → ⊥
has_none y h = let k = h.1 in omega arith

first_or_later : {A : Type 0} (x y : A) (xs : List A) → Contains (x ∷ xs) y → (x ≡ y) ⊎ Contains xs y
first_or_later {A = A} x y xs h = by h.0 h.1 h.2
  where
    by : (k : ℕ) → k < length (x ∷ xs) → slice_index_or (x ∷ xs) k y ≡ y → (x ≡ y) ⊎ Contains xs y
    by zero l e = inl e
    by (suc k) l e = inr (k, omega arith, e)

from_place : (n : ℕ) (ps : List Pos) (b : Broken) → Among (map (broken_at n) ps) b → (n ≡ b.rule) × Contains ps b.pos
from_place n [] b h = absurd h
from_place n (p ∷ ps) b (inl e) = let f = some_same (broken_at n p) b e in (ap (λ (c : Broken). c.rule) f, subst (Contains (p ∷ ps)) (ap (λ (c : Broken). c.pos) f) (has_first p ps))
from_place n (p ∷ ps) b (inr h) = let k = from_place n ps b h in (k.0, has_later p b.pos ps k.1)

to_place : (n : ℕ) (ps : List Pos) (b : Broken) → n ≡ b.rule → Contains ps b.pos → Among (map (broken_at n) ps) b
to_place n [] b e h = absurd (has_none b.pos h)
to_place n (p ∷ ps) b e h = by (λ k. to_place n ps b e k) (first_or_later p b.pos ps h)
  where
    by : (Contains ps b.pos → Among (map (broken_at n) ps) b) → (p ≡ b.pos) ⊎ Contains ps b.pos → Among (map (broken_at n) (p ∷ ps)) b
    by rest (inl f) = inl (λ i. Some (record { rule = e i; pos = f i }))
    by rest (inr k) = inr (rest k)

-- a site breaks one of these rules
record BreaksHere (rs : List Rule) (s : Site) (b : Broken) : Type 0 where
  rule : Rule
  among : Contains rs rule
  numbered : rule.number ≡ b.rule
  broken : Contains (rule.broken_at s) b.pos

from_rules : (rs : List Rule) (s : Site) (b : Broken) → Among (broken_of rs s) b → BreaksHere rs s b
from_rules [] s b h = absurd h
from_rules (r ∷ rs) s b h = by (λ k. from_rules rs s b k) (among_split (map (broken_at r.number) (r.broken_at s)) (broken_of rs s) b h)
  where
    later : BreaksHere rs s b → BreaksHere (r ∷ rs) s b
    later k = record { rule = k.rule; among = has_later r k.rule rs k.among; numbered = k.numbered; broken = k.broken }

    first : (r.number ≡ b.rule) × Contains (r.broken_at s) b.pos → BreaksHere (r ∷ rs) s b
    first k = record { rule = r; among = has_first r rs; numbered = k.0; broken = k.1 }

    by : (Among (broken_of rs s) b → BreaksHere rs s b) → Among (map (broken_at r.number) (r.broken_at s)) b ⊎ Among (broken_of rs s) b → BreaksHere (r ∷ rs) s b
    by rest (inl k) = first (from_place r.number (r.broken_at s) b k)
    by rest (inr k) = later (rest k)

to_rules : (rs : List Rule) (s : Site) (b : Broken) (r : Rule) → Contains rs r → r.number ≡ b.rule → Contains (r.broken_at s) b.pos → Among (broken_of rs s) b
to_rules [] s b r h e k = absurd (has_none r h)
to_rules (x ∷ xs) s b r h e k = by (λ l. to_rules xs s b r l e k) (first_or_later x r xs h)
  where
    first : (q : Rule) → q.number ≡ b.rule → Contains (q.broken_at s) b.pos → Among (map (broken_at q.number) (q.broken_at s) ++ broken_of xs s) b
    first q f g = among_front (map (broken_at q.number) (q.broken_at s)) (broken_of xs s) b (to_place q.number (q.broken_at s) b f g)

    by : (Contains xs r → Among (broken_of xs s) b) → (x ≡ r) ⊎ Contains xs r → Among (broken_of (x ∷ xs) s) b
    by rest (inl f) = subst (λ (q : Rule). Among (map (broken_at q.number) (q.broken_at s) ++ broken_of xs s) b) (sym f) (first r e k)
    by rest (inr l) = among_back (map (broken_at x.number) (x.broken_at s)) (broken_of xs s) b (rest l)

-- one of these sites breaks a rule
record BreaksThere (ss : List Site) (b : Broken) : Type 0 where
  site : Site
  there : Contains ss site
  here : BreaksHere rules site b

from_sites : (ss : List Site) (b : Broken) → Among (all_broken ss) b → BreaksThere ss b
from_sites [] b h = absurd h
from_sites (s ∷ ss) b h = by (λ k. from_sites ss b k) (among_split (broken_of rules s) (all_broken ss) b h)
  where
    later : BreaksThere ss b → BreaksThere (s ∷ ss) b
    later k = record { site = k.site; there = has_later s k.site ss k.there; here = k.here }

    by : (Among (all_broken ss) b → BreaksThere ss b) → Among (broken_of rules s) b ⊎ Among (all_broken ss) b → BreaksThere (s ∷ ss) b
    by rest (inl k) = record { site = s; there = has_first s ss; here = from_rules rules s b k }
    by rest (inr k) = later (rest k)

to_sites : (ss : List Site) (b : Broken) (s : Site) → Contains ss s → Among (broken_of rules s) b → Among (all_broken ss) b
to_sites [] b s h k = absurd (has_none s h)
to_sites (x ∷ xs) b s h k = by (λ l. to_sites xs b s l k) (first_or_later x s xs h)
  where
    by : (Contains xs s → Among (all_broken xs) b) → (x ≡ s) ⊎ Contains xs s → Among (all_broken (x ∷ xs)) b
    by rest (inl f) = among_front (broken_of rules x) (all_broken xs) b (subst (λ (q : Site). Among (broken_of rules q) b) (sym f) k)
    by rest (inr l) = among_back (broken_of rules x) (all_broken xs) b (rest l)

pub least_broken : (n : NamedProgram) → IsLeastOf (Breaks n) (first_among None (all_broken (sites n)))
least_broken n = of_same (Among (all_broken (sites n))) (Breaks n) (first_among None (all_broken (sites n))) to from (least_among (all_broken (sites n)))
  where
    told : (b : Broken) → BreaksThere (sites n) b → Breaks n b
    told b h = record { rule = h.here.rule; among = h.here.among; numbered = h.here.numbered; site = h.site; there = h.there; broken = h.here.broken }

    to : (b : Broken) → Among (all_broken (sites n)) b → Breaks n b
    to b h = told b (from_sites (sites n) b h)

    from : (b : Broken) → Breaks n b → Among (all_broken (sites n)) b
    from b h = to_sites (sites n) b h.site h.there (to_rules rules h.site b h.rule h.among h.numbered h.broken)
