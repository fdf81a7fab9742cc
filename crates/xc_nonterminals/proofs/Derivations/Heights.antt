-- An expression derives with room for so many nodes exactly where it is no deeper.
use Rattle.std.proofs.Common.{◌≡◌, ℕ, zero, suc, ◌+◌, ◌-◌, ◌≤◌, max, List, [], ◌∷◌, slice_get, Some, refl, sym as sym', subst, arith}
use Rattle.xc_tree.specs.declared.token.Tok.{Tok}
use Rattle.xc_tree.specs.Symbol.{Symbol, sym, key, a_name, a_number, expr, level, operator, sign, atom, Value, Values}
use Rattle.xc_tree.specs.Grammar.{Rule, Extent, rules, operators, one_of}
use Rattle.xc_tree.specs.Depth.{of_expression}
use Rattle.xc_tree.specs.Derives.{Among, Room, unlimited, at_most, HasRoom, below, Derives, a_sym, a_key, named, counted, by_rule, Row, done, next}

-- what expressions are made of
pub data IsPart : Symbol → Type 0 where
  p_sym : {o : ℕ} → IsPart (sym o)
  p_key : {w : ℕ} → IsPart (key w)
  p_name : IsPart a_name
  p_number : IsPart a_number
  p_sign : IsPart sign
  p_operator : {m : ℕ} → IsPart (operator m)
  p_atom : IsPart atom
  p_level : {m : ℕ} → IsPart (level m)
  p_expr : IsPart expr

abbrev pub AllParts : List Symbol → Type 0
AllParts [] = Unit {0}
AllParts (s ∷ ss) = IsPart s × AllParts ss

-- how many nodes of a value stand one below the other
abbrev pub height : (s : Symbol) → Value s → ℕ
height expr v = of_expression v
height (level m) v = of_expression v
height atom v = of_expression v
height _ v = 0

abbrev pub row_height : (ss : List Symbol) → Values ss → ℕ
row_height [] vs = 0
row_height (s ∷ ss) vs = max (height s vs.0) (row_height ss vs.1)

pub record Grows (s : Symbol) (r : Rule (Value s)) : Type 0 where
  pub parts : AllParts r.parts
  pub grows : (e : Extent) (vs : Values r.parts) → height s (r.make e vs) ≡ r.nodes + row_height r.parts vs

abbrev AllGrow : (s : Symbol) → List (Rule (Value s)) → Type 0
AllGrow s [] = Unit {0}
AllGrow s (r ∷ rs) = Grows s r × AllGrow s rs

one_grows : (m : ℕ) (os : List ℕ) → AllGrow (operator m) (one_of os)
one_grows m [] = tt
one_grows m (o ∷ os) = (record { parts = (p_sym, tt); grows = λ e vs. refl }, one_grows m os)

level_grows : (m : ℕ) → AllGrow (level m) (rules (level m))
level_grows zero = (
  record { parts = (p_atom, tt); grows = λ e vs. omega arith },
  (
    record { parts = (p_sign, (p_level, tt)); grows = λ e vs. omega arith },
    (
      record { parts = (p_sym, (p_key, (p_sym, (p_level, tt)))); grows = λ e vs. omega arith },
      (
        record { parts = (p_sym, (p_key, (p_sym, (p_level, tt)))); grows = λ e vs. omega arith },
        tt,
      ),
    ),
  ),
)
level_grows (suc m) = (
  record { parts = (p_level, tt); grows = λ e vs. omega arith },
  (
    record { parts = (p_level, (p_operator, (p_level, tt))); grows = λ e vs. omega arith },
    tt,
  ),
)

all_grow : {s : Symbol} → IsPart s → AllGrow s (rules s)
all_grow p_sym = tt
all_grow p_key = tt
all_grow p_name = tt
all_grow p_number = tt
all_grow p_sign = (
  record { parts = (p_sym, tt); grows = λ e vs. refl },
  (
    record { parts = (p_sym, tt); grows = λ e vs. refl },
    (
      record { parts = (p_sym, tt); grows = λ e vs. refl },
      (
        record { parts = (p_sym, tt); grows = λ e vs. refl },
        tt,
      ),
    ),
  ),
)
all_grow (p_operator {m}) = one_grows m (operators m)
all_grow p_atom = (
  record { parts = (p_number, tt); grows = λ e vs. refl },
  (
    record { parts = (p_name, tt); grows = λ e vs. refl },
    (
      record { parts = (p_name, (p_sym, (p_expr, (p_sym, tt)))); grows = λ e vs. omega arith },
      (
        record { parts = (p_sym, (p_expr, (p_sym, tt))); grows = λ e vs. omega arith },
        tt,
      ),
    ),
  ),
)
all_grow (p_level {m}) = level_grows m
all_grow p_expr = (
  record { parts = (p_level, tt); grows = λ e vs. omega arith },
  (
    record { parts = (p_level, (p_sym, (p_expr, (p_sym, (p_expr, tt))))); grows = λ e vs. omega arith },
    tt,
  ),
)

grow_among : (s : Symbol) (rs : List (Rule (Value s))) (r : Rule (Value s)) (at : ℕ) → slice_get rs at ≡ Some r → AllGrow s rs → Grows s r
grow_among s [] r at e g = absurd (cc)
grow_among s (x ∷ rs) r zero e g = let f : x ≡ r = cc in subst (Grows s) f g.0
grow_among s (x ∷ rs) r (suc at) e g = grow_among s rs r at e g.1

rule_grows : (s : Symbol) (r : Rule (Value s)) → Among (rules s) r → IsPart s → Grows s r
rule_grows s r a p = grow_among s (rules s) r a.at a.there (all_grow p)

pub more_room : (room : Room) (a b : ℕ) → HasRoom room a → HasRoom (below room a) b → HasRoom room (a + b)
more_room unlimited a b h k = tt
more_room (at_most r) a b h k = omega arith

pub less_room : (room : Room) (a b : ℕ) → a ≤ b → HasRoom room b → HasRoom room a
less_room unlimited a b e h = tt
less_room (at_most r) a b e h = omega arith

pub no_room : (room : Room) → HasRoom room 0
no_room unlimited = tt
no_room (at_most r) = omega arith

pub max_room : (room : Room) (a b : ℕ) → HasRoom room a → HasRoom room b → HasRoom room (max a b)
max_room unlimited a b h k = tt
max_room (at_most r) a b h k = omega arith

module _ (toks : List Tok) where
  mutual
    -- a part of an expression is no deeper than its room
    pub depth_fits : {room : Room} {s : Symbol} {i j : ℕ} {v : Value s} → IsPart s → Derives toks room s i j v → HasRoom room (height s v)
    depth_fits {room} p (a_sym on) = no_room room
    depth_fits {room} p (a_key on) = no_room room
    depth_fits {room} p (named on) = no_room room
    depth_fits {room} p (counted on) = no_room room
    depth_fits {room} {s} p (by_rule {r} {vs} a h row f) =
        let g = rule_grows s r a p in
        subst (HasRoom room) (sym' (g.grows _ vs)) (more_room room r.nodes (row_height r.parts vs) h (row_fits r.parts vs g.parts row))

    row_fits : {room : Room} (ss : List Symbol) {i j : ℕ} (vs : Values ss) → AllParts ss → Row toks room ss i j vs → HasRoom room (row_height ss vs)
    row_fits {room} [] vs p done = no_room room
    row_fits {room} (s ∷ ss) vs p (next d r) = max_room room (height s vs.0) (row_height ss vs.1) (depth_fits p.0 d) (row_fits ss vs.1 p.1 r)

  mutual
    -- where it is no deeper than some room it derives with it
    pub shallow : {room : Room} {s : Symbol} {i j : ℕ} {v : Value s} (n : ℕ) → IsPart s → height s v ≤ n → Derives toks room s i j v → Derives toks (at_most n) s i j v
    shallow n p h (a_sym on) = a_sym on
    shallow n p h (a_key on) = a_key on
    shallow n p h (named on) = named on
    shallow n p h (counted on) = counted on
    shallow {room} {s} n p h (by_rule {r} {vs} a x row f) =
        let g = rule_grows s r a p in
        let e = g.grows _ vs in
        let y : r.nodes + row_height r.parts vs ≤ n = subst (λ k. k ≤ n) e h in
        by_rule a (omega arith) (shallow_row (n - r.nodes) r.parts vs g.parts (omega arith) row) f

    shallow_row : {room : Room} (n : ℕ) (ss : List Symbol) {i j : ℕ} (vs : Values ss) → AllParts ss → row_height ss vs ≤ n → Row toks room ss i j vs → Row toks (at_most n) ss i j vs
    shallow_row n [] vs p h done = done
    shallow_row n (s ∷ ss) vs p h (next d r) = next (shallow n p.0 (omega arith) d) (shallow_row n ss vs.1 p.1 (omega arith) r)
