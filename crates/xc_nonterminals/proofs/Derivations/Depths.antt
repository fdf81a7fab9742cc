-- The nodes of the tree that stand one below the other in what a symbol derives are those that its alternatives need room
-- for, and no more.
use Rattle.std.proofs.Common.{◌≡◌, ℕ, zero, suc, ◌+◌, Bool, true, false, max, List, [], ◌∷◌, map, if◌then◌else◌, slice_get, Option, Some, None, refl, sym as sym', ap, subst, arith}
use Rattle.xc_tree.specs.declared.token.Tok.{Tok}
use Rattle.xc_tree.specs.declared.tree.Id.{Id}
use Rattle.xc_tree.specs.Plain as plain
use Rattle.xc_tree.specs.Symbol.{Symbol, sym, key, a_name, a_number, many, maybe, commas, program, item, portdecl, dir, place, place_value, head, result, word, params, param, body, block, block_item, decl, dv, initial, statement, closed, case_item, for_start, for_step, branch, case, guard, assign, assign_op, rhs, call, arguments, argument, lval, output, input, time, stamp, waits, test, dest, expr, level, operator, sign, atom, Value, Values, Waits, at_once, at_time, when_true, Declarator, a_word, an_array}
use Rattle.xc_tree.specs.Grammar.{Rule, Extent, rules, one_of, operators, kept, named, declared, time_of, condition_of}
use Rattle.xc_tree.specs.Depth.{of_expression, highest, if_some, of_argument, of_call, of_right, of_timing, of_output, of_target, of_condition, of_input, of_kind, of_declaration, of_place, of_statement, of_action, of_maybe, of_statements, of_branch, of_branches, of_case, of_cases, of_item, of_program}
use Rattle.xc_tree.specs.Derives.{Room, unlimited, at_most, HasRoom, below, extent, Derives, a_sym, a_key, named as by_name, counted, by_rule, Row, done, next}
use Rattle.xc_nonterminals.proofs.Rests.Opening.{is_token}
use Rattle.xc_tree.specs.Terminals as terminal

abbrev pub of_declarator : Declarator → ℕ
of_declarator (a_word n r) = if_some of_right r
of_declarator (an_array n l p) = 0

abbrev pub of_waits : Waits → ℕ
of_waits at_once = 0
of_waits (at_time t) = of_timing t
of_waits (when_true c) = of_condition c

-- how many nodes stand one below the other in the value of a symbol
abbrev pub depth : (s : Symbol) → Value s → ℕ
depth (many s) xs = highest (depth s) xs
depth (maybe s) x = if_some (depth s) x
depth (commas s) xs = highest (depth s) xs
depth program is = of_program is
depth item i = if_some of_item i
depth portdecl p = if_some of_place p.place
depth place p = of_place p
depth place_value a = of_argument a
depth body s = of_statement s
depth block ss = highest of_statement ss
depth block_item s = of_statement s
depth decl s = of_statement s
depth dv d = of_declarator d
depth initial r = of_right r
depth statement s = of_statement s
depth closed s = of_statement s
depth case_item s = of_statement s
depth for_start s = of_statement s
depth for_step s = of_statement s
depth branch b = of_branch b
depth case c = of_case c
depth guard e = of_expression e
depth assign a = of_action a
depth rhs r = of_right r
depth call c = of_call c
depth arguments xs = highest of_argument xs
depth argument a = of_argument a
depth lval e = of_expression e
depth output o = of_output o
depth input i = of_input i
depth time t = of_timing t
depth stamp t = of_timing t
depth waits w = of_waits w
depth dest t = of_target t
depth expr e = of_expression e
depth (level m) e = of_expression e
depth atom e = of_expression e
depth _ x = 0

-- the same in those of a row of symbols; tokens have none
abbrev pub row_depth : (ss : List Symbol) → Values ss → ℕ
row_depth [] vs = 0
row_depth (s ∷ ss) vs = if is_token s then row_depth ss vs.1 else max (depth s vs.0) (row_depth ss vs.1)

-- an alternative has its own nodes above those of its parts
abbrev Sinks : {V : Type 0} → (V → ℕ) → Rule V → Type 0
Sinks d r = (e : Extent) (x : Values r.parts) → d (r.make e x) ≡ row_depth r.parts x + r.nodes

infixr 20 ◌&◌
data AllSink {V : Type 0} (d : V → ℕ) : List (Rule V) → Type 0 where
  none : AllSink d []
  ◌&◌ : {r : Rule V} {rs : List (Rule V)} → Sinks d r → AllSink d rs → AllSink d (r ∷ rs)

among_sinks : {V : Type 0} (d : V → ℕ) (rs : List (Rule V)) (r : Rule V) (at : ℕ) → AllSink d rs → slice_get rs at ≡ Some r → Sinks d r
among_sinks d [] r at none e = absurd (cc)
among_sinks d (x ∷ rs) r zero (a & more) e = let f : x ≡ r = cc in subst (λ y. Sinks d y) f a
among_sinks d (x ∷ rs) r (suc at) (a & more) e = among_sinks d rs r at more e

-- the lists of the tree
kept_depth : (is : List (Option plain.Item)) → of_program (kept is) ≡ highest (if_some of_item) is
kept_depth [] = refl
kept_depth (None ∷ is) = let e = kept_depth is in omega (arith, e)
kept_depth (Some i ∷ is) = ap (max (of_item i)) (kept_depth is)

one_declared : (u : Bool) (d : Declarator) → of_declaration (declared u d) ≡ of_declarator d
one_declared u (a_word n r) = refl
one_declared u (an_array n l p) = refl

declared_depth : (u : Bool) (ds : List Declarator) → highest of_declaration (map (declared u) ds) ≡ highest of_declarator ds
declared_depth u [] = refl
declared_depth u (d ∷ ds) = let e = one_declared u d in let f = declared_depth u ds in cc

named_depth : (k : plain.Kind) → of_kind k ≡ 0 → (ns : List Id) → highest of_declaration (map (named k) ns) ≡ highest (depth a_name) ns
named_depth k e [] = refl
named_depth k e (n ∷ ns) = let f = named_depth k e ns in cc

statements_depth : (ss : List plain.Statement) → of_statements (plain.statements ss) ≡ highest of_statement ss
statements_depth [] = refl
statements_depth (s ∷ ss) = ap (max (of_statement s)) (statements_depth ss)

branches_depth : (bs : List plain.Branch) → of_branches (plain.branches bs) ≡ highest of_branch bs
branches_depth [] = refl
branches_depth (b ∷ bs) = ap (max (of_branch b)) (branches_depth bs)

cases_depth : (cs : List plain.Case) → of_cases (plain.cases cs) ≡ highest of_case cs
cases_depth [] = refl
cases_depth (c ∷ cs) = ap (max (of_case c)) (cases_depth cs)

maybe_depth : (o : Option plain.Statement) → of_maybe (plain.maybe o) ≡ if_some of_statement o
maybe_depth None = refl
maybe_depth (Some s) = refl

-- the row of a symbol that may be a token
token_flat : (s : Symbol) (v : Value s) → is_token s ≡ true → depth s v ≡ 0
token_flat (sym o) v e = refl
token_flat (key w) v e = refl
token_flat a_name v e = refl
token_flat a_number v e = refl
token_flat _ v e = absurd (cc)

over_one : (b : Bool) (m n : ℕ) → (b ≡ true → m ≡ 0) → (if b then n else max m n) ≡ max m n
over_one true m n f = let e = f refl in omega (arith, e)
over_one false m n f = refl

pub first_depth : (s : Symbol) (ss : List Symbol) (v : Value s) (vs : Values ss) → row_depth (s ∷ ss) (v, vs) ≡ max (depth s v) (row_depth ss vs)
first_depth s ss v vs = over_one (is_token s) (depth s v) (row_depth ss vs) (token_flat s v)

many_sink : (s : Symbol) → AllSink (highest (depth s)) (rules (many s))
many_sink s = (λ e x. refl) & (λ e x. let f = first_depth s (many s ∷ []) x.0 x.1 in omega (arith, f)) & none

commas_sink : (s : Symbol) → AllSink (highest (depth s)) (rules (commas s))
commas_sink s = (λ e x. let f = first_depth s [] x.0 tt in omega (arith, f)) & (λ e x. let f = first_depth s (terminal.comma ∷ commas s ∷ []) x.0 x.1 in omega (arith, f)) & none

maybe_sink : (s : Symbol) → AllSink (if_some (depth s)) (rules (maybe s))
maybe_sink s = (λ e x. refl) & (λ e x. let f = first_depth s [] x.0 tt in omega (arith, f)) & none

one_of_sink : (os : List ℕ) → AllSink (λ m. 0) (one_of os)
one_of_sink [] = none
one_of_sink (o ∷ os) = (λ e x. refl) & one_of_sink os

none_deep : {V : Type 0} (xs : List V) → highest (λ x. 0) xs ≡ 0
none_deep [] = refl
none_deep (x ∷ xs) = let e = none_deep xs in omega (arith, e)

waits_depth : (w : Waits) → max (if_some of_timing (time_of w)) (if_some of_condition (condition_of w)) ≡ of_waits w
waits_depth at_once = refl
waits_depth (at_time t) = omega arith
waits_depth (when_true c) = omega arith

sinks : (s : Symbol) → AllSink (depth s) (rules s)
sinks (sym o) = none
sinks (key w) = none
sinks a_name = none
sinks a_number = none
sinks (many s) = many_sink s
sinks (maybe s) = maybe_sink s
sinks (commas s) = commas_sink s
sinks program = (λ e x. omega (arith, kept_depth x.0)) & none
sinks item = (λ e x. omega arith) & (λ e x. omega arith) & (λ e x. refl) & none
sinks portdecl = (λ e x. omega arith) & none
sinks dir = (λ e x. refl) & (λ e x. refl) & (λ e x. refl) & none
sinks place = (λ e x. omega arith) & (λ e x. omega arith) & none
sinks place_value = (λ e x. omega arith) & none
sinks head = (λ e x. refl) & none
sinks result = (λ e x. refl) & (λ e x. refl) & none
sinks word = (λ e x. refl) & (λ e x. refl) & (λ e x. refl) & none
sinks params = (λ e x. refl) & (λ e x. refl) & (λ e x. let f = none_deep x.0 in omega (arith, f)) & none
sinks param = (λ e x. refl) & (λ e x. refl) & (λ e x. refl) & (λ e x. refl) & (λ e x. refl) & (λ e x. refl) & none
sinks body = (λ e x. omega (arith, statements_depth x.0)) & none
sinks block = (λ e x. omega arith) & none
sinks block_item = (λ e x. omega arith) & (λ e x. omega arith) & none
sinks decl = (λ e x. omega (arith, declared_depth x.0 x.1.0)) & (λ e x. omega (arith, named_depth (plain.channel false) refl x.1.0)) & (λ e x. omega (arith, named_depth plain.timer refl x.1.0)) & none
sinks dv = (λ e x. omega arith) & (λ e x. refl) & none
sinks initial = (λ e x. omega arith) & none
sinks statement =
    (λ e x. refl) & (λ e x. omega (arith, statements_depth x.0)) & (λ e x. omega arith) & (λ e x. omega arith) & (λ e x. omega arith) & (λ e x. omega arith) &
    (λ e x. omega arith) & (λ e x. omega arith) & (λ e x. omega arith) & (λ e x. omega arith) &
    (λ e x. omega (arith, maybe_depth x.1.1.0, maybe_depth x.1.1.1.1.1.1.0)) & (λ e x. omega arith) & (λ e x. refl) & (λ e x. refl) &
    (λ e x. omega (arith, branches_depth x.1.1.0)) & (λ e x. omega arith) & (λ e x. omega (arith, cases_depth x.1.1.1.0)) &
    (λ e x. omega (arith, statements_depth x.1.0)) & (λ e x. omega (arith, statements_depth x.1.0)) & none
sinks closed = (λ e x. omega arith) & none
sinks case_item = (λ e x. omega arith) & (λ e x. omega arith) & none
sinks for_start = (λ e x. omega arith) & (λ e x. omega arith) & none
sinks for_step = (λ e x. omega arith) & none
sinks branch = (λ e x. omega arith) & none
sinks case = (λ e x. omega (arith, statements_depth x.1.1.1.1.0)) & (λ e x. omega (arith, statements_depth x.1.1.0)) & none
sinks guard = (λ e x. omega arith) & none
sinks assign = (λ e x. omega arith) & (λ e x. omega arith) & (λ e x. omega arith) & (λ e x. omega arith) & none
sinks assign_op = one_of_sink (37 ∷ 38 ∷ 39 ∷ 40 ∷ 41 ∷ 42 ∷ 43 ∷ 44 ∷ 45 ∷ 46 ∷ [])
sinks rhs = (λ e x. omega arith) & (λ e x. omega arith) & none
sinks call = (λ e x. omega arith) & none
sinks arguments = (λ e x. refl) & (λ e x. omega arith) & none
sinks argument = (λ e x. omega arith) & none
sinks lval = (λ e x. refl) & (λ e x. omega arith) & none
sinks output = (λ e x. omega arith) & none
sinks input = (λ e x. omega (arith, waits_depth x.1.0)) & none
sinks time = (λ e x. omega arith) & none
sinks stamp = (λ e x. omega arith) & none
sinks waits = (λ e x. refl) & (λ e x. omega arith) & (λ e x. omega arith) & none
sinks test = (λ e x. refl) & (λ e x. refl) & (λ e x. refl) & none
sinks dest = (λ e x. omega arith) & (λ e x. refl) & (λ e x. refl) & none
sinks expr = (λ e x. omega arith) & (λ e x. omega arith) & none
sinks (level zero) = (λ e x. omega arith) & (λ e x. omega arith) & (λ e x. omega arith) & (λ e x. omega arith) & none
sinks (level (suc m)) = (λ e x. omega arith) & (λ e x. omega arith) & none
sinks (operator m) = one_of_sink (operators m)
sinks sign = one_of_sink (16 ∷ 15 ∷ 13 ∷ 14 ∷ [])
sinks atom = (λ e x. refl) & (λ e x. refl) & (λ e x. omega arith) & (λ e x. omega arith) & none

-- room for the nodes of an alternative and, below them, for those of its parts
has_none : (room : Room) → HasRoom room 0
has_none unlimited = tt
has_none (at_most n) = omega arith

has_both : (room : Room) (a b : ℕ) → HasRoom room a → HasRoom (below room a) b → HasRoom room (b + a)
has_both unlimited a b h g = tt
has_both (at_most n) a b h g = omega arith

has_own : (room : Room) (a b : ℕ) → HasRoom room (b + a) → HasRoom room a × HasRoom (below room a) b
has_own unlimited a b h = (tt, tt)
has_own (at_most n) a b h = (omega arith, omega arith)

has_max : (room : Room) (a b : ℕ) → HasRoom room a → HasRoom room b → HasRoom room (max a b)
has_max unlimited a b h g = tt
has_max (at_most n) a b h g = omega arith

has_each : (room : Room) (a b : ℕ) → HasRoom room (max a b) → HasRoom room a × HasRoom room b
has_each unlimited a b h = (tt, tt)
has_each (at_most n) a b h = (omega arith, omega arith)

mutual
  -- what is derived with room for so many nodes is no deeper
  pub deep_within : {toks : List Tok} {room : Room} {s : Symbol} {i j : ℕ} {v : Value s} → Derives toks room s i j v → HasRoom room (depth s v)
  deep_within {room} (a_sym on) = has_none room
  deep_within {room} (a_key on) = has_none room
  deep_within {room} (by_name on) = has_none room
  deep_within {room} (counted on) = has_none room
  deep_within {toks} {room} {s} {i} {j} (by_rule {r} {vs} a h row f) =
      subst (HasRoom room) (sym' (among_sinks (depth s) (rules s) r a.at (sinks s) a.there (extent toks i j) vs)) (has_both room r.nodes (row_depth r.parts vs) h (row_within row))

  pub row_within : {toks : List Tok} {room : Room} {ss : List Symbol} {i j : ℕ} {vs : Values ss} → Row toks room ss i j vs → HasRoom room (row_depth ss vs)
  row_within {room} done = has_none room
  row_within {room} (next {s} {ss = rest} {v} {vs = us} d r) =
      subst (HasRoom room) (sym' (first_depth s rest v us)) (has_max room (depth s v) (row_depth rest us) (deep_within d) (row_within r))

mutual
  -- what is no deeper is derived so
  pub derives_within : {toks : List Tok} {room : Room} {s : Symbol} {i j : ℕ} {v : Value s} (other : Room) → Derives toks room s i j v → HasRoom other (depth s v) → Derives toks other s i j v
  derives_within other (a_sym on) h = a_sym on
  derives_within other (a_key on) h = a_key on
  derives_within other (by_name on) h = by_name on
  derives_within other (counted on) h = counted on
  derives_within {toks} {s} {i} {j} other (by_rule {r} {vs} a g row f) h =
      let k = has_own other r.nodes (row_depth r.parts vs) (subst (HasRoom other) (among_sinks (depth s) (rules s) r a.at (sinks s) a.there (extent toks i j) vs) h) in
      by_rule a k.0 (row_derives (below other r.nodes) row k.1) f

  pub row_derives : {toks : List Tok} {room : Room} {ss : List Symbol} {i j : ℕ} {vs : Values ss} (other : Room) → Row toks room ss i j vs → HasRoom other (row_depth ss vs) → Row toks other ss i j vs
  row_derives other done h = done
  row_derives other (next {s} {ss = rest} {v} {vs = us} d r) h =
      let k = has_each other (depth s v) (row_depth rest us) (subst (HasRoom other) (first_depth s rest v us) h) in
      next (derives_within other d k.0) (row_derives other r k.1)
