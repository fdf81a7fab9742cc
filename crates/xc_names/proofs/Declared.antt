-- A program declares no more names than it has tokens: each has a token of its own.
use Rattle.std.proofs.Common.{◌≡◌, ℕ, zero, suc, ◌+◌, ◌≤◌, Bool, false, List, [], ◌∷◌, ◌++◌, length, map, slice_get, Option, None, Some, refl, ap, subst, ◌∙◌, arith, length-append}
use Rattle.xw_words.specs.declared.pos.Pos.{Pos}
use Rattle.xc_tree.specs.declared.token.Tok.{Tok}
use Rattle.xc_tree.specs.declared.tree.Id.{Id}
use Rattle.xc_tree.specs.declared.tree.Param.{Param}
use Rattle.xc_tree.specs.declared.names.Mark.{Mark}
use Rattle.xc_tree.specs.declared.names.Mark.TheVariants.{Closes, Uses}
use Rattle.xc_tree.specs.declared.names.What.TheVariants as what
use Rattle.xc_tree.specs.Plain as plain
use Rattle.xc_tree.specs.Symbol.{Symbol, sym, key, a_name, a_number, many, maybe, commas, program, item, portdecl, head, params, param, body, block, block_item, decl, dv, statement, closed, case_item, for_start, for_step, branch, case, assign, input, dest, Declarator, Value, Values}
use Rattle.xc_tree.specs.Grammar.{Rule, Extent, rules, kept, declared, named as kind_named, time_of, condition_of}
use Rattle.xc_tree.specs.Derives.{Room, extent, Derives, a_sym, a_key, named, counted, by_rule, Row, done, next}
use Rattle.xc_tree.specs.Names.Marks.{declares, in_scope, each, optional, of_expression, of_form, of_argument, of_call, of_right, of_timing, of_condition, of_output, of_target, of_input, of_initial, of_declaration, of_place, of_statement, of_action, of_maybe, of_statements, of_branch, of_branches, of_case, of_cases, of_param, of_body, of_item, of_items}
use Rattle.xc_tree.specs.Names.Uses.{declarations}
use Rattle.xc_names.proofs.Numbers.{declarations_append}

-- how many names marks declare
abbrev pub count : List Mark → ℕ
count ms = length (declarations ms)

pub count_append : (xs ys : List Mark) → count (xs ++ ys) ≡ count xs + count ys
count_append xs ys = ap length (declarations_append xs ys) ∙ length-append (declarations xs) (declarations ys)

both_none : (xs ys : List Mark) → count xs ≡ 0 → count ys ≡ 0 → count (xs ++ ys) ≡ 0
both_none xs ys a b = let e = count_append xs ys in omega arith

scope_count : (ms : List Mark) → count (in_scope ms) ≡ count ms
scope_count ms = let e = count_append ms (Closes ∷ []) in omega arith

-- of a list, and of what may be absent
abbrev total : {V : Type 0} → (V → ℕ) → List V → ℕ
total f [] = 0
total f (x ∷ xs) = f x + total f xs

abbrev or_zero : {V : Type 0} → (V → ℕ) → Option V → ℕ
or_zero f None = 0
or_zero f (Some x) = f x

-- what declares no name
no_each : {V : Type 0} (f : V → List Mark) → ((x : V) → count (f x) ≡ 0) → (xs : List V) → count (each f xs) ≡ 0
no_each f h [] = refl
no_each f h (x ∷ xs) = both_none (f x) (each f xs) (h x) (no_each f h xs)

no_optional : {V : Type 0} (f : V → List Mark) → ((x : V) → count (f x) ≡ 0) → (o : Option V) → count (optional f o) ≡ 0
no_optional f h None = refl
no_optional f h (Some x) = h x

mutual
  no_expression : (e : plain.Expression) → count (of_expression e) ≡ 0
  no_expression (plain.expression f p) = no_form f p

  no_form : (f : plain.Form) (p : Pos) → count (of_form p f) ≡ 0
  no_form (plain.number n u) p = refl
  no_form (plain.name t) p = refl
  no_form (plain.index t e) p = no_expression e
  no_form (plain.unary o e) p = no_expression e
  no_form (plain.binary o a b) p = both_none (of_expression a) (of_expression b) (no_expression a) (no_expression b)
  no_form (plain.choice c a b) p = both_none (of_expression c) (of_expression a ++ of_expression b) (no_expression c) (both_none (of_expression a) (of_expression b) (no_expression a) (no_expression b))
  no_form (plain.cast u e) p = no_expression e

no_call : (c : plain.Call) → count (of_call c) ≡ 0
no_call c = no_each of_argument (λ a. no_expression a.value) c.arguments

no_right : (r : plain.RightSide) → count (of_right r) ≡ 0
no_right (plain.value e) = no_expression e
no_right (plain.result c) = no_call c

no_timing : (o : Option plain.Timing) → count (optional of_timing o) ≡ 0
no_timing o = no_optional of_timing (λ t. no_expression t.value) o

no_condition : (o : Option plain.Condition) → count (optional of_condition o) ≡ 0
no_condition o = no_optional of_condition (λ t. no_expression t.value) o

no_place : (o : Option plain.Place) → count (optional of_place o) ≡ 0
no_place o = no_optional of_place (λ p. no_expression p.value) o

no_choice : (o : Option plain.Expression) → count (optional of_expression o) ≡ 0
no_choice o = no_optional of_expression no_expression o

no_output : (o : plain.Output) → count (of_output o) ≡ 0
no_output o = both_none (optional of_timing o.time) (of_expression o.value ++ optional of_timing o.stamp) (no_timing o.time) (both_none (of_expression o.value) (optional of_timing o.stamp) (no_expression o.value) (no_timing o.stamp))

-- what declares names
input_count : (i : plain.Input) → count (of_input i) ≡ count (of_target i.target)
input_count i =
    let a = count_append (optional of_timing i.time) (optional of_condition i.condition ++ (of_target i.target ++ optional of_timing i.stamp)) in
    let b = count_append (optional of_condition i.condition) (of_target i.target ++ optional of_timing i.stamp) in
    let c = count_append (of_target i.target) (optional of_timing i.stamp) in
    omega (arith, no_timing i.time, no_condition i.condition, no_timing i.stamp)

initial_count : (k : plain.Kind) → count (of_initial k) ≡ 0
initial_count (plain.word u None) = refl
initial_count (plain.word u (Some r)) = no_right r
initial_count (plain.array u n p) = refl
initial_count (plain.channel s) = refl
initial_count plain.timer = refl

declarators_count : (u : Bool) (ds : List Declarator) → count (each of_declaration (map (declared u) ds)) ≡ total (λ d. 1) ds
declarators_count u [] = refl
declarators_count u (d ∷ ds) =
    let a = count_append (of_initial (declared u d).kind) (each of_declaration (map (declared u) ds)) in
    omega (arith, initial_count (declared u d).kind, declarators_count u ds)

names_count : (k : plain.Kind) (ns : List Id) → count (each of_declaration (map (kind_named k) ns)) ≡ total (λ n. 1) ns
names_count k [] = refl
names_count k (n ∷ ns) =
    let a = count_append (of_initial k) (each of_declaration (map (kind_named k) ns)) in
    omega (arith, initial_count k, names_count k ns)

params_count : (ps : List Param) → count (each of_param ps) ≡ total (λ p. 1) ps
params_count [] = refl
params_count (p ∷ ps) = omega (arith, params_count ps)

abbrev in_statement : plain.Statement → ℕ
in_statement s = count (of_statement s)

abbrev in_branch : plain.Branch → ℕ
in_branch b = count (of_branch b)

abbrev in_case : plain.Case → ℕ
in_case c = count (of_case c)

maybe_count : (o : Option plain.Statement) → count (of_maybe (plain.maybe o)) ≡ or_zero in_statement o
maybe_count None = refl
maybe_count (Some s) = refl

statements_count : (ss : List plain.Statement) → count (of_statements (plain.statements ss)) ≡ total in_statement ss
statements_count [] = refl
statements_count (s ∷ ss) = let e = count_append (of_statement s) (of_statements (plain.statements ss)) in omega (arith, statements_count ss)

branches_count : (bs : List plain.Branch) → count (of_branches (plain.branches bs)) ≡ total in_branch bs
branches_count [] = refl
branches_count (b ∷ bs) = let e = count_append (of_branch b) (of_branches (plain.branches bs)) in omega (arith, branches_count bs)

cases_count : (cs : List plain.Case) → count (of_cases (plain.cases cs)) ≡ total in_case cs
cases_count [] = refl
cases_count (c ∷ cs) = let e = count_append (of_case c) (of_cases (plain.cases cs)) in omega (arith, cases_count cs)

abbrev in_item : plain.Item → ℕ
in_item i = count (of_item 0 i)

any_item : (k : ℕ) (i : plain.Item) → count (of_item k i) ≡ in_item i
any_item k (plain.port p) = refl
any_item k (plain.function h b) = refl

kept_count : (k : ℕ) (is : List (Option plain.Item)) → count (of_items k (kept is)) ≡ total (or_zero in_item) is
kept_count k [] = refl
kept_count k (None ∷ is) = omega (arith, kept_count k is)
kept_count k (Some i ∷ is) = let e = count_append (of_item k i) (of_items (k + 1) (kept is)) in omega (arith, any_item k i, kept_count (k + 1) is)

port_count : (p : plain.Port) → in_item (plain.port p) ≡ 1
port_count p = let e = count_append (optional of_place p.place) (declares p.name (what.Port p.dir) ∷ []) in omega (arith, no_place p.place)

function_count : (h : plain.Head) (b : plain.Statement) → in_item (plain.function h b) ≡ 1 + (count (each of_param h.params) + count (of_body b))
function_count h b =
    let e = count_append (each of_param h.params) (of_body b) in
    omega (arith, scope_count (each of_param h.params ++ of_body b))

if_count : (c : plain.Expression) (s : plain.Statement) (o : plain.Maybe) → count (of_action (plain.if_then c s o)) ≡ in_statement s + count (of_maybe o)
if_count c s o =
    let a = count_append (of_expression c) (of_statement s ++ of_maybe o) in
    let b = count_append (of_statement s) (of_maybe o) in
    omega (arith, no_expression c)

while_count : (c : plain.Expression) (s : plain.Statement) → count (of_action (plain.while_loop c s)) ≡ in_statement s
while_count c s = let a = count_append (of_expression c) (of_statement s) in omega (arith, no_expression c)

do_count : (s : plain.Statement) (c : plain.Expression) → count (of_action (plain.do_while s c)) ≡ in_statement s
do_count s c = let a = count_append (of_statement s) (of_expression c) in omega (arith, no_expression c)

for_count : (x y : plain.Maybe) (c : Option plain.Expression) (s : plain.Statement) → count (of_action (plain.for_loop x c y s)) ≡ count (of_maybe x) + (count (of_maybe y) + in_statement s)
for_count x y c s =
    let a = count_append (of_maybe x) (optional of_expression c ++ (of_maybe y ++ of_statement s)) in
    let b = count_append (optional of_expression c) (of_maybe y ++ of_statement s) in
    let d = count_append (of_maybe y) (of_statement s) in
    omega (arith, no_choice c, scope_count (of_maybe x ++ (optional of_expression c ++ (of_maybe y ++ of_statement s))))

select_count : (c : plain.Case) (cs : plain.Cases) → count (of_cases (plain.more_cases c cs)) ≡ in_case c + count (of_cases cs)
select_count c cs = count_append (of_case c) (of_cases cs)

repeated_count : (a b c : Id) (f t : ℕ) (m : plain.Branch) → count (of_action (plain.replicated a b c f t m)) ≡ 1 + in_branch m
repeated_count a b c f t m = omega (arith, scope_count (declares a what.Index ∷ Uses b ∷ Uses c ∷ of_branch m))

assign_count : (l : plain.Expression) (r : plain.RightSide) → count (of_expression l ++ of_right r) ≡ 0
assign_count l r = both_none (of_expression l) (of_right r) (no_expression l) (no_right r)

start_count : (r : plain.RightSide) → count (of_right r ++ []) ≡ 0
start_count r = both_none (of_right r) [] (no_right r) refl

branch_count : (p : Option plain.Place) (s : plain.Statement) → in_branch (plain.branch p s) ≡ in_statement s
branch_count p s = let a = count_append (optional of_place p) (of_statement s) in omega (arith, no_place p)

case_count : (p : Pos) (g : Option plain.Expression) (i : Option plain.Input) (ss : plain.Statements) → in_case (plain.case p g i ss) ≡ count (optional of_input i) + count (of_statements ss)
case_count p g i ss =
    let a = count_append (optional of_expression g) (optional of_input i ++ of_statements ss) in
    let b = count_append (optional of_input i) (of_statements ss) in
    omega (arith, no_choice g, scope_count (optional of_expression g ++ (optional of_input i ++ of_statements ss)))

-- how many names are declared in what a symbol derives
abbrev inner : (s : Symbol) → Value s → ℕ
inner a_name = λ v. 1
inner (many s) = total (inner s)
inner (maybe s) = or_zero (inner s)
inner (commas s) = total (inner s)
inner program = λ v. count (of_items 0 v)
inner item = or_zero in_item
inner portdecl = λ v. 1
inner head = λ v. 1 + count (each of_param v.params)
inner params = λ v. count (each of_param v)
inner param = λ v. 1
inner body = λ v. count (of_body v)
inner block = total in_statement
inner block_item = in_statement
inner decl = in_statement
inner dv = λ v. 1
inner statement = in_statement
inner closed = in_statement
inner case_item = in_statement
inner for_start = in_statement
inner for_step = in_statement
inner branch = in_branch
inner case = in_case
inner assign = λ v. count (of_action v)
inner input = λ v. count (of_input v)
inner dest = λ v. count (of_target v)
inner _ = λ v. 0

abbrev row_inner : (ss : List Symbol) → Values ss → ℕ
row_inner [] vs = 0
row_inner (s ∷ ss) vs = inner s vs.0 + row_inner ss vs.1

-- an alternative declares no more than its parts
abbrev Holds : {V : Type 0} → (V → ℕ) → Rule V → Type 0
Holds f r = (e : Extent) (x : Values r.parts) → f (r.make e x) ≤ row_inner r.parts x

infixr 20 ◌&◌
data AllHold {V : Type 0} (f : V → ℕ) : List (Rule V) → Type 0 where
  none : AllHold f []
  ◌&◌ : {r : Rule V} {rs : List (Rule V)} → Holds f r → AllHold f rs → AllHold f (r ∷ rs)

among_all : {V : Type 0} (f : V → ℕ) (rs : List (Rule V)) (r : Rule V) (at : ℕ) → AllHold f rs → slice_get rs at ≡ Some r → Holds f r
among_all f [] r at none e = absurd (cc)
among_all f (x ∷ rs) r zero (a & more) e = let g : x ≡ r = cc in subst (λ y. Holds f y) g a
among_all f (x ∷ rs) r (suc at) (a & more) e = among_all f rs r at more e

-- where no name is declared in the value
nothing : {V : Type 0} (rs : List (Rule V)) → AllHold (λ x. 0) rs
nothing [] = none
nothing (r ∷ rs) = (λ e x. omega arith) & nothing rs

all_hold : (s : Symbol) → AllHold (inner s) (rules s)
all_hold (sym o) = none
all_hold (key w) = none
all_hold a_name = none
all_hold a_number = none
all_hold (many s) = (λ e x. omega arith) & (λ e x. omega arith) & none
all_hold (maybe s) = (λ e x. omega arith) & (λ e x. omega arith) & none
all_hold (commas s) = (λ e x. omega arith) & (λ e x. omega arith) & none
all_hold program = (λ e x. omega (arith, kept_count 0 x.0)) & none
all_hold item =
    (λ e x. omega (arith, port_count x.0)) &
    (λ e x. omega (arith, function_count x.0 x.1.0)) &
    (λ e x. omega arith) & none
all_hold portdecl = (λ e x. omega arith) & none
all_hold head = (λ e x. omega arith) & none
all_hold params = (λ e x. omega arith) & (λ e x. omega arith) & (λ e x. omega (arith, params_count x.0)) & none
all_hold param =
    (λ e x. omega arith) & (λ e x. omega arith) & (λ e x. omega arith) &
    (λ e x. omega arith) & (λ e x. omega arith) & (λ e x. omega arith) & none
all_hold body = (λ e x. omega (arith, statements_count x.0)) & none
all_hold block = (λ e x. omega arith) & none
all_hold block_item = (λ e x. omega arith) & (λ e x. omega arith) & none
all_hold decl =
    (λ e x. omega (arith, declarators_count x.0 x.1.0)) &
    (λ e x. omega (arith, names_count (plain.channel false) x.1.0)) &
    (λ e x. omega (arith, names_count plain.timer x.1.0)) & none
all_hold dv = (λ e x. omega arith) & (λ e x. omega arith) & none
all_hold statement =
    (λ e x. omega arith) &
    (λ e x. omega (arith, scope_count (of_statements (plain.statements x.0)), statements_count x.0)) &
    (λ e x. omega arith) &
    (λ e x. omega (arith, no_call x.0)) &
    (λ e x. omega (arith, no_output x.0)) &
    (λ e x. omega arith) &
    (λ e x. omega (arith, if_count x.1.1.0 x.1.1.1.1.0 plain.absent)) &
    (λ e x. omega (arith, if_count x.1.1.0 x.1.1.1.1.0 (plain.present x.1.1.1.1.1.1.0))) &
    (λ e x. omega (arith, while_count x.1.1.0 x.1.1.1.1.0)) &
    (λ e x. omega (arith, do_count x.1.0 x.1.1.1.1.0)) &
    (λ e x. omega (arith, for_count (plain.maybe x.1.1.0) (plain.maybe x.1.1.1.1.1.1.0) x.1.1.1.1.0 x.1.1.1.1.1.1.1.1.0, maybe_count x.1.1.0, maybe_count x.1.1.1.1.1.1.0)) &
    (λ e x. omega (arith, no_optional of_right no_right x.1.0)) &
    (λ e x. omega arith) &
    (λ e x. omega arith) &
    (λ e x. omega (arith, branches_count x.1.1.0)) &
    (λ e x. omega (arith, repeated_count x.1.1.1.0 x.1.1.1.1.1.1.1.0 x.1.1.1.1.1.1.1.1.1.1.1.0 x.1.1.1.1.1.0.value x.1.1.1.1.1.1.1.1.1.0.value x.1.1.1.1.1.1.1.1.1.1.1.1.1.1.0)) &
    (λ e x. omega (arith, select_count x.1.1.0 (plain.cases x.1.1.1.0), cases_count x.1.1.1.0)) &
    (λ e x. omega (arith, scope_count (of_statements (plain.statements x.1.0)), statements_count x.1.0)) &
    (λ e x. omega (arith, scope_count (of_statements (plain.statements x.1.0)), statements_count x.1.0)) & none
all_hold closed = (λ e x. omega arith) & none
all_hold case_item = (λ e x. omega arith) & (λ e x. omega arith) & none
all_hold for_start = (λ e x. omega arith) & (λ e x. omega (arith, start_count x.1.1.1.0)) & none
all_hold for_step = (λ e x. omega arith) & none
all_hold branch = (λ e x. omega (arith, branch_count x.0 x.1.0)) & none
all_hold case =
    (λ e x. omega (arith, case_count x.0 x.1.0 (Some x.1.1.0) (plain.statements x.1.1.1.1.0), statements_count x.1.1.1.1.0)) &
    (λ e x. omega (arith, case_count x.0 None None (plain.statements x.1.1.0), statements_count x.1.1.0)) & none
all_hold assign =
    (λ e x. omega (arith, assign_count x.0 x.1.1.0)) &
    (λ e x. omega (arith, assign_count x.0 (plain.value x.1.1.0))) &
    (λ e x. omega (arith, no_expression x.0)) &
    (λ e x. omega (arith, no_expression x.0)) & none
all_hold input =
    (λ e x. omega (arith, input_count (record { name = x.0; time = time_of x.1.0; condition = condition_of x.1.0; target = x.1.1.1.0; stamp = x.1.1.1.1.0 }))) & none
all_hold dest = (λ e x. omega (arith, no_expression x.0)) & (λ e x. omega arith) & (λ e x. omega arith) & none
all_hold s = nothing (rules s)

mutual
  pub bounded : {toks : List Tok} {room : Room} {s : Symbol} {i j : ℕ} {v : Value s} → Derives toks room s i j v → inner s v + i ≤ j
  bounded (a_sym on) = omega arith
  bounded (a_key on) = omega arith
  bounded (named on) = omega arith
  bounded (counted on) = omega arith
  bounded {toks} {s} {i} {j} (by_rule {r} {vs} a h row f) =
      let b = row_bounded row in
      let c = among_all (inner s) (rules s) r a.at (all_hold s) a.there (extent toks i j) vs in
      omega arith

  row_bounded : {toks : List Tok} {room : Room} {ss : List Symbol} {i j : ℕ} {vs : Values ss} → Row toks room ss i j vs → row_inner ss vs + i ≤ j
  row_bounded done = omega arith
  row_bounded (next d r) = let a = bounded d in let b = row_bounded r in omega arith

-- a program declares no more names than it has tokens
pub program_bounded : (toks : List Tok) (room : Room) (items : List plain.Item) → Derives toks room program 0 (length toks) items → count (of_items 0 items) ≤ length toks
program_bounded toks room items d = let b = bounded d in omega arith
