-- The tables of first tokens fit each alternative of the grammar.
use Rattle.std.proofs.Common.{◌≡◌, ℕ, zero, suc, inl, inr, Bool, true, false, ◌&&◌, List, [], ◌∷◌, ◌++◌, map, if◌then◌else◌, slice_get, Some, None, refl, subst}
use Rattle.std.proofs.lemmas.Bool.{and_parts}
use Rattle.xc_tree.specs.Symbol.{Symbol, sym, key, a_name, a_number, many, maybe, commas, level, operator, program, item, portdecl, dir, place, place_value, head, result, word, params, param, body, block, block_item, decl, dv, initial, statement, closed, case_item, for_start, for_step, branch, case, guard, assign, assign_op, rhs, call, arguments, argument, lval, output, input, time, stamp, waits, test, dest, expr, sign, atom, Value}
use Rattle.xc_tree.specs.Grammar.{Rule, rules, operators, one_of}
use Rattle.xc_nonterminals.specs.Follows.{has, first, nullable}
use Rattle.xc_nonterminals.proofs.Rests.Opening.{within}
use Rattle.xc_nonterminals.proofs.Derivations.TokenSets.{has_append, has_left, has_right, within_has}
use Rattle.xc_tree.specs.Terminals as terminal

-- the tokens that some symbols can begin with, and whether they may be no token
abbrev pub row_firsts : List Symbol → List Symbol
row_firsts [] = []
row_firsts (s ∷ ss) = first s ++ (if nullable s then row_firsts ss else [])

abbrev pub row_nullable : List Symbol → Bool
row_nullable [] = true
row_nullable (s ∷ ss) = nullable s && row_nullable ss

abbrev pub implies : Bool → Bool → Bool
implies true b = b
implies false b = true

-- whether the first tokens of all alternatives are those of the symbol
abbrev pub covers : {V : Type 0} → Symbol → List (Rule V) → Bool
covers s [] = true
covers s (r ∷ rs) = (within (row_firsts r.parts) (first s) && implies (row_nullable r.parts) (nullable s)) && covers s rs

covered-program : covers program (rules program) ≡ true
covered-program = refl

covered-item : covers item (rules item) ≡ true
covered-item = refl

covered-portdecl : covers portdecl (rules portdecl) ≡ true
covered-portdecl = refl

covered-dir : covers dir (rules dir) ≡ true
covered-dir = refl

covered-place : covers place (rules place) ≡ true
covered-place = refl

covered-place_value : covers place_value (rules place_value) ≡ true
covered-place_value = refl

covered-head : covers head (rules head) ≡ true
covered-head = refl

covered-result : covers result (rules result) ≡ true
covered-result = refl

covered-word : covers word (rules word) ≡ true
covered-word = refl

covered-params : covers params (rules params) ≡ true
covered-params = refl

covered-param : covers param (rules param) ≡ true
covered-param = refl

covered-body : covers body (rules body) ≡ true
covered-body = refl

covered-block : covers block (rules block) ≡ true
covered-block = refl

covered-block_item : covers block_item (rules block_item) ≡ true
covered-block_item = refl

covered-decl : covers decl (rules decl) ≡ true
covered-decl = refl

covered-dv : covers dv (rules dv) ≡ true
covered-dv = refl

covered-initial : covers initial (rules initial) ≡ true
covered-initial = refl

covered-statement : covers statement (rules statement) ≡ true
covered-statement = refl

covered-closed : covers closed (rules closed) ≡ true
covered-closed = refl

covered-case_item : covers case_item (rules case_item) ≡ true
covered-case_item = refl

covered-for_start : covers for_start (rules for_start) ≡ true
covered-for_start = refl

covered-for_step : covers for_step (rules for_step) ≡ true
covered-for_step = refl

covered-branch : covers branch (rules branch) ≡ true
covered-branch = refl

covered-case : covers case (rules case) ≡ true
covered-case = refl

covered-guard : covers guard (rules guard) ≡ true
covered-guard = refl

covered-assign : covers assign (rules assign) ≡ true
covered-assign = refl

covered-assign_op : covers assign_op (rules assign_op) ≡ true
covered-assign_op = refl

covered-rhs : covers rhs (rules rhs) ≡ true
covered-rhs = refl

covered-call : covers call (rules call) ≡ true
covered-call = refl

covered-arguments : covers arguments (rules arguments) ≡ true
covered-arguments = refl

covered-argument : covers argument (rules argument) ≡ true
covered-argument = refl

covered-lval : covers lval (rules lval) ≡ true
covered-lval = refl

covered-output : covers output (rules output) ≡ true
covered-output = refl

covered-input : covers input (rules input) ≡ true
covered-input = refl

covered-time : covers time (rules time) ≡ true
covered-time = refl

covered-stamp : covers stamp (rules stamp) ≡ true
covered-stamp = refl

covered-waits : covers waits (rules waits) ≡ true
covered-waits = refl

covered-test : covers test (rules test) ≡ true
covered-test = refl

covered-dest : covers dest (rules dest) ≡ true
covered-dest = refl

covered-expr : covers expr (rules expr) ≡ true
covered-expr = refl

covered-sign : covers sign (rules sign) ≡ true
covered-sign = refl

covered-atom : covers atom (rules atom) ≡ true
covered-atom = refl

-- the first tokens of an alternative are those of its symbol, and only a nullable symbol has a nullable one
pub record Fits (s : Symbol) (parts : List Symbol) : Type 0 where
  pub first : (t : Symbol) → has (row_firsts parts) t ≡ true → has (first s) t ≡ true
  pub null : row_nullable parts ≡ true → nullable s ≡ true

implied : (a b : Bool) → implies a b ≡ true → a ≡ true → b ≡ true
implied true b i e = i
implied false b i e = absurd (cc)

covers_fits : {V : Type 0} (s : Symbol) (rs : List (Rule V)) → covers s rs ≡ true → (r : Rule V) (at : ℕ) → slice_get rs at ≡ Some r → Fits s r.parts
covers_fits s [] c r at e = absurd (cc)
covers_fits s (x ∷ rs) c r zero e =
    let p = and_parts (within (row_firsts x.parts) (first s) && implies (row_nullable x.parts) (nullable s)) (covers s rs) c in
    let q = and_parts (within (row_firsts x.parts) (first s)) (implies (row_nullable x.parts) (nullable s)) p.0 in
    let f : x ≡ r = cc in
    subst (λ y. Fits s y.parts) f (record { first = λ t. within_has (row_firsts x.parts) (first s) t q.0; null = implied (row_nullable x.parts) (nullable s) q.1 })
covers_fits s (x ∷ rs) c r (suc at) e =
    let p = and_parts (within (row_firsts x.parts) (first s) && implies (row_nullable x.parts) (nullable s)) (covers s rs) c in
    covers_fits s rs p.1 r at e

none_of : {V : Type 0} (s : Symbol) (r : Rule V) (at : ℕ) → slice_get [] at ≡ Some r → Fits s r.parts
none_of s r at e = absurd (cc)

empty_fits : (s : Symbol) → nullable s ≡ true → Fits s []
empty_fits s n = record { first = λ t e. absurd (cc); null = λ e. n }

-- an alternative that begins with the symbol whose first tokens these are
list_first : (xs ys : List Symbol) (b : Bool) (t : Symbol) → (has ys t ≡ true → has xs t ≡ true) → has (xs ++ (if b then ys else [])) t ≡ true → has xs t ≡ true
list_first xs ys b t f e = elim (has_append xs (if b then ys else []) t e) [ inl g ↦ g | inr g ↦ by_case b g ]
  where
    by_case : (c : Bool) → has (if c then ys else []) t ≡ true → has xs t ≡ true
    by_case true g = f g
    by_case false g = absurd (cc)

many_fits : (s : Symbol) (r : Rule (Value (many s))) (at : ℕ) → slice_get (rules (many s)) at ≡ Some r → Fits (many s) r.parts
many_fits s r zero e = let f : record { parts = []; fits = λ x. true; nodes = 0; make = λ e x. [] } ≡ r = cc in subst (λ y. Fits (many s) y.parts) f (empty_fits (many s) refl)
many_fits s r (suc zero) e =
    let f : record { parts = s ∷ many s ∷ []; fits = λ x. true; nodes = 0; make = λ e x. x.0 ∷ x.1.0 } ≡ r = cc in
    subst (λ y. Fits (many s) y.parts) f (record {
      first = λ t. list_first (first s) (first s ++ []) (nullable s) t (λ g. list_first (first s) [] true t (λ h. absurd (cc)) g);
      null = λ g. refl;
    })
many_fits s r (suc (suc n)) e = none_of (many s) r n e

maybe_fits : (s : Symbol) (r : Rule (Value (maybe s))) (at : ℕ) → slice_get (rules (maybe s)) at ≡ Some r → Fits (maybe s) r.parts
maybe_fits s r zero e = let f : record { parts = []; fits = λ x. true; nodes = 0; make = λ e x. None } ≡ r = cc in subst (λ y. Fits (maybe s) y.parts) f (empty_fits (maybe s) refl)
maybe_fits s r (suc zero) e =
    let f : record { parts = s ∷ []; fits = λ x. true; nodes = 0; make = λ e x. Some x.0 } ≡ r = cc in
    subst (λ y. Fits (maybe s) y.parts) f (record { first = λ t. list_first (first s) [] (nullable s) t (λ h. absurd (cc)); null = λ g. refl })
maybe_fits s r (suc (suc n)) e = none_of (maybe s) r n e

commas_fits : (s : Symbol) (r : Rule (Value (commas s))) (at : ℕ) → slice_get (rules (commas s)) at ≡ Some r → Fits (commas s) r.parts
commas_fits s r zero e =
    let f : record { parts = s ∷ []; fits = λ x. true; nodes = 0; make = λ e x. x.0 ∷ [] } ≡ r = cc in
    subst (λ y. Fits (commas s) y.parts) f (record {
      first = λ t h. has_left (first s) (if nullable s then terminal.comma ∷ [] else []) t (list_first (first s) [] (nullable s) t (λ g. absurd (cc)) h);
      null = λ g. (and_parts (nullable s) true g).0;
    })
commas_fits s r (suc zero) e =
    let f : record { parts = s ∷ terminal.comma ∷ commas s ∷ []; fits = λ x. true; nodes = 0; make = λ e x. x.0 ∷ x.1.1.0 } ≡ r = cc in
    subst (λ y. Fits (commas s) y.parts) f (record {
      first = λ t h. h;
      null = λ g. (and_parts (nullable s) false g).0;
    })
commas_fits s r (suc (suc n)) e = none_of (commas s) r n e

one_of_fits : (m : ℕ) (os : List ℕ) → ((t : Symbol) → has (map sym os) t ≡ true → has (first (operator m)) t ≡ true) → (r : Rule (Value (operator m))) (at : ℕ) → slice_get (one_of os) at ≡ Some r → Fits (operator m) r.parts
one_of_fits m [] w r at e = absurd (cc)
one_of_fits m (o ∷ os) w r zero e =
    let f : record { parts = sym o ∷ []; fits = λ x. true; nodes = 0; make = λ e x. record { mark = o; pos = x.0 } } ≡ r = cc in
    subst (λ y. Fits (operator m) y.parts) f (record {
      first = λ t h. w t (has_left (sym o ∷ []) (map sym os) t h);
      null = λ g. absurd (cc);
    })
one_of_fits m (o ∷ os) w r (suc at) e = one_of_fits m os (λ t h. w t (has_right (sym o ∷ []) (map sym os) t h)) r at e

covered-zero : covers (level zero) (rules (level zero)) ≡ true
covered-zero = refl

covered-suc : (m : ℕ) → covers (level (suc m)) (rules (level (suc m))) ≡ true
covered-suc m = refl

-- so it is with each alternative of the grammar
pub all_fit : (s : Symbol) (r : Rule (Value s)) (at : ℕ) → slice_get (rules s) at ≡ Some r → Fits s r.parts
all_fit (sym o) r at e = none_of (sym o) r at e
all_fit (key w) r at e = none_of (key w) r at e
all_fit a_name r at e = none_of a_name r at e
all_fit a_number r at e = none_of a_number r at e
all_fit (many s) r at e = many_fits s r at e
all_fit (maybe s) r at e = maybe_fits s r at e
all_fit (commas s) r at e = commas_fits s r at e
all_fit (level zero) r at e = covers_fits (level zero) (rules (level zero)) covered-zero r at e
all_fit (level (suc m)) r at e = covers_fits (level (suc m)) (rules (level (suc m))) (covered-suc m) r at e
all_fit (operator m) r at e = one_of_fits m (operators m) (λ t h. h) r at e
all_fit program r at e = covers_fits program (rules program) covered-program r at e
all_fit item r at e = covers_fits item (rules item) covered-item r at e
all_fit portdecl r at e = covers_fits portdecl (rules portdecl) covered-portdecl r at e
all_fit dir r at e = covers_fits dir (rules dir) covered-dir r at e
all_fit place r at e = covers_fits place (rules place) covered-place r at e
all_fit place_value r at e = covers_fits place_value (rules place_value) covered-place_value r at e
all_fit head r at e = covers_fits head (rules head) covered-head r at e
all_fit result r at e = covers_fits result (rules result) covered-result r at e
all_fit word r at e = covers_fits word (rules word) covered-word r at e
all_fit params r at e = covers_fits params (rules params) covered-params r at e
all_fit param r at e = covers_fits param (rules param) covered-param r at e
all_fit body r at e = covers_fits body (rules body) covered-body r at e
all_fit block r at e = covers_fits block (rules block) covered-block r at e
all_fit block_item r at e = covers_fits block_item (rules block_item) covered-block_item r at e
all_fit decl r at e = covers_fits decl (rules decl) covered-decl r at e
all_fit dv r at e = covers_fits dv (rules dv) covered-dv r at e
all_fit initial r at e = covers_fits initial (rules initial) covered-initial r at e
all_fit statement r at e = covers_fits statement (rules statement) covered-statement r at e
all_fit closed r at e = covers_fits closed (rules closed) covered-closed r at e
all_fit case_item r at e = covers_fits case_item (rules case_item) covered-case_item r at e
all_fit for_start r at e = covers_fits for_start (rules for_start) covered-for_start r at e
all_fit for_step r at e = covers_fits for_step (rules for_step) covered-for_step r at e
all_fit branch r at e = covers_fits branch (rules branch) covered-branch r at e
all_fit case r at e = covers_fits case (rules case) covered-case r at e
all_fit guard r at e = covers_fits guard (rules guard) covered-guard r at e
all_fit assign r at e = covers_fits assign (rules assign) covered-assign r at e
all_fit assign_op r at e = covers_fits assign_op (rules assign_op) covered-assign_op r at e
all_fit rhs r at e = covers_fits rhs (rules rhs) covered-rhs r at e
all_fit call r at e = covers_fits call (rules call) covered-call r at e
all_fit arguments r at e = covers_fits arguments (rules arguments) covered-arguments r at e
all_fit argument r at e = covers_fits argument (rules argument) covered-argument r at e
all_fit lval r at e = covers_fits lval (rules lval) covered-lval r at e
all_fit output r at e = covers_fits output (rules output) covered-output r at e
all_fit input r at e = covers_fits input (rules input) covered-input r at e
all_fit time r at e = covers_fits time (rules time) covered-time r at e
all_fit stamp r at e = covers_fits stamp (rules stamp) covered-stamp r at e
all_fit waits r at e = covers_fits waits (rules waits) covered-waits r at e
all_fit test r at e = covers_fits test (rules test) covered-test r at e
all_fit dest r at e = covers_fits dest (rules dest) covered-dest r at e
all_fit expr r at e = covers_fits expr (rules expr) covered-expr r at e
all_fit sign r at e = covers_fits sign (rules sign) covered-sign r at e
all_fit atom r at e = covers_fits atom (rules atom) covered-atom r at e
