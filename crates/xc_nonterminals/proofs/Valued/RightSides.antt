-- Calls, right sides and the other parts of statements that hold an expression.
use Rattle.std.proofs.Common.{◌≡◌, ℕ, zero, suc, ◌+◌, ◌<◌, ◌≤◌, ◌⊎◌, inl, inr, true, length, get_or, slice_get, List, [], ◌∷◌, ◌++◌, map, Option, Some, None, Result, Ok, Err, IfOk, IfErr, refl, sym as sym', ap, subst, ◌∙◌, arith}
use Rattle.std.proofs.lemmas.List.{map-append}
use Rattle.xw_words.specs.declared.pos.Pos.{Pos}
use Rattle.xc_tree.specs.declared.tree.Id.{Id}
use Rattle.xc_tree.specs.declared.tree.Arg.{Arg}
use Rattle.xc_tree.specs.declared.tree.Rhs.{Rhs}
use Rattle.xc_tree.specs.declared.token.Tok.{Tok}
use Rattle.xc_tree.specs.declared.token.Kind.TheVariants.{Name, Sym}
use Rattle.xc_tree.specs.Plain as plain
use Rattle.xc_tree.specs.Symbol.{Symbol, sym, key, a_name, a_number, expr, level, lval, place_value, atom, argument, arguments, call, rhs, initial, time, stamp}
use Rattle.xc_tree.specs.Depth.{of_expression}
use Rattle.xc_tree.specs.Derives.{On, Room, unlimited, at_most, HasRoom, Derives, named, by_rule, Prefix, nothing, whole, begins, position}
use Rattle.xc_tree.specs.Trees.{argument_of}
use Rattle.xc_nonterminals.specs.declared.stop.Stop.{Stop}
use Rattle.xc_nonterminals.specs.declared.stop.Stop.TheVariants.{Wrong, Deep, Memory}
use Rattle.xc_nonterminals.specs.Follows.{OneOf, StandsAt, has, follows, begins_operand, after_expression}
use Rattle.xc_nonterminals.specs.Reading.{GoesOn, IsFront, Reads, Refuses, TooDeep, Unfit}
use Rattle.xc_nonterminals.specs.Stops.{Stopped}
use Rattle.xc_nonterminals.specs.Operands.{IsSymbol}
use Rattle.xc_nonterminals.specs.Levels.{level_of}
use Rattle.xc_nonterminals.specs.RightSides.{IsMissing, ReadsRhs, ReadsInitial}
use Rattle.xc_nonterminals.proofs.Reading.Paths.{Roomy, begin, over_symbol, over_name, at_symbol, at_name, at_number, lacks, lacks_symbol, read, stops, finish, none_left, unfit_last}
use Rattle.xc_nonterminals.proofs.Rests.Choices.{all_open, no_one, stuck}
use Rattle.xc_nonterminals.proofs.Rests.Aheads.{alone_read, not_first, read_ahead, stops_ahead}
use Rattle.xc_nonterminals.proofs.Reading.Loops.{Run, listing}
use Rattle.xc_nonterminals.proofs.Reading.Rows.{with_comma, last_one, row_stops}
use Rattle.xc_nonterminals.proofs.Derivations.TokenSets.{false_true}
use Rattle.xc_nonterminals.proofs.Derivations.Inverse.{by_rules, by_starts, from_rules, from_starts, widen, widen_prefix, below_wider, same_kind}
use Rattle.xc_nonterminals.proofs.Valued.Operators.{token_is, token_prefix, is_operator, Onward, index, operates}
use Rattle.xc_nonterminals.proofs.Derivations.Heights.{p_expr, depth_fits, no_room}
use Rattle.xc_nonterminals.proofs.Valued.Climbing.{wider_zero, raised, raised_prefix, start, finish as finish_level}
use Rattle.xc_nonterminals.proofs.Valued.Choosing.{has_within, no_question, alone, alone_to, asked}
use Rattle.xc_nonterminals.proofs.Valued.Atoms.{each_sign, reads_name, deep_name}
use Rattle.xc_nonterminals.proofs.Reading.Tests.{from_among, among_of, operator_after, bracket_after, question_after, after_is}
use Rattle.xc_nonterminals.proofs.Reading.Runs.{no_first}
use Rattle.xc_tree.specs.Terminals as terminal

-- the place of a token that stands there
pub place_is : (toks : List Tok) (i : ℕ) (t : Tok) → i < length toks → position (slice_get toks i) ≡ (get_or toks i t).pos
place_is [] i t h = absurd (omega arith)
place_is (x ∷ xs) zero t h = refl
place_is (x ∷ xs) (suc i) t h = place_is xs i t (omega arith)

name_by : {toks : List Tok} {i : ℕ} (t : Symbol) → StandsAt toks i t → has (a_name ∷ []) t ≡ true → StandsAt toks i a_name
name_by a_name on e = on
name_by (sym o) on e = absurd (false_true e)
name_by (key w) on e = absurd (false_true e)
name_by a_number on e = absurd (false_true e)
name_by t on e = absurd on

pub name_only : {toks : List Tok} {i : ℕ} → OneOf toks i (a_name ∷ []) → StandsAt toks i a_name
name_only o = name_by o.token o.stands o.among

-- what holds of a result
pub if_ok : {A E : Type 0} {P Q : A → Type 0} (r : Result A E) → ((x : A) → P x → Q x) → IfOk r P → IfOk r Q
if_ok (Ok x) f h = f x h
if_ok (Err e) f h = h

pub if_err : {A E : Type 0} {P Q : E → Type 0} (r : Result A E) → ((e : E) → P e → Q e) → IfErr r P → IfErr r Q
if_err (Ok x) f h = h
if_err (Err e) f h = f e h

-- one argument more
pub mapped : (xs ys : List Arg) (a : Arg) → ys ≡ xs ++ (a ∷ []) → map argument_of ys ≡ map argument_of xs ++ (argument_of a ∷ [])
mapped xs ys a e = ap (map argument_of) e ∙ map-append argument_of xs (a ∷ [])

-- arguments, and the number of a core
abbrev valued : plain.Expression → Pos → plain.Argument
valued v p = record { value = v; first = p }

module _ {toks : List Tok} {room at : ℕ} where
  pub reads_argument : {j : ℕ} {v : plain.Expression} {p : Pos} → position (slice_get toks at) ≡ p → Reads toks room expr at j v → Reads toks room argument at j (valued v p)
  reads_argument {j} {v} e r = subst (λ x. Reads toks room argument at j (valued v x)) e (finish (read (begin refl tt) r refl) refl)

  pub reads_place_value : {j : ℕ} {v : plain.Expression} {p : Pos} → position (slice_get toks at) ≡ p → Reads toks room expr at j v → Reads toks room place_value at j (valued v p)
  reads_place_value {j} {v} e r = subst (λ x. Reads toks room place_value at j (valued v x)) e (finish (read (begin refl tt) r refl) refl)

  -- times and stamps
  module _ {p : Pos} (on : On toks at (Sym 23) p) where
    pub reads_time : {j : ℕ} {v : plain.Expression} → Reads toks room expr (at + 1) j v → Reads toks room time at j (record { at = p; value = v })
    reads_time r = finish (read (over_symbol (begin refl tt) on refl) r refl) refl

    pub reads_stamp : {j : ℕ} {v : plain.Expression} → Reads toks room lval (at + 1) j v → Reads toks room stamp at j (record { at = p; value = v })
    reads_stamp r = finish (read (over_symbol (begin refl tt) on refl) r refl) refl

-- where reading stops
module _ (toks : List Tok) (room at : ℕ) where
  pub stops_argument : (e : Stop) → Stopped toks room expr at e → Stopped toks room argument at e
  stops_argument e r = stops e (begin refl tt) r refl

  pub stops_place_value : (e : Stop) → Stopped toks room expr at e → Stopped toks room place_value at e
  stops_place_value e r = stops e (begin refl tt) r refl

  pub no_time : ((p : Pos) → On toks at (Sym 23) p → ⊥) → Refuses toks room time at at
  no_time none = none_left (lacks_symbol 23 (begin refl tt) none)

  pub no_stamp : ((p : Pos) → On toks at (Sym 23) p → ⊥) → Refuses toks room stamp at at
  no_stamp none = none_left (lacks_symbol 23 (begin refl tt) none)

  pub no_initial : ((p : Pos) → On toks at (Sym 22) p → ⊥) → Refuses toks room initial at at
  no_initial none = none_left (lacks_symbol 22 (begin refl tt) none)

  pub no_lval : (StandsAt toks at a_name → ⊥) → Refuses toks room lval at at
  no_lval none = stuck (no_one (a_name ∷ []) (all_open refl) (λ o. none (name_only o)))

  pub stops_time : {p : Pos} (e : Stop) → On toks at (Sym 23) p → Stopped toks room expr (at + 1) e → Stopped toks room time at e
  stops_time e on r = stops e (over_symbol (begin refl tt) on refl) r refl

  pub stops_stamp : {p : Pos} (e : Stop) → On toks at (Sym 23) p → Stopped toks room lval (at + 1) e → Stopped toks room stamp at e
  stops_stamp e on r = stops e (over_symbol (begin refl tt) on refl) r refl

  pub stops_initial : {p : Pos} (e : Stop) → On toks at (Sym 22) p → Stopped toks room rhs (at + 1) e → Stopped toks room initial at e
  stops_initial e on r = stops e (over_symbol (begin refl tt) on refl) r refl

  pub reads_initial : {p : Pos} (j : ℕ) (v : Option Rhs) → On toks at (Sym 22) p → ReadsRhs toks room (at + 1) j v → ReadsInitial toks room at j v
  reads_initial j None on r = unfit_last (over_symbol (begin refl tt) on refl) r refl refl
  reads_initial j (Some v) on r = finish (read (over_symbol (begin refl tt) on refl) r refl) refl

  -- calls
  pub no_call : (StandsAt toks at a_name → ⊥) → Refuses toks room call at at
  no_call none = stuck (no_one (a_name ∷ []) (all_open refl) (λ o. none (name_only o)))

  pub missing_call : (e : Stop) → IsMissing toks at a_name e → Stopped toks room call at e
  missing_call (Wrong m) h = subst (Refuses toks room call at) (sym' h.0) (no_call h.1)
  missing_call (Deep m) h = absurd h
  missing_call Memory h = tt

  module _ {x : List ℕ} {p : Pos} (on : On toks at (Name x) p) where
    pub unopened_call : ((q : Pos) → On toks (at + 1) (Sym 0) q → ⊥) → Refuses toks room call at (at + 1)
    unopened_call none = none_left (lacks_symbol 0 (over_name (begin refl tt) on refl) none)

    module _ {q : Pos} (opened : On toks (at + 1) (Sym 0) q) where
      pub stops_call : (e : Stop) → Stopped toks room arguments (at + 1 + 1) e → Stopped toks room call at e
      stops_call e r = stops e (over_symbol (over_name (begin refl tt) on refl) opened refl) r refl

      pub open_call : {j : ℕ} {vs : List plain.Argument} → Reads toks room arguments (at + 1 + 1) j vs → ((r : Pos) → On toks j (Sym 1) r → ⊥) → Refuses toks room call at j
      open_call r none = none_left (lacks_symbol 1 (read (over_symbol (over_name (begin refl tt) on refl) opened refl) r refl) none)

      pub reads_call : {j : ℕ} {vs : List plain.Argument} {r : Pos} → Reads toks room arguments (at + 1 + 1) j vs → On toks j (Sym 1) r → Reads toks room call at (j + 1) (record { called = record { text = x; pos = p }; arguments = vs })
      reads_call r close = finish (over_symbol (read (over_symbol (over_name (begin refl tt) on refl) opened refl) r refl) close refl) refl

abbrev pub list_of_arguments : Run (List plain.Argument)
list_of_arguments = record { need = 0; above = 0; symbol = argument; parts = []; fits = λ x. true; make = λ e x. x.0 }

-- Some arguments were read, the last of them up to a place.
pub record Listed (toks : List Tok) (room at end : ℕ) (all : List plain.Argument) : Type 0 where
  pub from : ℕ
  pub before : List plain.Argument
  pub last : plain.Argument
  pub stands : Roomy toks room arguments at from (listing list_of_arguments before ∷ [])
  pub read : Reads toks room argument from end last
  pub all_are : all ≡ before ++ (last ∷ [])

-- what the loop over arguments keeps
pub record Listing (toks : List Tok) (room at end : ℕ) (all : List plain.Argument) : Type 0 where
  pub after : at ≤ end
  pub within : end ≤ length toks
  pub listed : Listed toks room at end all

module _ {toks : List Tok} {at : ℕ} where
  -- at a token that an argument begins with
  listed_at : {room : ℕ} → OneOf toks at begins_operand → Roomy toks room arguments at at (listing list_of_arguments [] ∷ [])
  listed_at {room} o = listed_by o.token o.stands o.among
    where
      listed_by : (t : Symbol) → StandsAt toks at t → has begins_operand t ≡ true → Roomy toks room arguments at at (listing list_of_arguments [] ∷ [])
      listed_by a_name on e = at_name (begin refl tt) on.2
      listed_by a_number on e = at_number (begin refl tt) on.3
      listed_by (sym s) on e = elim (from_among s (among_of begins_operand s e)) [
        | inl z ↦ at_symbol (begin refl tt) (subst (λ x. On toks at (Sym x) on.0) z on.1)
        | inr z ↦ each_sign (λ x. On toks at (Sym x) on.0 → Roomy toks room arguments at at (listing list_of_arguments [] ∷ [])) (λ y. at_symbol (begin refl tt) y) (λ y. at_symbol (begin refl tt) y) (λ y. at_symbol (begin refl tt) y) (λ y. at_symbol (begin refl tt) y) s z.0 z.1 on.1
      ]
      listed_by (key w) on e = absurd (false_true e)
      listed_by t on e = absurd on

  pub first_listed : {room end : ℕ} {v : plain.Argument} → OneOf toks at begins_operand → Reads toks room argument at end v → Listed toks room at end (v ∷ [])
  first_listed {room} {end} {v} o r = record { from = at; before = []; last = v; stands = listed_at o; read = r; all_are = refl }

  pub first_stops : (room : ℕ) (e : Stop) → OneOf toks at begins_operand → Stopped toks room argument at e → Stopped toks room arguments at e
  first_stops room e o r = row_stops list_of_arguments [] e (listed_at o) r refl

  module _ {room end : ℕ} {all : List plain.Argument} (l : Listed toks room at end all) where
    module _ {p : Pos} (on : On toks end (Sym 7) p) where
      pub one_more_listed : {j : ℕ} {v : plain.Argument} → Reads toks room argument (end + 1) j v → Listed toks room at j (all ++ (v ∷ []))
      one_more_listed {j} {v} r = record {
        from = end + 1;
        before = l.before ++ (l.last ∷ []);
        last = v;
        stands = with_comma list_of_arguments l.before l.stands l.read on refl;
        read = r;
        all_are = ap (λ x. x ++ (v ∷ [])) l.all_are;
      }

      pub more_stops : (e : Stop) → Stopped toks room argument (end + 1) e → Stopped toks room arguments at e
      more_stops e r = row_stops list_of_arguments (l.before ++ (l.last ∷ [])) e (with_comma list_of_arguments l.before l.stands l.read on refl) r refl

    pub all_listed : ((p : Pos) → On toks end (Sym 7) p → ⊥) → Reads toks room arguments at end all
    all_listed none = subst (Reads toks room arguments at end) (sym' l.all_are) (finish (last_one list_of_arguments l.before l.stands l.read none refl) refl)

  -- no arguments
  pub no_arguments : {room : ℕ} → (OneOf toks at begins_operand → ⊥) → Reads toks room arguments at at []
  no_arguments none = finish (lacks begins_operand (begin refl tt) none) refl

-- Right sides: an expression, or a call.
module _ (toks : List Tok) where
  rhs_is : {room : Room} {i j : ℕ} {w : plain.RightSide} → Derives toks room rhs i j w → ((v : plain.Expression) × Derives toks room expr i j v × (w ≡ plain.value v)) ⊎ ((c : plain.Call) × Derives toks room call i j c)
  rhs_is {room} {i} {j} {w} d = elim (by_rules toks rhs refl d) [
    | inl e ↦ inl (e.0.0, subst (λ k. Derives toks room expr i k e.0.0) (sym' e.2.2) (widen toks (below_wider room 0) e.2.1), e.4)
    | inr (inl e) ↦ inr (e.0.0, subst (λ k. Derives toks room call i k e.0.0) (sym' e.2.2) (widen toks (below_wider room 0) e.2.1))
    | inr (inr e) ↦ absurd e
  ]

  rhs_to : {room : Room} {i n : ℕ} → Prefix toks room rhs i n → Prefix toks room expr i n ⊎ Prefix toks room call i n
  rhs_to {room} {i} {n} q = elim (by_starts toks rhs q) [
    | inl e ↦ inl (subst (Prefix toks room expr i) (sym' e) nothing)
    | inr (inl y) ↦ elim (rhs_is y.1) [ inl z ↦ inl (whole z.1) | inr z ↦ inr (whole z.1) ]
    | inr (inr (inl (h, inl p))) ↦ inl (widen_prefix toks (below_wider room 0) p)
    | inr (inr (inl (h, inr y))) ↦ absurd y.3
    | inr (inr (inr (inl (h, inl p)))) ↦ inr (widen_prefix toks (below_wider room 0) p)
    | inr (inr (inr (inl (h, inr y)))) ↦ absurd y.3
    | inr (inr (inr (inr e))) ↦ absurd e
  ]

  value_is : {room : Room} {i j : ℕ} {v : plain.Expression} → Derives toks room expr i j v → Derives toks room rhs i j (plain.value v)
  value_is {room} {i} {j} {v} d = from_rules toks rhs (inl ((v, tt), no_room room, (j, widen toks (wider_zero room) d, refl), refl, refl))

  value_to : {room : Room} {i n : ℕ} → Prefix toks room expr i n → Prefix toks room rhs i n
  value_to {room} q = from_starts toks rhs (inl (no_room room, inl (widen_prefix toks (wider_zero room) q)))

  called_to : {room : Room} {i n : ℕ} → Prefix toks room call i n → Prefix toks room rhs i n
  called_to {room} q = from_starts toks rhs (inr (inl (no_room room, inl (widen_prefix toks (wider_zero room) q))))

  rhs_goes : (k : ℕ) → GoesOn toks expr k → GoesOn toks rhs k
  rhs_goes k g = record { token = g.token; stands = g.stands; among = has_within (follows expr) (follows rhs) g.token refl g.among }

  rhs_front : {k : ℕ} {v : plain.Expression} {w : plain.RightSide} → IsFront toks expr k v → IsFront toks rhs k w
  rhs_front {k} g = record { goes_on = rhs_goes k g.goes_on; may = refl }

  name_is : {room : Room} {i j : ℕ} {v : Id} → Derives toks room a_name i j v → j ≡ i + 1
  name_is (named on) = refl
  name_is (by_rule a h row f) = let e = a.there in absurd (cc)

  -- a call has a bracket behind its name
  call_has : {room : Room} {i j : ℕ} {c : plain.Call} → Derives toks room call i j c → IsSymbol toks (i + 1) 0
  call_has {room} {i} d = elim (by_rules toks call refl d) [
    | inl e ↦ let y = token_is toks e.2.2.1 in (e.0.1.0, subst (λ k. On toks k (Sym 0) e.0.1.0) (name_is e.2.1) y.1)
    | inr e ↦ absurd e
  ]

  name_has : {room : Room} {i j : ℕ} {v : Id} → Derives toks room a_name i j v → StandsAt toks i a_name
  name_has (named {t} {p} on) = (t, p, on)
  name_has (by_rule a h row f) = let e = a.there in absurd (cc)

  call_name : {room : Room} {i j : ℕ} {c : plain.Call} → Derives toks room call i j c → StandsAt toks i a_name
  call_name d = elim (by_rules toks call refl d) [ inl e ↦ name_has e.2.1 | inr e ↦ absurd e ]

  name_to : {room : Room} {i n : ℕ} → Prefix toks room a_name i n → (n ≤ i) ⊎ (StandsAt toks i a_name × (n ≤ i + 1))
  name_to nothing = inl (omega arith)
  name_to (whole d) = let e = name_is d in inr (name_has d, omega arith)
  name_to (begins a h q) = let e = a.there in absurd (cc)

  -- a beginning of a call: at most its name, or a bracket is behind it
  call_to : {room : Room} {i n : ℕ} → Prefix toks room call i n → (n ≤ i) ⊎ (StandsAt toks i a_name × ((n ≤ i + 1) ⊎ IsSymbol toks (i + 1) 0))
  call_to {room} {i} {n} q = elim (by_starts toks call q) [
    | inl e ↦ inl (omega arith)
    | inr (inl y) ↦ inr (call_name y.1, inr (call_has y.1))
    | inr (inr (inl (h, inl p))) ↦ elim (name_to p) [ inl e ↦ inl e | inr e ↦ inr (e.0, inl e.1) ]
    | inr (inr (inl (h, inr (k, x, d, inl p)))) ↦ let e = name_is d in inr (name_has d, elim (token_prefix toks p) [ inl f ↦ inl (omega arith) | inr t ↦ inr (t.1, subst (λ k. On toks k (Sym 0) t.1) e t.2) ])
    | inr (inr (inl (h, inr (k, x, d, inr (m, p, t, y))))) ↦ let e = name_is d in let z = token_is toks t in inr (name_has d, inr (p, subst (λ k. On toks k (Sym 0) p) e z.1))
    | inr (inr (inr e)) ↦ absurd e
  ]

  -- no expression has no node
  no_depth : {i j : ℕ} {v : plain.Expression} → Derives toks (at_most 0) expr i j v → ⊥
  no_depth {v} d = at_least v (depth_fits toks p_expr d)
    where
      at_least : (v : plain.Expression) → of_expression v ≤ 0 → ⊥
      at_least (plain.expression f p) h = absurd (omega arith)

  leveled_of : {room : Room} {i : ℕ} {t : List ℕ} {p : Pos} (m : ℕ) → HasRoom room 1 → On toks i (Name t) p → Derives toks room (level m) i (i + 1) (plain.expression (plain.name t) p)
  leveled_of {room} {i} {t} {p} m h on =
      let a : Derives toks room atom i (i + 1) (plain.expression (plain.name t) p) = from_rules toks atom (inr (inl ((record { text = t; pos = p }, tt), h, (i + 1, named on, refl), refl, refl))) in
      let b : Derives toks room (level 0) i (i + 1) (plain.expression (plain.name t) p) = from_rules toks (level 0) (inl ((plain.expression (plain.name t) p, tt), no_room room, (i + 1, widen toks (wider_zero room) a, refl), refl, refl)) in
      raised toks 0 m (omega arith) b

  -- a name alone
  named_alone : {room : Room} {i : ℕ} {t : List ℕ} {p : Pos} → HasRoom room 1 → On toks i (Name t) p → Derives toks room expr i (i + 1) (plain.expression (plain.name t) p)
  named_alone h on = alone toks (leveled_of 10 h on)

  -- the expression that a name alone is, where it doesn't go on
  pub name_alone : {i : ℕ} {t : List ℕ} {p : Pos} → On toks i (Name t) p → (OneOf toks (i + 1) after_expression → ⊥) → Reads toks 1 expr i (i + 1) (plain.expression (plain.name t) p)
  name_alone {i} {t} {p} on none =
      no_question toks
      (finish_level toks (start toks (reads_name {room = 1} (omega arith) on (λ q x. none (bracket_after x)))) (omega arith) (λ l o h s. none (operator_after h s)))
      (λ q x. none (question_after x))

  pub paren_ends : {i : ℕ} {q : Pos} → On toks i (Sym 0) q → OneOf toks i after_expression → ⊥
  paren_ends on o = elim (after_is o) [
    | inl y ↦ let e = same_kind on y.1 in absurd (cc)
    | inr (index x) ↦ let e = same_kind on x in absurd (cc)
    | inr (operates {l} {o = m} h s) ↦
        let e = same_kind on s.on in
        let f : 0 ≡ m.mark = cc in
        let g : level_of 0 ≡ suc l = ap level_of f ∙ s.binds in
        absurd (cc)
  ]

  module _ {at : ℕ} (free : StandsAt toks at a_name → IsSymbol toks (at + 1) 0 → ⊥) where
    no_call_here : {wide : Room} {j : ℕ} {c : plain.Call} → Derives toks wide call at j c → ⊥
    no_call_here d = free (call_name d) (call_has d)

    short_call : {wide : Room} {n m : ℕ} → at ≤ m → (StandsAt toks at a_name → at + 1 ≤ m) → Prefix toks wide call at n → n ≤ m
    short_call h f q = elim (call_to q) [
      | inl e ↦ omega arith
      | inr y ↦ elim y.1 [ inl e ↦ let g = f y.0 in omega arith | inr z ↦ absurd (free y.0 z) ]
    ]

    pub reads_value : {room j : ℕ} {v : plain.Expression} → at < j → Reads toks room expr at j v → Reads toks room rhs at j (plain.value v)
    reads_value {room} {j} {v} h r = record {
      derives = value_is r.derives;
      only = λ k w d. elim (rhs_is d) [
        | inl y ↦ elim (r.only k y.0 y.1) [ inl e ↦ inl (e.0, y.2 ∙ ap plain.value e.1) | inr g ↦ inr (rhs_front g) ]
        | inr y ↦ absurd (no_call_here y.1)
      ];
      most = λ n q. elim (rhs_to q) [ inl y ↦ r.most n y | inr y ↦ short_call (omega arith) (λ x. omega arith) y ];
    }

    pub stops_value : (room : ℕ) → (StandsAt toks at a_name → 1 ≤ room) → (e : Stop) → Stopped toks room expr at e → Stopped toks room rhs at e
    stops_value room f (Wrong x) r = record {
      prefix = value_to r.prefix;
      never = λ k w d. elim (rhs_is d) [ inl y ↦ rhs_front (r.never k y.0 y.1) | inr y ↦ absurd (no_call_here y.1) ];
      most = λ n q. elim (rhs_to q) [ inl y ↦ r.most n y | inr y ↦ short_call (r.most at nothing) (λ z. r.most (at + 1) (whole (named_alone tt z.2))) y ];
    }
    stops_value room f (Deep x) r = record {
      prefix = value_to r.prefix;
      begins = value_to r.begins;
      never = λ k w d. elim (rhs_is d) [ inl y ↦ rhs_front (r.never k y.0 y.1) | inr y ↦ absurd (no_call_here y.1) ];
      most = λ n q. elim (rhs_to q) [ inl y ↦ r.most n y | inr y ↦ short_call (r.most at nothing) (λ z. r.most (at + 1) (whole (named_alone (f z) z.2))) y ];
    }
    stops_value room f Memory r = tt

  -- a call
  module _ {room at : ℕ} {t : List ℕ} {p q : Pos} (on : On toks at (Name t) p) (paren : On toks (at + 1) (Sym 0) q) where
    pub reads_result : {j : ℕ} {c : plain.Call} → at + 1 ≤ j → Reads toks room call at j c → Reads toks room rhs at j (plain.result c)
    reads_result h r = finish (read_ahead (not_first (begin refl tt) (alone_read (name_alone on (paren_ends paren))) (omega arith) terminal.paren (q, paren) refl) r h refl) refl

  pub stops_result : (room : ℕ) {at : ℕ} {t : List ℕ} {p q : Pos} → On toks at (Name t) p → On toks (at + 1) (Sym 0) q → (e : Stop) → Stopped toks room call at e → Stopped toks room rhs at e
  stops_result room {q} on paren e r = stops_ahead e (not_first (begin refl tt) (alone_read (name_alone on (paren_ends paren))) (omega arith) terminal.paren (q, paren) refl) (over_name (begin refl tt) on refl) r refl

  -- a name with no room
  module _ {at : ℕ} {t : List ℕ} {p : Pos} (on : On toks at (Name t) p) (none : (q : Pos) → On toks (at + 1) (Sym 0) q → ⊥) where
    named_to : Prefix toks (at_most 0) rhs at (at + 1)
    named_to = called_to (let st : Roomy toks 0 call at (at + 1) _ = over_name (begin refl tt) on refl in st.stands.held.here)

    no_value : {k : ℕ} {w : plain.RightSide} → Derives toks (at_most 0) rhs at k w → ⊥
    no_value d = elim (rhs_is d) [ inl y ↦ no_depth y.1 | inr y ↦ let z = call_has y.1 in none z.0 z.1 ]

    -- the token behind it, where an expression goes on with it
    longer : IsSymbol toks (at + 1) 9 ⊎ Onward toks 10 (at + 1) → Prefix toks unlimited expr at (at + 1 + 1)
    longer (inl y) = asked toks tt (leveled_of 10 tt on) y.1 refl
    longer (inr (index x)) = alone_to toks (raised_prefix toks 0 10 (omega arith) (let st : Roomy toks 1 (level 0) at (at + 1 + 1) _ = over_symbol (over_name (begin refl (omega arith)) on refl) x refl in st.stands.free.here))
    longer (inr (operates {l} {o} h s)) = alone_to toks (raised_prefix toks (suc l) 10 (omega arith) (from_starts toks (level (suc l)) (inr (inl (tt, inr (at + 1, plain.expression (plain.name t) p, leveled_of (suc l) tt on, inr (at + 1 + 1, o, is_operator toks s, inl nothing)))))))

    pub deep_name_goes_on : OneOf toks (at + 1) after_expression → TooDeep toks 0 rhs at (at + 1)
    deep_name_goes_on o = record {
      prefix = named_to;
      begins = value_to (longer (after_is o));
      never = λ k w d. absurd (no_value d);
      most = λ n q. elim (rhs_to q) [
        | inl y ↦ let d : TooDeep toks 0 expr at at = no_first toks 0 at (Deep at) (deep_name on) in let e = d.most n y in omega arith
        | inr y ↦ elim (call_to y) [ inl e ↦ omega arith | inr z ↦ elim z.1 [ inl e ↦ e | inr w ↦ absurd (none w.0 w.1) ] ]
      ];
    }

    pub unfit_name : (OneOf toks (at + 1) after_expression → ⊥) → Unfit toks 0 rhs at (at + 1)
    unfit_name free = let r = name_alone on free in record {
      value = plain.value (plain.expression (plain.name t) p);
      derives = value_is (widen toks tt r.derives);
      only = λ k w d. elim (rhs_is d) [
        | inl y ↦ elim (r.only k y.0 y.1) [ inl e ↦ inl (e.0, y.2 ∙ ap plain.value e.1) | inr g ↦ inr (rhs_front g) ]
        | inr y ↦ let z = call_has y.1 in absurd (none z.0 z.1)
      ];
      most = λ n q. elim (rhs_to q) [
        | inl y ↦ r.most n y
        | inr y ↦ elim (call_to y) [ inl e ↦ omega arith | inr z ↦ elim z.1 [ inl e ↦ e | inr w ↦ absurd (none w.0 w.1) ] ]
      ];
      prefix = named_to;
      never = λ k w d. absurd (no_value d);
    }
