-- What is said of the arguments of a call together, and a call by it.
use Rattle.std.proofs.Common.{◌≡◌, ℕ, ◌+◌, ◌<◌, ◌≤◌, Bool, true, false, not, ◌&&◌, ◌||◌, nat_eq, is_some, List, [], ◌∷◌, ◌++◌, length, suc, zero, map, drop, get_or, slice_get, option_map, Option, Some, None, refl, sym, ap, ◌∙◌, add-one}
use Rattle.xw_words.specs.declared.pos.Pos.{Pos}
use Rattle.xw_words.specs.declared.pos.Broken.{Broken}
use Rattle.std.proofs.lemmas.List.{drop_all, length-map}
use Rattle.xw_words.proofs.Lists.{drop_item}
use Rattle.xc_tree.specs.declared.tree.Arg.{Arg}
use Rattle.xc_tree.specs.declared.tree.FuncItem.{FuncItem}
use Rattle.xc_tree.specs.declared.tree.Id.{Id}
use Rattle.xc_tree.specs.declared.tree.Param.{Param}
use Rattle.xc_tree.specs.declared.tree.ParamKind.{ParamKind}
use Rattle.xc_tree.specs.Trees.{argument_of, expression_of, head_of}
use Rattle.xc_tree.specs.declared.names.Mark.{Mark}
use Rattle.xc_tree.specs.declared.names.What.{What}
use Rattle.xc_tree.specs.Least.{first_of}
use Rattle.xc_tree.specs.Names.Marks as marks
use Rattle.xc_tree.specs.Plain as plain
use Rattle.xc_tree.specs.Shapes.Enclosing.{Enclosing, in_transaction}
use Rattle.xc_tree.specs.Shapes.Rules.{is_channel_among}
use Rattle.xc_tree.specs.Types.Calls.{Argument, arguments, first_of as kind_first, rest_of, fits, referred, is_channel_given, given_by}
use Rattle.xc_tree.specs.Types.Named.{NamedProgram, Name, past, what_at, function_of}
use Rattle.xc_tree.specs.Types.Rules.{broken_where, has_number, gives_word, misfits, again, is_one_of, with_variable}
use Rattle.xc_tree.specs.Types.Sites.{Site}
use Rattle.xc_tree.specs.Types.Sites as site
use Rattle.xc_tree.specs.Types.Words.{is_among}
use Rattle.xc_types.specs.declared.judged.Judged.{Judged}
use Rattle.xc_types.specs.declared.checker.Checker.{Checker}
use Rattle.xc_types.specs.Judged.{judged, judged_nothing, judged_with, with_last, has_number_of, kind_of, with_call}
use Rattle.xc_types.specs.Checker.{saw, all_broken, first_among, first_with, broken_at, one_more_name, with_broken, with_first}
use Rattle.xc_types.proofs.Firsts.{first_from, others_first}
use Rattle.xc_types.proofs.Joins.{one, first_join, saw_join, saw_names, saw_nothing}
use Rattle.xc_types.proofs.Steps.{saw_call, names_more}

-- one rule that is broken at some of these places
first_one : (best : Option Broken) (t : Bool) (n : ℕ) (p : Pos) (ps : List Pos) →
    first_among best (map (broken_at n) (broken_where t p ++ ps)) ≡ first_among (first_with t n p best) (map (broken_at n) ps)
first_one best true n p ps = refl
first_one best false n p ps = refl

pub misfit_of : (j : Judged) (given : List Argument) → (judged j given).misfit ≡ first_among j.misfit (map (broken_at 406) (misfits given))
misfit_of j [] = refl
misfit_of j (a ∷ rest) = misfit_of (judged_with j a) rest ∙ sym (first_one j.misfit (not (fits a.parameter a.given)) 406 a.first (misfits rest))

or_last : (a b c : Bool) → (a || (b || c)) ≡ (b || (a || c))
or_last true true c = refl
or_last true false c = refl
or_last false true c = refl
or_last false false c = refl

-- a variable is among the same, whether one more stands at their end or before them
among_last : (vs : List ℕ) (v w : ℕ) → is_among (vs ++ v ∷ []) w ≡ (nat_eq v w || is_among vs w)
among_last [] v w = refl
among_last (x ∷ xs) v w = ap (λ t. nat_eq x w || t) (among_last xs v w) ∙ or_last (nat_eq x w) (nat_eq v w) (is_among xs w)

-- the same variables are among both
record AreSame (vs ws : List ℕ) : Type 0 where
  same : (v : ℕ) → is_among vs v ≡ is_among ws v

same_with : (vs ws : List ℕ) (v : Option ℕ) → AreSame vs ws → AreSame (with_last vs v) (with_variable v ws)
same_with vs ws None h = h
same_with vs ws (Some v) h = record { same = λ w. among_last vs v w ∙ ap (λ t. nat_eq v w || t) (h.same w) }

same_one : (vs ws : List ℕ) (v : Option ℕ) → AreSame vs ws → is_one_of vs v ≡ is_one_of ws v
same_one vs ws None h = refl
same_one vs ws (Some v) h = h.same v

again_of : (j : Judged) (before : List ℕ) (given : List Argument) → AreSame j.variables before → (judged j given).again ≡ first_among j.again (map (broken_at 416) (again before given))
again_of j before [] h = refl
again_of j before (a ∷ rest) h =
    again_of (judged_with j a) (with_variable (referred a) before) rest (same_with j.variables before (referred a) h)
    ∙ ap (λ t. first_among (first_with t 416 a.first j.again) (map (broken_at 416) (again (with_variable (referred a) before) rest))) (same_one j.variables before (referred a) h)
    ∙ sym (first_one j.again (is_one_of before (referred a)) 416 a.first (again (with_variable (referred a) before) rest))

or_regroup : (a b c : Bool) → ((a || b) || c) ≡ (a || (b || c))
or_regroup true b c = refl
or_regroup false b c = refl

or_none : (a : Bool) → (a || false) ≡ a
or_none true = refl
or_none false = refl

channel_of : (j : Judged) (given : List Argument) → (judged j given).has_channel ≡ (j.has_channel || is_channel_among given)
channel_of j [] = sym (or_none j.has_channel)
channel_of j (a ∷ rest) = channel_of (judged_with j a) rest ∙ or_regroup j.has_channel (is_channel_given a.given) (is_channel_among rest)

length_arguments : (n : NamedProgram) (k : ℕ) (ps : List Param) (given : List plain.Argument) → length (arguments n k ps given) ≡ length given
length_arguments n k ps [] = refl
length_arguments n k ps (a ∷ rest) = ap (λ m. suc m) (length_arguments n (past k (marks.of_argument a)) (rest_of ps) rest)

pub number_of : (n : NamedProgram) (k : ℕ) (ps : List Param) (given : List plain.Argument) (meant : Option plain.Head) → has_number meant (arguments n k ps given) ≡ has_number_of meant (length given)
number_of n k ps given None = refl
number_of n k ps given (Some h) = ap (λ m. nat_eq m (length h.params)) (length_arguments n k ps given)

-- a rule that is broken at one place, and others behind it
first_step : (best : Option Broken) (t : Bool) (n : ℕ) (p : Pos) (others : List Broken) →
    first_among best (map (broken_at n) (broken_where t p) ++ others) ≡ first_among (first_with t n p best) others
first_step best true n p others = refl
first_step best false n p others = refl

-- a rule that is broken at many places, and others behind it
first_many : (best : Option Broken) (many others : List Broken) → first_among best (many ++ others) ≡ first_among (first_of best (first_among None many)) others
first_many best many others = first_join best many others ∙ ap (λ b. first_among b others) (first_from best many)

-- what a call breaks, behind what was broken
abbrev of_call : (t4 t5 t7 t6 : Bool) (p : Pos) (m g : List Pos) → List Broken
of_call t4 t5 t7 t6 p m g =
    map (broken_at 404) (broken_where t4 p) ++ (map (broken_at 405) (broken_where t5 p) ++ (map (broken_at 406) m ++ (map (broken_at 407) (broken_where t7 p) ++ (map (broken_at 416) g ++ (map (broken_at 506) (broken_where t6 p) ++ [])))))

broken_by_call : (best : Option Broken) (t4 t5 t7 t6 : Bool) (p : Pos) (m g : List Pos) → first_among best (of_call t4 t5 t7 t6 p m g)
    ≡ first_with t6 506 p (first_of (first_with t7 407 p (first_of (first_with t5 405 p (first_with t4 404 p best)) (first_among None (map (broken_at 406) m)))) (first_among None (map (broken_at 416) g)))
broken_by_call best t4 t5 t7 t6 p m g =
    first_step best t4 404 p _
    ∙ (first_step _ t5 405 p _
    ∙ (first_many _ (map (broken_at 406) m) _
    ∙ (first_step _ t7 407 p _
    ∙ (first_many _ (map (broken_at 416) g) _
    ∙ first_step _ t6 506 p []))))

-- a call, behind its arguments
pub saw_call_site : (s : Checker) (ms : List Mark) (ss : List Site) (around : Enclosing) (x : Name) (meant : Option plain.Head) (given : List Argument) (r : Bool) →
    saw s ms (site.call around x meant given r ∷ ss)
    ≡ with_broken (in_transaction around.holders && (judged judged_nothing given).has_channel) 506 x.id.pos
    (with_first (judged judged_nothing given).again
    (with_broken (r && not (gives_word meant)) 407 x.id.pos
    (with_first (judged judged_nothing given).misfit
    (with_broken (not (has_number meant given)) 405 x.id.pos
    (with_broken (not (is_some meant)) 404 x.id.pos (saw s ms ss))))))
unfolding saw with_broken with_first
saw_call_site s ms ss around x meant given r =
    let own : List Broken = of_call (not (is_some meant)) (not (has_number meant given)) (r && not (gives_word meant)) (in_transaction around.holders && is_channel_among given) x.id.pos (misfits given) (again [] given) in
    rw (misfit_of judged_nothing given, again_of judged_nothing [] given (record { same = λ v. refl }), channel_of judged_nothing given)
    (one s _ _ _ _ _ _ _ _ refl refl
    (first_join s.best own (all_broken ss) ∙ others_first s.best own (all_broken ss)
    ∙ broken_by_call (first_among s.best (all_broken ss)) (not (is_some meant)) (not (has_number meant given)) (r && not (gives_word meant)) (in_transaction around.holders && is_channel_among given) x.id.pos (misfits given) (again [] given))
    refl)

-- the parameter for an argument, and those for the arguments behind it
kind_at : (ps : List Param) (i : ℕ) → kind_first (drop i ps) ≡ kind_of ps i
kind_at [] zero = refl
kind_at [] (suc i) = refl
kind_at (p ∷ ps) zero = refl
kind_at (p ∷ ps) (suc i) = kind_at ps i

rest_at : (ps : List Param) (i : ℕ) → rest_of (drop i ps) ≡ drop (i + 1) ps
rest_at ps i = rw add-one (by ps i)
  where
    by : (ps : List Param) (i : ℕ) → rest_of (drop i ps) ≡ drop (suc i) ps
    by [] zero = refl
    by [] (suc i) = refl
    by (p ∷ ps) zero = refl
    by (p ∷ ps) (suc i) = by ps i

module _ (n : NamedProgram) (ps : List Param) (args : List Arg) (i : ℕ) (x : Arg) (e : x ≡ get_or args i x) (h : i < length args) (kind : Option ParamKind) (f : kind ≡ kind_of ps i) (s t : Checker) (g : t ≡ saw s (marks.of_expression (expression_of x.value)) (site.of_argument n s.names kind (expression_of x.value))) where
  names_on : t.names ≡ past s.names (marks.of_expression (expression_of x.value))
  names_on = ap (λ (z : Checker). z.names) g ∙ saw_names s (marks.of_expression (expression_of x.value)) (site.of_argument n s.names kind (expression_of x.value))

  -- one argument further
  pub argument_seen : saw s (marks.each marks.of_argument (map argument_of (drop i args))) (site.of_arguments n s.names (drop i ps) (map argument_of (drop i args)))
      ≡ saw t (marks.each marks.of_argument (map argument_of (drop (i + 1) args))) (site.of_arguments n t.names (drop (i + 1) ps) (map argument_of (drop (i + 1) args)))
  unfolding saw expression_of
  argument_seen =
      rw (drop_item args i x e h, kind_at ps i, rest_at ps i, sym f, names_on, g)
      (saw_join s (marks.of_expression (expression_of x.value)) _ (site.of_argument n s.names kind (expression_of x.value)) _)

  pub argument_judged : (j k : Judged) → k ≡ judged_with j (record { first = x.first; parameter = kind; given = given_by n s.names (expression_of x.value) })
      → judged j (arguments n s.names (drop i ps) (map argument_of (drop i args))) ≡ judged k (arguments n t.names (drop (i + 1) ps) (map argument_of (drop (i + 1) args)))
  argument_judged j k d = rw (drop_item args i x e h, kind_at ps i, rest_at ps i, sym f, names_on, d) refl

-- no argument is left
pub argument_none : (n : NamedProgram) (ps : List Param) (args : List Arg) (i : ℕ) (s : Checker) → length args ≤ i
    → saw s (marks.each marks.of_argument (map argument_of (drop i args))) (site.of_arguments n s.names (drop i ps) (map argument_of (drop i args))) ≡ s
argument_none n ps args i s h = rw (drop_all i args h) (saw_nothing s)

pub ruleset passing = (saw_nothing, argument_seen, argument_judged, argument_none)

pub some_mapped : (f : Option FuncItem) → is_some (option_map head_of f) ≡ is_some f
some_mapped None = refl
some_mapped (Some f) = refl

pub ruleset callable = (some_mapped)

number_is : (n : NamedProgram) (k : ℕ) (ps : List Param) (args : List Arg) (meant : Option plain.Head) → has_number meant (arguments n k ps (map argument_of args)) ≡ has_number_of meant (length args)
number_is n k ps args meant = number_of n k ps (map argument_of args) meant ∙ ap (has_number_of meant) (length-map args argument_of)

-- behind a whole call, by what is found behind its parts
pub whole_call : (n : NamedProgram) (s : Checker) (around : Enclosing) (r : Bool) (i : Id) (args : List Arg) (called : Option FuncItem) (s1 s2 : Checker) (j : Judged)
    → option_map head_of called ≡ function_of n (what_at n (slice_get n.uses s.names))
    → s1 ≡ one_more_name s
    → s2 ≡ saw s1 (marks.each marks.of_argument (map argument_of args)) (site.of_arguments n s1.names (site.params_of (option_map head_of called)) (map argument_of args))
    → j ≡ judged judged_nothing (arguments n s1.names (site.params_of (option_map head_of called)) (map argument_of args))
    → with_call around (option_map head_of called) (length args) j r i.pos s2 ≡ saw s (marks.of_call (record { called = i; arguments = map argument_of args })) (site.of_call n around s.names r (record { called = i; arguments = map argument_of args }))
unfolding saw one_more_name
whole_call n s around r i args called s1 s2 j m e1 e2 ej =
    let what : Option What = what_at n (slice_get n.uses s.names) in
    let meant : Option plain.Head = function_of n what in
    let given : List plain.Argument = map argument_of args in
    let judged_ones : List Argument = arguments n (s.names + 1) (site.params_of meant) given in
    let name : Name = record { id = i; declared = slice_get n.uses s.names; what = what } in
    let rest : List Site = site.of_arguments n (s.names + 1) (site.params_of meant) given in
    rw (ej, m, e2, m, e1, names_more s, sym (number_is n (s.names + 1) (site.params_of meant) args meant))
    (sym (saw_call s i (marks.each marks.of_argument given) (site.call around name meant judged_ones r ∷ rest) ∙ saw_call_site (one_more_name s) (marks.each marks.of_argument given) rest around name meant judged_ones r))
