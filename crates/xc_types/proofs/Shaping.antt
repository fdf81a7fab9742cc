-- How what was found grows by statements.
use Rattle.std.proofs.Common.{◌≡◌, ℕ, ◌+◌, ◌≤◌, Bool, true, false, not, ◌&&◌, if◌then◌else◌, is_some, List, [], ◌∷◌, ◌++◌, length, drop, map, option_map, Option, Some, None, refl, sym, ap, ◌∙◌, append_assoc, append-nil, length-append, arith}
use Rattle.std.proofs.Transfers.{drop-appended}
use Rattle.xw_words.specs.declared.pos.Pos.{Pos}
use Rattle.xw_words.specs.declared.pos.Broken.{Broken}
use Rattle.xc_tree.specs.declared.tree.Id.{Id}
use Rattle.xc_tree.specs.declared.tree.Rhs.{Rhs}
use Rattle.xc_tree.specs.declared.names.Decl.{Decl}
use Rattle.xc_tree.specs.declared.names.Mark.{Mark}
use Rattle.xc_tree.specs.declared.names.Mark.TheVariants.{Opens, Closes, Declares, Uses}
use Rattle.xc_tree.specs.Names.Marks as marks
use Rattle.xc_tree.specs.Plain as plain
use Rattle.xc_tree.specs.Shapes.Enclosing.{Enclosing, inside, a_transaction, has_way_out, has_next_turn, in_transaction, in_par_or_transaction}
use Rattle.xc_tree.specs.Shapes.Rules.{are_one, channels, defaults}
use Rattle.xc_tree.specs.Trees.{right_of}
use Rattle.xc_tree.specs.Types.Entities.{agree}
use Rattle.xc_tree.specs.Types.Named.{NamedProgram, Name}
use Rattle.xc_tree.specs.Types.Rules.{broken_where, broken_unless, first_that_differs}
use Rattle.xc_tree.specs.Types.Sites.{Site, communications}
use Rattle.xc_tree.specs.Types.Sites as site
use Rattle.xc_tree.proofs.Forms.{statement-Stmt, branch-Branch, case-Case, action-Empty, action-Block, action-Decl, action-Assign, action-Step, action-Do, action-Output, action-Input, action-If, action-While, action-DoWhile, action-For, action-Return, action-Break, action-Continue, action-Par, action-Repl, action-Select, action-Tran}
use Rattle.xc_types.specs.declared.checker.Checker.{Checker}
use Rattle.xc_types.specs.Checker.{saw, all_broken, first_among, first_with, broken_at, one_more_name, with_broken, with_broken_at, with_replicated}
use Rattle.xc_types.proofs.Firsts.{first_last}
use Rattle.xc_types.proofs.Holders.{arounds}
use Rattle.xc_types.proofs.Joins.{one, past_join, first_join, saw_join, saw_names, saw_nothing}
use Rattle.xc_types.proofs.Steps.{steps, first_here, names_more, names_broken}

pub saw_opens : (s : Checker) (ms : List Mark) (ss : List Site) → saw s (Opens ∷ ms) ss ≡ saw s ms ss
unfolding saw
saw_opens s ms ss = refl

pub saw_closes : (s : Checker) (ms : List Mark) (ss : List Site) → saw s (ms ++ Closes ∷ []) ss ≡ saw s ms ss
unfolding saw
saw_closes s ms ss = one s _ _ _ _ _ _ _ _ (past_join s.names ms (Closes ∷ [])) refl refl refl

pub saw_break : (s : Checker) (around : Enclosing) (p : Pos) (ms : List Mark) (ss : List Site) → saw s ms (site.break around p ∷ ss) ≡ saw (with_broken (not (has_way_out around.holders)) 501 p s) ms ss
unfolding saw with_broken
saw_break s around p ms ss = one s _ _ _ _ _ _ _ _ refl refl (first_here s.best (not (has_way_out around.holders)) 501 p [] (all_broken ss)) refl

pub saw_continue : (s : Checker) (around : Enclosing) (p : Pos) (ms : List Mark) (ss : List Site) → saw s ms (site.continue around p ∷ ss) ≡ saw (with_broken (not (has_next_turn around.holders)) 501 p s) ms ss
unfolding saw with_broken
saw_continue s around p ms ss = one s _ _ _ _ _ _ _ _ refl refl (first_here s.best (not (has_next_turn around.holders)) 501 p [] (all_broken ss)) refl

pub saw_par : (s : Checker) (around : Enclosing) (p : Pos) (ms : List Mark) (ss : List Site) → saw s ms (site.par around p ∷ ss) ≡ saw (with_broken (in_transaction around.holders) 506 p s) ms ss
unfolding saw with_broken
saw_par s around p ms ss = one s _ _ _ _ _ _ _ _ refl refl (first_here s.best (in_transaction around.holders) 506 p [] (all_broken ss)) refl

pub saw_return : (s : Checker) (around : Enclosing) (v : Bool) (p : Pos) (ms : List Mark) (ss : List Site) →
    saw s ms (site.return around v p ∷ ss) ≡ saw (with_broken (in_par_or_transaction around.holders) 502 p (with_broken (not (agree v (is_some around.function.result))) 408 p s)) ms ss
unfolding saw with_broken
saw_return s around v p ms ss =
    one s _ _ _ _ _ _ _ _ refl refl
    (first_here s.best (not (agree v (is_some around.function.result))) 408 p (map (broken_at 502) (broken_where (in_par_or_transaction around.holders) p) ++ []) (all_broken ss)
    ∙ first_here (first_with (not (agree v (is_some around.function.result))) 408 p s.best) (in_par_or_transaction around.holders) 502 p [] (all_broken ss))
    refl

-- one rule that is broken at many places
many_here : (best : Option Broken) (many rest : List Broken) → first_among best ((many ++ []) ++ rest) ≡ first_among (first_among best many) rest
many_here best many rest = ap (λ (xs : List Broken). first_among best (xs ++ rest)) (append-nil many) ∙ first_join best many rest

pub saw_select : (s : Checker) (around : Enclosing) (cs : plain.Cases) (p : Pos) (ms : List Mark) (ss : List Site) →
    saw s ms (site.select around cs p ∷ ss) ≡ saw (with_broken_at 507 (drop 1 (defaults cs)) (with_broken (in_transaction around.holders) 506 p s)) ms ss
unfolding saw with_broken with_broken_at
saw_select s around cs p ms ss =
    one s _ _ _ _ _ _ _ _ refl refl
    (first_here s.best (in_transaction around.holders) 506 p (map (broken_at 507) (drop 1 (defaults cs)) ++ []) (all_broken ss)
    ∙ many_here (first_with (in_transaction around.holders) 506 p s.best) (map (broken_at 507) (drop 1 (defaults cs))) (all_broken ss))
    refl

pub saw_replicator : (s : Checker) (a b c : Id) (d : Decl) (ms : List Mark) (ss : List Site) → saw s (Declares d ∷ Uses b ∷ Uses c ∷ ms) (site.replicator a b c ∷ ss) ≡ saw (with_replicated a b c s) ms ss
unfolding saw with_broken_at one_more_name
saw_replicator s a b c d ms ss = one s _ _ _ _ _ _ _ _ refl refl (many_here s.best (map (broken_at 415) (first_that_differs a b c)) (all_broken ss)) refl

pub names_broken_at : (n : ℕ) (ps : List Pos) (s : Checker) → (with_broken_at n ps s).names ≡ s.names
unfolding with_broken_at
names_broken_at n ps s = refl

pub names_replicated : (a b c : Id) (s : Checker) → (with_replicated a b c s).names ≡ s.names + 3
unfolding one_more_name with_broken_at
names_replicated a b c s = omega arith

pub some_right : (r : Option Rhs) → is_some (option_map right_of r) ≡ is_some r
some_right None = refl
some_right (Some r) = refl

-- a rule that is broken where this holds may be taken last
pub late : (best : Option Broken) (t : Bool) (n : ℕ) (p : Pos) (rest : List Broken) → first_among (first_with t n p best) rest ≡ first_with t n p (first_among best rest)
late best true n p rest = first_last best (Some (broken_at n p)) rest
late best false n p rest = refl

saw_transaction : (s : Checker) (around : Enclosing) (xs : List Name) (p : Pos) (ms : List Mark) (ss : List Site) →
    saw s ms (site.transaction around xs p ∷ ss) ≡ with_broken (not (are_one (channels xs))) 505 p (saw (with_broken (in_transaction around.holders) 506 p s) ms ss)
unfolding saw with_broken
saw_transaction s around xs p ms ss =
    one s _ _ _ _ _ _ _ _ refl refl
    (first_here s.best (not (are_one (channels xs))) 505 p (map (broken_at 506) (broken_where (in_transaction around.holders) p) ++ []) (all_broken ss)
    ∙ first_here (first_with (not (are_one (channels xs))) 505 p s.best) (in_transaction around.holders) 506 p [] (all_broken ss)
    ∙ turned (not (are_one (channels xs))) (in_transaction around.holders))
    refl
  where
    swap : (a b : Bool) → first_with b 506 p (first_with a 505 p s.best) ≡ first_with a 505 p (first_with b 506 p s.best)
    swap true true = first_last s.best (Some (broken_at 505 p)) (broken_at 506 p ∷ [])
    swap true false = refl
    swap false true = refl
    swap false false = refl

    turned : (a b : Bool) → first_among (first_with b 506 p (first_with a 505 p s.best)) (all_broken ss) ≡ first_with a 505 p (first_among (first_with b 506 p s.best) (all_broken ss))
    turned a b = ap (λ (x : Option Broken). first_among x (all_broken ss)) (swap a b) ∙ late (first_with b 506 p s.best) a 505 p (all_broken ss)

-- what statements stand for
pub ruleset statements = (statement-Stmt, branch-Branch, case-Case, action-Empty, action-Block, action-Decl, action-Assign, action-Step, action-Do, action-Output, action-Input, action-If, action-While, action-DoWhile, action-For, action-Return, action-Break, action-Continue, action-Par, action-Repl, action-Select, action-Tran)

-- what is needed along a statement alone, whose expressions are checked elsewhere
pub ruleset statement_steps = (statements, arounds, append_assoc, append-nil, saw_join, saw_names, saw_nothing, names_more, names_broken, saw_opens, saw_closes, saw_break, saw_continue, saw_par, saw_return, saw_select, saw_replicator, names_broken_at, names_replicated, some_right)

pub ruleset shaping = (steps, arounds, saw_opens, saw_closes, saw_break, saw_continue, saw_par, saw_return, saw_select, saw_replicator, names_broken_at, names_replicated, some_right)

pub replicated_is : (t u : Bool) (p q : Pos) (s : Checker) → with_broken (t && not u) 415 p (with_broken (not t) 415 q s) ≡ with_broken_at 415 (if t then broken_unless u p else q ∷ []) s
unfolding with_broken with_broken_at
replicated_is true true p q s = refl
replicated_is true false p q s = refl
replicated_is false u p q s = refl

pub ruleset replicating = (replicated_is)

pub channels_grow : (s r t : Checker) (b : Bool) (p : Pos) (ms : List Mark) (ss : List Site) → r ≡ with_broken b 506 p s → t ≡ saw r ms ss → length s.channels ≤ length t.channels
unfolding saw with_broken
channels_grow s r t b p ms ss e f = rw (f, e, length-append s.channels (channels (communications ss))) (omega arith)

channels_behind : (s : Checker) (ms : List Mark) (ss : List Site) → drop (length s.channels) (saw s ms ss).channels ≡ channels (communications ss)
unfolding saw
channels_behind s ms ss = drop-appended s.channels (s.channels ++ channels (communications ss)) (channels (communications ss)) refl

-- behind a whole transaction, by what is found behind what it holds
pub whole_transaction : (n : NamedProgram) (s : Checker) (around : Enclosing) (inner : Enclosing) (ss : plain.Statements) (p : Pos) (r t : Checker) → inner ≡ inside a_transaction around
    → r ≡ with_broken (in_transaction around.holders) 506 p s → t ≡ saw r (marks.of_statements ss) (site.of_statements n inner r.names ss)
    → with_broken (not (are_one (drop (length s.channels) t.channels))) 505 p t ≡ saw s (marks.in_scope (marks.of_statements ss)) (site.of_action n around s.names p (plain.transaction true ss))
unfolding with_broken
whole_transaction n s around inner ss p r t d e f =
    rw (f, d, e)
    (ap (λ (cs : List ℕ). with_broken (not (are_one cs)) 505 p (saw s6 ms own)) behind
    ∙ sym (saw_transaction s around (communications own) p ms own)
    ∙ sym (saw_opens s (ms ++ Closes ∷ []) (site.transaction around (communications own) p ∷ own) ∙ saw_closes s ms (site.transaction around (communications own) p ∷ own)))
  where
    ms : List Mark
    ms = marks.of_statements ss

    s6 : Checker
    s6 = with_broken (in_transaction around.holders) 506 p s

    own : List Site
    own = site.of_statements n (inside a_transaction around) s.names ss

    behind : drop (length s.channels) (saw s6 ms own).channels ≡ channels (communications own)
    behind = channels_behind s6 ms own
