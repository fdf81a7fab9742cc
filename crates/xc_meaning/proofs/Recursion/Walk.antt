-- Each call in a statement stands among the marks of the statement, and among what the rules of types speak of.
use Rattle.std.proofs.Common.{◌≡◌, ℕ, ◌+◌, List, [], ◌∷◌, ◌++◌, Option, None, Some, subst, arith}
use Rattle.xw_words.specs.declared.pos.Pos.{Pos}
use Rattle.xc_tree.specs.declared.names.Mark.{Mark}
use Rattle.xc_tree.specs.declared.names.Mark.TheVariants.{Opens, Closes, Uses, Calls}
use Rattle.xc_tree.specs.Plain as plain
use Rattle.xc_tree.specs.Names.Marks as marks
use Rattle.xc_tree.specs.Types.Named.{NamedProgram, name_at, function_of, past}
use Rattle.xc_tree.specs.Types.Calls.{Argument}
use Rattle.xc_tree.specs.Types.Sites as sites
use Rattle.xc_tree.specs.Shapes.Enclosing.{Enclosing, inside, a_block, an_if, a_loop, a_case, a_branch, a_transaction}
use Rattle.xc_meaning.specs.Texts.Called.{EachRight, EachMaybeRight, EachKind, EachName, EachCall, EachIn, EachMaybe, EachOf, EachOne, EachBranch, EachCase, EachOneCase}

-- How a part of a text stands in the whole of it, by its marks, before which there are k names, and by its sites. A call at the
-- front of both is one of which something holds.
pub record Walk (n : NamedProgram) (Marked : ℕ → List Mark → Type 0) (Among : List sites.Site → Type 0) (Holds : plain.Call → Type 0) : Type 0 where
  pub first : (k : ℕ) (ms ns : List Mark) → Marked k (ms ++ ns) → Marked k ms
  pub second : (k : ℕ) (ms ns : List Mark) → Marked k (ms ++ ns) → Marked (past k ms) ns
  pub left : (ss ts : List sites.Site) → Among (ss ++ ts) → Among ss
  pub right : (ss ts : List sites.Site) → Among (ss ++ ts) → Among ts
  pub call : (k : ℕ) (c : plain.Call) (ms : List Mark) (around : Enclosing) (given : List Argument) (r : _) (ss : List sites.Site) → Marked k (Calls c.called ∷ ms) → Among (sites.call around (name_at n k c.called) (function_of n (name_at n k c.called).what) given r ∷ ss) → Holds c

module _ (n : NamedProgram) (Marked : ℕ → List Mark → Type 0) (Among : List sites.Site → Type 0) (Holds : plain.Call → Type 0) (w : Walk n Marked Among Holds) where
  tail : (s : sites.Site) (ss : List sites.Site) → Among (s ∷ ss) → Among ss
  tail s ss a = w.right (s ∷ []) ss a

  next : (k : ℕ) (m : Mark) (ms : List Mark) → Marked k (m ∷ ms) → Marked (past k (m ∷ [])) ms
  next k m ms a = w.second k (m ∷ []) ms a

  scope : (k : ℕ) (ms : List Mark) → Marked k (marks.in_scope ms) → Marked k ms
  scope k ms a = w.first k ms (Closes ∷ []) (next k Opens (ms ++ Closes ∷ []) a)

  of_right : (around : Enclosing) (k : ℕ) (r : _) (x : plain.RightSide) → Marked k (marks.of_right x) → Among (sites.of_right n around k r x) → EachRight Holds x
  of_right around k r (plain.value e) m a = tt
  of_right around k r (plain.result c) m a = w.call k c _ around _ r _ m a

  of_maybe_right : (around : Enclosing) (k : ℕ) (r : _) (x : Option plain.RightSide) → Marked k (marks.optional marks.of_right x) → Among (sites.optional (sites.of_right n around k r) x) → EachMaybeRight Holds x
  of_maybe_right around k r None m a = tt
  of_maybe_right around k r (Some x) m a = of_right around k r x m a

  of_kind : (around : Enclosing) (k : ℕ) (x : plain.Kind) → Marked k (marks.of_initial x) → Among (sites.of_kind n around k x) → EachKind Holds x
  of_kind around k (plain.word u r) m a = of_maybe_right around k _ r m a
  of_kind around k (plain.array u l p) m a = tt
  of_kind around k (plain.channel s) m a = tt
  of_kind around k plain.timer m a = tt

  of_declarations : (around : Enclosing) (k : ℕ) (ds : List plain.Declaration) → Marked k (marks.each marks.of_declaration ds) → Among (sites.of_declarations n around k ds) → EachName Holds ds
  of_declarations around k [] m a = tt
  of_declarations around k (d ∷ ds) m a = (
    of_kind around (k + 1) d.kind (next k _ (marks.of_initial d.kind) (w.first k (marks.of_declaration d) (marks.each marks.of_declaration ds) m)) (w.left _ _ a),
    of_declarations around (past k (marks.of_declaration d)) ds (w.second k (marks.of_declaration d) (marks.each marks.of_declaration ds) m) (w.right (sites.of_kind n around (k + 1) d.kind) _ a),
  )

  three : (k : ℕ) → ((k + 1) + 1) + 1 ≡ k + 3
  three k = omega arith

  mutual
    pub of_statement : (around : Enclosing) (k : ℕ) (s : plain.Statement) → Marked k (marks.of_statement s) → Among (sites.of_statement n around k s) → EachCall Holds s
    of_statement around k (plain.statement x p c own) m a = of_action around k p x m a

    of_action : (around : Enclosing) (k : ℕ) (p : Pos) (x : plain.Action) → Marked k (marks.of_action x) → Among (sites.of_action n around k p x) → EachIn Holds x
    of_action around k p plain.empty m a = tt
    of_action around k p (plain.block ss) m a = of_statements (inside a_block around) k ss (scope k (marks.of_statements ss) m) a
    of_action around k p (plain.declare ds) m a = of_declarations around k ds m a
    of_action around k p (plain.assign l o q r) m a = of_right around _ _ r (w.second k (marks.of_expression l) (marks.of_right r) m) (w.right (sites.of_lval n k l) _ a)
    of_action around k p (plain.step l o) m a = tt
    of_action around k p (plain.perform r) m a = of_right around k _ r m a
    of_action around k p (plain.output o) m a = tt
    of_action around k p (plain.input i) m a = tt
    of_action around k p (plain.if_then c s o) m a =
        let m1 = w.second k (marks.of_expression c) (marks.of_statement s ++ marks.of_maybe o) m in
        let a1 = w.right (sites.of_expression n k c) _ a in (
          of_statement (inside an_if around) (past k (marks.of_expression c)) s (w.first _ (marks.of_statement s) (marks.of_maybe o) m1) (w.left _ _ a1),
          of_maybe (inside an_if around) (past (past k (marks.of_expression c)) (marks.of_statement s)) o (w.second _ (marks.of_statement s) (marks.of_maybe o) m1) (w.right (sites.of_statement n (inside an_if around) (past k (marks.of_expression c)) s) _ a1),
        )
    of_action around k p (plain.while_loop c s) m a = of_statement (inside a_loop around) (past k (marks.of_expression c)) s (w.second k (marks.of_expression c) (marks.of_statement s) m) (w.right (sites.of_expression n k c) _ a)
    of_action around k p (plain.do_while s c) m a = of_statement (inside a_loop around) k s (w.first k (marks.of_statement s) (marks.of_expression c) m) (w.left (sites.of_statement n (inside a_loop around) k s) _ a)
    of_action around k p (plain.for_loop x c b s) m a =
        let m0 = scope k (marks.of_maybe x ++ (marks.optional marks.of_expression c ++ (marks.of_maybe b ++ marks.of_statement s))) m in
        let m1 = w.second k (marks.of_maybe x) (marks.optional marks.of_expression c ++ (marks.of_maybe b ++ marks.of_statement s)) m0 in
        let m2 = w.second _ (marks.optional marks.of_expression c) (marks.of_maybe b ++ marks.of_statement s) m1 in
        let a1 = w.right (sites.of_maybe n around k x) _ a in
        let a2 = w.right (sites.optional (sites.of_expression n (past k (marks.of_maybe x))) c) _ a1 in (
          of_maybe around k x (w.first k (marks.of_maybe x) _ m0) (w.left (sites.of_maybe n around k x) _ a),
          of_maybe around (past (past k (marks.of_maybe x)) (marks.optional marks.of_expression c)) b (w.first _ (marks.of_maybe b) (marks.of_statement s) m2) (w.left _ _ a2),
          of_statement (inside a_loop around) (past (past (past k (marks.of_maybe x)) (marks.optional marks.of_expression c)) (marks.of_maybe b)) s (w.second _ (marks.of_maybe b) (marks.of_statement s) m2) (w.right (sites.of_maybe n around (past (past k (marks.of_maybe x)) (marks.optional marks.of_expression c)) b) _ a2),
        )
    of_action around k p (plain.return_with r) m a = of_maybe_right around k _ r m (tail _ _ a)
    of_action around k p plain.break_out m a = tt
    of_action around k p plain.continue_on m a = tt
    of_action around k p (plain.par bs) m a = of_branches around k bs m (tail _ _ a)
    of_action around k p (plain.replicated x b c f u body) m a =
        let m0 = scope k (marks.declares x _ ∷ Uses b ∷ Uses c ∷ marks.of_branch body) m in
        of_branch around (k + 3) body (subst (λ (j : ℕ). Marked j (marks.of_branch body)) (three k) (next _ _ _ (next _ _ _ (next k _ _ m0)))) (tail _ _ (tail _ _ a))
    of_action around k p (plain.select cs) m a = of_cases around k cs m (tail _ _ a)
    of_action around k p (plain.transaction x ss) m a = of_statements (inside a_transaction around) k ss (scope k (marks.of_statements ss) m) (tail _ _ a)

    of_maybe : (around : Enclosing) (k : ℕ) (x : plain.Maybe) → Marked k (marks.of_maybe x) → Among (sites.of_maybe n around k x) → EachMaybe Holds x
    of_maybe around k plain.absent m a = tt
    of_maybe around k (plain.present s) m a = of_statement around k s m a

    pub of_statements : (around : Enclosing) (k : ℕ) (ss : plain.Statements) → Marked k (marks.of_statements ss) → Among (sites.of_statements n around k ss) → EachOf Holds ss
    of_statements around k plain.no_more m a = tt
    of_statements around k (plain.more s ss) m a = (
      of_statement around k s (w.first k (marks.of_statement s) (marks.of_statements ss) m) (w.left _ _ a),
      of_statements around (past k (marks.of_statement s)) ss (w.second k (marks.of_statement s) (marks.of_statements ss) m) (w.right (sites.of_statement n around k s) _ a),
    )

    of_branch : (around : Enclosing) (k : ℕ) (x : plain.Branch) → Marked k (marks.of_branch x) → Among (sites.of_branch n around k x) → EachOne Holds x
    of_branch around k (plain.branch p s) m a =
        of_statement (inside a_branch around) (past k (marks.optional marks.of_place p)) s (w.second k (marks.optional marks.of_place p) (marks.of_statement s) m) (w.right (sites.optional (sites.of_branch_place n around k) p) _ a)

    of_branches : (around : Enclosing) (k : ℕ) (bs : plain.Branches) → Marked k (marks.of_branches bs) → Among (sites.of_branches n around k bs) → EachBranch Holds bs
    of_branches around k plain.no_branch m a = tt
    of_branches around k (plain.more_branches b bs) m a = (
      of_branch around k b (w.first k (marks.of_branch b) (marks.of_branches bs) m) (w.left _ _ a),
      of_branches around (past k (marks.of_branch b)) bs (w.second k (marks.of_branch b) (marks.of_branches bs) m) (w.right (sites.of_branch n around k b) _ a),
    )

    of_case : (around : Enclosing) (k : ℕ) (x : plain.Case) → Marked k (marks.of_case x) → Among (sites.of_case n around k x) → EachOneCase Holds x
    of_case around k (plain.case p g i ss) m a =
        let m0 = scope k (marks.optional marks.of_expression g ++ (marks.optional marks.of_input i ++ marks.of_statements ss)) m in
        let m1 = w.second k (marks.optional marks.of_expression g) (marks.optional marks.of_input i ++ marks.of_statements ss) m0 in
        let a1 = w.right (sites.optional (sites.of_expression n k) g) _ a in
        of_statements (inside a_case around) (past (past k (marks.optional marks.of_expression g)) (marks.optional marks.of_input i)) ss (w.second _ (marks.optional marks.of_input i) (marks.of_statements ss) m1) (w.right (sites.optional (sites.of_input n (past k (marks.optional marks.of_expression g))) i) _ a1)

    of_cases : (around : Enclosing) (k : ℕ) (cs : plain.Cases) → Marked k (marks.of_cases cs) → Among (sites.of_cases n around k cs) → EachCase Holds cs
    of_cases around k plain.no_case m a = tt
    of_cases around k (plain.more_cases c cs) m a = (
      of_case around k c (w.first k (marks.of_case c) (marks.of_cases cs) m) (w.left _ _ a),
      of_cases around (past k (marks.of_case c)) cs (w.second k (marks.of_case c) (marks.of_cases cs) m) (w.right (sites.of_case n around k c) _ a),
    )

  -- what stands directly in a function's block
  pub of_body : (around : Enclosing) (k : ℕ) (s : plain.Statement) → Marked k (marks.of_body s) → Among (sites.of_body n around k s) → EachCall Holds s
  of_body around k (plain.statement (plain.block ss) p c own) m a = of_statements around k ss m a
  of_body around k (plain.statement plain.empty p c own) m a = tt
  of_body around k (plain.statement (plain.declare ds) p c own) m a = of_action around k p (plain.declare ds) m a
  of_body around k (plain.statement (plain.assign l o q r) p c own) m a = of_action around k p (plain.assign l o q r) m a
  of_body around k (plain.statement (plain.step l o) p c own) m a = tt
  of_body around k (plain.statement (plain.perform r) p c own) m a = of_action around k p (plain.perform r) m a
  of_body around k (plain.statement (plain.output o) p c own) m a = tt
  of_body around k (plain.statement (plain.input i) p c own) m a = tt
  of_body around k (plain.statement (plain.if_then t s o) p c own) m a = of_action around k p (plain.if_then t s o) m a
  of_body around k (plain.statement (plain.while_loop t s) p c own) m a = of_action around k p (plain.while_loop t s) m a
  of_body around k (plain.statement (plain.do_while s t) p c own) m a = of_action around k p (plain.do_while s t) m a
  of_body around k (plain.statement (plain.for_loop x t b s) p c own) m a = of_action around k p (plain.for_loop x t b s) m a
  of_body around k (plain.statement (plain.return_with r) p c own) m a = of_action around k p (plain.return_with r) m a
  of_body around k (plain.statement plain.break_out p c own) m a = tt
  of_body around k (plain.statement plain.continue_on p c own) m a = tt
  of_body around k (plain.statement (plain.par bs) p c own) m a = of_action around k p (plain.par bs) m a
  of_body around k (plain.statement (plain.replicated x b t f u body) p c own) m a = of_action around k p (plain.replicated x b t f u body) m a
  of_body around k (plain.statement (plain.select cs) p c own) m a = of_action around k p (plain.select cs) m a
  of_body around k (plain.statement (plain.transaction x ss) p c own) m a = of_action around k p (plain.transaction x ss) m a
