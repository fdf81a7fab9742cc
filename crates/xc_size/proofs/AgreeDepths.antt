-- Two ways to count calls that agree at the calls of a part, as far as counts go, agree at the part: how deep its nodes stand.
use Rattle.std.proofs.Common.{◌≡◌, ℕ, List, [], ◌∷◌, Option, Some, None, refl}
use Rattle.xc_tree.specs.Depth as depth
use Rattle.xc_tree.specs.Plain as tree
use Rattle.xc_kernel.specs.Depths as depths
use Rattle.xc_size.specs.Sizes.{up_to}
use Rattle.xc_size.proofs.CalledParts as callees
use Rattle.xc_size.proofs.Same.{Each, each_front, each_back, same_sum, same_greater}

module _ (number : List ℕ → Option ℕ) (l : ℕ) (g h : tree.Call → ℕ) where
  -- they agree at the calls of the function with this number
  abbrev pub Agree : Option ℕ → Type 0
  Agree o = (c : tree.Call) → number c.called.text ≡ o → up_to l (g c) ≡ up_to l (h c)

  right : (r : tree.RightSide) → Each Agree (callees.of_right number r) → up_to l (depths.of_right g r) ≡ up_to l (depths.of_right h r)
  right (tree.value e) a = refl
  right (tree.result c) a = same_greater l _ _ _ _ refl (a.0 c refl)

  right_if_any : (r : Option tree.RightSide) → Each Agree (callees.optional (callees.of_right number) r) → up_to l (depth.if_some (depths.of_right g) r) ≡ up_to l (depth.if_some (depths.of_right h) r)
  right_if_any None a = refl
  right_if_any (Some r) a = right r a

  kind : (k : tree.Kind) → Each Agree (callees.of_kind number k) → up_to l (depths.of_kind g k) ≡ up_to l (depths.of_kind h k)
  kind (tree.word u r) a = right_if_any r a
  kind (tree.array u n p) a = refl
  kind (tree.channel s) a = refl
  kind tree.timer a = refl

  declaration : (d : tree.Declaration) → Each Agree (callees.of_declaration number d) → up_to l (depths.of_declaration g d) ≡ up_to l (depths.of_declaration h d)
  declaration d a = kind d.kind a

  declarations : (ds : List tree.Declaration) → Each Agree (callees.each (callees.of_declaration number) ds) → up_to l (depth.highest (depths.of_declaration g) ds) ≡ up_to l (depth.highest (depths.of_declaration h) ds)
  declarations [] a = refl
  declarations (d ∷ ds) a = same_greater l _ _ _ _ (declaration d (each_front Agree (callees.of_declaration number d) _ a)) (declarations ds (each_back Agree (callees.of_declaration number d) _ a))

  mutual
    pub statement : (s : tree.Statement) → Each Agree (callees.of_statement number s) → up_to l (depths.of_statement g s) ≡ up_to l (depths.of_statement h s)
    statement (tree.statement x p q o) a = same_sum l _ _ _ _ (action x a) refl

    action : (x : tree.Action) → Each Agree (callees.of_action number x) → up_to l (depths.of_action g x) ≡ up_to l (depths.of_action h x)
    action tree.empty a = refl
    action (tree.block ss) a = statements ss a
    action (tree.declare ds) a = declarations ds a
    action (tree.assign e o p r) a = same_greater l _ _ _ _ refl (right r a)
    action (tree.step e o) a = refl
    action (tree.perform r) a = right r a
    action (tree.output o) a = refl
    action (tree.input i) a = refl
    action (tree.if_then e s1 m) a = same_greater l _ _ _ _ refl (same_greater l _ _ _ _ (statement s1 (each_front Agree (callees.of_statement number s1) _ a)) (maybe m (each_back Agree (callees.of_statement number s1) _ a)))
    action (tree.while_loop e s) a = same_greater l _ _ _ _ refl (statement s a)
    action (tree.do_while s e) a = same_greater l _ _ _ _ (statement s a) refl
    action (tree.for_loop f e n s) a = same_greater l _ _ _ _ (maybe f (each_front Agree (callees.of_maybe number f) _ a)) (same_greater l _ _ _ _ refl (same_greater l _ _ _ _ (maybe n (each_front Agree (callees.of_maybe number n) _ (each_back Agree (callees.of_maybe number f) _ a))) (statement s (each_back Agree (callees.of_maybe number n) _ (each_back Agree (callees.of_maybe number f) _ a)))))
    action (tree.return_with r) a = right_if_any r a
    action tree.break_out a = refl
    action tree.continue_on a = refl
    action (tree.par bs) a = branches bs a
    action (tree.replicated i j k f u b) a = branch b a
    action (tree.select cs) a = cases cs a
    action (tree.transaction m ss) a = statements ss a

    maybe : (m : tree.Maybe) → Each Agree (callees.of_maybe number m) → up_to l (depths.of_maybe g m) ≡ up_to l (depths.of_maybe h m)
    maybe tree.absent a = refl
    maybe (tree.present s) a = statement s a

    statements : (ss : tree.Statements) → Each Agree (callees.of_statements number ss) → up_to l (depths.of_statements g ss) ≡ up_to l (depths.of_statements h ss)
    statements tree.no_more a = refl
    statements (tree.more s ss) a = same_greater l _ _ _ _ (statement s (each_front Agree (callees.of_statement number s) _ a)) (statements ss (each_back Agree (callees.of_statement number s) _ a))

    branch : (b : tree.Branch) → Each Agree (callees.of_branch number b) → up_to l (depths.of_branch g b) ≡ up_to l (depths.of_branch h b)
    branch (tree.branch p s) a = same_greater l _ _ _ _ refl (statement s a)

    branches : (bs : tree.Branches) → Each Agree (callees.of_branches number bs) → up_to l (depths.of_branches g bs) ≡ up_to l (depths.of_branches h bs)
    branches tree.no_branch a = refl
    branches (tree.more_branches b bs) a = same_greater l _ _ _ _ (branch b (each_front Agree (callees.of_branch number b) _ a)) (branches bs (each_back Agree (callees.of_branch number b) _ a))

    case : (x : tree.Case) → Each Agree (callees.of_case number x) → up_to l (depths.of_case g x) ≡ up_to l (depths.of_case h x)
    case (tree.case p e i ss) a = same_greater l _ _ _ _ refl (same_greater l _ _ _ _ refl (statements ss a))

    cases : (cs : tree.Cases) → Each Agree (callees.of_cases number cs) → up_to l (depths.of_cases g cs) ≡ up_to l (depths.of_cases h cs)
    cases tree.no_case a = refl
    cases (tree.more_cases x cs) a = same_greater l _ _ _ _ (case x (each_front Agree (callees.of_case number x) _ a)) (cases cs (each_back Agree (callees.of_case number x) _ a))
