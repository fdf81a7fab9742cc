-- What stands in a body that isn't a block has its own scopes alone.
use Rattle.std.proofs.Common.{◌≡◌, ℕ, List, refl, sym, subst}
use Rattle.xw_words.specs.declared.pos.Pos.{Pos}
use Rattle.xc_tree.specs.declared.tree.Stmt.{Stmt}
use Rattle.xc_tree.specs.declared.tree.Branch.{Branch}
use Rattle.xc_tree.specs.declared.tree.Case.{Case}
use Rattle.xc_tree.specs.declared.tree.St.TheOpen as S
use Rattle.xc_tree.specs.declared.tree.St.{St, Block, out-St, roll-St, roll-out-St, fold-roll-St}
use Rattle.xc_tree.specs.declared.tree.St.TheVariants.{rolls-Block}
use Rattle.xc_tree.proofs.Forms.{statement-Stmt}
use Rattle.xc_tree.specs.Plain as plain
use Rattle.xc_tree.specs.Names.Marks.{of_body, of_action, of_statement}
use Rattle.xc_tree.specs.Trees.{statement_of, action_of, action_step, branch_step, case_step, statement_step}

abbrev IsAsItsAction : St → Type 0
IsAsItsAction k = (p q : Pos) (n : ℕ) → of_body (plain.statement (action_of k) p q n) ≡ of_action (action_of k)

by_action : (k : St) (a : plain.Action) → action_of k ≡ a → ((p q : Pos) (n : ℕ) → of_body (plain.statement a p q n) ≡ of_action a) → IsAsItsAction k
by_action k a e h = λ p q n. subst (λ (b : plain.Action). of_body (plain.statement b p q n) ≡ of_action b) (sym e) (h p q n)

by_variant : (x : S.St-F St Branch Case Stmt) → ((ss : List Stmt) → roll-St x ≡ Block ss → ⊥) → IsAsItsAction (roll-St x)
unfolding action_of
by_variant S.Empty h = by_action (roll-St S.Empty) _ (fold-roll-St plain.Action plain.Branch plain.Case plain.Statement action_step branch_step case_step statement_step S.Empty) (λ p q n. refl)
by_variant (S.Block ss) h = absurd (h ss (rolls-Block ss))
by_variant (S.Decl ds) h = by_action (roll-St (S.Decl ds)) _ (fold-roll-St plain.Action plain.Branch plain.Case plain.Statement action_step branch_step case_step statement_step (S.Decl ds)) (λ p q n. refl)
by_variant (S.Assign l o p r) h = by_action (roll-St (S.Assign l o p r)) _ (fold-roll-St plain.Action plain.Branch plain.Case plain.Statement action_step branch_step case_step statement_step (S.Assign l o p r)) (λ p q n. refl)
by_variant (S.Step l o) h = by_action (roll-St (S.Step l o)) _ (fold-roll-St plain.Action plain.Branch plain.Case plain.Statement action_step branch_step case_step statement_step (S.Step l o)) (λ p q n. refl)
by_variant (S.Do r) h = by_action (roll-St (S.Do r)) _ (fold-roll-St plain.Action plain.Branch plain.Case plain.Statement action_step branch_step case_step statement_step (S.Do r)) (λ p q n. refl)
by_variant (S.Output o) h = by_action (roll-St (S.Output o)) _ (fold-roll-St plain.Action plain.Branch plain.Case plain.Statement action_step branch_step case_step statement_step (S.Output o)) (λ p q n. refl)
by_variant (S.Input i) h = by_action (roll-St (S.Input i)) _ (fold-roll-St plain.Action plain.Branch plain.Case plain.Statement action_step branch_step case_step statement_step (S.Input i)) (λ p q n. refl)
by_variant (S.If c s o) h = by_action (roll-St (S.If c s o)) _ (fold-roll-St plain.Action plain.Branch plain.Case plain.Statement action_step branch_step case_step statement_step (S.If c s o)) (λ p q n. refl)
by_variant (S.While c s) h = by_action (roll-St (S.While c s)) _ (fold-roll-St plain.Action plain.Branch plain.Case plain.Statement action_step branch_step case_step statement_step (S.While c s)) (λ p q n. refl)
by_variant (S.DoWhile s c) h = by_action (roll-St (S.DoWhile s c)) _ (fold-roll-St plain.Action plain.Branch plain.Case plain.Statement action_step branch_step case_step statement_step (S.DoWhile s c)) (λ p q n. refl)
by_variant (S.For a c b s) h = by_action (roll-St (S.For a c b s)) _ (fold-roll-St plain.Action plain.Branch plain.Case plain.Statement action_step branch_step case_step statement_step (S.For a c b s)) (λ p q n. refl)
by_variant (S.Return r) h = by_action (roll-St (S.Return r)) _ (fold-roll-St plain.Action plain.Branch plain.Case plain.Statement action_step branch_step case_step statement_step (S.Return r)) (λ p q n. refl)
by_variant S.Break h = by_action (roll-St S.Break) _ (fold-roll-St plain.Action plain.Branch plain.Case plain.Statement action_step branch_step case_step statement_step S.Break) (λ p q n. refl)
by_variant S.Continue h = by_action (roll-St S.Continue) _ (fold-roll-St plain.Action plain.Branch plain.Case plain.Statement action_step branch_step case_step statement_step S.Continue) (λ p q n. refl)
by_variant (S.Par bs) h = by_action (roll-St (S.Par bs)) _ (fold-roll-St plain.Action plain.Branch plain.Case plain.Statement action_step branch_step case_step statement_step (S.Par bs)) (λ p q n. refl)
by_variant (S.Repl a b c f t k) h = by_action (roll-St (S.Repl a b c f t k)) _ (fold-roll-St plain.Action plain.Branch plain.Case plain.Statement action_step branch_step case_step statement_step (S.Repl a b c f t k)) (λ p q n. refl)
by_variant (S.Select cs) h = by_action (roll-St (S.Select cs)) _ (fold-roll-St plain.Action plain.Branch plain.Case plain.Statement action_step branch_step case_step statement_step (S.Select cs)) (λ p q n. refl)
by_variant (S.Tran m ss) h = by_action (roll-St (S.Tran m ss)) _ (fold-roll-St plain.Action plain.Branch plain.Case plain.Statement action_step branch_step case_step statement_step (S.Tran m ss)) (λ p q n. refl)

pub other_body : (k : St) → ((ss : List Stmt) → k ≡ Block ss → ⊥) → (p q : Pos) (n : ℕ) → of_body (plain.statement (action_of k) p q n) ≡ of_action (action_of k)
other_body k h = subst (λ (x : St). ((ss : List Stmt) → x ≡ Block ss → ⊥) → IsAsItsAction x) (roll-out-St k) (by_variant (out-St k)) h

pub body_of_other : (s : Stmt) → ((ss : List Stmt) → s.kind.value ≡ Block ss → ⊥) → of_statement (statement_of s) ≡ of_body (statement_of s)
body_of_other s h = rw (statement-Stmt s) (sym (other_body s.kind.value h s.pos s.close s.own))
