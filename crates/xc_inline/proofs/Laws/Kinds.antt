-- Statements by their kinds, where only a few kinds are told apart.
use Rattle.std.proofs.Common.{◌≡◌, ℕ, List, false, refl, sym, subst}
use Rattle.std.specs.declared.boxed.Box.{Box}
use Rattle.std.specs.declared.alloc.Global.{Global}
use Rattle.xw_words.specs.declared.pos.Pos.{Pos}
use Rattle.xc_tree.specs.declared.tree.Branch.{Branch}
use Rattle.xc_tree.specs.declared.tree.Case.{Case}
use Rattle.xc_tree.specs.declared.tree.Declared.{Declared}
use Rattle.xc_tree.specs.declared.tree.Id.{Id}
use Rattle.xc_tree.specs.declared.tree.St as st
use Rattle.xc_tree.specs.declared.tree.St.TheOpen as S
use Rattle.xc_tree.specs.declared.tree.St.{St, out-St, roll-St, roll-out-St, fold-roll-St}
use Rattle.xc_tree.specs.declared.tree.St.TheVariants.{rolls-Block, rolls-Decl, rolls-Par, rolls-Repl}
use Rattle.xc_tree.specs.declared.tree.Stmt.{Stmt}
use Rattle.xc_tree.specs.Plain as plain
use Rattle.xc_tree.specs.Trees.{statement_of, action_of, action_step, branch_step, case_step, statement_step}
use Rattle.xc_tree.proofs.Forms.{statement-Stmt, action-Block, action-Par, action-Repl}
use Rattle.xc_kernel.specs.Roots.{action_has_placed, in_block}
use Rattle.xc_inline.proofs.Laws.Roots.{makes_roots, is_placed_as}

-- it isn't a block
abbrev pub NoBlock : St → Type 0
NoBlock k = (ss : List Stmt) → k ≡ st.Block ss → ⊥

-- it declares nothing
abbrev pub NoDeclaration : St → Type 0
NoDeclaration k = (ds : List Declared) → k ≡ st.Decl ds → ⊥

-- it isn't a `par`
abbrev pub NoPar : St → Type 0
NoPar k = (bs : List Branch) → k ≡ st.Par bs → ⊥

-- it isn't a replicated one
abbrev pub NoReplicated : St → Type 0
NoReplicated k = (first second third : Id) (from until : ℕ) (body : Box Branch Global) → k ≡ st.Repl first second third from until body → ⊥

rolled_placeless : (k : S.St-F St Branch Case Stmt) → NoPar (roll-St k) → NoReplicated (roll-St k) → false ≡ action_has_placed (action_of (roll-St k))
unfolding action_of
rolled_placeless (S.Par bs) p r = absurd (p bs (rolls-Par bs))
rolled_placeless (S.Repl first second third from until body) p r = absurd (r first second third from until body (rolls-Repl first second third from until body))
rolled_placeless k p r = subst (λ (a : plain.Action). false ≡ action_has_placed a) (sym (fold-roll-St plain.Action plain.Branch plain.Case plain.Statement action_step branch_step case_step statement_step k)) refl

-- what is no `par` has no placed branch
pub placeless : (k : St) → NoPar k → NoReplicated k → false ≡ action_has_placed (action_of k)
placeless k p r = subst (λ (k : St). NoPar k → NoReplicated k → false ≡ action_has_placed (action_of k)) (roll-out-St k) (rolled_placeless (out-St k)) p r

rolled_rootless : (k : S.St-F St Branch Case Stmt) → NoDeclaration (roll-St k) → NoPar (roll-St k) → NoReplicated (roll-St k) → makes_roots (action_of (roll-St k)) ≡ false
unfolding action_of
rolled_rootless (S.Decl ds) d p r = absurd (d ds (rolls-Decl ds))
rolled_rootless (S.Par bs) d p r = absurd (p bs (rolls-Par bs))
rolled_rootless (S.Repl first second third from until body) d p r = absurd (r first second third from until body (rolls-Repl first second third from until body))
rolled_rootless k d p r = subst (λ (a : plain.Action). makes_roots a ≡ false) (sym (fold-roll-St plain.Action plain.Branch plain.Case plain.Statement action_step branch_step case_step statement_step k)) refl

-- what neither declares nor is a `par` makes no roots
pub rootless : (k : St) → NoDeclaration k → NoPar k → NoReplicated k → makes_roots (action_of k) ≡ false
rootless k d p r = subst (λ (k : St). NoDeclaration k → NoPar k → NoReplicated k → makes_roots (action_of k) ≡ false) (roll-out-St k) (rolled_rootless (out-St k)) d p r

-- nothing stands directly in a statement of this kind
abbrev IsClosed : plain.Action → Type 0
IsClosed a = (p q : Pos) (n : ℕ) → plain.no_more ≡ in_block (plain.statement a p q n)

rolled_closed : (k : S.St-F St Branch Case Stmt) → NoBlock (roll-St k) → IsClosed (action_of (roll-St k))
unfolding action_of
rolled_closed (S.Block ss) b = absurd (b ss (rolls-Block ss))
rolled_closed k b = subst IsClosed (sym (fold-roll-St plain.Action plain.Branch plain.Case plain.Statement action_step branch_step case_step statement_step k)) (λ p q n. refl)

-- nothing stands directly in what is no block
pub closed : (s : Stmt) → NoBlock s.kind.value → plain.no_more ≡ in_block (statement_of s)
closed s b = rw (statement-Stmt s) (subst (λ (k : St). NoBlock k → IsClosed (action_of k)) (roll-out-St s.kind.value) (rolled_closed (out-St s.kind.value)) b s.pos s.close s.own)

-- in a block
pub ruleset blocks = (statement-Stmt, action-Block)

-- in a `par`
pub ruleset pars = (action-Par, action-Repl, is_placed_as)
