-- Each root of a checked kernel is on one of the cores 0 to 3.
use Rattle.std.proofs.Common.{◌≡◌, ◌⊎◌, inl, inr, ⊎_elim, ℕ, zero, suc, ◌+◌, ◌-◌, ◌≤◌, Bool, true, false, List, [], ◌∷◌, Option, Some, None, Contains, nat_le, refl, sym, ap, subst, arith}
use Rattle.std.proofs.lemmas.Bool.{leb-true}
use Rattle.xw_words.specs.declared.pos.Pos.{Pos}
use Rattle.xc_tree.specs.Plain as tree
use Rattle.xc_kernel.specs.Plain as kernel
use Rattle.xc_kernel.specs.Numbering.{no_numbering}
use Rattle.xc_kernel.specs.Scopes.{Scope, a_constant, with_name}
use Rattle.xc_kernel.specs.Values.{Value, word, error}
use Rattle.xc_kernel.specs.Programs.{Function, main_of}
use Rattle.xc_kernel.specs.Context.{Context, in_branch}
use Rattle.xc_kernel.specs.Calls.{CopiesCall}
use Rattle.xc_kernel.specs.Ports.{core_by, core_of_value, core_of}
use Rattle.xc_kernel.specs.Expressions.{eval_in}
use Rattle.xc_kernel.specs.Roots.{Rooted, block_has_placed, in_block, branch_root, branch_roots, numbered_roots, action_roots, block_roots, roots_by, roots_of, context_of}
use Rattle.xc_kernel.specs.Copies.{calls_of, numbering, copy_of}
use Rattle.xc_disjoint.specs.Checked.{IsChecked}
use Rattle.xc_disjoint.specs.Cores.{no_core}
use Rattle.xc_disjoint.specs.Rules as rules
use Rattle.xc_wellformed.proofs.Walk.Arguments.{AllIn, both}

-- a root has a core, or none
abbrev Known : kernel.Root → Type 0
Known r = (r.core ≡ no_core) ⊎ (r.core ≤ 3)

core_known : (scope : Scope) (place : Option tree.Place) → (core_of scope place ≡ no_core) ⊎ (core_of scope place ≤ 3)
core_known scope None = inr (omega arith)
core_known scope (Some p) = by (eval_in no_numbering scope [] p.value)
  where
    near : (v : ℕ) (b : Bool) → (b ≡ true → v ≤ 3) → (core_by v b ≡ no_core) ⊎ (core_by v b ≤ 3)
    near v true l = inr (l refl)
    near v false l = inl refl

    by : (v : Value) → (core_of_value v ≡ no_core) ⊎ (core_of_value v ≤ 3)
    by (word v) = near v (nat_le v 3) (leb-true v 3)
    by (error kind pos) = inl refl

abbrev pub IsOnACore : kernel.Root → Type 0
IsOnACore r = r.core ≤ 3

module _ (copies : CopiesCall) where
  abbrev AllKnown : Rooted → Type 0
  AllKnown r = AllIn Known r.roots

  branch_known : (main : Pos) (b : tree.Branch) (c : Context) (scope : Scope) → AllKnown (branch_root copies main b c scope)
  branch_known main (tree.branch place s) c scope = (core_known scope place, tt)

  branches_known : (main : Pos) (bs : tree.Branches) (index : ℕ) (c : Context) (scope : Scope) → AllKnown (branch_roots copies main bs index c scope)
  branches_known main tree.no_branch index c scope = tt
  branches_known main (tree.more_branches b bs) index c scope =
      let first = branch_root copies main b (in_branch c index) scope in
      both Known first.roots (branch_roots copies main bs (index + 1) c first.made.scope).roots (branch_known main b (in_branch c index) scope) (branches_known main bs (index + 1) c first.made.scope)

  numbered_known : (main : Pos) (b : tree.Branch) (name : List ℕ) (c : Context) (scope : Scope) (count index number : ℕ) → AllKnown (numbered_roots copies main b name c scope count index number)
  numbered_known main b name c scope zero index number = tt
  numbered_known main b name c scope (suc count) index number =
      both Known (branch_root copies main b (in_branch c index) (with_name scope name (a_constant number))).roots (numbered_roots copies main b name c scope count (index + 1) (number + 1)).roots
      (branch_known main b (in_branch c index) (with_name scope name (a_constant number))) (numbered_known main b name c scope count (index + 1) (number + 1))

  action_known : (main : Pos) (a : tree.Action) (c : Context) (scope : Scope) → AllKnown (action_roots copies main a c scope)
  action_known main (tree.par bs) c scope = branches_known main bs 0 c scope
  action_known main (tree.replicated first second third from until b) c scope = numbered_known main b first.text c scope (until - from) 0 from
  action_known main tree.empty c scope = tt
  action_known main (tree.block ss) c scope = tt
  action_known main (tree.declare ds) c scope = tt
  action_known main (tree.assign to symbol at r) c scope = tt
  action_known main (tree.step to symbol) c scope = tt
  action_known main (tree.perform r) c scope = tt
  action_known main (tree.output o) c scope = tt
  action_known main (tree.input i) c scope = tt
  action_known main (tree.if_then test a b) c scope = tt
  action_known main (tree.while_loop test body) c scope = tt
  action_known main (tree.do_while body test) c scope = tt
  action_known main (tree.for_loop first test next body) c scope = tt
  action_known main (tree.return_with r) c scope = tt
  action_known main tree.break_out c scope = tt
  action_known main tree.continue_on c scope = tt
  action_known main (tree.select cs) c scope = tt
  action_known main (tree.transaction is_master ss) c scope = tt

  block_known : (main : Pos) (ss : tree.Statements) (c : Context) (scope : Scope) → AllKnown (block_roots copies main ss c scope)
  block_known main tree.no_more c scope = tt
  block_known main (tree.more (tree.statement action pos close own) ss) c scope =
      let first = action_roots copies main action c scope in
      both Known first.roots (block_roots copies main ss c first.made.scope).roots (action_known main action c scope) (block_known main ss c first.made.scope)

  by_known : (placed : Bool) (f : Function) (c : Context) → c.core ≤ 3 → AllKnown (roots_by copies placed f c)
  by_known true f c low = block_known f.head.name.pos (in_block f.body) c c.ports
  by_known false f c low = (inr (omega arith), tt)

  known : (f : Option Function) (c : Context) → c.core ≤ 3 → AllKnown (roots_of copies f c)
  known None c low = tt
  known (Some f) c low = by_known (block_has_placed (in_block f.body)) f c low

roots_known : (P : List tree.Item) → AllIn Known (copy_of P).roots
unfolding copy_of
roots_known P = known (calls_of P) (main_of P) (context_of P (numbering P)) (omega arith)

all_on_cores : (rs : List kernel.Root) → AllIn Known rs → ((r : kernel.Root) → Contains rs r → r.core ≡ no_core → ⊥) → AllIn IsOnACore rs
all_on_cores [] known_ones never = tt
all_on_cores (r ∷ rs) known_ones never = (
  ⊎_elim (λ e. absurd (never r (0, omega arith, refl) e)) (λ le. le) known_ones.0,
  all_on_cores rs known_ones.1 (λ x c. never x (let l = c.1 in (suc c.0, omega arith, c.2))),
)

-- no place of a checked kernel is without a core
pub roots_are_on_cores : (k : kernel.Kernel) → IsChecked k → AllIn IsOnACore k.roots
roots_are_on_cores k checked =
    let e = ap (λ (q : kernel.Kernel). q.roots) checked.of_program.copies.is_copy in
    all_on_cores k.roots (subst (AllIn Known) (sym e) (roots_known checked.of_program.program)) (λ r c none. checked.unbroken _ (rules.without_core (rules.of_root r c none)))
