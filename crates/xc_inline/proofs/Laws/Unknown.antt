-- What a parameter stands for nothing by: an argument that is neither a name nor an element, and an index into no array; and
-- what it stands for by the others.
use Rattle.std.proofs.Common.{◌≡◌, ℕ, Bool, List, refl, ap, sym, subst, ◌∙◌}
use Rattle.std.specs.Prelude.{IfOk, Result}
use Rattle.std.specs.declared.boxed.Box.{Box}
use Rattle.std.specs.declared.alloc.Global.{Global}
use Rattle.xw_words.specs.declared.memory.Memory.{Memory}
use Rattle.xw_words.specs.declared.pos.Pos.{Pos}
use Rattle.xc_tree.specs.declared.tree.Expr.{Expr}
use Rattle.xc_tree.specs.declared.tree.Ex.TheOpen as E
use Rattle.xc_tree.specs.declared.tree.Ex.{Ex, Name, Index, out-Ex, roll-Ex, roll-out-Ex, fold-roll-Ex}
use Rattle.xc_tree.specs.declared.tree.Ex.TheVariants.{rolls-Name, rolls-Index}
use Rattle.xc_tree.specs.Plain as tree
use Rattle.xc_tree.specs.Trees.{expression_of, form_of, form_step, expression_step}
use Rattle.xc_tree.proofs.Forms.{expression-Expr, form-Name, form-Index}
use Rattle.xc_kernel.specs.Context.{Context}
use Rattle.xc_kernel.specs.Parameters.{Passed, stands_for, by_element, by_reference, form_by_reference, by_name}
use Rattle.xc_kernel.specs.Paths.{Path}
use Rattle.xc_kernel.specs.Scopes.{Scope, nothing_known, entity_of}
use Rattle.xc_inline.specs.Handed.{IsPassed}
use Rattle.xc_inline.specs.Scopes.{entity_meant}
use Rattle.xc_inline.specs.declared.parameters.Handed.{Handed}
use Rattle.xc_inline.specs.declared.scope.Entity.{Entity}
use Rattle.xc_inline.specs.declared.scope.Entity.TheVariants.{Array}

-- a form that is no name
rolled_name : (f : E.Ex-F Ex Expr) → ((t : List ℕ) → roll-Ex f ≡ Name t → ⊥) → (scope : Scope) (at : Pos) → by_name scope (tree.expression (form_of (roll-Ex f)) at) ≡ stands_for nothing_known
unfolding form_of
rolled_name (E.Name t) h scope at = absurd (h t (rolls-Name t))
rolled_name f h scope at = ap (λ (g : tree.Form). by_name scope (tree.expression g at)) (fold-roll-Ex tree.Form tree.Expression form_step expression_step f)

form_name : (f : Ex) → ((t : List ℕ) → f ≡ Name t → ⊥) → (scope : Scope) (at : Pos) → by_name scope (tree.expression (form_of f) at) ≡ stands_for nothing_known
form_name f = subst (λ (g : Ex). ((t : List ℕ) → g ≡ Name t → ⊥) → (scope : Scope) (at : Pos) → by_name scope (tree.expression (form_of g) at) ≡ stands_for nothing_known) (roll-out-Ex f) (rolled_name (out-Ex f))

pub unnamed : (e : Expr) → ((t : List ℕ) → e.kind ≡ Name t → ⊥) → (scope : Scope) → by_name scope (expression_of e) ≡ stands_for nothing_known
unnamed e h scope = rw (expression-Expr e) (form_name e.kind h scope e.pos)

-- a name
pub meant_by_name : (e : Expr) (t : List ℕ) → e.kind ≡ Name t → (scope : Scope) → by_name scope (expression_of e) ≡ stands_for (entity_of scope t)
meant_by_name e t is scope =
    ap (by_name scope) (expression-Expr e) ∙ ap (λ (f : tree.Form). by_name scope (tree.expression f e.pos)) (ap form_of is ∙ form-Name t)

-- nor an element
module _ (c : Context) (own : Path) (pos : Pos) where
  rolled_reference : (f : E.Ex-F Ex Expr) → ((t : List ℕ) → roll-Ex f ≡ Name t → ⊥) → ((t : List ℕ) (i : Box Expr Global) → roll-Ex f ≡ Index t i → ⊥) → (scope : Scope) (at : Pos) → form_by_reference c scope own pos at (form_of (roll-Ex f)) ≡ stands_for nothing_known
  unfolding form_of
  rolled_reference (E.Name t) h k scope at = absurd (h t (rolls-Name t))
  rolled_reference (E.Index t i) h k scope at = absurd (k t i (rolls-Index t i))
  rolled_reference f h k scope at = ap (form_by_reference c scope own pos at) (fold-roll-Ex tree.Form tree.Expression form_step expression_step f)

  form_reference : (f : Ex) → ((t : List ℕ) → f ≡ Name t → ⊥) → ((t : List ℕ) (i : Box Expr Global) → f ≡ Index t i → ⊥) → (scope : Scope) (at : Pos) → form_by_reference c scope own pos at (form_of f) ≡ stands_for nothing_known
  form_reference f = subst (λ (g : Ex). ((t : List ℕ) → g ≡ Name t → ⊥) → ((t : List ℕ) (i : Box Expr Global) → g ≡ Index t i → ⊥) → (scope : Scope) (at : Pos) → form_by_reference c scope own pos at (form_of g) ≡ stands_for nothing_known) (roll-out-Ex f) (rolled_reference (out-Ex f))

  pub unreferred : (e : Expr) → ((t : List ℕ) → e.kind ≡ Name t → ⊥) → ((t : List ℕ) (i : Box Expr Global) → e.kind ≡ Index t i → ⊥) → (scope : Scope) → by_reference c scope own pos (expression_of e) ≡ stands_for nothing_known
  unreferred e h k scope = rw (expression-Expr e) (form_reference e.kind h k scope e.pos)

  -- a name, and an element
  pub refers_name : (e : Expr) (t : List ℕ) → e.kind ≡ Name t → (scope : Scope) → by_reference c scope own pos (expression_of e) ≡ stands_for (entity_of scope t)
  refers_name e t is scope = ap (by_reference c scope own pos) (expression-Expr e) ∙ ap (form_by_reference c scope own pos e.pos) (ap form_of is ∙ form-Name t)

  pub refers_element : (e : Expr) (t : List ℕ) (i : Box Expr Global) → e.kind ≡ Index t i → (scope : Scope) → by_reference c scope own pos (expression_of e) ≡ by_element c scope own pos (expression_of i.value) e.pos (entity_of scope t)
  refers_element e t i is scope = ap (by_reference c scope own pos) (expression-Expr e) ∙ ap (form_by_reference c scope own pos e.pos) (ap form_of is ∙ form-Index t i)

  -- what is indexed is no array
  pub no_array : (scope : Scope) (i : tree.Expression) (at : Pos) (e : Entity) → ((p : List ℕ) (n : ℕ) (u : Bool) → e ≡ Array p n u → ⊥) → by_element c scope own pos i at (entity_meant e) ≡ stands_for nothing_known
  no_array scope i at (Array p n u) h = absurd (h p n u refl)
  no_array scope i at other h = refl

-- what is handed for what is passed, by another name of it
pub handed_as_well : {p q : Passed} (r : Result Handed Memory) → p ≡ q → IfOk r (λ h. IsPassed q h) → IfOk r (λ h. IsPassed p h)
handed_as_well r e is = subst (λ x. IfOk r (λ h. IsPassed x h)) (sym e) is
