-- Expressions by their forms: what the kernel has for them, and whether they are `unsigned`.
use Rattle.std.proofs.Common.{◌≡◌, Bool, ap, sym, ◌∙◌}
use Rattle.xc_tree.specs.declared.tree.Expr.{Expr}
use Rattle.xc_tree.specs.declared.tree.Ex.{Ex}
use Rattle.xc_tree.specs.Plain as tree
use Rattle.xc_tree.specs.Trees.{expression_of, form_of}
use Rattle.xc_tree.proofs.Forms.{expression-Expr}
use Rattle.xc_kernel.specs.Expressions.{expression_in, form_in, kernel_place, place_of_form}
use Rattle.xc_kernel.specs.Numbering.{Numbering}
use Rattle.xc_kernel.specs.Plain as kernel
use Rattle.xc_kernel.specs.Scopes.{Scope, is_unsigned}

module _ (scope : Scope) (e : Expr) {k : Ex} {f : tree.Form} (is : e.kind ≡ k) (form : form_of k ≡ f) where
  formed : expression_of e ≡ tree.expression f e.pos
  formed = expression-Expr e ∙ ap (λ g. tree.expression g e.pos) (ap form_of is ∙ form)

  pub word_by_form : (n : Numbering) {made : kernel.Expression} → made ≡ form_in n scope e.pos f → made ≡ expression_in n scope (expression_of e)
  word_by_form n made = made ∙ sym (ap (expression_in n scope) formed)

  pub place_by_form : (n : Numbering) {made : kernel.Place} → made ≡ place_of_form n scope e.pos f → made ≡ kernel_place n scope (expression_of e)
  place_by_form n made = made ∙ sym (ap (kernel_place n scope) formed)

  pub sign_by_form : {u : Bool} → u ≡ is_unsigned scope (tree.expression f e.pos) → u ≡ is_unsigned scope (expression_of e)
  sign_by_form made = made ∙ sym (ap (is_unsigned scope) formed)
