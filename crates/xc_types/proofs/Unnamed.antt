-- An expression that isn't a name alone has the same sites wherever it stands.
use Rattle.std.proofs.Common.{◌≡◌, ℕ, List, refl, sym, subst}
use Rattle.xw_words.specs.declared.pos.Pos.{Pos}
use Rattle.xc_tree.specs.declared.tree.Expr.{Expr}
use Rattle.xc_tree.specs.declared.tree.Ex.TheOpen as E
use Rattle.xc_tree.specs.declared.tree.Ex.{Ex, Name, out-Ex, roll-Ex, roll-out-Ex, fold-roll-Ex}
use Rattle.xc_tree.specs.declared.tree.Ex.TheVariants.{rolls-Name}
use Rattle.xc_tree.specs.Plain as plain
use Rattle.xc_tree.specs.Trees.{expression_of, form_of, form_step, expression_step}
use Rattle.xc_tree.specs.Types.Named.{NamedProgram}
use Rattle.xc_tree.specs.Types.Sites.{of_expression, of_lval, of_whole}
use Rattle.xc_tree.proofs.Forms.{expression-Expr}

record IsPart (f : plain.Form) : Type 0 where
  pub lval : (n : NamedProgram) (k : ℕ) (p : Pos) → of_expression n k (plain.expression f p) ≡ of_lval n k (plain.expression f p)
  pub whole : (n : NamedProgram) (k : ℕ) (p : Pos) → of_expression n k (plain.expression f p) ≡ of_whole n k (plain.expression f p)

rolled_part : (f : E.Ex-F Ex Expr) → ((t : List ℕ) → roll-Ex f ≡ Name t → ⊥) → IsPart (form_of (roll-Ex f))
unfolding form_of
rolled_part (E.Name t) h = absurd (h t (rolls-Name t))
rolled_part f h = subst IsPart (sym (fold-roll-Ex plain.Form plain.Expression form_step expression_step f)) (record { lval = λ n k p. refl; whole = λ n k p. refl })

is_part : (f : Ex) → ((t : List ℕ) → f ≡ Name t → ⊥) → IsPart (form_of f)
is_part f = subst (λ (g : Ex). ((t : List ℕ) → g ≡ Name t → ⊥) → IsPart (form_of g)) (roll-out-Ex f) (rolled_part (out-Ex f))

module _ (n : NamedProgram) (k : ℕ) (e : Expr) (h : (t : List ℕ) → e.kind ≡ Name t → ⊥) where
  pub unnamed_lval : of_expression n k (expression_of e) ≡ of_lval n k (expression_of e)
  unnamed_lval = rw (expression-Expr e) ((is_part e.kind h).lval n k e.pos)

  pub unnamed_whole : of_expression n k (expression_of e) ≡ of_whole n k (expression_of e)
  unnamed_whole = rw (expression-Expr e) ((is_part e.kind h).whole n k e.pos)
