use Rattle.std.proofs.Common.{◌≡◌, Bool, true, false, ◌&&◌, refl, sym, ap, ◌∙◌, true≢false}
use Rattle.xc_tree.specs.declared.tree.Expr.{Expr}
use Rattle.xc_tree.specs.Shapes.Places.{is_made_of_these, operators, signs}
use Rattle.xc_tree.specs.Trees.{expression_of}
use Rattle.xc_tree.specs.Types.Words.{is_among}
use Rattle.xc_tree.proofs.Forms.{expression-Expr, form-Num, form-Name, form-Index, form-Un, form-Bin, form-Cond, form-Cast}
use Rattle.xc_types.proofs.places.+is_made_of_these.Goals.{then-is_operator, else-is_operator}
use Rattle.xc_types.proofs.places.+is_made_of_these.Goals as goal

-- the test behind a test that holds, and behind one that doesn't
behind_true : (before one answer : Bool) → before ≡ true → answer ≡ one → answer ≡ before && one
behind_true before one answer holds is = is ∙ sym (ap (λ b. b && one) holds)

behind_false : (before one : Bool) → before ≡ false → before ≡ before && one
behind_false before one fails = fails ∙ sym (ap (λ b. b && one) fails)

-- the third test behind two that hold both, and behind two that don't
behind_both : (first second third answer : Bool) → first && second ≡ true → answer ≡ third → answer ≡ first && (second && third)
behind_both true second third answer hold is = behind_true second third answer hold is
behind_both false second third answer hold is = absurd (true≢false (sym hold))

behind_none : (first second third : Bool) → first && second ≡ false → first && second ≡ first && (second && third)
behind_none true second third fail = behind_false second third fail
behind_none false second third fail = refl

-- whether an operand is made of these
abbrev made : Expr → Bool
made e = is_made_of_these (expression_of e)

pub returns-in-Num : goal.returns-in-Num
returns-in-Num t c = rw (expression-Expr, c.in-Num.is, form-Num) refl

pub returns-in-Name : goal.returns-in-Name
returns-in-Name t c = rw (expression-Expr, c.in-Name.is, form-Name) refl

pub returns-in-Index : goal.returns-in-Index
returns-in-Index t c = rw (expression-Expr, c.in-Index.is, form-Index) refl

pub returns-in-Cond : goal.returns-in-Cond
returns-in-Cond t c = rw (expression-Expr, c.in-Cond.is, form-Cond) refl

pub returns-in-Cast : goal.returns-in-Cast
returns-in-Cast t c = rw (expression-Expr, c.in-Cast.is, form-Cast) refl

pub returns-then-is_sign : goal.returns-then-is_sign
returns-then-is_sign t c =
    rw (expression-Expr, c.in-Un.is, form-Un, ← c.deref.ensures)
    (behind_true (is_among signs c.in-Un.symbol) (made c.deref.result.now) _ (sym c.is_sign.ensures ∙ c.if-is_sign.true) c.is_made_of_these.ensures)

pub returns-else-is_sign : goal.returns-else-is_sign
returns-else-is_sign t c =
    rw (expression-Expr, c.in-Un.is, form-Un)
    (c.is_sign.ensures ∙ behind_false (is_among signs c.in-Un.symbol) (made c.in-Un.operand.value) (sym c.is_sign.ensures ∙ c.if-is_sign.false))

pub returns-then-is_made_of_these : goal.returns-then-is_made_of_these
returns-then-is_made_of_these t c =
    let operator = is_among operators c.in-Bin.symbol in
    let left = made c.in-Bin.left.value in
    let both : c.if-is_operator.value ≡ operator && left = elim c.if-is_operator.branch [
      | then-is_operator w ↦
          w.value-is
          ∙ behind_true operator left _ (sym c.is_operator.ensures ∙ w.if-is_operator.true)
          (w.is_made_of_these-then-is_operator.ensures ∙ ap made w.deref-then-is_operator.ensures)
      | else-is_operator w ↦ w.value-is ∙ c.is_operator.ensures ∙ behind_false operator left (sym c.is_operator.ensures ∙ w.if-is_operator.false)
    ] in
    rw (expression-Expr, c.in-Bin.is, form-Bin, ← c.deref-then-is_made_of_these.ensures)
    (behind_both operator left (made c.deref-then-is_made_of_these.result.now) _ (sym both ∙ c.if-is_made_of_these.true)
    c.is_made_of_these-then-is_made_of_these.ensures)

pub returns-else-is_made_of_these : goal.returns-else-is_made_of_these
returns-else-is_made_of_these t c =
    let operator = is_among operators c.in-Bin.symbol in
    let left = made c.in-Bin.left.value in
    let both : c.if-is_operator.value ≡ operator && left = elim c.if-is_operator.branch [
      | then-is_operator w ↦
          w.value-is
          ∙ behind_true operator left _ (sym c.is_operator.ensures ∙ w.if-is_operator.true)
          (w.is_made_of_these-then-is_operator.ensures ∙ ap made w.deref-then-is_operator.ensures)
      | else-is_operator w ↦ w.value-is ∙ c.is_operator.ensures ∙ behind_false operator left (sym c.is_operator.ensures ∙ w.if-is_operator.false)
    ] in
    rw (expression-Expr, c.in-Bin.is, form-Bin)
    (both ∙ behind_none operator left (made c.in-Bin.right.value) (sym both ∙ c.if-is_made_of_these.false))
