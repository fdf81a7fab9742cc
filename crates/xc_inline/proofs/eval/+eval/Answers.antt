use Rattle.std.proofs.Common.{◌≡◌, ℕ, ◌<◌, ◌≤◌, Bool, true, List, [], ◌∷◌, length, get_or, drop, Option, Some, None, refl, ap, sym, ◌∙◌, arith, rules}
use Rattle.xw_words.specs.declared.pos.Pos.{Pos}
use Rattle.xc_kernel.specs.Operators as meant
use Rattle.xc_kernel.specs.Kernels as kernel
use Rattle.xc_kernel.specs.Eval as spec
use Rattle.xc_kernel.specs.Meant.{operator_meant}
use Rattle.xc_kernel.specs.Values as values
use Rattle.xc_kernel.proofs.Forms.{expression-Num, expression-Read, expression-Op}
use Rattle.xc_inline.specs.Words.{word_in}
use Rattle.xc_inline.proofs.eval.+eval.Goals as goal

-- a list of no item, of one, of two, of three before others, and of one before others
list_none : {X : Type 0} (xs : List X) → length xs < 1 → xs ≡ []
list_none [] h = refl
list_none (y ∷ ys) h = absurd (omega (arith, h))

list_one : {X : Type 0} (xs : List X) (x : X) → x ≡ get_or xs 0 x → length xs ≡ 1 → xs ≡ x ∷ []
list_one [] x e h = absurd (omega (arith, h))
list_one (y ∷ []) x e h = ap (λ z. z ∷ []) (sym e)
list_one (y ∷ z ∷ zs) x e h = absurd (omega (arith, h))

list_two : {X : Type 0} (xs : List X) (x y : X) → x ≡ get_or xs 0 x → y ≡ get_or xs 1 y → length xs ≡ 2 → xs ≡ x ∷ y ∷ []
list_two [] x y e f h = absurd (omega (arith, h))
list_two (a ∷ []) x y e f h = absurd (omega (arith, h))
list_two (a ∷ b ∷ []) x y e f h = λ i. sym e i ∷ sym f i ∷ []
list_two (a ∷ b ∷ d ∷ ds) x y e f h = absurd (omega (arith, h))

list_more : {X : Type 0} (xs : List X) (x y z : X) → x ≡ get_or xs 0 x → y ≡ get_or xs 1 y → z ≡ get_or xs 2 z → 3 ≤ length xs →
    xs ≡ x ∷ y ∷ z ∷ drop 3 xs
list_more [] x y z e f g h = absurd (omega (arith, h))
list_more (a ∷ []) x y z e f g h = absurd (omega (arith, h))
list_more (a ∷ b ∷ []) x y z e f g h = absurd (omega (arith, h))
list_more (a ∷ b ∷ d ∷ ds) x y z e f g h = λ i. sym e i ∷ sym f i ∷ sym g i ∷ ds

list_some : {X : Type 0} (xs : List X) (x : X) → x ≡ get_or xs 0 x → 0 < length xs → xs ≡ x ∷ drop 1 xs
list_some [] x e h = absurd (omega (arith, h))
list_some (y ∷ ys) x e h = ap (λ z. z ∷ ys) (sym e)

-- what is applied to a first value that is no word, to one word, and to a word and a second value
of_no_word : (o : meant.Operator) (u : Bool) (pos : Pos) (v : values.Value) (vs : List values.Value) (r : Option ℕ) → r ≡ None →
    None ≡ word_in v → r ≡ word_in (values.applied o u pos (v ∷ vs))
of_no_word o u pos (values.error kind at) vs r n e = n
of_no_word o u pos (values.word a) vs r n e = absurd (cc)

of_one_word : (o : meant.Operator) (u : Bool) (pos : Pos) (v : values.Value) (a r : ℕ) → Some a ≡ word_in v → values.word r ≡ values.of_one o a →
    Some r ≡ word_in (values.applied o u pos (v ∷ []))
of_one_word o u pos (values.error kind at) a r e is = absurd (cc)
of_one_word o u pos (values.word b) a r e is = let same : a ≡ b = cc in ap word_in (is ∙ ap (values.of_one o) same)

of_two_values : (o : meant.Operator) (u : Bool) (pos : Pos) (v w : values.Value) (a : ℕ) (r : Option ℕ) → Some a ≡ word_in v →
    r ≡ word_in (values.with_second o u pos a w) → r ≡ word_in (values.applied o u pos (v ∷ w ∷ []))
of_two_values o u pos (values.error kind at) w a r e is = absurd (cc)
of_two_values o u pos (values.word b) w a r e is = let same : a ≡ b = cc in is ∙ ap (λ x. word_in (values.with_second o u pos x w)) same

-- of three or more, the first decides which of the next two counts
first_decides : (o : meant.Operator) (u : Bool) (pos : Pos) (v w x : values.Value) (vs : List values.Value) (a : ℕ) → Some a ≡ word_in v →
    values.choice (values.is_true a) w x ≡ values.applied o u pos (v ∷ w ∷ x ∷ vs)
first_decides o u pos (values.error kind at) w x vs a e = absurd (cc)
first_decides o u pos (values.word b) w x vs a e = let same : a ≡ b = cc in ap (λ y. values.choice (values.is_true y) w x) same

not_zero : (a : ℕ) → (a ≡ 0 → ⊥) → values.is_true a ≡ true
not_zero a h = grind (arith, h)

pub eval-returns-in-Num : goal.eval-returns-in-Num
eval-returns-in-Num t c = rw (c.in-Num.is, expression-Num)

pub eval-returns-in-Read : goal.eval-returns-in-Read
eval-returns-in-Read t c = rw (c.in-Read.is, expression-Read) c.eval_place.ensures

pub eval-returns-in-Op : goal.eval-returns-in-Op
eval-returns-in-Op t c = rw (c.in-Op.is, expression-Op, ← c.as_slice.ensures, ← c.operator_at.ensures) (c.eval_operation.ensures c.in-Op.field-3)

pub eval_operation-returns-in-empty : goal.eval_operation-returns-in-empty
eval_operation-returns-in-empty t c = λ pos. rw (list_none c.args.operands.now (omega arith))

pub eval_operation-returns-in_ok-eval-in-len1 : goal.eval_operation-returns-in_ok-eval-in-len1
eval_operation-returns-in_ok-eval-in-len1 t c = λ pos.
    rw (list_one c.args.operands.now c.only-item.result c.only-item.is (omega arith))
    (of_one_word (operator_meant c.args.operator) c.args.unsigned pos (spec.eval [] (kernel.expression_of c.only-item.result))
    c.in_ok-eval-in-len1.field-0 _
    (sym c.in_ok-eval-in-len1.was ∙ c.eval.ensures) c.of_one.ensures)

pub eval_operation-returns-in_ok-eval-in-len2 : goal.eval_operation-returns-in_ok-eval-in-len2
eval_operation-returns-in_ok-eval-in-len2 t c = λ pos.
    let second = (spec.eval [] (kernel.expression_of c.second-item.result)) in
    rw (list_two c.args.operands.now c.first-item.result c.second-item.result c.first-item.is c.second-item.is (omega arith))
    (of_two_values (operator_meant c.args.operator) c.args.unsigned pos (spec.eval [] (kernel.expression_of c.first-item.result)) second
    c.in_ok-eval-in-len2.field-0 _
    (sym c.in_ok-eval-in-len2.was ∙ c.eval-in-len2.ensures) (c.with_second.ensures pos second c.eval-in-len2-2.ensures))

pub eval_operation-returns-in_err-eval-in-len1 : goal.eval_operation-returns-in_err-eval-in-len1
eval_operation-returns-in_err-eval-in-len1 t c = λ pos.
    let none : c.from_residual.result ≡ None = search rules in
    rw (list_some c.args.operands.now c.only-item.result c.only-item.is (omega arith))
    (of_no_word (operator_meant c.args.operator) c.args.unsigned pos (spec.eval [] (kernel.expression_of c.only-item.result)) _ _
    none (sym c.in_err-eval-in-len1.was ∙ c.eval.ensures))

pub eval_operation-returns-in_err-eval-in-len2 : goal.eval_operation-returns-in_err-eval-in-len2
eval_operation-returns-in_err-eval-in-len2 t c = λ pos.
    let none : c.from_residual-in_err-eval-in-len2.result ≡ None = search rules in
    rw (list_some c.args.operands.now c.first-item.result c.first-item.is (omega arith))
    (of_no_word (operator_meant c.args.operator) c.args.unsigned pos (spec.eval [] (kernel.expression_of c.first-item.result)) _ _
    none (sym c.in_err-eval-in-len2.was ∙ c.eval-in-len2.ensures))

pub eval_operation-returns-in_err-eval-in-len3-up : goal.eval_operation-returns-in_err-eval-in-len3-up
eval_operation-returns-in_err-eval-in-len3-up t c = λ pos.
    let none : c.from_residual-in_err-eval-in-len3-up.result ≡ None = search rules in
    rw (list_some c.args.operands.now c.test-item.result c.test-item.is (omega arith))
    (of_no_word (operator_meant c.args.operator) c.args.unsigned pos (spec.eval [] (kernel.expression_of c.test-item.result)) _ _
    none (sym c.in_err-eval-in-len3-up.was ∙ c.eval-in-len3-up.ensures))

pub eval_operation-returns-then-branch-ne0 : goal.eval_operation-returns-then-branch-ne0
eval_operation-returns-then-branch-ne0 t c = λ pos.
    let second = spec.eval [] (kernel.expression_of c.second-item-2.result) in
    let third = spec.eval [] (kernel.expression_of c.third-item.result) in
    let test = not_zero c.in_ok-eval-in-len3-up.field-0 c.if-branch-ne0.true in
    let items = list_more c.args.operands.now c.test-item.result c.second-item-2.result c.third-item.result in
    rw (items c.test-item.is c.second-item-2.is c.third-item.is (omega arith))
    (c.eval-then-branch-ne0.ensures
    ∙ ap word_in (ap (λ b. values.choice b second third) (sym test)
    ∙ first_decides (operator_meant c.args.operator) c.args.unsigned pos (spec.eval [] (kernel.expression_of c.test-item.result)) second third _
    c.in_ok-eval-in-len3-up.field-0 (sym c.in_ok-eval-in-len3-up.was ∙ c.eval-in-len3-up.ensures)))

pub eval_operation-returns-else-branch-ne0 : goal.eval_operation-returns-else-branch-ne0
eval_operation-returns-else-branch-ne0 t c = λ pos.
    let second = spec.eval [] (kernel.expression_of c.second-item-2.result) in
    let third = spec.eval [] (kernel.expression_of c.third-item.result) in
    let test = ap values.is_true c.if-branch-ne0.false in
    let items = list_more c.args.operands.now c.test-item.result c.second-item-2.result c.third-item.result in
    rw (items c.test-item.is c.second-item-2.is c.third-item.is (omega arith))
    (c.eval-else-branch-ne0.ensures
    ∙ ap word_in (ap (λ b. values.choice b second third) (sym test)
    ∙ first_decides (operator_meant c.args.operator) c.args.unsigned pos (spec.eval [] (kernel.expression_of c.test-item.result)) second third _
    c.in_ok-eval-in-len3-up.field-0 (sym c.in_ok-eval-in-len3-up.was ∙ c.eval-in-len3-up.ensures)))
