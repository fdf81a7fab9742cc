use Rattle.std.proofs.Common.{◌≡◌, ℕ, Bool, false, ◌||◌, [], ◌∷◌, ◌++◌, length, IfOk, OnOk, refl, sym, ap, subst, ◌∙◌}
use Rattle.xc_tree.specs.declared.tree.Expr.{Expr}
use Rattle.xc_tree.specs.declared.tree.Id.{Id}
use Rattle.xc_tree.specs.Names.Marks as marks
use Rattle.xc_tree.specs.Plain as plain
use Rattle.xc_tree.specs.Trees.{expression_of, form_of}
use Rattle.xc_tree.specs.Types.Named.{named_of, past}
use Rattle.xc_tree.specs.Types.Sites as sites
use Rattle.xc_tree.specs.Types.Words.{gives_unsigned, is_unsigned, form_is_unsigned}
use Rattle.xc_tree.proofs.Forms.{expression-Expr, form-Num, form-Name, form-Index, form-Un, form-Bin, form-Cond, form-Cast}
use Rattle.xc_types.specs.declared.checker.Checker.{Checker}
use Rattle.xc_types.specs.Checker.{saw, after_indexed, with_type}
use Rattle.xc_types.proofs.Depths.{depth, only, left_of_two, right_of_two, first_of_three, second_of_three, third_of_three, itself}
use Rattle.xc_types.proofs.Joins.{saw_names, saw_nothing}
use Rattle.xc_types.proofs.Loops.{behind}
use Rattle.xc_types.proofs.Nodes.{both_seen, first_node_seen, indexed_seen, names_inside, node_seen, node_within, typed_seen, word_seen}
use Rattle.xc_types.proofs.Steps.{names_typed, saw_node}
use Rattle.xc_types.proofs.expressions.+expression.Goals as goal

-- an expression by its form
by_form : (e : Expr) (form : plain.Form) → form_of e.kind ≡ form → plain.expression form e.pos ≡ expression_of e
by_form e form f = sym (expression-Expr e ∙ ap (λ (x : plain.Form). plain.expression x e.pos) f)

pub element-returns-clause-found : goal.element-returns-clause-found
element-returns-clause-found t c =
    let n = named_of c.args.named.now in
    let index = expression_of c.args.index.now in
    c.in_ok-expression.ensures.found ∙ ap (λ (s : Checker). saw s (marks.of_expression index) (sites.of_expression n s.names index)) c.in_ok-is_unsigned.ensures.found

pub cast-returns-clause-found : goal.cast-returns-clause-found
cast-returns-clause-found t c =
    let n = named_of c.args.named.now in
    let operand = expression_of c.args.operand.now in
    c.in_ok-expression.ensures.found ∙ ap (λ (s : Checker). saw s (marks.of_expression operand) (sites.of_expression n s.names operand)) c.in_ok-add_type.ensures.found

pub unary-set_type-requires : goal.unary-set_type-requires
unary-set_type-requires t c =
    node_within c.args.found.now c.add_type.new.self c.expression.new.found _ _ c.in_ok-node.node
    c.in_ok-node.ensures.found c.in_ok-inside.ensures.found c.in_ok-node.ensures.place

pub unary-returns-clause-is_unsigned : goal.unary-returns-clause-is_unsigned
unary-returns-clause-is_unsigned t c =
    let n = named_of c.args.named.now in
    let operand = expression_of c.args.operand.now in
    c.gives_unsigned-is_unsigned.ensures
    ∙ ap (λ (u : Bool). gives_unsigned c.args.symbol u false)
    (c.in_ok-inside.ensures.is_unsigned
    ∙ ap (λ (k : ℕ). is_unsigned n k operand) (ap (λ (z : Checker). z.names) c.in_ok-node.ensures.found ∙ names_typed false c.args.found.now))

pub unary-returns-clause-found : goal.unary-returns-clause-found
unary-returns-clause-found t c =
    let n = named_of c.args.named.now in
    let found = c.args.found.now in
    let operand = expression_of c.args.operand.now in
    let gives : c.gives_unsigned-is_unsigned.result ≡ form_is_unsigned n found.names (plain.unary c.args.symbol operand) = unary-returns-clause-is_unsigned t c in
    c.set_type.ensures
    ∙ first_node_seen found c.add_type.new.self c.expression.new.found (marks.of_expression operand) (λ (k : ℕ). sites.of_expression n k operand) c.in_ok-node.node c.gives_unsigned-is_unsigned.result
    c.in_ok-node.ensures.found c.in_ok-inside.ensures.found c.in_ok-node.ensures.place
    ∙ ap (λ (u : Bool). saw found (marks.of_expression operand) (sites.node u ∷ sites.of_expression n found.names operand)) gives

pub right_operand-set_type-requires : goal.right_operand-set_type-requires
right_operand-set_type-requires t c =
    node_within c.args.found.now c.add_type.new.self c.expression.new.found _ _ c.in_ok-node.node
    c.in_ok-node.ensures.found c.in_ok-second.ensures.found c.in_ok-node.ensures.place

pub right_operand-returns-clause-is_unsigned : goal.right_operand-returns-clause-is_unsigned
right_operand-returns-clause-is_unsigned t c =
    let n = named_of c.args.named.now in
    let right = expression_of c.args.right.now in
    c.gives_unsigned-is_unsigned.ensures
    ∙ ap (gives_unsigned c.args.symbol c.args.first)
    (c.in_ok-second.ensures.is_unsigned
    ∙ ap (λ (k : ℕ). is_unsigned n k right) (ap (λ (z : Checker). z.names) c.in_ok-node.ensures.found ∙ names_typed false c.args.found.now))

pub right_operand-returns-clause-found : goal.right_operand-returns-clause-found
right_operand-returns-clause-found t c =
    let n = named_of c.args.named.now in
    let found = c.args.found.now in
    let right = expression_of c.args.right.now in
    let gives : c.gives_unsigned-is_unsigned.result ≡ gives_unsigned c.args.symbol c.args.first (is_unsigned n found.names right) = right_operand-returns-clause-is_unsigned t c in
    c.set_type.ensures
    ∙ first_node_seen found c.add_type.new.self c.expression.new.found (marks.of_expression right) (λ (k : ℕ). sites.of_expression n k right) c.in_ok-node.node c.gives_unsigned-is_unsigned.result
    c.in_ok-node.ensures.found c.in_ok-second.ensures.found c.in_ok-node.ensures.place
    ∙ ap (λ (u : Bool). saw found (marks.of_expression right) (sites.node u ∷ sites.of_expression n found.names right)) gives

pub condition-returns-clause-found : goal.condition-returns-clause-found
condition-returns-clause-found t c =
    subst (λ (s : Checker). OnOk c.add_type.result (c.add_type.new.self ≡ with_type false s)) c.in_ok-expression.ensures.found c.add_type.ensures.found

pub condition-returns-clause-place : goal.condition-returns-clause-place
condition-returns-clause-place t c =
    subst (λ (s : Checker). IfOk c.add_type.result (λ place. place ≡ length s.types)) c.in_ok-expression.ensures.found c.add_type.ensures.place

pub expression-returns-in_ok-add_type-in-Num-clause-found : goal.expression-returns-in_ok-add_type-in-Num-clause-found
expression-returns-in_ok-add_type-in-Num-clause-found t c =
    let found = c.args.found.now in
    let u = c.in-Num.is_unsigned in
    let number = by_form c.args.e.now (plain.number c.in-Num.field-0 u) (ap form_of c.in-Num.is ∙ form-Num c.in-Num.field-0 u) in
    subst (λ (x : plain.Expression). c.add_type.new.self ≡ saw found (marks.of_expression x) (sites.of_expression (named_of c.args.named.now) found.names x)) number
    (c.in_ok-add_type-in-Num.ensures.found ∙ sym (saw_node found u [] [] ∙ saw_nothing (with_type u found)))

pub expression-returns-in_ok-add_type-in-Num-clause-is_unsigned : goal.expression-returns-in_ok-add_type-in-Num-clause-is_unsigned
expression-returns-in_ok-add_type-in-Num-clause-is_unsigned t c =
    ap (is_unsigned (named_of c.args.named.now) c.args.found.now.names)
    (by_form c.args.e.now (plain.number c.in-Num.field-0 c.in-Num.is_unsigned) (ap form_of c.in-Num.is ∙ form-Num c.in-Num.field-0 c.in-Num.is_unsigned))

pub expression-returns-in-Name-clause-found : goal.expression-returns-in-Name-clause-found
expression-returns-in-Name-clause-found t c =
    let n = named_of c.args.named.now in
    let found = c.args.found.now in
    let i : Id = record { text = c.in-Name.field-0; pos = c.args.e.now.pos } in
    let name = by_form c.args.e.now (plain.name c.in-Name.field-0) (ap form_of c.in-Name.is ∙ form-Name c.in-Name.field-0) in
    subst (λ (x : plain.Expression). OnOk c.word.result (c.word.new.found ≡ saw found (marks.of_expression x) (sites.of_expression n found.names x))) name
    (subst (λ (s : Checker). OnOk c.word.result (c.word.new.found ≡ s)) (word_seen n found i) c.word.ensures.found)

pub expression-returns-in-Name-clause-is_unsigned : goal.expression-returns-in-Name-clause-is_unsigned
expression-returns-in-Name-clause-is_unsigned t c =
    subst (λ (x : plain.Expression). IfOk c.word.result (λ u. u ≡ is_unsigned (named_of c.args.named.now) c.args.found.now.names x))
    (by_form c.args.e.now (plain.name c.in-Name.field-0) (ap form_of c.in-Name.is ∙ form-Name c.in-Name.field-0))
    c.word.ensures.is_unsigned

pub expression-returns-in-Index-clause-found : goal.expression-returns-in-Index-clause-found
expression-returns-in-Index-clause-found t c =
    let n = named_of c.args.named.now in
    let found = c.args.found.now in
    let index = expression_of c.deref.result.now in
    let ms = marks.of_expression index in
    let there = λ (k : ℕ). sites.of_expression n k index in
    let i : Id = record { text = c.in-Index.field-0; pos = c.args.e.now.pos } in
    let past_name : Checker = after_indexed n i.pos found in
    let element = by_form c.args.e.now (plain.index c.in-Index.field-0 index)
    (ap form_of c.in-Index.is ∙ form-Index c.in-Index.field-0 c.in-Index.index ∙ ap (λ (x : Expr). plain.index c.in-Index.field-0 (expression_of x)) (sym c.deref.ensures)) in
    subst (λ (x : plain.Expression). OnOk c.element.result (c.element.new.found ≡ saw found (marks.of_expression x) (sites.of_expression n found.names x))) element
    (subst (λ (s : Checker). OnOk c.element.result (c.element.new.found ≡ s)) (indexed_seen n found past_name (saw past_name ms (there past_name.names)) i ms there refl refl) c.element.ensures.found)

pub expression-returns-in-Index-clause-is_unsigned : goal.expression-returns-in-Index-clause-is_unsigned
expression-returns-in-Index-clause-is_unsigned t c =
    subst (λ (x : plain.Expression). IfOk c.element.result (λ u. u ≡ is_unsigned (named_of c.args.named.now) c.args.found.now.names x))
    (by_form c.args.e.now (plain.index c.in-Index.field-0 (expression_of c.in-Index.index.value)) (ap form_of c.in-Index.is ∙ form-Index c.in-Index.field-0 c.in-Index.index))
    c.element.ensures.is_unsigned

pub expression-returns-in-Un-clause-found : goal.expression-returns-in-Un-clause-found
expression-returns-in-Un-clause-found t c =
    let n = named_of c.args.named.now in
    let found = c.args.found.now in
    let unary = by_form c.args.e.now (plain.unary c.in-Un.symbol (expression_of c.deref-in-Un.result.now))
    (ap form_of c.in-Un.is ∙ form-Un c.in-Un.symbol c.in-Un.operand ∙ ap (λ (x : Expr). plain.unary c.in-Un.symbol (expression_of x)) (sym c.deref-in-Un.ensures)) in
    subst (λ (x : plain.Expression). OnOk c.unary.result (c.unary.new.found ≡ saw found (marks.of_expression x) (sites.of_expression n found.names x))) unary c.unary.ensures.found

pub expression-returns-in-Un-clause-is_unsigned : goal.expression-returns-in-Un-clause-is_unsigned
expression-returns-in-Un-clause-is_unsigned t c =
    let unary = by_form c.args.e.now (plain.unary c.in-Un.symbol (expression_of c.deref-in-Un.result.now))
    (ap form_of c.in-Un.is ∙ form-Un c.in-Un.symbol c.in-Un.operand ∙ ap (λ (x : Expr). plain.unary c.in-Un.symbol (expression_of x)) (sym c.deref-in-Un.ensures)) in
    subst (λ (x : plain.Expression). IfOk c.unary.result (λ u. u ≡ is_unsigned (named_of c.args.named.now) c.args.found.now.names x)) unary c.unary.ensures.is_unsigned

pub expression-returns-in_ok-first-in-Bin-clause-found : goal.expression-returns-in_ok-first-in-Bin-clause-found
expression-returns-in_ok-first-in-Bin-clause-found t c =
    let n = named_of c.args.named.now in
    let found = c.args.found.now in
    let o = c.in-Bin.symbol in
    let left = expression_of c.deref-in-Bin.result.now in
    let right = expression_of c.deref-in-Bin-2.result.now in
    let ms = marks.of_expression left in
    let there = λ (u : Bool) (k : ℕ). sites.node (gives_unsigned o u (is_unsigned n k right)) ∷ sites.of_expression n k right in
    let binary = by_form c.args.e.now (plain.binary o left right)
    (ap form_of c.in-Bin.is ∙ form-Bin o c.in-Bin.left c.in-Bin.right
    ∙ ap (λ (x : Expr). plain.binary o (expression_of x) (expression_of c.in-Bin.right.value)) (sym c.deref-in-Bin.ensures)
    ∙ ap (λ (x : Expr). plain.binary o left (expression_of x)) (sym c.deref-in-Bin-2.ensures)) in
    subst (λ (x : plain.Expression). OnOk c.right_operand.result (c.right_operand.new.found ≡ saw found (marks.of_expression x) (sites.of_expression n found.names x))) binary
    (subst (λ (u : Bool). OnOk c.right_operand.result (c.right_operand.new.found ≡ saw found (ms ++ marks.of_expression right) (sites.of_expression n found.names left ++ there u (past found.names ms)))) c.in_ok-first-in-Bin.ensures.is_unsigned
    (subst (λ (s : Checker). OnOk c.right_operand.result (c.right_operand.new.found ≡ s))
    (sym (behind found c.expression.new.found ms (marks.of_expression right) (sites.of_expression n found.names left) (there c.in_ok-first-in-Bin.first) c.in_ok-first-in-Bin.ensures.found))
    c.right_operand.ensures.found))

pub expression-returns-in_ok-first-in-Bin-clause-is_unsigned : goal.expression-returns-in_ok-first-in-Bin-clause-is_unsigned
expression-returns-in_ok-first-in-Bin-clause-is_unsigned t c =
    let n = named_of c.args.named.now in
    let found = c.args.found.now in
    let o = c.in-Bin.symbol in
    let left = expression_of c.deref-in-Bin.result.now in
    let right = expression_of c.deref-in-Bin-2.result.now in
    let ms = marks.of_expression left in
    let names = ap (λ (z : Checker). z.names) c.in_ok-first-in-Bin.ensures.found ∙ saw_names found ms (sites.of_expression n found.names left) in
    let binary = by_form c.args.e.now (plain.binary o left right)
    (ap form_of c.in-Bin.is ∙ form-Bin o c.in-Bin.left c.in-Bin.right
    ∙ ap (λ (x : Expr). plain.binary o (expression_of x) (expression_of c.in-Bin.right.value)) (sym c.deref-in-Bin.ensures)
    ∙ ap (λ (x : Expr). plain.binary o left (expression_of x)) (sym c.deref-in-Bin-2.ensures)) in
    subst (λ (x : plain.Expression). IfOk c.right_operand.result (λ u. u ≡ is_unsigned n found.names x)) binary
    (subst (λ (b : Bool). IfOk c.right_operand.result (λ u. u ≡ b))
    (ap (λ (u : Bool). gives_unsigned o u (is_unsigned n c.expression.new.found.names right)) c.in_ok-first-in-Bin.ensures.is_unsigned
    ∙ ap (λ (k : ℕ). gives_unsigned o (is_unsigned n found.names left) (is_unsigned n k right)) names)
    c.right_operand.ensures.is_unsigned)

pub expression-set_type-requires : goal.expression-set_type-requires
expression-set_type-requires t c =
    let n = named_of c.args.named.now in
    let found = c.args.found.now in
    let test = expression_of c.deref-in-Cond.result.now in
    let second = expression_of c.deref-in-Cond-3.result.now in
    let before : Checker = saw found (marks.of_expression test) (sites.of_expression n found.names test) in
    let inside = c.condition.new.found in
    let both = both_seen inside c.expression-in-Cond.new.found c.expression-in-Cond-2.new.found _ _ _ (λ (k : ℕ). sites.of_expression n k second) c.in_ok-first-in-Cond.ensures.found c.in_ok-second-in-Cond.ensures.found in
    node_within before inside c.expression-in-Cond-2.new.found _ _ c.in_ok-node-in-Cond.node c.in_ok-node-in-Cond.ensures.found both c.in_ok-node-in-Cond.ensures.place

pub expression-returns-in_ok-second-in-Cond-clause-is_unsigned : goal.expression-returns-in_ok-second-in-Cond-clause-is_unsigned
expression-returns-in_ok-second-in-Cond-clause-is_unsigned t c =
    let n = named_of c.args.named.now in
    let found = c.args.found.now in
    let test = expression_of c.deref-in-Cond.result.now in
    let first = expression_of c.deref-in-Cond-2.result.now in
    let second = expression_of c.deref-in-Cond-3.result.now in
    let ms = marks.of_expression test in
    let inside = c.condition.new.found in
    let names = names_inside found (saw found ms (sites.of_expression n found.names test)) inside ms (sites.of_expression n found.names test) refl c.in_ok-node-in-Cond.ensures.found in
    let names_between = ap (λ (z : Checker). z.names) c.in_ok-first-in-Cond.ensures.found ∙ saw_names inside (marks.of_expression first) (sites.of_expression n inside.names first) ∙ ap (λ (k : ℕ). past k (marks.of_expression first)) names in
    let choice = by_form c.args.e.now (plain.choice test first second)
    (ap form_of c.in-Cond.is ∙ form-Cond c.in-Cond.test c.in-Cond.first c.in-Cond.second
    ∙ ap (λ (x : Expr). plain.choice (expression_of x) (expression_of c.in-Cond.first.value) (expression_of c.in-Cond.second.value)) (sym c.deref-in-Cond.ensures)
    ∙ ap (λ (x : Expr). plain.choice test (expression_of x) (expression_of c.in-Cond.second.value)) (sym c.deref-in-Cond-2.ensures)
    ∙ ap (λ (x : Expr). plain.choice test first (expression_of x)) (sym c.deref-in-Cond-3.ensures)) in
    subst (λ (x : plain.Expression). c.either-is_unsigned.result ≡ is_unsigned n found.names x) choice
    (c.either-is_unsigned.ensures
    ∙ ap (λ (u : Bool). u || c.in_ok-second-in-Cond.second) (c.in_ok-first-in-Cond.ensures.is_unsigned ∙ ap (λ (k : ℕ). is_unsigned n k first) names)
    ∙ ap (λ (u : Bool). is_unsigned n (past found.names ms) first || u) (c.in_ok-second-in-Cond.ensures.is_unsigned ∙ ap (λ (k : ℕ). is_unsigned n k second) names_between))

pub expression-returns-in_ok-second-in-Cond-clause-found : goal.expression-returns-in_ok-second-in-Cond-clause-found
expression-returns-in_ok-second-in-Cond-clause-found t c =
    let n = named_of c.args.named.now in
    let found = c.args.found.now in
    let test = expression_of c.deref-in-Cond.result.now in
    let first = expression_of c.deref-in-Cond-2.result.now in
    let second = expression_of c.deref-in-Cond-3.result.now in
    let ms = marks.of_expression test in
    let before : Checker = saw found ms (sites.of_expression n found.names test) in
    let inside = c.condition.new.found in
    let there = λ (k : ℕ). sites.of_expression n k first ++ sites.of_expression n (past k (marks.of_expression first)) second in
    let both = both_seen inside c.expression-in-Cond.new.found c.expression-in-Cond-2.new.found (marks.of_expression first) (marks.of_expression second) (sites.of_expression n inside.names first) (λ (k : ℕ). sites.of_expression n k second) c.in_ok-first-in-Cond.ensures.found c.in_ok-second-in-Cond.ensures.found in
    let names = names_inside found before inside ms (sites.of_expression n found.names test) refl c.in_ok-node-in-Cond.ensures.found in
    let names_between = ap (λ (z : Checker). z.names) c.in_ok-first-in-Cond.ensures.found ∙ saw_names inside (marks.of_expression first) (sites.of_expression n inside.names first) ∙ ap (λ (k : ℕ). past k (marks.of_expression first)) names in
    let gives : c.either-is_unsigned.result ≡ (is_unsigned n (past found.names ms) first || is_unsigned n (past (past found.names ms) (marks.of_expression first)) second) =
    c.either-is_unsigned.ensures
    ∙ ap (λ (u : Bool). u || c.in_ok-second-in-Cond.second) (c.in_ok-first-in-Cond.ensures.is_unsigned ∙ ap (λ (k : ℕ). is_unsigned n k first) names)
    ∙ ap (λ (u : Bool). is_unsigned n (past found.names ms) first || u) (c.in_ok-second-in-Cond.ensures.is_unsigned ∙ ap (λ (k : ℕ). is_unsigned n k second) names_between) in
    let choice = by_form c.args.e.now (plain.choice test first second)
    (ap form_of c.in-Cond.is ∙ form-Cond c.in-Cond.test c.in-Cond.first c.in-Cond.second
    ∙ ap (λ (x : Expr). plain.choice (expression_of x) (expression_of c.in-Cond.first.value) (expression_of c.in-Cond.second.value)) (sym c.deref-in-Cond.ensures)
    ∙ ap (λ (x : Expr). plain.choice test (expression_of x) (expression_of c.in-Cond.second.value)) (sym c.deref-in-Cond-2.ensures)
    ∙ ap (λ (x : Expr). plain.choice test first (expression_of x)) (sym c.deref-in-Cond-3.ensures)) in
    subst (λ (x : plain.Expression). c.set_type.new.self ≡ saw found (marks.of_expression x) (sites.of_expression n found.names x)) choice
    (c.set_type.ensures
    ∙ node_seen found before inside c.expression-in-Cond-2.new.found ms (marks.of_expression first ++ marks.of_expression second) (sites.of_expression n found.names test) there c.in_ok-node-in-Cond.node c.either-is_unsigned.result
    refl c.in_ok-node-in-Cond.ensures.found both c.in_ok-node-in-Cond.ensures.place
    ∙ ap (λ (u : Bool). saw found (ms ++ (marks.of_expression first ++ marks.of_expression second)) (sites.of_expression n found.names test ++ sites.node u ∷ there (past found.names ms))) gives)

pub expression-returns-in-Cast-clause-found : goal.expression-returns-in-Cast-clause-found
expression-returns-in-Cast-clause-found t c =
    let n = named_of c.args.named.now in
    let found = c.args.found.now in
    let u = c.in-Cast.is_unsigned in
    let operand = expression_of c.deref-in-Cast.result.now in
    let ms = marks.of_expression operand in
    let there = λ (k : ℕ). sites.of_expression n k operand in
    let typed : Checker = with_type u found in
    let cast = by_form c.args.e.now (plain.cast u operand)
    (ap form_of c.in-Cast.is ∙ form-Cast u c.in-Cast.operand ∙ ap (λ (x : Expr). plain.cast u (expression_of x)) (sym c.deref-in-Cast.ensures)) in
    subst (λ (x : plain.Expression). OnOk c.cast.result (c.cast.new.found ≡ saw found (marks.of_expression x) (sites.of_expression n found.names x))) cast
    (subst (λ (s : Checker). OnOk c.cast.result (c.cast.new.found ≡ s)) (typed_seen found typed (saw typed ms (there typed.names)) u ms there refl refl) c.cast.ensures.found)

pub expression-returns-in-Cast-clause-is_unsigned : goal.expression-returns-in-Cast-clause-is_unsigned
expression-returns-in-Cast-clause-is_unsigned t c =
    subst (λ (x : plain.Expression). IfOk c.cast.result (λ u. u ≡ is_unsigned (named_of c.args.named.now) c.args.found.now.names x))
    (by_form c.args.e.now (plain.cast c.in-Cast.is_unsigned (expression_of c.in-Cast.operand.value)) (ap form_of c.in-Cast.is ∙ form-Cast c.in-Cast.is_unsigned c.in-Cast.operand))
    c.cast.ensures.is_unsigned

pub element-expression-requires : goal.element-expression-requires
element-expression-requires t c =
    (itself (depth (expression_of c.args.index.now)) c.decreases, tt)

pub cast-expression-requires : goal.cast-expression-requires
cast-expression-requires t c =
    (itself (depth (expression_of c.args.operand.now)) c.decreases, tt)

pub unary-expression-requires : goal.unary-expression-requires
unary-expression-requires t c =
    (itself (depth (expression_of c.args.operand.now)) c.decreases, tt)

pub right_operand-expression-requires : goal.right_operand-expression-requires
right_operand-expression-requires t c =
    (itself (depth (expression_of c.args.right.now)) c.decreases, tt)

pub condition-expression-requires : goal.condition-expression-requires
condition-expression-requires t c =
    (itself (depth (expression_of c.args.test.now)) c.decreases, tt)

pub expression-element-requires : goal.expression-element-requires
expression-element-requires t c =
    let index = expression_of c.deref.result.now in
    let form = by_form c.args.e.now (plain.index c.in-Index.field-0 index)
    (ap form_of c.in-Index.is ∙ form-Index c.in-Index.field-0 c.in-Index.index ∙ ap (λ (x : Expr). plain.index c.in-Index.field-0 (expression_of x)) (sym c.deref.ensures)) in
    (only (depth (expression_of c.args.e.now)) (depth index) c.decreases (sym (ap depth form)), tt)

pub expression-unary-requires : goal.expression-unary-requires
expression-unary-requires t c =
    let operand = expression_of c.deref-in-Un.result.now in
    let form = by_form c.args.e.now (plain.unary c.in-Un.symbol operand)
    (ap form_of c.in-Un.is ∙ form-Un c.in-Un.symbol c.in-Un.operand ∙ ap (λ (x : Expr). plain.unary c.in-Un.symbol (expression_of x)) (sym c.deref-in-Un.ensures)) in
    (only (depth (expression_of c.args.e.now)) (depth operand) c.decreases (sym (ap depth form)), tt)

pub expression-cast-requires : goal.expression-cast-requires
expression-cast-requires t c =
    let u = c.in-Cast.is_unsigned in
    let operand = expression_of c.deref-in-Cast.result.now in
    let form = by_form c.args.e.now (plain.cast u operand)
    (ap form_of c.in-Cast.is ∙ form-Cast u c.in-Cast.operand ∙ ap (λ (x : Expr). plain.cast u (expression_of x)) (sym c.deref-in-Cast.ensures)) in
    (only (depth (expression_of c.args.e.now)) (depth operand) c.decreases (sym (ap depth form)), tt)

pub expression-expression-requires : goal.expression-expression-requires
expression-expression-requires t c =
    let o = c.in-Bin.symbol in
    let left = expression_of c.deref-in-Bin.result.now in
    let right = expression_of c.in-Bin.right.value in
    let form = by_form c.args.e.now (plain.binary o left right)
    (ap form_of c.in-Bin.is ∙ form-Bin o c.in-Bin.left c.in-Bin.right ∙ ap (λ (x : Expr). plain.binary o (expression_of x) right) (sym c.deref-in-Bin.ensures)) in
    (left_of_two (depth (expression_of c.args.e.now)) (depth left) (depth right) c.decreases (sym (ap depth form)), tt)

pub expression-right_operand-requires : goal.expression-right_operand-requires
expression-right_operand-requires t c =
    let o = c.in-Bin.symbol in
    let left = expression_of c.in-Bin.left.value in
    let right = expression_of c.deref-in-Bin-2.result.now in
    let form = by_form c.args.e.now (plain.binary o left right)
    (ap form_of c.in-Bin.is ∙ form-Bin o c.in-Bin.left c.in-Bin.right ∙ ap (λ (x : Expr). plain.binary o left (expression_of x)) (sym c.deref-in-Bin-2.ensures)) in
    (right_of_two (depth (expression_of c.args.e.now)) (depth left) (depth right) c.decreases (sym (ap depth form)), tt)

pub expression-condition-requires : goal.expression-condition-requires
expression-condition-requires t c =
    let test = expression_of c.deref-in-Cond.result.now in
    let first = expression_of c.in-Cond.first.value in
    let second = expression_of c.in-Cond.second.value in
    let form = by_form c.args.e.now (plain.choice test first second)
    (ap form_of c.in-Cond.is ∙ form-Cond c.in-Cond.test c.in-Cond.first c.in-Cond.second ∙ ap (λ (x : Expr). plain.choice (expression_of x) first second) (sym c.deref-in-Cond.ensures)) in
    (first_of_three (depth (expression_of c.args.e.now)) (depth test) (depth first) (depth second) c.decreases (sym (ap depth form)), tt)

pub expression-expression-requires-in-Cond : goal.expression-expression-requires-in-Cond
expression-expression-requires-in-Cond t c =
    let test = expression_of c.in-Cond.test.value in
    let first = expression_of c.deref-in-Cond-2.result.now in
    let second = expression_of c.in-Cond.second.value in
    let form = by_form c.args.e.now (plain.choice test first second)
    (ap form_of c.in-Cond.is ∙ form-Cond c.in-Cond.test c.in-Cond.first c.in-Cond.second ∙ ap (λ (x : Expr). plain.choice test (expression_of x) second) (sym c.deref-in-Cond-2.ensures)) in
    (second_of_three (depth (expression_of c.args.e.now)) (depth test) (depth first) (depth second) c.decreases (sym (ap depth form)), tt)

pub expression-expression-requires-in-Cond-2 : goal.expression-expression-requires-in-Cond-2
expression-expression-requires-in-Cond-2 t c =
    let test = expression_of c.in-Cond.test.value in
    let first = expression_of c.in-Cond.first.value in
    let second = expression_of c.deref-in-Cond-3.result.now in
    let form = by_form c.args.e.now (plain.choice test first second)
    (ap form_of c.in-Cond.is ∙ form-Cond c.in-Cond.test c.in-Cond.first c.in-Cond.second ∙ ap (λ (x : Expr). plain.choice test first (expression_of x)) (sym c.deref-in-Cond-3.ensures)) in
    (third_of_three (depth (expression_of c.args.e.now)) (depth test) (depth first) (depth second) c.decreases (sym (ap depth form)), tt)

pub element-returns-clause-is_unsigned : goal.element-returns-clause-is_unsigned
element-returns-clause-is_unsigned t c =
    c.in_ok-is_unsigned.ensures.is_unsigned

pub cast-returns-clause-is_unsigned : goal.cast-returns-clause-is_unsigned
cast-returns-clause-is_unsigned t c =
    refl
