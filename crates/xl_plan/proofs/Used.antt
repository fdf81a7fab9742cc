-- What code uses is of what holds at each of its places.
use Rattle.std.proofs.Common.{◌≡◌, ◌⊎◌, inl, inr, ⊎_elim, ℕ, Bool, true, false, ◌||◌, Option, Some, None, nat_eq, refl, sym, subst, ◌∙◌, true≢false, arith}
use Rattle.xc_kernel.specs.Plain as kernel
use Rattle.xc_kernel.specs.Things as things
use Rattle.xc_kernel.specs.Things.{Thing, variable, port, timer, by_change, by_channel, by_resource, by_expression, by_operands, by_place, by_target, by_some_target, by_some_expression, by_condition, by_output, by_input, by_statement, by_statements, by_cases, by_default, by_branches}
use Rattle.xc_wellformed.specs.Each.{EachMaybe, EachPlace, EachCondition, EachOutput, EachInput, EachStatement, EachOf, EachCase, EachDefault, EachBranch}
use Rattle.xc_wellformed.specs.Numbers.{NumbersInExpression, NumbersInOperands, NumbersInPlace}

or_true : (a b : Bool) → (a || b) ≡ true → (a ≡ true) ⊎ (b ≡ true)
or_true true b e = inl refl
or_true false b e = inr e

not_so : {A : Type 0} → false ≡ true → A
not_so e = absurd (true≢false (sym e))

-- where something of each kind of place gives G of this thing, if that is used there
module _ (th : Thing) (G : Type 0) (E : kernel.Expression → Type 0) (L : kernel.Place → Type 0) (Z : ℕ → Type 0) (O : kernel.Output → Type 0) (I : kernel.Input → Type 0) (T : ℕ → Type 0) where
  pub record Gives : Type 0 where
    pub by_read : (e : kernel.Expression) → E e → by_expression th e ≡ true → G
    pub by_store : (p : kernel.Place) → L p → by_target th p ≡ true → G
    pub by_zero : (v : ℕ) → Z v → by_change th v ≡ true → G
    pub by_output : (o : kernel.Output) → O o → by_resource th o.resource ≡ true → G
    pub by_input : (i : kernel.Input) → I i → by_resource th i.resource ≡ true → G
    pub by_transaction : (c : ℕ) → T c → by_channel th c ≡ true → G

  module _ (gives : Gives) where
    in_maybe : (e : Option kernel.Expression) → EachMaybe E L Z O I T e → by_some_expression th e ≡ true → G
    in_maybe None h u = not_so u
    in_maybe (Some e) h u = gives.by_read e h u

    in_maybe_place : (p : Option kernel.Place) → EachPlace E L Z O I T p → by_some_target th p ≡ true → G
    in_maybe_place None h u = not_so u
    in_maybe_place (Some p) h u = gives.by_store p h u

    in_condition : (c : Option kernel.Condition) → EachCondition E L Z O I T c → by_condition th c ≡ true → G
    in_condition None h u = not_so u
    in_condition (Some c) h u = gives.by_read c.value h u

    in_output : (o : kernel.Output) → EachOutput E L Z O I T o → by_output th o ≡ true → G
    in_output o h u =
        ⊎_elim (gives.by_output o h.0)
        (λ u1. ⊎_elim (in_maybe o.time h.1.0)
        (λ u2. ⊎_elim (gives.by_read o.value h.1.1.0) (in_maybe_place o.stamp h.1.1.1) (or_true _ _ u2))
        (or_true _ _ u1))
        (or_true _ _ u)

    in_input : (i : kernel.Input) → EachInput E L Z O I T i → by_input th i ≡ true → G
    in_input i h u =
        ⊎_elim (gives.by_input i h.0)
        (λ u1. ⊎_elim (in_maybe i.time h.1.0)
        (λ u2. ⊎_elim (in_condition i.condition h.1.1.0)
        (λ u3. ⊎_elim (in_maybe_place i.target h.1.1.1.0) (in_maybe_place i.stamp h.1.1.1.1) (or_true _ _ u3))
        (or_true _ _ u2))
        (or_true _ _ u1))
        (or_true _ _ u)

    mutual
      in_statement : (s : kernel.Statement) → EachStatement E L Z O I T s → by_statement th s ≡ true → G
      in_statement (kernel.set_zero v) h u = gives.by_zero v h u
      in_statement (kernel.set place e) h u = ⊎_elim (gives.by_store place h.0) (gives.by_read e h.1) (or_true _ _ u)
      in_statement (kernel.output o) h u = in_output o h u
      in_statement (kernel.input i) h u = in_input i h u
      in_statement (kernel.if_then e a b) h u = ⊎_elim (gives.by_read e h.0) (λ u1. ⊎_elim (in_statements a h.1.0) (in_statements b h.1.1) (or_true _ _ u1)) (or_true _ _ u)
      in_statement (kernel.loop e a b) h u = ⊎_elim (gives.by_read e h.0) (λ u1. ⊎_elim (in_statements a h.1.0) (in_statements b h.1.1) (or_true _ _ u1)) (or_true _ _ u)
      in_statement (kernel.block n a) h u = in_statements a h u
      in_statement (kernel.exit n) h u = not_so u
      in_statement (kernel.select cs d pos) h u = ⊎_elim (in_cases cs h.0) (in_default d h.1) (or_true _ _ u)
      in_statement (kernel.par bs) h u = in_branches bs h u
      in_statement (kernel.transaction c is_master a start close) h u = ⊎_elim (gives.by_transaction c h.0) (in_statements a h.1) (or_true _ _ u)

      pub in_statements : (ss : kernel.Statements) → EachOf E L Z O I T ss → by_statements th ss ≡ true → G
      in_statements kernel.no_more h u = not_so u
      in_statements (kernel.more s ss) h u = ⊎_elim (in_statement s h.0) (in_statements ss h.1) (or_true _ _ u)

      in_cases : (cs : kernel.Cases) → EachCase E L Z O I T cs → by_cases th cs ≡ true → G
      in_cases kernel.no_case h u = not_so u
      in_cases (kernel.more_cases (kernel.case guard i a) cs) h u =
          ⊎_elim
          (λ u1. ⊎_elim (in_maybe guard h.0.0) (λ u2. ⊎_elim (in_input i h.0.1.0) (in_statements a h.0.1.1) (or_true _ _ u2)) (or_true _ _ u1))
          (in_cases cs h.1) (or_true _ _ u)

      in_default : (d : kernel.Default) → EachDefault E L Z O I T d → by_default th d ≡ true → G
      in_default kernel.no_default h u = not_so u
      in_default (kernel.default a) h u = in_statements a h u

      in_branches : (bs : kernel.Branches) → EachBranch E L Z O I T bs → by_branches th bs ≡ true → G
      in_branches kernel.no_branch h u = not_so u
      in_branches (kernel.more_branches (kernel.branch a pos) bs) h u = ⊎_elim (in_statements a h.0) (in_branches bs h.1) (or_true _ _ u)

-- a variable

module _ (V : ℕ → Type 0) (w : ℕ) where
  same : (v : ℕ) → nat_eq w v ≡ true → V v → V w
  same v e h = subst V (let q : v ≡ w = grind arith in q) h

  abbrev N : ℕ → Bool → Type 0
  N v is_array = V v

  mutual
    in_expression : (e : kernel.Expression) → NumbersInExpression N e → by_expression (variable w) e ≡ true → V w
    in_expression (kernel.number v) h u = not_so u
    in_expression (kernel.read place) h u = in_place place h u
    in_expression (kernel.operation symbol is_unsigned es pos) h u = in_operands es h u

    in_operands : (es : kernel.Operands) → NumbersInOperands N es → by_operands (variable w) es ≡ true → V w
    in_operands kernel.no_operand h u = not_so u
    in_operands (kernel.more_operands e es) h u = ⊎_elim (in_expression e h.0) (in_operands es h.1) (or_true _ _ u)

    in_place : (p : kernel.Place) → NumbersInPlace N p → by_place (variable w) p ≡ true → V w
    in_place (kernel.word v) h u = same v u h
    in_place (kernel.element v index pos) h u = ⊎_elim (λ e. same v e h.0) (in_expression index h.1) (or_true _ _ u)

  in_target : (p : kernel.Place) → NumbersInPlace N p → by_target (variable w) p ≡ true → V w
  in_target (kernel.word v) h u = same v u h
  in_target (kernel.element v index pos) h u = ⊎_elim (λ e. same v e h.0) (in_expression index h.1) (or_true _ _ u)

  pub variable_used : (O : kernel.Output → Type 0) (I : kernel.Input → Type 0) (T : ℕ → Type 0) (ss : kernel.Statements) → EachOf (NumbersInExpression N) (NumbersInPlace N) V O I T ss → by_statements (variable w) ss ≡ true → V w
  variable_used O I T ss h u =
      in_statements (variable w) (V w) (NumbersInExpression N) (NumbersInPlace N) V O I T
      (record { by_read = in_expression; by_store = in_target; by_zero = λ v g e. same v e g; by_output = λ o g e. not_so e; by_input = λ i g e. not_so e; by_transaction = λ c g e. not_so e }) ss h u

-- a port or a timer, which no expression uses

module _ (th : Thing) (unread : (v : ℕ) → things.by_read th v ≡ false) (unchanged : (v : ℕ) → by_change th v ≡ false) where
  neither : (a b : Bool) → a ≡ false → b ≡ false → (a || b) ≡ false
  neither true b e f = e
  neither false b e f = f

  mutual
    not_in_expression : (e : kernel.Expression) → by_expression th e ≡ false
    not_in_expression (kernel.number v) = refl
    not_in_expression (kernel.read place) = not_in_place place
    not_in_expression (kernel.operation symbol is_unsigned es pos) = not_in_operands es

    not_in_operands : (es : kernel.Operands) → by_operands th es ≡ false
    not_in_operands kernel.no_operand = refl
    not_in_operands (kernel.more_operands e es) = neither _ _ (not_in_expression e) (not_in_operands es)

    not_in_place : (p : kernel.Place) → by_place th p ≡ false
    not_in_place (kernel.word v) = unread v
    not_in_place (kernel.element v index pos) = neither _ _ (unread v) (not_in_expression index)

  not_in_target : (p : kernel.Place) → by_target th p ≡ false
  not_in_target (kernel.word v) = unchanged v
  not_in_target (kernel.element v index pos) = neither _ _ (unchanged v) (not_in_expression index)

  neither_true : {A : Type 0} (b : Bool) → b ≡ false → b ≡ true → A
  neither_true b e f = absurd (true≢false (sym f ∙ e))

  pub resource_used : (G : Type 0) (no_channel : (c : ℕ) → by_channel th c ≡ false) (E : kernel.Expression → Type 0) (L : kernel.Place → Type 0) (Z : ℕ → Type 0) (O : kernel.Output → Type 0) (I : kernel.Input → Type 0) (T : ℕ → Type 0) → ((o : kernel.Output) → O o → by_resource th o.resource ≡ true → G) → ((i : kernel.Input) → I i → by_resource th i.resource ≡ true → G) → (ss : kernel.Statements) → EachOf E L Z O I T ss → by_statements th ss ≡ true → G
  resource_used G no_channel E L Z O I T out in_ ss h u =
      in_statements th G E L Z O I T
      (record {
        by_read = λ e g f. neither_true _ (not_in_expression e) f;
        by_store = λ p g f. neither_true _ (not_in_target p) f;
        by_zero = λ v g f. neither_true _ (unchanged v) f;
        by_output = out;
        by_input = in_;
        by_transaction = λ c g f. neither_true _ (no_channel c) f;
      }) ss h u
