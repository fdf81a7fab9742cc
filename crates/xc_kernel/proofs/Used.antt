-- Code uses a channel where it uses it at least once. Expressions use none.
use Rattle.std.proofs.Common.{◌≡◌, ℕ, zero, suc, ◌+◌, Bool, true, false, ◌||◌, List, [], ◌∷◌, ◌++◌, Option, Some, None, nat_lt, nat_eq, refl, sym, ap, ap₂, ◌∙◌, true≢false, arith}
use Rattle.xc_kernel.specs.Plain as kernel
use Rattle.xc_kernel.specs.Things.{channel, by_resource, by_expression, by_operands, by_place, by_target, by_some_target, by_some_expression, by_condition, by_output, by_input, by_statement, by_statements, by_case, by_cases, by_default, by_branch, by_branches}
use Rattle.xc_kernel.specs.Uses as uses
use Rattle.xc_kernel.specs.Uses.{Use, once, count_of}

pub or_false : (a b : Bool) → a || b ≡ false → (a ≡ false) × (b ≡ false)
or_false true b h = absurd (true≢false h)
or_false false b h = (refl, h)

or_none : (a b : Bool) → b ≡ false → a || b ≡ a
or_none true b e = refl
or_none false b e = e

module _ (c : ℕ) where
  mutual
    pub no_expression : (e : kernel.Expression) → by_expression (channel c) e ≡ false
    no_expression (kernel.number v) = refl
    no_expression (kernel.read place) = no_place place
    no_expression (kernel.operation symbol is_unsigned es pos) = no_operands es

    no_operands : (es : kernel.Operands) → by_operands (channel c) es ≡ false
    no_operands kernel.no_operand = refl
    no_operands (kernel.more_operands e es) = ap₂ ◌||◌ (no_expression e) (no_operands es)

    no_place : (p : kernel.Place) → by_place (channel c) p ≡ false
    no_place (kernel.word v) = refl
    no_place (kernel.element v index pos) = no_expression index

  pub no_target : (p : kernel.Place) → by_target (channel c) p ≡ false
  no_target (kernel.word v) = refl
  no_target (kernel.element v index pos) = no_expression index

  no_some_target : (p : Option kernel.Place) → by_some_target (channel c) p ≡ false
  no_some_target None = refl
  no_some_target (Some p) = no_target p

  pub no_some_expression : (e : Option kernel.Expression) → by_some_expression (channel c) e ≡ false
  no_some_expression None = refl
  no_some_expression (Some e) = no_expression e

  no_condition : (e : Option kernel.Condition) → by_condition (channel c) e ≡ false
  no_condition None = refl
  no_condition (Some e) = no_expression e.value

  pub by_its_resource : (o : kernel.Output) → by_output (channel c) o ≡ by_resource (channel c) o.resource
  by_its_resource o =
      or_none (by_resource (channel c) o.resource) _ (ap₂ ◌||◌ (no_some_expression o.time) (ap₂ ◌||◌ (no_expression o.value) (no_some_target o.stamp)))

  pub by_resource_of : (i : kernel.Input) → by_input (channel c) i ≡ by_resource (channel c) i.resource
  by_resource_of input =
      or_none (by_resource (channel c) input.resource) _ (ap₂ ◌||◌ (no_some_expression input.time) (ap₂ ◌||◌ (no_condition input.condition) (ap₂ ◌||◌ (no_some_target input.target) (no_some_target input.stamp))))

  pub count_append : (us vs : List Use) → count_of c (us ++ vs) ≡ count_of c us + count_of c vs
  count_append [] vs = omega arith
  count_append (u ∷ us) vs = let h = count_append us vs in omega arith

  some_of_two : (a b : ℕ) → nat_lt 0 (a + b) ≡ (nat_lt 0 a || nat_lt 0 b)
  some_of_two zero b = ap (nat_lt 0) (let e : 0 + b ≡ b = omega arith in e)
  some_of_two (suc a) b = let e : nat_lt 0 (suc a + b) ≡ true = grind arith in let f : nat_lt 0 (suc a) ≡ true = grind arith in e ∙ ap (λ x. x || nat_lt 0 b) (sym f)

  pub one_use : (b : Bool) → nat_lt 0 (once b + 0) ≡ b
  one_use true = grind arith
  one_use false = grind arith

  of_append : (us vs : List Use) (x y : Bool) → nat_lt 0 (count_of c us) ≡ x → nat_lt 0 (count_of c vs) ≡ y → nat_lt 0 (count_of c (us ++ vs)) ≡ (x || y)
  of_append us vs x y e f = ap (nat_lt 0) (count_append us vs) ∙ some_of_two (count_of c us) (count_of c vs) ∙ ap₂ ◌||◌ e f

  of_input : (i : kernel.Input) → nat_lt 0 (count_of c (uses.of_input i ∷ [])) ≡ by_input (channel c) i
  of_input input = one_use (by_resource (channel c) input.resource) ∙ sym (by_resource_of input)

  -- behind an expression
  behind : (x y : Bool) → x ≡ false → y ≡ (x || y)
  behind x y e = sym (ap (λ z. z || y) e)

  mutual
    pub statement_use : (s : kernel.Statement) → nat_lt 0 (count_of c (uses.of_statement s)) ≡ by_statement (channel c) s
    statement_use (kernel.set_zero v) = grind arith
    statement_use (kernel.set p e) = (let f : nat_lt 0 0 ≡ false = grind arith in f) ∙ sym (ap₂ ◌||◌ (no_target p) (no_expression e))
    statement_use (kernel.output o) = one_use (by_resource (channel c) o.resource) ∙ sym (by_its_resource o)
    statement_use (kernel.input input) = of_input input
    statement_use (kernel.if_then e a b) = of_append (uses.of_statements a) (uses.of_statements b) _ _ (statements_use a) (statements_use b) ∙ behind (by_expression (channel c) e) _ (no_expression e)
    statement_use (kernel.loop e a b) = of_append (uses.of_statements a) (uses.of_statements b) _ _ (statements_use a) (statements_use b) ∙ behind (by_expression (channel c) e) _ (no_expression e)
    statement_use (kernel.block n a) = statements_use a
    statement_use (kernel.exit n) = grind arith
    statement_use (kernel.select cs d pos) = of_append (uses.of_cases cs) (uses.of_default d) _ _ (cases_use cs) (default_use d)
    statement_use (kernel.par bs) = branches_use bs
    statement_use (kernel.transaction d is_master a start close) =
        of_append (uses.of_channel d start ∷ []) (uses.of_statements a) _ _ (one_use (nat_eq c d)) (statements_use a)

    pub statements_use : (ss : kernel.Statements) → nat_lt 0 (count_of c (uses.of_statements ss)) ≡ by_statements (channel c) ss
    statements_use kernel.no_more = grind arith
    statements_use (kernel.more s ss) = of_append (uses.of_statement s) (uses.of_statements ss) _ _ (statement_use s) (statements_use ss)

    case_use : (a : kernel.Case) → nat_lt 0 (count_of c (uses.of_case a)) ≡ by_case (channel c) a
    case_use (kernel.case guard input a) =
        of_append (uses.of_input input ∷ []) (uses.of_statements a) _ _ (of_input input) (statements_use a) ∙ behind (by_some_expression (channel c) guard) _ (no_some_expression guard)

    cases_use : (cs : kernel.Cases) → nat_lt 0 (count_of c (uses.of_cases cs)) ≡ by_cases (channel c) cs
    cases_use kernel.no_case = grind arith
    cases_use (kernel.more_cases a cs) = of_append (uses.of_case a) (uses.of_cases cs) _ _ (case_use a) (cases_use cs)

    default_use : (d : kernel.Default) → nat_lt 0 (count_of c (uses.of_default d)) ≡ by_default (channel c) d
    default_use kernel.no_default = grind arith
    default_use (kernel.default a) = statements_use a

    pub branch_use : (b : kernel.Branch) → nat_lt 0 (count_of c (uses.of_branch b)) ≡ by_branch (channel c) b
    branch_use (kernel.branch a pos) = statements_use a

    pub branches_use : (bs : kernel.Branches) → nat_lt 0 (count_of c (uses.of_branches bs)) ≡ by_branches (channel c) bs
    branches_use kernel.no_branch = grind arith
    branches_use (kernel.more_branches b bs) = of_append (uses.of_branch b) (uses.of_branches bs) _ _ (branch_use b) (branches_use bs)
