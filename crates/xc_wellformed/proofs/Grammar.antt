-- What is derived has the shape that the grammar gives it: what is assigned to is a name or an element, each symbol of an expression
-- has its operands, and an input waits for one thing at most.
use Rattle.std.proofs.Common.{◌≡◌, ◌⊎◌, inl, inr, ℕ, zero, suc, Bool, true, false, List, [], ◌∷◌, map, slice_get, Option, None, Some, refl, subst}
use Rattle.xc_tree.specs.declared.token.Tok.{Tok}
use Rattle.xc_tree.specs.declared.tree.Id.{Id}
use Rattle.xc_tree.specs.Plain as plain
use Rattle.xc_tree.specs.Symbols as symbols
use Rattle.xc_tree.specs.Words.{pinseq_word, pinsneq_word, timerafter_word}
use Rattle.xc_tree.specs.Symbol.{Symbol, sym, key, a_name, a_number, many, maybe, commas, program, item, body, block, block_item, decl, dv, initial, statement, closed, case_item, for_start, for_step, branch, case, guard, assign, assign_op, rhs, call, arguments, argument, lval, output, input, time, stamp, waits, test, dest, expr, level, operator, sign, atom, Marked, Waits, at_once, at_time, when_true, Declarator, a_word, an_array, Value, Values}
use Rattle.xc_tree.specs.Grammar.{Rule, Extent, rules, kept, declared, named as kind_named, time_of, condition_of, one_of, by_level, or_none, operators}
use Rattle.xc_tree.specs.Derives.{Room, extent, Derives, a_sym, a_key, named, counted, by_rule, Row, done, next}
use Rattle.xc_kernel.specs.Operators.{operator_at}
use Rattle.xc_wellformed.specs.Operands.{takes, IsProper}
use Rattle.xc_wellformed.proofs.Shaped.{IsProperLval, Assigns, AnyCall, AsksRight, ShapedArguments, ShapedRight, ShapedMaybeRight, ShapedMaybeExpression, ShapedTime, ShapedStamp, ShapedTarget, ShapedOutput, ShapedInput, ShapedMaybeInput, ShapedDeclarations, ShapedStatement, ShapedAction, ShapedMaybe, ShapedStatements, ShapedBranch, ShapedBranches, ShapedCases, OnlyValue, IsStep, IsStepAtMost}

abbrev pub AllOf : {V : Type 0} → (V → Type 0) → List V → Type 0
AllOf P [] = Unit {0}
AllOf P (x ∷ xs) = P x × AllOf P xs

abbrev pub MaybeOf : {V : Type 0} → (V → Type 0) → Option V → Type 0
MaybeOf P None = Unit {0}
MaybeOf P (Some x) = P x

-- the shape of a statement, whatever is called
abbrev pub Shape : plain.Statement → Type 0
Shape = ShapedStatement IsProper IsProperLval Assigns AnyCall

abbrev RightShape : plain.RightSide → Type 0
RightShape = ShapedRight IsProper IsProperLval Assigns AnyCall

abbrev ActionShape : plain.Action → Type 0
ActionShape = ShapedAction IsProper IsProperLval Assigns AnyCall

abbrev BranchShape : plain.Branch → Type 0
BranchShape = ShapedBranch IsProper IsProperLval Assigns AnyCall

abbrev InputShape : plain.Input → Type 0
InputShape = ShapedInput IsProper IsProperLval Assigns AnyCall

abbrev Steps : plain.Action → Type 0
Steps = IsStep IsProper IsProperLval Assigns AnyCall

abbrev StatementSteps : plain.Statement → Type 0
StatementSteps (plain.statement a pos close own) = Steps a

abbrev pub ItemShape : plain.Item → Type 0
ItemShape (plain.port p) = Unit {0}
ItemShape (plain.function h b) = Shape b

abbrev CaseShape : plain.Case → Type 0
CaseShape (plain.case pos g i ss) =
    ShapedMaybeExpression IsProper IsProperLval Assigns AnyCall g × (ShapedMaybeInput IsProper IsProperLval Assigns AnyCall i × ShapedStatements IsProper IsProperLval Assigns AnyCall ss)

abbrev DeclaratorShape : Declarator → Type 0
DeclaratorShape (a_word n r) = ShapedMaybeRight IsProper IsProperLval Assigns AnyCall r
DeclaratorShape (an_array n l p) = Unit {0}

abbrev WaitsShape : Waits → Type 0
WaitsShape at_once = Unit {0}
WaitsShape (at_time t) = IsProper t.value
WaitsShape (when_true c) = AsksRight c × IsProper c.value

abbrev TestShape : ℕ → Type 0
TestShape t = (t ≡ pinseq_word) ⊎ ((t ≡ pinsneq_word) ⊎ (t ≡ timerafter_word))

-- from lists to what the tree has

maybe_right : (o : Option plain.RightSide) → MaybeOf RightShape o → ShapedMaybeRight IsProper IsProperLval Assigns AnyCall o
maybe_right None h = tt
maybe_right (Some r) h = h

maybe_expression : (o : Option plain.Expression) → MaybeOf IsProper o → ShapedMaybeExpression IsProper IsProperLval Assigns AnyCall o
maybe_expression None h = tt
maybe_expression (Some e) h = h

maybe_time : (o : Option plain.Timing) → MaybeOf (λ t. IsProper t.value) o → ShapedTime IsProper IsProperLval Assigns AnyCall o
maybe_time None h = tt
maybe_time (Some t) h = h

maybe_stamp : (o : Option plain.Timing) → MaybeOf (λ t. IsProperLval t.value) o → ShapedStamp IsProper IsProperLval Assigns AnyCall o
maybe_stamp None h = tt
maybe_stamp (Some t) h = h

maybe_statement : (o : Option plain.Statement) → MaybeOf Shape o → ShapedMaybe IsProper IsProperLval Assigns AnyCall (plain.maybe o)
maybe_statement None h = tt
maybe_statement (Some s) h = h

maybe_step : (o : Option plain.Statement) → MaybeOf (λ s. Shape s × StatementSteps s) o → ShapedMaybe IsProper IsProperLval Assigns AnyCall (plain.maybe o) × IsStepAtMost IsProper IsProperLval Assigns AnyCall (plain.maybe o)
maybe_step None h = (tt, tt)
maybe_step (Some (plain.statement a pos close own)) h = h

all_arguments : (xs : List plain.Argument) → AllOf (λ a. IsProper a.value) xs → ShapedArguments IsProper IsProperLval Assigns AnyCall xs
all_arguments [] h = tt
all_arguments (x ∷ xs) h = (h.0, all_arguments xs h.1)

all_statements : (ss : List plain.Statement) → AllOf Shape ss → ShapedStatements IsProper IsProperLval Assigns AnyCall (plain.statements ss)
all_statements [] h = tt
all_statements (s ∷ ss) h = (h.0, all_statements ss h.1)

all_branches : (bs : List plain.Branch) → AllOf BranchShape bs → ShapedBranches IsProper IsProperLval Assigns AnyCall (plain.branches bs)
all_branches [] h = tt
all_branches (b ∷ bs) h = (h.0, all_branches bs h.1)

more_case : (c : plain.Case) (cs : plain.Cases) → CaseShape c → ShapedCases IsProper IsProperLval Assigns AnyCall cs → ShapedCases IsProper IsProperLval Assigns AnyCall (plain.more_cases c cs)
more_case (plain.case pos g i ss) cs h k = (h, k)

all_cases : (cs : List plain.Case) → AllOf CaseShape cs → ShapedCases IsProper IsProperLval Assigns AnyCall (plain.cases cs)
all_cases [] h = tt
all_cases (c ∷ cs) h = more_case c (plain.cases cs) h.0 (all_cases cs h.1)

all_declarators : (u : Bool) (ds : List Declarator) → AllOf DeclaratorShape ds → ShapedDeclarations IsProper IsProperLval Assigns AnyCall (map (declared u) ds)
all_declarators u [] h = tt
all_declarators u (a_word n r ∷ ds) h = (h.0, all_declarators u ds h.1)
all_declarators u (an_array n l p ∷ ds) h = (tt, all_declarators u ds h.1)

all_channels : (ns : List Id) → ShapedDeclarations IsProper IsProperLval Assigns AnyCall (map (kind_named (plain.channel false)) ns)
all_channels [] = tt
all_channels (n ∷ ns) = (tt, all_channels ns)

all_timers : (ns : List Id) → ShapedDeclarations IsProper IsProperLval Assigns AnyCall (map (kind_named plain.timer) ns)
all_timers [] = tt
all_timers (n ∷ ns) = (tt, all_timers ns)

all_kept : (is : List (Option plain.Item)) → AllOf (MaybeOf ItemShape) is → AllOf ItemShape (kept is)
all_kept [] h = tt
all_kept (None ∷ is) h = all_kept is h.1
all_kept (Some i ∷ is) h = (h.0, all_kept is h.1)

only_value : (b : Bool) (e : plain.Expression) → OnlyValue IsProper IsProperLval Assigns AnyCall b (plain.value e)
only_value true e = tt
only_value false e = tt

the_input : (n : Id) (w : Waits) (d : plain.Target) (s : Option plain.Timing) → WaitsShape w → ShapedTarget IsProper IsProperLval Assigns AnyCall d → MaybeOf (λ t. IsProperLval t.value) s →
    InputShape (record { name = n; time = time_of w; condition = condition_of w; target = d; stamp = s })
the_input n at_once d s h g k = (tt, (tt, (tt, (g, maybe_stamp s k))))
the_input n (at_time t) d s h g k = (tt, (h, (tt, (g, maybe_stamp s k))))
the_input n (when_true c) d s h g k = (h.0, (tt, (h.1, (g, maybe_stamp s k))))

-- the shape of what a symbol derives
abbrev Good : (s : Symbol) → Value s → Type 0
Good (many s) = AllOf (Good s)
Good (maybe s) = MaybeOf (Good s)
Good (commas s) = AllOf (Good s)
Good program = AllOf ItemShape
Good item = MaybeOf ItemShape
Good body = Shape
Good block = AllOf Shape
Good block_item = Shape
Good decl = Shape
Good dv = DeclaratorShape
Good initial = RightShape
Good statement = Shape
Good closed = Shape
Good case_item = Shape
Good for_start = Shape
Good for_step = λ s. Shape s × StatementSteps s
Good branch = BranchShape
Good case = CaseShape
Good guard = IsProper
Good assign = λ a. ActionShape a × Steps a
Good assign_op = λ o. Assigns o.mark
Good rhs = RightShape
Good call = λ c. ShapedArguments IsProper IsProperLval Assigns AnyCall c.arguments
Good arguments = ShapedArguments IsProper IsProperLval Assigns AnyCall
Good argument = λ a. IsProper a.value
Good lval = IsProperLval
Good output = ShapedOutput IsProper IsProperLval Assigns AnyCall
Good input = InputShape
Good time = λ t. IsProper t.value
Good stamp = λ t. IsProperLval t.value
Good waits = WaitsShape
Good test = TestShape
Good dest = ShapedTarget IsProper IsProperLval Assigns AnyCall
Good expr = IsProper
Good (level m) = IsProper
Good (operator m) = λ o. takes (operator_at o.mark) 2 ≡ true
Good sign = λ o. takes (operator_at o.mark) 1 ≡ true
Good atom = IsProper
Good _ = λ v. Unit {0}

abbrev RowGood : (ss : List Symbol) → Values ss → Type 0
RowGood [] vs = Unit {0}
RowGood (s ∷ ss) vs = Good s vs.0 × RowGood ss vs.1

-- an alternative keeps the shape
abbrev Keeps : {V : Type 0} → (V → Type 0) → Rule V → Type 0
Keeps G r = (e : Extent) (x : Values r.parts) → RowGood r.parts x → G (r.make e x)

infixr 20 ◌&◌
data AllKeep {V : Type 0} (G : V → Type 0) : List (Rule V) → Type 0 where
  none : AllKeep G []
  ◌&◌ : {r : Rule V} {rs : List (Rule V)} → Keeps G r → AllKeep G rs → AllKeep G (r ∷ rs)

among_all : {V : Type 0} (G : V → Type 0) (rs : List (Rule V)) (r : Rule V) (at : ℕ) → AllKeep G rs → slice_get rs at ≡ Some r → Keeps G r
among_all G [] r at none e = absurd (cc)
among_all G (x ∷ rs) r zero (a & more) e = let g : x ≡ r = cc in subst (λ y. Keeps G y) g a
among_all G (x ∷ rs) r (suc at) (a & more) e = among_all G rs r at more e

-- where nothing is asked
nothing : {V : Type 0} (rs : List (Rule V)) → AllKeep (λ x. Unit {0}) rs
nothing [] = none
nothing (r ∷ rs) = (λ e x g. tt) & nothing rs

-- one of some tokens
marks : (P : ℕ → Type 0) (os : List ℕ) → AllOf P os → AllKeep (λ (o : Marked). P o.mark) (one_of os)
marks P [] h = none
marks P (o ∷ os) h = (λ e x g. h.0) & marks P os h.1

of_level : (P : ℕ → Type 0) (ls : List (List ℕ)) (m : ℕ) → AllOf (AllOf P) ls → AllOf P (or_none (slice_get ls m))
of_level P [] m h = tt
of_level P (os ∷ ls) zero h = h.0
of_level P (os ∷ ls) (suc m) h = of_level P ls m h.1

abbrev TakesTwo : ℕ → Type 0
TakesTwo o = takes (operator_at o) 2 ≡ true

abbrev TakesOne : ℕ → Type 0
TakesOne o = takes (operator_at o) 1 ≡ true

levels_take : AllOf (AllOf TakesTwo) by_level
levels_take = (
  tt,
  (
    (refl, (refl, (refl, tt))),
    (
      (refl, (refl, tt)),
      (
        (refl, (refl, tt)),
        (
          (refl, (refl, (refl, (refl, tt)))),
          (
            (refl, (refl, tt)),
            (
              (refl, tt),
              (
                (refl, tt),
                (
                  (refl, tt),
                  ((refl, tt), ((refl, tt), tt)),
                ),
              ),
            ),
          ),
        ),
      ),
    ),
  ),
)

abbrev assigners : List ℕ
assigners =
    symbols.plus_equals ∷ symbols.minus_equals ∷ symbols.star_equals ∷ symbols.slash_equals ∷ symbols.percent_equals
    ∷ symbols.ampersand_equals ∷ symbols.bar_equals ∷ symbols.caret_equals ∷ symbols.shift_up_equals ∷ symbols.shift_down_equals ∷ []

abbrev signs : List ℕ
signs = symbols.minus ∷ symbols.plus ∷ symbols.tilde ∷ symbols.bang ∷ []

all_keep : (s : Symbol) → AllKeep (Good s) (rules s)
all_keep (sym o) = none
all_keep (key w) = none
all_keep a_name = none
all_keep a_number = none
all_keep (many s) = (λ e x g. tt) & (λ e x g. (g.0, g.1.0)) & none
all_keep (maybe s) = (λ e x g. tt) & (λ e x g. g.0) & none
all_keep (commas s) = (λ e x g. (g.0, tt)) & (λ e x g. (g.0, g.1.1.0)) & none
all_keep program = (λ e x g. all_kept x.0 g.0) & none
all_keep item = (λ e x g. tt) & (λ e x g. g.1.0) & (λ e x g. tt) & none
all_keep body = (λ e x g. all_statements x.0 g.0) & none
all_keep block = (λ e x g. g.1.0) & none
all_keep block_item = (λ e x g. g.0) & (λ e x g. g.0) & none
all_keep decl = (λ e x g. all_declarators x.0 x.1.0 g.1.0) & (λ e x g. all_channels x.1.0) & (λ e x g. all_timers x.1.0) & none
all_keep dv = (λ e x g. maybe_right x.1.0 g.1.0) & (λ e x g. tt) & none
all_keep initial = (λ e x g. g.1.0) & none
all_keep statement =
    (λ e x g. tt) &
    (λ e x g. all_statements x.0 g.0) &
    (λ e x g. g.0.0) &
    (λ e x g. (tt, g.0)) &
    (λ e x g. g.0) &
    (λ e x g. g.0) &
    (λ e x g. (g.1.1.0, (g.1.1.1.1.0, tt))) &
    (λ e x g. (g.1.1.0, (g.1.1.1.1.0, g.1.1.1.1.1.1.0))) &
    (λ e x g. (g.1.1.0, g.1.1.1.1.0)) &
    (λ e x g. (g.1.0, g.1.1.1.1.0)) &
    (λ e x g. (maybe_statement x.1.1.0 g.1.1.0, (maybe_expression x.1.1.1.1.0 g.1.1.1.1.0, (maybe_step x.1.1.1.1.1.1.0 g.1.1.1.1.1.1.0, g.1.1.1.1.1.1.1.1.0)))) &
    (λ e x g. maybe_right x.1.0 g.1.0) &
    (λ e x g. tt) &
    (λ e x g. tt) &
    (λ e x g. all_branches x.1.1.0 g.1.1.0) &
    (λ e x g. g.1.1.1.1.1.1.1.1.1.1.1.1.1.1.0) &
    (λ e x g. more_case x.1.1.0 (plain.cases x.1.1.1.0) g.1.1.0 (all_cases x.1.1.1.0 g.1.1.1.0)) &
    (λ e x g. all_statements x.1.0 g.1.0) &
    (λ e x g. all_statements x.1.0 g.1.0) & none
all_keep closed = (λ e x g. g.0) & none
all_keep case_item = (λ e x g. g.0) & (λ e x g. g.0) & none
all_keep for_start = (λ e x g. g.0.0) & (λ e x g. (g.1.1.1.0, tt)) & none
all_keep for_step = (λ e x g. g.0) & none
all_keep branch = (λ e x g. g.1.0) & none
all_keep case =
    (λ e x g. (maybe_expression x.1.0 g.1.0, (g.1.1.0, all_statements x.1.1.1.1.0 g.1.1.1.1.0))) &
    (λ e x g. (tt, (tt, all_statements x.1.1.0 g.1.1.0))) & none
all_keep guard = (λ e x g. g.0) & none
all_keep assign =
    (λ e x g. ((g.0, (refl, (g.1.1.0, tt))), tt)) &
    (λ e x g. ((g.0, (g.1.0, (g.1.1.0, only_value _ x.1.1.0))), tt)) &
    (λ e x g. ((g.0, refl), tt)) &
    (λ e x g. ((g.0, refl), tt)) & none
all_keep assign_op = marks Assigns assigners (refl, (refl, (refl, (refl, (refl, (refl, (refl, (refl, (refl, (refl, tt))))))))))
all_keep rhs = (λ e x g. g.0) & (λ e x g. (tt, g.0)) & none
all_keep call = (λ e x g. g.1.1.0) & none
all_keep arguments = (λ e x g. tt) & (λ e x g. all_arguments x.0 g.0) & none
all_keep argument = (λ e x g. g.0) & none
all_keep lval = (λ e x g. (tt, tt)) & (λ e x g. (tt, g.1.1.0)) & none
all_keep output = (λ e x g. (maybe_time x.1.0 g.1.0, (g.1.1.1.0, maybe_stamp x.1.1.1.1.0 g.1.1.1.1.0))) & none
all_keep input = (λ e x g. the_input x.0 x.1.0 x.1.1.1.0 x.1.1.1.1.0 g.1.0 g.1.1.1.0 g.1.1.1.1.0) & none
all_keep time = (λ e x g. g.1.0) & none
all_keep stamp = (λ e x g. g.1.0) & none
all_keep waits = (λ e x g. tt) & (λ e x g. g.0) & (λ e x g. (g.1.0, g.1.1.1.0)) & none
all_keep test = (λ e x g. inl refl) & (λ e x g. inr (inl refl)) & (λ e x g. inr (inr refl)) & none
all_keep dest = (λ e x g. g.0) & (λ e x g. tt) & (λ e x g. tt) & none
all_keep expr = (λ e x g. g.0) & (λ e x g. (g.0, (g.1.1.0, g.1.1.1.1.0))) & none
all_keep (level zero) = (λ e x g. g.0) & (λ e x g. (g.0, g.1.0)) & (λ e x g. g.1.1.1.0) & (λ e x g. g.1.1.1.0) & none
all_keep (level (suc m)) = (λ e x g. g.0) & (λ e x g. (g.1.0, (g.0, g.1.1.0))) & none
all_keep (operator m) = marks TakesTwo (operators m) (of_level TakesTwo by_level m levels_take)
all_keep sign = marks TakesOne signs (refl, (refl, (refl, (refl, tt))))
all_keep atom = (λ e x g. tt) & (λ e x g. tt) & (λ e x g. g.1.1.0) & (λ e x g. g.1.0) & none
all_keep s = nothing (rules s)

mutual
  good : {toks : List Tok} {room : Room} {s : Symbol} {i j : ℕ} {v : Value s} → Derives toks room s i j v → Good s v
  good (a_sym on) = tt
  good (a_key on) = tt
  good (named on) = tt
  good (counted on) = tt
  good {toks} {s} {i} {j} (by_rule {r} {vs} a h row f) = among_all (Good s) (rules s) r a.at (all_keep s) a.there (extent toks i j) vs (row_good row)

  row_good : {toks : List Tok} {room : Room} {ss : List Symbol} {i j : ℕ} {vs : Values ss} → Row toks room ss i j vs → RowGood ss vs
  row_good done = tt
  row_good (next d r) = (good d, row_good r)

-- the functions of what some tokens are
pub program_shaped : (toks : List Tok) (room : Room) (i j : ℕ) (items : List plain.Item) → Derives toks room program i j items → AllOf ItemShape items
program_shaped toks room i j items d = good d
