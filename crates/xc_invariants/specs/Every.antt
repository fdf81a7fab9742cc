-- What holds of everything that code uses, of every `par` in it and of every transaction.
use Rattle.std.specs.Prelude.{ℕ, List, [], ◌∷◌, Option, Some, None}
use Rattle.xc_kernel.specs.declared.statement.KRes.{KRes}
use Rattle.xc_kernel.specs.declared.statement.KRes.TheVariants.{Port, Timer, Chan}
use Rattle.xc_kernel.specs.Plain as kernel
use Rattle.xc_meaning.specs.States.Items.{Body, of_kernel, of_text, Choice, Item, does, says, stores, stamps, mark, awaits, transaction_end, chooses, fixed, ends}
use Rattle.xc_kernel.specs.Things.{Thing, variable, change, port, timer, channel}

-- of each item
abbrev pub AllItems : (Item → Type 0) → List Item → Type 0
AllItems P [] = Unit {0}
AllItems P (item ∷ items) = P item × AllItems P items

abbrev pub AllStatements : (Item → Type 0) → kernel.Statements → Type 0
AllStatements P kernel.no_more = Unit {0}
AllStatements P (kernel.more s ss) = P (does s) × AllStatements P ss

abbrev pub AllBranches : (Item → Type 0) → kernel.Branches → Type 0
AllBranches P kernel.no_branch = Unit {0}
AllBranches P (kernel.more_branches (kernel.branch ss pos) bs) = AllStatements P ss × AllBranches P bs

abbrev pub AllBody : (Item → Type 0) → Body → Type 0
AllBody P (of_kernel ss) = AllStatements P ss
AllBody P (of_text i) = P (says i)

-- F of each thing that is used, Q of each `par`, and T of each transaction
module _ (F : Thing → Type 0) (Q : kernel.Branches → Type 0) (T : ℕ → kernel.Statements → Type 0) where
  abbrev pub EveryResource : KRes → Type 0
  EveryResource (Port p) = F (port p)
  EveryResource (Timer t) = F (timer t)
  EveryResource (Chan c) = F (channel c)

  abbrev mutual
    pub EveryExpression : kernel.Expression → Type 0
    EveryExpression (kernel.number v) = Unit {0}
    EveryExpression (kernel.read place) = EveryPlace place
    EveryExpression (kernel.operation symbol is_unsigned es pos) = EveryOperands es

    pub EveryOperands : kernel.Operands → Type 0
    EveryOperands kernel.no_operand = Unit {0}
    EveryOperands (kernel.more_operands e es) = EveryExpression e × EveryOperands es

    pub EveryPlace : kernel.Place → Type 0
    EveryPlace (kernel.word v) = F (variable v)
    EveryPlace (kernel.element v index pos) = F (variable v) × EveryExpression index

  abbrev pub EveryTarget : kernel.Place → Type 0
  EveryTarget (kernel.word v) = F (variable v) × F (change v)
  EveryTarget (kernel.element v index pos) = F (variable v) × F (change v) × EveryExpression index

  abbrev pub EverySomeTarget : Option kernel.Place → Type 0
  EverySomeTarget None = Unit {0}
  EverySomeTarget (Some place) = EveryTarget place

  abbrev pub EverySomeExpression : Option kernel.Expression → Type 0
  EverySomeExpression None = Unit {0}
  EverySomeExpression (Some e) = EveryExpression e

  abbrev pub EveryCondition : Option kernel.Condition → Type 0
  EveryCondition None = Unit {0}
  EveryCondition (Some c) = EveryExpression c.value

  pub record EveryOutput (o : kernel.Output) : Type 0 where
    pub resource : EveryResource o.resource
    pub time : EverySomeExpression o.time
    pub value : EveryExpression o.value
    pub stamp : EverySomeTarget o.stamp

  pub record EveryInput (i : kernel.Input) : Type 0 where
    pub resource : EveryResource i.resource
    pub time : EverySomeExpression i.time
    pub condition : EveryCondition i.condition
    pub target : EverySomeTarget i.target
    pub stamp : EverySomeTarget i.stamp

  abbrev mutual
    pub EveryStatement : kernel.Statement → Type 0
    EveryStatement (kernel.set_zero v) = F (variable v) × F (change v)
    EveryStatement (kernel.set place e) = EveryTarget place × EveryExpression e
    EveryStatement (kernel.output o) = EveryOutput o
    EveryStatement (kernel.input i) = EveryInput i
    EveryStatement (kernel.if_then e a b) = EveryExpression e × EveryStatements a × EveryStatements b
    EveryStatement (kernel.loop e a b) = EveryExpression e × EveryStatements a × EveryStatements b
    EveryStatement (kernel.block n a) = EveryStatements a
    EveryStatement (kernel.exit n) = Unit {0}
    EveryStatement (kernel.select cs d pos) = EveryCases cs × EveryDefault d
    EveryStatement (kernel.par bs) = Q bs × EveryBranches bs
    EveryStatement (kernel.transaction c is_master a start close) = F (channel c) × T c a × EveryStatements a

    pub EveryStatements : kernel.Statements → Type 0
    EveryStatements kernel.no_more = Unit {0}
    EveryStatements (kernel.more s ss) = EveryStatement s × EveryStatements ss

    pub EveryCase : kernel.Case → Type 0
    EveryCase (kernel.case guard i a) = EverySomeExpression guard × EveryInput i × EveryStatements a

    pub EveryCases : kernel.Cases → Type 0
    EveryCases kernel.no_case = Unit {0}
    EveryCases (kernel.more_cases c cs) = EveryCase c × EveryCases cs

    pub EveryDefault : kernel.Default → Type 0
    EveryDefault kernel.no_default = Unit {0}
    EveryDefault (kernel.default a) = EveryStatements a

    pub EveryBranch : kernel.Branch → Type 0
    EveryBranch (kernel.branch a pos) = EveryStatements a

    pub EveryBranches : kernel.Branches → Type 0
    EveryBranches kernel.no_branch = Unit {0}
    EveryBranches (kernel.more_branches b bs) = EveryBranch b × EveryBranches bs

  abbrev pub EveryBody : Body → Type 0
  EveryBody (of_kernel ss) = EveryStatements ss
  EveryBody (of_text i) = ⊥

  abbrev pub EverySomeBody : Option Body → Type 0
  EverySomeBody None = Unit {0}
  EverySomeBody (Some b) = EveryBody b

  abbrev pub EveryChoices : List Choice → Type 0
  EveryChoices [] = Unit {0}
  EveryChoices (c ∷ cs) = EveryInput c.input × EveryBody c.body × EveryChoices cs

  -- no item of a text
  abbrev pub EveryItem : Item → Type 0
  EveryItem (does s) = EveryStatement s
  EveryItem (says i) = ⊥
  EveryItem (stores place v) = EveryTarget place
  EveryItem (stamps resource place v) = EveryResource resource × EveryTarget place
  EveryItem (mark n) = Unit {0}
  EveryItem (awaits c pos) = F (channel c)
  EveryItem (transaction_end c is_master pos) = F (channel c)
  EveryItem (chooses choices otherwise) = EveryChoices choices × EverySomeBody otherwise
  EveryItem (fixed i v counter) = EveryInput i
  EveryItem ends = Unit {0}
