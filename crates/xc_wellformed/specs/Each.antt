-- What holds of all expressions, places, transfers and transactions of code.
use Rattle.std.specs.Prelude.{ℕ, List, [], ◌∷◌, Option, Some, None}
use Rattle.xc_kernel.specs.Plain as kernel

-- nothing is asked
abbrev pub AnyExpression : kernel.Expression → Type 0
AnyExpression e = Unit {0}

abbrev pub AnyPlace : kernel.Place → Type 0
AnyPlace p = Unit {0}

abbrev pub AnyNumber : ℕ → Type 0
AnyNumber v = Unit {0}

abbrev pub AnyOutput : kernel.Output → Type 0
AnyOutput o = Unit {0}

abbrev pub AnyInput : kernel.Input → Type 0
AnyInput i = Unit {0}

-- E of each expression, L of each place, Z of each variable that is set to zero, O of each output,
-- I of each input, and T of the channel of each transaction
module _ (E : kernel.Expression → Type 0) (L : kernel.Place → Type 0) (Z : ℕ → Type 0) (O : kernel.Output → Type 0) (I : kernel.Input → Type 0) (T : ℕ → Type 0) where
  abbrev pub EachMaybe : Option kernel.Expression → Type 0
  EachMaybe None = Unit {0}
  EachMaybe (Some e) = E e

  abbrev pub EachPlace : Option kernel.Place → Type 0
  EachPlace None = Unit {0}
  EachPlace (Some p) = L p

  abbrev pub EachCondition : Option kernel.Condition → Type 0
  EachCondition None = Unit {0}
  EachCondition (Some w) = E w.value

  abbrev pub EachOutput : kernel.Output → Type 0
  EachOutput o = O o × (EachMaybe o.time × (E o.value × EachPlace o.stamp))

  abbrev pub EachInput : kernel.Input → Type 0
  EachInput i =
      I i
      × (EachMaybe i.time × (EachCondition i.condition × (EachPlace i.target × EachPlace i.stamp)))

  abbrev mutual
    pub EachStatement : kernel.Statement → Type 0
    EachStatement (kernel.set_zero v) = Z v
    EachStatement (kernel.set p e) = L p × E e
    EachStatement (kernel.output o) = EachOutput o
    EachStatement (kernel.input i) = EachInput i
    EachStatement (kernel.if_then e a b) = E e × (EachOf a × EachOf b)
    EachStatement (kernel.loop e a b) = E e × (EachOf a × EachOf b)
    EachStatement (kernel.block k a) = EachOf a
    EachStatement (kernel.exit k) = Unit {0}
    EachStatement (kernel.select cs d pos) = EachCase cs × EachDefault d
    EachStatement (kernel.par bs) = EachBranch bs
    EachStatement (kernel.transaction c is_master a start close) = T c × EachOf a

    pub EachOf : kernel.Statements → Type 0
    EachOf kernel.no_more = Unit {0}
    EachOf (kernel.more s ss) = EachStatement s × EachOf ss

    pub EachCase : kernel.Cases → Type 0
    EachCase kernel.no_case = Unit {0}
    EachCase (kernel.more_cases (kernel.case guard i a) cs) =
        (EachMaybe guard × (EachInput i × EachOf a)) × EachCase cs

    pub EachDefault : kernel.Default → Type 0
    EachDefault kernel.no_default = Unit {0}
    EachDefault (kernel.default a) = EachOf a

    pub EachBranch : kernel.Branches → Type 0
    EachBranch kernel.no_branch = Unit {0}
    EachBranch (kernel.more_branches (kernel.branch a pos) bs) = EachOf a × EachBranch bs

  abbrev pub EachRoot : List kernel.Root → Type 0
  EachRoot [] = Unit {0}
  EachRoot (r ∷ rs) = EachOf r.body × EachRoot rs

-- so of each root by its core
module _ (E : ℕ → kernel.Expression → Type 0) (L : ℕ → kernel.Place → Type 0) (Z : ℕ → ℕ → Type 0) (O : ℕ → kernel.Output → Type 0) (I : ℕ → kernel.Input → Type 0) (T : ℕ → ℕ → Type 0) where
  abbrev pub EachRootOn : List kernel.Root → Type 0
  EachRootOn [] = Unit {0}
  EachRootOn (r ∷ rs) =
      EachOf (E r.core) (L r.core) (Z r.core) (O r.core) (I r.core) (T r.core) r.body × EachRootOn rs
