-- What holds of all parts of code holds of them in weaker words.
use Rattle.std.proofs.Common.{ℕ, List, [], ◌∷◌, Option, Some, None}
use Rattle.xc_kernel.specs.Plain as kernel
use Rattle.xc_wellformed.specs.Each.{EachMaybe, EachPlace, EachCondition, EachOutput, EachInput, EachStatement, EachOf, EachCase, EachDefault, EachBranch, EachRoot}

module _ (E F : kernel.Expression → Type 0) (L M : kernel.Place → Type 0) (Z Y : ℕ → Type 0) (O Q : kernel.Output → Type 0) (I J : kernel.Input → Type 0) (T U : ℕ → Type 0)
    (ex : (e : kernel.Expression) → E e → F e) (pl : (p : kernel.Place) → L p → M p) (ze : (v : ℕ) → Z v → Y v) (ou : (o : kernel.Output) → O o → Q o) (on : (i : kernel.Input) → I i → J i) (tr : (c : ℕ) → T c → U c) where
  maybe : (o : Option kernel.Expression) → EachMaybe E L Z O I T o → EachMaybe F M Y Q J U o
  maybe None h = tt
  maybe (Some e) h = ex e h

  place : (o : Option kernel.Place) → EachPlace E L Z O I T o → EachPlace F M Y Q J U o
  place None h = tt
  place (Some p) h = pl p h

  condition : (o : Option kernel.Condition) → EachCondition E L Z O I T o → EachCondition F M Y Q J U o
  condition None h = tt
  condition (Some w) h = ex w.value h

  output : (o : kernel.Output) → EachOutput E L Z O I T o → EachOutput F M Y Q J U o
  output o h = (ou o h.0, (maybe o.time h.1.0, (ex o.value h.1.1.0, place o.stamp h.1.1.1)))

  input : (i : kernel.Input) → EachInput E L Z O I T i → EachInput F M Y Q J U i
  input i h = (on i h.0, (maybe i.time h.1.0, (condition i.condition h.1.1.0, (place i.target h.1.1.1.0, place i.stamp h.1.1.1.1))))

  mutual
    statement : (s : kernel.Statement) → EachStatement E L Z O I T s → EachStatement F M Y Q J U s
    statement (kernel.set_zero v) h = ze v h
    statement (kernel.set p e) h = (pl p h.0, ex e h.1)
    statement (kernel.output o) h = output o h
    statement (kernel.input i) h = input i h
    statement (kernel.if_then e a b) h = (ex e h.0, (statements a h.1.0, statements b h.1.1))
    statement (kernel.loop e a b) h = (ex e h.0, (statements a h.1.0, statements b h.1.1))
    statement (kernel.block k a) h = statements a h
    statement (kernel.exit k) h = tt
    statement (kernel.select cs d pos) h = (cases cs h.0, default d h.1)
    statement (kernel.par bs) h = branches bs h
    statement (kernel.transaction c is_master a start close) h = (tr c h.0, statements a h.1)

    statements : (ss : kernel.Statements) → EachOf E L Z O I T ss → EachOf F M Y Q J U ss
    statements kernel.no_more h = tt
    statements (kernel.more s ss) h = (statement s h.0, statements ss h.1)

    cases : (cs : kernel.Cases) → EachCase E L Z O I T cs → EachCase F M Y Q J U cs
    cases kernel.no_case h = tt
    cases (kernel.more_cases (kernel.case guard i a) cs) h = ((maybe guard h.0.0, (input i h.0.1.0, statements a h.0.1.1)), cases cs h.1)

    default : (d : kernel.Default) → EachDefault E L Z O I T d → EachDefault F M Y Q J U d
    default kernel.no_default h = tt
    default (kernel.default a) h = statements a h

    branches : (bs : kernel.Branches) → EachBranch E L Z O I T bs → EachBranch F M Y Q J U bs
    branches kernel.no_branch h = tt
    branches (kernel.more_branches (kernel.branch a pos) bs) h = (statements a h.0, branches bs h.1)

  pub each_root : (rs : List kernel.Root) → EachRoot E L Z O I T rs → EachRoot F M Y Q J U rs
  each_root [] h = tt
  each_root (r ∷ rs) h = (statements r.body h.0, each_root rs h.1)
