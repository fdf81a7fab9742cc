-- What code needs of the runner whose branch has it to do: that it uses and changes what is in the runner's footprint, and counts no more than
-- the bound on steps allows.
use Rattle.std.specs.Prelude.{◌≡◌, ℕ, ◌<◌, ◌≤◌, true, List, [], ◌∷◌, Option, Some, None}
use Rattle.xs_instr.specs.Ports.{can_receive, can_send}
use Rattle.xc_kernel.specs.Conditions.{AsksForPins, AsksForTime}
use Rattle.xc_kernel.specs.declared.kernel.PortUse.{PortUse}
use Rattle.xc_kernel.specs.declared.kernel.Timer.{Timer as TimerUse}
use Rattle.xc_kernel.specs.declared.statement.KRes.{KRes}
use Rattle.xc_kernel.specs.declared.statement.KRes.TheVariants.{Port, Timer, Chan}
use Rattle.xc_kernel.specs.Plain as kernel
use Rattle.xc_meaning.specs.Counts.KernelCounts.{greatest_count, of_place, of_statement, words_in}
use Rattle.xc_invariants.specs.Sided.{DefaultIs, EachChoice}
use Rattle.xc_meaning.specs.States.Items.{Item, awaits, chooses, does, fixed, stores, stamps}
use Rattle.xl_expr.specs.declared.plan.VarPlan.{VarPlan}
use Rattle.xl_expr.specs.Frames.{HasVars, HasPlace, variable_of}
use Rattle.xl_expr.specs.Plans.{var_in}
use Rattle.xl_image.specs.Images.{dir_of}
use Rattle.xr_simulation.specs.Runners.{Setting, Runner, IsChannel, IsPort, IsTimer, anyone, places, plan}

module _ (g : Setting) (r : Runner) where
  -- no statement of the program counts more
  abbrev pub greatest : ℕ
  greatest = greatest_count g.program

  abbrev pub IsCounted : kernel.Statement → Type 0
  IsCounted s = of_statement g.program.variables s ≤ greatest

  -- the variables of an expression are the runner's
  abbrev pub Uses : kernel.Expression → Type 0
  Uses x = HasVars (plan g r).vars r.footprint.uses x

  abbrev pub UsesAt : kernel.Place → Type 0
  UsesAt p = HasPlace (plan g r).vars r.footprint.uses p

  abbrev pub UsesSome : Option kernel.Expression → Type 0
  UsesSome None = Unit {0}
  UsesSome (Some x) = Uses x

  abbrev pub UsesCondition : Option kernel.Condition → Type 0
  UsesCondition None = Unit {0}
  UsesCondition (Some condition) = Uses condition.value

  -- a variable that the runner may change, with some words, of which the plan has as many as the program
  pub record IsChanged (v : ℕ) : Type 0 where
    pub found : VarPlan
    pub known : var_in (places g r.core) v ≡ Some found
    pub words : found.words ≡ words_in g.program.variables v
    pub some : 0 < found.words
    pub uses : r.footprint.uses v ≡ true
    pub changes : r.footprint.changes v ≡ true

  -- a place that the runner may change
  abbrev pub ChangesAt : Option kernel.Place → Type 0
  ChangesAt None = Unit {0}
  ChangesAt (Some place) = UsesAt place × (r.footprint.changes (variable_of place) ≡ true)

  -- a port by which the runner may put words out
  pub record IsOutPort (p : ℕ) : Type 0 where
    pub listed : PortUse
    pub is : IsPort g r p listed
    pub sends : can_send (dir_of listed.dir) ≡ true

  abbrev pub PutsOutAt : KRes → Type 0
  PutsOutAt (Port p) = IsOutPort p
  PutsOutAt (Timer t) = Unit {0}
  PutsOutAt (Chan c) = IsChannel g r c

  -- a port from which it may take words in
  pub record IsInPort (p : ℕ) : Type 0 where
    pub listed : PortUse
    pub is : IsPort g r p listed
    pub receives : can_receive (dir_of listed.dir) ≡ true

  -- a timer that it may read
  pub record IsReadTimer (t : ℕ) : Type 0 where
    pub listed : TimerUse
    pub is : IsTimer g r t listed

  abbrev pub TakesInAt : KRes → Type 0
  TakesInAt (Port p) = IsInPort p
  TakesInAt (Timer t) = IsReadTimer t
  TakesInAt (Chan c) = IsChannel g r c

  -- what is asked of a port are its pins, and of a timer a time of its clock; a timer has no counter to wait for
  abbrev pub AsksRightly : KRes → Option kernel.Expression → Option kernel.Condition → Type 0
  AsksRightly (Port p) time condition = AsksForPins condition
  AsksRightly (Timer t) time condition = (time ≡ None) × AsksForTime condition
  AsksRightly (Chan c) time condition = Unit {0}

  pub record OutputFits (o : kernel.Output) : Type 0 where
    pub time : UsesSome o.time
    pub value : Uses o.value
    pub stamp : ChangesAt o.stamp
    pub to : PutsOutAt o.resource

  pub record InputFits (i : kernel.Input) : Type 0 where
    pub time : UsesSome i.time
    pub condition : UsesCondition i.condition
    pub target : ChangesAt i.target
    pub stamp : ChangesAt i.stamp
    pub from : TakesInAt i.resource
    pub asks : AsksRightly i.resource i.time i.condition

  -- an input that counts no more, as that of a select's case
  abbrev pub CountedInputFits : kernel.Input → Type 0
  CountedInputFits i = InputFits i × IsCounted (kernel.input i)

  -- an exit needs nothing, and of what isn't built nothing is said
  abbrev mutual
    pub Fits : kernel.Statement → Type 0
    Fits (kernel.set_zero v) = IsChanged v × IsCounted (kernel.set_zero v)
    Fits (kernel.set place x) =
        UsesAt place × Uses x × (r.footprint.changes (variable_of place) ≡ true) × IsCounted (kernel.set place x)
    Fits (kernel.output o) = OutputFits o × IsCounted (kernel.output o)
    Fits (kernel.input i) = InputFits i × IsCounted (kernel.input i)
    Fits (kernel.if_then x a b) = Uses x × AllFit a × AllFit b × IsCounted (kernel.if_then x a b)
    Fits (kernel.loop x a b) = Uses x × AllFit a × AllFit b × IsCounted (kernel.loop x a b)
    Fits (kernel.block n a) = AllFit a
    Fits (kernel.select cs d pos) = CasesFit cs × DefaultFits d × IsCounted (kernel.select cs d pos)
    Fits (kernel.par bs) = BranchesFit bs × IsCounted (kernel.par bs)
    Fits other = Unit {0}

    pub AllFit : kernel.Statements → Type 0
    AllFit kernel.no_more = Unit {0}
    AllFit (kernel.more s ss) = Fits s × AllFit ss

    pub CasesFit : kernel.Cases → Type 0
    CasesFit kernel.no_case = Unit {0}
    CasesFit (kernel.more_cases (kernel.case guard i ss) cs) =
        (UsesSome guard × CountedInputFits i × AllFit ss) × CasesFit cs

    pub DefaultFits : kernel.Default → Type 0
    DefaultFits kernel.no_default = Unit {0}
    DefaultFits (kernel.default ss) = AllFit ss

    pub BranchesFit : kernel.Branches → Type 0
    BranchesFit kernel.no_branch = Unit {0}
    BranchesFit (kernel.more_branches (kernel.branch ss pos) bs) = AllFit ss × BranchesFit bs

  -- what has a stamp
  abbrev pub StampsAt : KRes → Type 0
  StampsAt (Port p) = (listed : PortUse) × IsPort g r p listed
  StampsAt (Timer t) = ⊥
  StampsAt (Chan c) = ⊥

  abbrev pub ItemFits : Item → Type 0
  ItemFits (does s) = Fits s
  ItemFits (stores place v) = ChangesAt (Some place) × (of_place place ≤ greatest)
  ItemFits (stamps resource place v) = StampsAt resource × ChangesAt (Some place) × (of_place place ≤ greatest)
  ItemFits (awaits c pos) = IsChannel g r c
  ItemFits (chooses choices otherwise) = EachChoice CountedInputFits AllFit choices × DefaultIs AllFit otherwise
  ItemFits (fixed i v counter) = CountedInputFits i
  ItemFits other = Unit {0}

  abbrev pub ItemsFit : List Item → Type 0
  ItemsFit [] = Unit {0}
  ItemsFit (i ∷ items) = ItemFits i × ItemsFit items

-- the same of a core, whoever runs them
abbrev pub FitOn : Setting → (core : ℕ) → List Item → Type 0
FitOn g core items = ItemsFit g (anyone core) items
