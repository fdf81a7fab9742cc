-- The code of statements: which cells a statement has, by the place of the instruction in front and the index of the first cell.
use Rattle.std.specs.Prelude.{◌≡◌, ℕ, ◌+◌, ◌≤◌, Bool, true, false, List, [], ◌∷◌, ◌++◌, length, map, Option, Some, None}
use Rattle.xw_words.specs.declared.pos.Pos.{Pos}
use Rattle.xs_instr.specs.declared.instr.Instr.TheVariants.{Brff, Brfu, Brbu, Ssync}
use Rattle.xs_instr.specs.declared.instr.Reg.TheVariants.{R0}
use Rattle.xs_instr.specs.Lines.{Line, line, last_or, last_pos}
use Rattle.xc_kernel.specs.declared.statement.KRes.{KRes}
use Rattle.xc_kernel.specs.declared.statement.KRes.TheVariants.{Port, Timer, Chan}
use Rattle.xc_kernel.specs.Plain as kernel
use Rattle.xc_meaning.specs.Counts.KernelCounts.{branch_count}
use Rattle.xc_meaning.specs.Settings.Sides.{sides_in}
use Rattle.xl_chan.specs.Transfers.{Receives, SendsValue}
use Rattle.xl_expr.specs.declared.plan.Plan.{Plan}
use Rattle.xl_expr.specs.declared.plan.VarPlan.{VarPlan}
use Rattle.xl_expr.specs.Targets.{AreAimed}
use Rattle.xl_flow.specs.Flow.{Sets, Tests}
use Rattle.xl_flow.specs.Zeros.{Zeroes}
use Rattle.xl_par.specs.Closing.{Closes as ClosesPar, EndsSlave}
use Rattle.xl_par.specs.Opening.{AreAimedWith, Opens, filled}
use Rattle.xl_port.specs.Inputs.{Inputs}
use Rattle.xl_port.specs.Outputs.{Outputs}
use Rattle.xl_port.specs.TimerInputs.{TimerInputs}
use Rattle.xl_ends.specs.Ends.{Sides, codes_in, end_at}
use Rattle.xl_select.specs.Entry.{EntersCase}
use Rattle.xl_select.specs.Opening.{AreAimedWith as AreAimedWithCases, Opens as OpensSelect, default_targets}
use Rattle.xl_select.specs.OpeningCode.{case_count, is_default}
use Rattle.xl_statements.specs.declared.leaving.JumpTarget.{JumpTarget}
use Rattle.xl_statements.specs.declared.leaving.JumpTarget.TheVariants.{BlockEnd, SelectEnd}
use Rattle.xl_statements.specs.declared.leaving.Leaving.{Leaving}
use Rattle.xl_statements.specs.CaseEnds.{case_end, case_ends}
use Rattle.xl_statements.specs.Cells.{Cell, known, leaving, behind, closed, leaves, line_of}
use Rattle.xl_statements.specs.Landing.{all_landed}

-- The cells of some code, by the place in front and the first index. A jump has the place of the instruction in front of it, and the
-- branch behind a test that of the instruction in front of the test. What opens and what closes a `par`, the jump past the other
-- branches and what ends each of these have the place of the instruction in front too.
abbrev pub Coded : Type 1
Coded = Pos → ℕ → List Cell → Type 0

-- lines of which P holds, that stand from an index on
pub record AreLines (P : ℕ → List Line → Type 0) (last : Pos) (pc : ℕ) (cells : List Cell) : Type 0 where
  pub lines : List Line
  pub is : cells ≡ map known lines
  pub so : P pc lines
  pub aimed : AreAimed pc lines

-- one after the other
pub record Follow (First Rest : Coded) (last : Pos) (pc : ℕ) (cells : List Cell) : Type 0 where
  pub first : List Cell
  pub rest : List Cell
  pub is : cells ≡ first ++ rest
  pub first_is : First last pc first
  pub rest_is : Rest (behind last first) (pc + length first) rest

-- A test that goes to the second side where its word is 0, the first side, a jump past the second side, and the second side.
pub record TwoSides
    (vars : List (Option VarPlan)) (x : kernel.Expression) (First Second : Coded)
    (last : Pos) (pc : ℕ) (cells : List Cell) : Type 0 where
  pub test : List Line
  pub first : List Cell
  pub second : List Cell
  pub other : ℕ
  pub end : ℕ
  pub other_is : other ≡ pc + length test + 1 + length first + 1
  pub end_is : end ≡ other + length second
  pub is : cells ≡ map known test ++ (known (line (Brff R0 other) last)
      ∷ (first ++ (known (line (Brfu end) (behind last first)) ∷ second)))
  pub tests : Tests vars x pc last test
  pub aimed : AreAimed pc test
  pub first_is : First last (pc + length test + 1) first
  pub second_is : Second (behind last first) other second

-- A test that goes past the one side where its word is 0, and that side.
pub record OneSide
    (vars : List (Option VarPlan)) (x : kernel.Expression) (First : Coded)
    (last : Pos) (pc : ℕ) (cells : List Cell) : Type 0 where
  pub test : List Line
  pub first : List Cell
  pub end : ℕ
  pub end_is : end ≡ pc + length test + 1 + length first
  pub is : cells ≡ map known test ++ (known (line (Brff R0 end) last) ∷ first)
  pub tests : Tests vars x pc last test
  pub aimed : AreAimed pc test
  pub first_is : First last (pc + length test + 1) first

-- past an empty second side there is no jump
abbrev pub Branching :
    (second : kernel.Statements) → List (Option VarPlan) → kernel.Expression → (First Second : Coded) → Coded
Branching kernel.no_more vars x First Second last pc cells = OneSide vars x First last pc cells
Branching (kernel.more s ss) vars x First Second last pc cells = TwoSides vars x First Second last pc cells

-- A test that leaves the loop where its word is 0, the body, what follows each iteration, and a jump back to the test.
pub record LoopCode
    (vars : List (Option VarPlan)) (x : kernel.Expression) (Body Next : Coded)
    (last : Pos) (pc : ℕ) (cells : List Cell) : Type 0 where
  pub test : List Line
  pub body : List Cell
  pub next : List Cell
  pub end : ℕ
  pub end_is : end ≡ pc + length test + 1 + length body + length next + 1
  pub is : cells ≡ map known test ++ (known (line (Brff R0 end) last)
      ∷ (body ++ (next ++ known (line (Brbu pc) (behind (behind last body) next)) ∷ [])))
  pub tests : Tests vars x pc last test
  pub aimed : AreAimed pc test
  pub body_is : Body last (pc + length test + 1) body
  pub next_is : Next (behind last body) (pc + length test + 1 + length body) next

-- what stands in a block or select, with the jumps to its end
pub record Closes (ended : JumpTarget) (Inside : Coded) (last : Pos) (pc : ℕ) (cells : List Cell) : Type 0 where
  pub inside : List Cell
  pub is : cells ≡ map (closed ended (pc + length inside)) inside
  pub inside_is : Inside last pc inside

-- A branch of a `par` behind the first, and the instruction that ends it.
pub record Slave (Body : Coded) (last : Pos) (pc : ℕ) (cells : List Cell) : Type 0 where
  pub body : List Cell
  pub is : cells ≡ body ++ known (line Ssync (behind last body)) ∷ []
  pub body_is : Body last pc body
  pub ends : EndsSlave (pc + length body) (line Ssync (behind last body) ∷ [])

-- one code and then others, by the indices where they start
pub record FromStarts
    (First : Coded) (Others : List ℕ → Coded) (starts : List ℕ) (last : Pos) (pc : ℕ) (cells : List Cell) : Type 0 where
  pub first : List Cell
  pub later : List ℕ
  pub others : List Cell
  pub starts_are : starts ≡ pc ∷ later
  pub is : cells ≡ first ++ others
  pub first_is : First last pc first
  pub others_are : Others later (behind last first) (pc + length first) others

-- What opens a `par`, the first branch, what closes the `par`, a jump past the other branches, and these.
pub record SeveralBranches
    (plan : Plan) (slaves : ℕ) (First : Coded) (Slaves : List ℕ → Coded) (last : Pos) (pc : ℕ) (cells : List Cell) : Type 0 where
  pub opening : List Line
  pub starts : List ℕ
  pub first : List Cell
  pub closing : List Line
  pub others : List Cell
  pub end : ℕ
  pub as_many : length starts ≡ slaves
  pub few : slaves ≤ 7
  pub end_is : end ≡ pc + length opening + length first + length closing + 1 + length others
  pub is : cells ≡ map known (filled opening starts)
      ++ (first ++ (map known closing ++ (known (line (Brfu end) (behind last first)) ∷ others)))
  pub opens : Opens plan.first_stack slaves last pc opening
  pub opens_aimed : AreAimedWith slaves pc opening
  pub first_is : First last (pc + length opening) first
  pub closes : ClosesPar (behind last first) (pc + length opening + length first) closing
  pub closes_aimed : AreAimed (pc + length opening + length first) closing
  pub others_are : Slaves starts (behind last first) (pc + length opening + length first + length closing + 1) others

-- one branch has its own code alone
abbrev pub OneOrSeveral : Plan → (others : kernel.Branches) → (First : Coded) → (Slaves : List ℕ → Coded) → Coded
OneOrSeveral plan kernel.no_branch First Slaves last pc cells = First last pc cells
OneOrSeveral plan (kernel.more_branches b bs) First Slaves last pc cells =
    SeveralBranches plan (branch_count (kernel.more_branches b bs)) First Slaves last pc cells

-- whether a case is the last code of its select
abbrev pub is_last : (others : kernel.Cases) → kernel.Default → Bool
is_last kernel.no_case kernel.no_default = true
is_last kernel.no_case (kernel.default ss) = false
is_last (kernel.more_cases c cs) otherwise = false

-- the jump to the select's end, unless that is where it would stand
abbrev pub jump_unless : (is_last : Bool) → Pos → List Cell
jump_unless true last = []
jump_unless false last = leaving SelectEnd last ∷ []

-- What a case of a select begins with once it was taken, its body, and a jump to the select's end where other code stands in between.
pub record CaseCode
    (Enters : ℕ → List Line → Type 0) (Body : Coded) (ends_select : Bool) (last : Pos) (pc : ℕ) (cells : List Cell) : Type 0 where
  pub entry : List Line
  pub body : List Cell
  pub is : cells ≡ map known entry ++ (body ++ jump_unless ends_select (behind (last_or last entry) body))
  pub enters : Enters pc entry
  pub aimed : AreAimed pc entry
  pub body_is : Body (last_or last entry) (pc + length entry) body

-- What opens a select, by the starts of its cases and of its default, and these with the jumps to its end.
pub record SelectCode
    (plan : Plan) (ends : List ℕ) (cases : kernel.Cases) (otherwise : kernel.Default) (pos : Pos) (Cases : List ℕ → Coded)
    (last : Pos) (pc : ℕ) (cells : List Cell) : Type 0 where
  pub opening : List Line
  pub starts : List ℕ
  pub default_start : ℕ
  pub inside : List Cell
  pub as_many : length starts ≡ case_count cases
  pub is : cells ≡ map known (filled opening (starts ++ default_targets (is_default otherwise) default_start)) ++ inside
  pub opens : OpensSelect plan ends cases (is_default otherwise) pos pc opening
  pub opens_aimed : AreAimedWithCases (case_count cases) (is_default otherwise) pc opening
  pub inside_is : Closes SelectEnd (Cases (starts ++ default_targets (is_default otherwise) default_start))
      (last_or last opening) (pc + length opening) inside

-- The code of a transfer over a channel, by the end that the code around it uses. Where that stands in no side of the channel, it has none.
abbrev pub ByEnd : (P : (end : ℕ) → ℕ → List Line → Type 0) → Option ℕ → Coded
ByEnd P None last pc cells = cells ≡ []
ByEnd P (Some end) last pc cells = AreLines (P end) last pc cells

module _ (plan : Plan) where
  -- an output, and an input, by its resource
  abbrev pub OutputEmits : Sides → kernel.Output → KRes → Coded
  OutputEmits sides o (Port p) last pc cells = AreLines (Outputs plan o) last pc cells
  OutputEmits sides o (Timer t) last pc cells = ⊥
  OutputEmits sides o (Chan c) last pc cells = ByEnd (λ end. SendsValue plan end o.value true o.pos) (end_at plan.channels sides c) last pc cells

  abbrev pub InputEmits : Sides → kernel.Input → KRes → Coded
  InputEmits sides i (Port p) last pc cells = AreLines (Inputs plan i) last pc cells
  InputEmits sides i (Timer t) last pc cells = AreLines (TimerInputs plan i) last pc cells
  InputEmits sides i (Chan c) last pc cells = ByEnd (λ end. Receives plan end i.target true i.pos) (end_at plan.channels sides c) last pc cells

  -- the code of a statement that stands in these sides of channels
  abbrev mutual
    pub Emits : Sides → kernel.Statement → Coded
    Emits sides (kernel.set_zero v) last pc cells = AreLines (Zeroes plan.vars v) last pc cells
    Emits sides (kernel.set place x) last pc cells = AreLines (Sets plan.vars place x) last pc cells
    Emits sides (kernel.output o) last pc cells = OutputEmits sides o o.resource last pc cells
    Emits sides (kernel.input i) last pc cells = InputEmits sides i i.resource last pc cells
    Emits sides (kernel.if_then x a b) last pc cells = Branching b plan.vars x (AllEmit sides a) (AllEmit sides b) last pc cells
    Emits sides (kernel.loop x a b) last pc cells = LoopCode plan.vars x (AllEmit sides a) (AllEmit sides b) last pc cells
    Emits sides (kernel.block n a) last pc cells = Closes (BlockEnd n) (AllEmit sides a) last pc cells
    Emits sides (kernel.exit n) last pc cells = cells ≡ leaving (BlockEnd n) last ∷ []
    Emits sides (kernel.select cs otherwise pos) last pc cells =
        SelectCode plan (case_ends plan.channels sides cs) cs otherwise pos
        (CasesEmit sides otherwise (DefaultEmits sides otherwise) cs) last pc cells
    Emits sides (kernel.par bs) last pc cells = ParEmits sides bs last pc cells
    Emits sides other last pc cells = ⊥

    pub AllEmit : Sides → kernel.Statements → Coded
    AllEmit sides kernel.no_more last pc cells = cells ≡ []
    AllEmit sides (kernel.more s ss) last pc cells = Follow (Emits sides s) (AllEmit sides ss) last pc cells

    -- a select's cases and then its default, by the default's code and by where they start
    pub CasesEmit : Sides → kernel.Default → (Default : List ℕ → Coded) → kernel.Cases → List ℕ → Coded
    CasesEmit sides otherwise Default kernel.no_case starts last pc cells = Default starts last pc cells
    CasesEmit sides otherwise Default (kernel.more_cases (kernel.case guard i ss) cs) starts last pc cells =
        FromStarts (CaseCode (EntersCase plan i (case_end plan.channels sides i.resource) true) (AllEmit sides ss) (is_last cs otherwise))
        (CasesEmit sides otherwise Default cs) starts last pc cells

    pub DefaultEmits : Sides → kernel.Default → List ℕ → Coded
    DefaultEmits sides kernel.no_default starts last pc cells = (starts ≡ []) × (cells ≡ [])
    DefaultEmits sides (kernel.default ss) starts last pc cells = (starts ≡ pc ∷ []) × AllEmit sides ss last pc cells

    pub ParEmits : Sides → kernel.Branches → Coded
    ParEmits sides kernel.no_branch last pc cells = cells ≡ []
    ParEmits sides (kernel.more_branches (kernel.branch ss pos) bs) last pc cells =
        OneOrSeveral plan bs (AllEmit (sides_in 0 [] ss (codes_in bs) sides) ss) (SlavesEmit sides (ss ∷ []) bs) last pc cells

    -- the branches behind the first, by the code of those before them, the last one first, and by where they start
    pub SlavesEmit : Sides → (before : List kernel.Statements) → kernel.Branches → List ℕ → Coded
    SlavesEmit sides before kernel.no_branch starts last pc cells = (starts ≡ []) × (cells ≡ [])
    SlavesEmit sides before (kernel.more_branches (kernel.branch ss pos) bs) starts last pc cells =
        FromStarts (Slave (AllEmit (sides_in 0 before ss (codes_in bs) sides) ss)) (SlavesEmit sides (ss ∷ before) bs) starts last pc cells

  -- what stands in a select
  abbrev pub InsideEmits : Sides → kernel.Default → kernel.Cases → List ℕ → Coded
  InsideEmits sides otherwise cs starts last pc cells = CasesEmit sides otherwise (DefaultEmits sides otherwise) cs starts last pc cells

-- Such code was added to the lines, and its jumps to ends to those that are open.
pub record Emitted (Code : Coded) (old new : List Line) (before after : List Leaving) : Type 0 where
  pub cells : List Cell
  pub lines : new ≡ old ++ map line_of cells
  pub leaving_ones : after ≡ before ++ leaves cells (length old)
  pub so : Code (last_pos old) (length old) cells

-- Such code was added from its starts on, each of which landed.
pub record StartsEmitted
    (Code : List ℕ → Coded) (holes : List ℕ) (old new : List Line) (before after : List Leaving) : Type 0 where
  pub starts : List ℕ
  pub cells : List Cell
  pub lines : new ≡ all_landed old holes starts ++ map line_of cells
  pub leaving_ones : after ≡ before ++ leaves cells (length old)
  pub so : Code starts (last_pos old) (length old) cells
