-- The code of statements, as a relation on the whole code of a core: what stands from one index to another.
use Rattle.std.specs.Prelude.{◌≡◌, ◌⊎◌, ℕ, zero, suc, ◌+◌, ◌≤◌, Bool, true, false, List, [], ◌∷◌, ◌++◌, length, Option, Some, None, nat_eq, slice_get}
use Rattle.xw_words.specs.declared.pos.Pos.{Pos}
use Rattle.xs_instr.specs.declared.image.Code.{Code}
use Rattle.xs_instr.specs.declared.instr.Instr.TheVariants.{Brff, Brfu, Brbu, Freet, Ssync}
use Rattle.xs_instr.specs.declared.instr.Reg.TheVariants.{R0}
use Rattle.xs_instr.specs.Lines.{Line, line}
use Rattle.xs_instr.specs.OwnSteps.{StandAt}
use Rattle.xc_kernel.specs.declared.statement.KRes.{KRes}
use Rattle.xc_kernel.specs.declared.statement.KRes.TheVariants.{Port, Timer, Chan}
use Rattle.xc_kernel.specs.Plain as kernel
use Rattle.xc_meaning.specs.Counts.KernelCounts.{branch_count}
use Rattle.xc_meaning.specs.Settings.Sides.{sides_in}
use Rattle.xl_chan.specs.Transfers.{Receives, SendsValue}
use Rattle.xl_expr.specs.declared.plan.Plan.{Plan}
use Rattle.xl_flow.specs.Flow.{Sets, Tests}
use Rattle.xl_flow.specs.Zeros.{Zeroes}
use Rattle.xl_par.specs.Closing.{Closes, EndsSlave}
use Rattle.xl_par.specs.Opening.{Opens, filled}
use Rattle.xl_par.specs.Roots.{EndsRoot}
use Rattle.xl_port.specs.Inputs.{Inputs}
use Rattle.xl_port.specs.Outputs.{Outputs}
use Rattle.xl_port.specs.TimerInputs.{TimerInputs}
use Rattle.xl_ends.specs.Ends.{Sides, codes_in, end_at}
use Rattle.xl_select.specs.Entry.{EntersCase}
use Rattle.xl_select.specs.Opening.{Opens as OpensSelect, default_targets}
use Rattle.xl_select.specs.OpeningCode.{case_count, is_default}
use Rattle.xl_statements.specs.CaseEnds.{case_end, case_ends}

-- an open block, and the index where it ends
pub record Exit : Type 0 where
  pub block : ℕ
  pub index : ℕ

-- `exit_of`, by cases
abbrev pub exit_by : Bool → ℕ → Option ℕ → Option ℕ
exit_by true here outer = Some here
exit_by false here outer = outer

-- where a block ends, by the open blocks, the innermost first
abbrev pub exit_of : List Exit → (block : ℕ) → Option ℕ
exit_of [] n = None
exit_of (e ∷ exits) n = exit_by (nat_eq n e.block) e.index (exit_of exits n)

module _ (code : Code) where
  -- lines of which P holds stand from one index to another
  pub record LinesAt (P : ℕ → List Line → Type 0) (pc pc' : ℕ) : Type 0 where
    pub lines : List Line
    pub stand : StandAt code pc lines
    pub so : P pc lines
    pub end : pc' ≡ pc + length lines

  -- n jumps lead from one index to another
  abbrev pub Jumps : ℕ → (pc pc' : ℕ) → Type 0
  Jumps zero pc pc' = pc ≡ pc'
  Jumps (suc n) pc pc' =
      (p : ℕ) × ((slice_get code.instrs pc ≡ Some (Brfu p)) ⊎ (slice_get code.instrs pc ≡ Some (Brbu p))) × Jumps n p pc'

  module _ (plan : Plan) where
    -- the test of an expression, which goes on to `next`, or to `other` where its word is 0
    pub record TestAt (x : kernel.Expression) (pc next other : ℕ) : Type 0 where
      pub lines : List Line
      pub place : Pos
      pub stand : StandAt code pc (lines ++ line (Brff R0 other) place ∷ [])
      pub tests : Tests plan.vars x pc place lines
      pub end : next ≡ pc + length lines + 1

    -- the code that opens a `par` of so many branches behind the first, with their starts
    pub record OpensAt (slaves : ℕ) (starts : List ℕ) (pc pc' : ℕ) : Type 0 where
      pub lines : List Line
      pub place : Pos
      pub as_many : length starts ≡ slaves
      pub stand : StandAt code pc (filled lines starts)
      pub opens : Opens plan.first_stack slaves place pc lines
      pub end : pc' ≡ pc + length lines

    -- the code that closes it
    pub record ClosesAt (pc pc' : ℕ) : Type 0 where
      pub lines : List Line
      pub place : Pos
      pub stand : StandAt code pc lines
      pub closes : Closes place pc lines
      pub end : pc' ≡ pc + length lines

    -- the code that ends a branch behind the first
    pub record SlaveEndsAt (pc : ℕ) : Type 0 where
      pub lines : List Line
      pub stand : StandAt code pc lines
      pub ends : EndsSlave pc lines
      pub instr : slice_get code.instrs pc ≡ Some Ssync

    -- several branches: the first stands between what opens and what closes the `par`, the others behind it, past which at most one jump
    -- leads
    pub record SeveralAt (slaves : ℕ) (First : (pc pc' : ℕ) → Type 0) (Slaves : List ℕ → Type 0) (pc pc' : ℕ) : Type 0 where
      pub starts : List ℕ
      pub first : ℕ
      pub done : ℕ
      pub closed : ℕ
      pub jumps : ℕ
      pub few : slaves ≤ 7
      pub opens : OpensAt slaves starts pc first
      pub first_at : First first done
      pub closes : ClosesAt done closed
      pub past : Jumps jumps closed pc'
      pub at_most_one : jumps ≤ 1
      pub slaves_at : Slaves starts

    -- one branch has its own code alone
    abbrev pub ParOf :
        (others : kernel.Branches) → (First : (pc pc' : ℕ) → Type 0) → (Slaves : List ℕ → Type 0) → (pc pc' : ℕ) → Type 0
    ParOf kernel.no_branch First Slaves pc pc' = First pc pc'
    ParOf (kernel.more_branches b bs) First Slaves pc pc' =
        SeveralAt (branch_count (kernel.more_branches b bs)) First Slaves pc pc'

    -- a case's code, from where its event leads to the select's end: what it begins with, its body, and at most one jump
    pub record CaseFrom (Enters : ℕ → List Line → Type 0) (Body : (pc pc' : ℕ) → Type 0) (pc end : ℕ) : Type 0 where
      pub entered : ℕ
      pub done : ℕ
      pub jumps : ℕ
      pub enters : LinesAt Enters pc entered
      pub body : Body entered done
      pub past : Jumps jumps done end
      pub at_most_one : jumps ≤ 1

    -- What opens a select stands at an index, with the targets of its cases' events and of its default, and there their code begins.
    pub record SelectAt
        (ends : List ℕ) (cases : kernel.Cases) (otherwise : Bool) (pos : Pos) (Cases : (targets : List ℕ) → (end : ℕ) → Type 0)
        (pc pc' : ℕ) : Type 0 where
      pub lines : List Line
      pub targets : List ℕ
      pub default_target : ℕ
      pub as_many : length targets ≡ case_count cases
      pub stand : StandAt code pc (filled lines (targets ++ default_targets otherwise default_target))
      pub opens : OpensSelect plan ends cases otherwise pos pc lines
      pub cases_at : Cases (targets ++ default_targets otherwise default_target) pc'

    -- The code of a transfer over a channel, by the end that the code around it uses. Where that stands in no side of the channel, it has none.
    abbrev pub ByEndAt : (P : (end : ℕ) → ℕ → List Line → Type 0) → Option ℕ → (pc pc' : ℕ) → Type 0
    ByEndAt P None pc pc' = pc ≡ pc'
    ByEndAt P (Some end) pc pc' = LinesAt (P end) pc pc'

    -- an output, and an input, by its resource
    abbrev pub OutputAt : Sides → kernel.Output → KRes → (pc pc' : ℕ) → Type 0
    OutputAt sides o (Port p) pc pc' = LinesAt (Outputs plan o) pc pc'
    OutputAt sides o (Timer t) pc pc' = ⊥
    OutputAt sides o (Chan c) pc pc' = ByEndAt (λ end. SendsValue plan end o.value true o.pos) (end_at plan.channels sides c) pc pc'

    abbrev pub InputAt : Sides → kernel.Input → KRes → (pc pc' : ℕ) → Type 0
    InputAt sides i (Port p) pc pc' = LinesAt (Inputs plan i) pc pc'
    InputAt sides i (Timer t) pc pc' = LinesAt (TimerInputs plan i) pc pc'
    InputAt sides i (Chan c) pc pc' = ByEndAt (λ end. Receives plan end i.target true i.pos) (end_at plan.channels sides c) pc pc'

    abbrev mutual
      -- a statement's code, by the sides of channels in which it stands and where the open blocks end
      pub PieceAt : Sides → kernel.Statement → List Exit → (pc pc' : ℕ) → Type 0
      PieceAt sides (kernel.set_zero v) exits pc pc' = LinesAt (Zeroes plan.vars v) pc pc'
      PieceAt sides (kernel.set place x) exits pc pc' = LinesAt (Sets plan.vars place x) pc pc'
      PieceAt sides (kernel.output o) exits pc pc' = OutputAt sides o o.resource pc pc'
      PieceAt sides (kernel.input i) exits pc pc' = InputAt sides i i.resource pc pc'
      -- the test goes to the second side where its word is 0, and at most one jump leads from the first side past it
      PieceAt sides (kernel.if_then x a b) exits pc pc' =
          (first : ℕ) × (second : ℕ) × (done : ℕ) × (n : ℕ) × TestAt x pc first second
          × PiecesAt sides a exits first done × Jumps n done pc' × (n ≤ 1) × PiecesAt sides b exits second pc'
      -- the test leaves the loop where its word is 0, and behind each iteration a jump leads back to it
      PieceAt sides (kernel.loop x a b) exits pc pc' =
          (body : ℕ) × (next : ℕ) × (done : ℕ) × TestAt x pc body pc'
          × PiecesAt sides a exits body next × PiecesAt sides b exits next done × Jumps 1 done pc
      PieceAt sides (kernel.block n a) exits pc pc' = PiecesAt sides a (record { block = n; index = pc' } ∷ exits) pc pc'
      PieceAt sides (kernel.exit n) exits pc pc' =
          (end : ℕ) × (exit_of exits n ≡ Some end) × (slice_get code.instrs pc ≡ Some (Brfu end)) × (pc' ≡ pc + 1)
      PieceAt sides (kernel.select cs otherwise pos) exits pc pc' =
          SelectAt (case_ends plan.channels sides cs) cs (is_default otherwise) pos
          (CasesAt sides exits (DefaultFrom sides exits otherwise) cs) pc pc'
      PieceAt sides (kernel.par bs) exits pc pc' = ParAt sides bs pc pc'
      PieceAt sides other exits pc pc' = ⊥

      pub PiecesAt : Sides → kernel.Statements → List Exit → (pc pc' : ℕ) → Type 0
      PiecesAt sides kernel.no_more exits pc pc' = pc ≡ pc'
      PiecesAt sides (kernel.more s ss) exits pc pc' = (p : ℕ) × PieceAt sides s exits pc p × PiecesAt sides ss exits p pc'

      -- a select's cases and then its default, by the default's code, where they begin and where the select ends; the blocks around it
      -- are open in them
      pub CasesAt :
          Sides → List Exit → (Default : (targets : List ℕ) → (end : ℕ) → Type 0) → kernel.Cases → (targets : List ℕ) → (end : ℕ) → Type 0
      CasesAt sides exits Default kernel.no_case targets end = Default targets end
      CasesAt sides exits Default (kernel.more_cases (kernel.case guard i ss) cs) targets end =
          (target : ℕ) × (later : List ℕ) × (targets ≡ target ∷ later)
          × CaseFrom (EntersCase plan i (case_end plan.channels sides i.resource) true) (PiecesAt sides ss exits) target end
          × CasesAt sides exits Default cs later end

      pub DefaultFrom : Sides → List Exit → kernel.Default → (targets : List ℕ) → (end : ℕ) → Type 0
      DefaultFrom sides exits kernel.no_default targets end = targets ≡ []
      DefaultFrom sides exits (kernel.default ss) targets end =
          (target : ℕ) × (targets ≡ target ∷ []) × PiecesAt sides ss exits target end

      -- the branches of a `par`; no block around it is open in them
      pub ParAt : Sides → kernel.Branches → (pc pc' : ℕ) → Type 0
      ParAt sides kernel.no_branch pc pc' = pc ≡ pc'
      ParAt sides (kernel.more_branches (kernel.branch ss pos) bs) pc pc' =
          ParOf bs (PiecesAt (sides_in 0 [] ss (codes_in bs) sides) ss []) (SlavesAt sides (ss ∷ []) bs) pc pc'

      -- the branches behind the first, by the code of those before them, the last one first, and by where they start
      pub SlavesAt : Sides → (before : List kernel.Statements) → kernel.Branches → (starts : List ℕ) → Type 0
      SlavesAt sides before kernel.no_branch starts = starts ≡ []
      SlavesAt sides before (kernel.more_branches (kernel.branch ss pos) bs) starts =
          (start : ℕ) × (others : List ℕ) × (end : ℕ) × (starts ≡ start ∷ others)
          × PiecesAt (sides_in 0 before ss (codes_in bs) sides) ss [] start end × SlaveEndsAt end × SlavesAt sides (ss ∷ before) bs others

    -- a root's code: its statements', and then the instruction that ends the root, at a place
    pub record RootAt (sides : Sides) (body : kernel.Statements) (pos : Pos) (pc : ℕ) : Type 0 where
      pub done : ℕ
      pub pieces : PiecesAt sides body [] pc done
      pub ends_here : StandAt code done (line Freet pos ∷ [])
      pub ends : EndsRoot done (line Freet pos ∷ [])
