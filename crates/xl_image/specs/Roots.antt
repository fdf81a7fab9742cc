-- The code of a core's roots, line by line.
use Rattle.std.specs.Prelude.{◌≡◌, ℕ, suc, ◌+◌, ◌*◌, List, [], ◌∷◌, ◌++◌, length, Option}
use Rattle.xw_words.specs.declared.pos.Pos.{Pos}
use Rattle.xs_instr.specs.declared.instr.Instr.TheVariants.{Ldc, Setsp}
use Rattle.xs_instr.specs.declared.instr.Reg.TheVariants.{R0}
use Rattle.xs_instr.specs.Lines.{Line, at_pos}
use Rattle.xc_kernel.specs.Plain as kernel
use Rattle.xl_expr.specs.declared.plan.Plan.{Plan}
use Rattle.xl_expr.specs.declared.plan.VarPlan.{VarPlan}
use Rattle.xl_image.specs.Images.{SidedRoot}
use Rattle.xl_plan.specs.Layout.{temporary_of}
use Rattle.xl_ends.specs.Ends.{Sides}
use Rattle.xl_statements.specs.Built.{AreBuilt, AreNarrow, AreShallow, most_of_all}
use Rattle.xl_statements.specs.Inside.{AreInside}
use Rattle.xl_statements.specs.Roots.{IsRoot}

-- each root's code is built
abbrev pub RootsAreBuilt : List kernel.Root → Type 0
RootsAreBuilt [] = Unit {0}
RootsAreBuilt (r ∷ rs) = AreBuilt r.body × RootsAreBuilt rs

-- What is built so far: the code of each root is.
pub record KernelIsBuilt (k : kernel.Kernel) : Type 0 where
  pub roots : RootsAreBuilt k.roots

-- a root whose code is built, with shallow expressions, few branches in each `par` and few resources in each select, and exits of blocks
-- around them alone
pub record IsReady (r : kernel.Root) : Type 0 where
  pub built : AreBuilt r.body
  pub shallow : AreShallow r.body
  pub narrow : AreNarrow r.body
  pub inside : AreInside [] r.body

abbrev pub AreReady : List kernel.Root → Type 0
AreReady [] = Unit {0}
AreReady (r ∷ rs) = IsReady r × AreReady rs

-- what a thread begins with: sp is set to the address of a word
abbrev pub stack_code : (word : ℕ) → Pos → List Line
stack_code word pos = at_pos pos (Ldc R0 (4 * word) ∷ Setsp R0 ∷ [])

-- The code of a root whose temporary words begin at a word: its stack is set, and then come its statements and its end. What has
-- no place of its own there has the root's.
pub record IsRootCode (plan : Plan) (sides : Sides) (word : ℕ) (r : kernel.Root) (pc : ℕ) (lines : List Line) : Type 0 where
  pub rest : List Line
  pub is : lines ≡ stack_code word r.pos ++ rest
  pub root : IsRoot plan sides r.body r.pos r.pos (pc + 2) rest

-- one root's code and that of others behind it, and where they begin
pub record BeginsWith
    (First : ℕ → List Line → Type 0) (Others : ℕ → List Line → List ℕ → Type 0)
    (pc : ℕ) (lines : List Line) (entries : List ℕ) : Type 0 where
  pub first : List Line
  pub others : List Line
  pub later : List ℕ
  pub is : lines ≡ first ++ others
  pub entry : entries ≡ pc ∷ later
  pub first_is : First pc first
  pub others_are : Others (pc + length first) others later

-- The code of roots of a core, one behind the other, from an index on, and where each begins; the first is that of this thread.
module _ (k : kernel.Kernel) (core : ℕ) (plan : Plan) where
  abbrev pub AreRoots : List SidedRoot → (thread pc : ℕ) → List Line → (entries : List ℕ) → Type 0
  AreRoots [] thread pc lines entries = (lines ≡ []) × (entries ≡ [])
  AreRoots (s ∷ ss) thread pc lines entries =
      BeginsWith (IsRootCode plan s.sides (temporary_of k core thread) s.root) (AreRoots ss (suc thread)) pc lines entries

-- the most instructions that a root has: those of its statements, two that set its stack, and the one that ends it
abbrev pub most_of_root : List (Option VarPlan) → kernel.Root → ℕ
most_of_root vars r = most_of_all vars r.body + 3

abbrev pub most_of_roots : List (Option VarPlan) → List kernel.Root → ℕ
most_of_roots vars [] = 0
most_of_roots vars (r ∷ rs) = most_of_root vars r + most_of_roots vars rs
