-- The store in a core's words, by a plan all of whose variables are near: dp is 4 * d.
use Rattle.std.specs.Prelude.{◌≡◌, ℕ, ◌+◌, ◌<◌, Bool, true, List, length, Option, Some, slice_get, slice_set}
use Rattle.xs_instr.specs.OwnSteps.{IsApart}
use Rattle.xc_kernel.specs.Plain as kernel
use Rattle.xc_kernel.specs.Eval.{Store, words_of}
use Rattle.xl_expr.specs.declared.plan.VarAt.TheVariants.{Near}
use Rattle.xl_expr.specs.declared.plan.VarPlan.{VarPlan}
use Rattle.xl_expr.specs.Plans.{var_in}

-- a variable of the plan, at word d + n
pub record IsNear (vars : List (Option VarPlan)) (v n : ℕ) (found : VarPlan) : Type 0 where
  pub known : var_in vars v ≡ Some found
  pub place : found.place ≡ Near n

-- each variable is near, the words of those that the thread uses are relied on, none is a temporary one, and no two variables
-- share a word
pub record Frame (vars : List (Option VarPlan)) (relied uses : ℕ → Bool) (s d : ℕ) : Type 0 where
  pub near : (v : ℕ) (found : VarPlan) → var_in vars v ≡ Some found → (n : ℕ) × IsNear vars v n found
  pub low : (v n i : ℕ) (found : VarPlan) → IsNear vars v n found → i < found.words → d + n + i < 16384
  pub relied_on : (v n i : ℕ) (found : VarPlan) → IsNear vars v n found → uses v ≡ true → i < found.words → relied (d + n + i) ≡ true
  pub apart : (v n i : ℕ) (found : VarPlan) → IsNear vars v n found → i < found.words → IsApart s (d + n + i)
  pub disjoint : (v n i w m j : ℕ) (found other : VarPlan) → IsNear vars v n found → IsNear vars w m other →
      i < found.words → j < other.words → n + i ≡ m + j → v ≡ w

-- the words of the variables that the thread uses are those of the store
pub record Holds (vars : List (Option VarPlan)) (uses : ℕ → Bool) (d : ℕ) (words : List ℕ) (store : Store) : Type 0 where
  pub lengths : (v n : ℕ) (found : VarPlan) → IsNear vars v n found → uses v ≡ true → found.words ≡ length (words_of store v)
  pub values : (v n i x : ℕ) (found : VarPlan) → IsNear vars v n found → uses v ≡ true →
      slice_get (words_of store v) i ≡ Some x → slice_get words (d + n + i) ≡ Some x

-- the plan has each variable of an expression, and the thread uses it
module _ (vars : List (Option VarPlan)) (uses : ℕ → Bool) where
  abbrev mutual
    pub HasVars : kernel.Expression → Type 0
    HasVars (kernel.number v) = Unit {0}
    HasVars (kernel.read p) = HasPlace p
    HasVars (kernel.operation o u es pos) = HaveVars es

    pub HaveVars : kernel.Operands → Type 0
    HaveVars kernel.no_operand = Unit {0}
    HaveVars (kernel.more_operands e es) = HasVars e × HaveVars es

    pub HasPlace : kernel.Place → Type 0
    HasPlace (kernel.word v) = (found : VarPlan) × (var_in vars v ≡ Some found) × (0 < found.words) × (uses v ≡ true)
    HasPlace (kernel.element v i pos) = HasVars i × ((found : VarPlan) × (var_in vars v ≡ Some found) × (uses v ≡ true))

-- the store with a word of a variable changed
abbrev pub changed : Store → ℕ → ℕ → ℕ → Store
changed store v i x = slice_set store v (slice_set (words_of store v) i x)

-- the variable of a place
abbrev pub variable_of : kernel.Place → ℕ
variable_of (kernel.word v) = v
variable_of (kernel.element v i pos) = v
