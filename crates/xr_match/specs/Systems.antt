-- Systems that go from state to state, and the runs of one beside those of another: a machine under a stimulus, a program under one.
use Rattle.std.specs.Prelude.{List, [], ◌∷◌, ◌++◌, Option, Some, None}
use Rattle.xs_instr.specs.Machine.{and_then}

-- there is something, and it is so
abbrev pub SomeIs : {A : Type 0} → Option A → (A → Type 0) → Type 0
SomeIs None P = ⊥
SomeIs (Some x) P = P x

-- all items of some lists, one list behind the other
abbrev pub concat : {A : Type 0} → List (List A) → List A
concat [] = []
concat (piece ∷ pieces) = piece ++ concat pieces

-- states, and what a step leaves where it is possible
pub record System : Type 1 where
  pub State : Type 0
  pub Step : Type 0
  pub start : State
  pub next : State → Step → Option State

-- where a list of steps leads, each possible where it stands
abbrev pub leads : (A : System) → A.State → List A.Step → Option A.State
leads A x [] = Some x
leads A x (a ∷ steps) = and_then (A.next x a) (λ y. leads A y steps)

-- there is such a run
abbrev pub IsRun : (A : System) → List A.Step → Type 0
IsRun A steps = SomeIs (leads A A.start steps) (λ x. Unit {0})

-- The two stand so now, and again after each step of the one and its piece of the other's run.
abbrev pub Along : (A B : System) → (A.State → B.State → Type 0) → A.State → B.State → List A.Step → List (List B.Step) → Type 0
Along A B R x y [] [] = R x y
Along A B R x y (a ∷ steps) (piece ∷ pieces) =
    R x y × SomeIs (A.next x a) (λ x'. SomeIs (leads B y piece) (λ y'. Along A B R x' y' steps pieces))
Along A B R x y [] (piece ∷ pieces) = ⊥
Along A B R x y (a ∷ steps) [] = ⊥

-- a run of B beside one of A: a first piece, and one piece for each step, some perhaps empty
pub record Beside (A B : System) (R : A.State → B.State → Type 0) (steps : List A.Step) : Type 0 where
  pub first : List B.Step
  pub pieces : List (List B.Step)
  pub along : SomeIs (leads B B.start first) (λ y. Along A B R A.start y steps pieces)

-- each run of A has one of B beside it
pub record Refines (A B : System) (R : A.State → B.State → Type 0) : Type 0 where
  pub by : (steps : List A.Step) → IsRun A steps → Beside A B R steps
