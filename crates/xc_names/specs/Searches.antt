-- The search along calls from one function, which gives the calls that come back to it.
use Rattle.std.specs.Prelude.{◌≡◌, ℕ, ◌+◌, ◌<◌, ◌≤◌, ◌^◌, ◌⊎◌, List, length, slice_get, nat_eq, if◌then◌else◌, Option, Some, None}
use Rattle.xw_words.specs.declared.pos.Pos.{Pos}
use Rattle.xw_words.specs.declared.pos.Broken.{Broken}
use Rattle.xc_tree.specs.declared.names.Mark.{Mark}
use Rattle.xc_names.specs.declared.calls.Call.{Call}
use Rattle.xc_names.specs.Callees.{IsCall}

-- x is one of these
pub record Has (xs : List ℕ) (x : ℕ) : Type 0 where
  pub place : ℕ
  pub there : slice_get xs place ≡ Some x

-- place u belongs to item f
pub record IsInBody (starts : List ℕ) (f u : ℕ) : Type 0 where
  pub first : ℕ
  pub end : ℕ
  pub begins : slice_get starts f ≡ Some first
  pub ends : slice_get starts (f + 1) ≡ Some end
  pub behind : first ≤ u
  pub before : u < end

-- in item f the name at place u, whose token stands at p, calls h
pub record IsStep (ms : List Mark) (meant : List (Option ℕ)) (starts : List ℕ) (f u : ℕ) (p : Pos) (h : ℕ) : Type 0 where
  pub inside : IsInBody starts f u
  pub call : IsCall ms meant u p h

-- a call at place u, or at one before it that isn't before `from`, calls h
pub record IsCallBefore (ms : List Mark) (meant : List (Option ℕ)) (from u : ℕ) (h : ℕ) : Type 0 where
  pub place : ℕ
  pub pos : Pos
  pub behind : from ≤ place
  pub before : place < u
  pub call : IsCall ms meant place pos h

-- a call before place u, and not before `from`, calls g, and breaks the rule
pub record IsBackBefore (ms : List Mark) (meant : List (Option ℕ)) (from u g : ℕ) (b : Broken) : Type 0 where
  pub place : ℕ
  pub pos : Pos
  pub behind : from ≤ place
  pub before : place < u
  pub call : IsCall ms meant place pos g
  pub is : b ≡ record { rule = 304; pos = pos }

-- what the calls from one place up to another call is added
pub record Adds (ms : List Mark) (meant : List (Option ℕ)) (from u : ℕ) (old new : List ℕ) : Type 0 where
  pub keeps : (j x : ℕ) → slice_get old j ≡ Some x → slice_get new j ≡ Some x
  pub only : (x : ℕ) → Has new x → Has old x ⊎ IsCallBefore ms meant from u x
  pub all : (x : ℕ) → IsCallBefore ms meant from u x → Has new x
  pub small : ((x : ℕ) → Has old x → x < 2 ^ 32) → (x : ℕ) → Has new x → x < 2 ^ 32

-- the places from one up to another are those of item f
pub record AreBounds (starts : List ℕ) (n f first end : ℕ) : Type 0 where
  pub ordered : first ≤ end
  pub within : end ≤ n
  pub inside : (u : ℕ) → IsInBody starts f u → (first ≤ u) × (u < end)
  pub of_body : (u : ℕ) → first ≤ u → u < end → IsInBody starts f u

-- no item begins behind the marks
pub record AreWithin (starts : List ℕ) (n : ℕ) : Type 0 where
  pub each : (k x : ℕ) → slice_get starts k ≡ Some x → x ≤ n

-- item f calls x
pub record IsNext (ms : List Mark) (meant : List (Option ℕ)) (starts : List ℕ) (f x : ℕ) : Type 0 where
  pub place : ℕ
  pub pos : Pos
  pub step : IsStep ms meant starts f place pos x

-- a call in item f calls g, and breaks the rule
pub record IsBackIn (ms : List Mark) (meant : List (Option ℕ)) (starts : List ℕ) (g f : ℕ) (b : Broken) : Type 0 where
  pub place : ℕ
  pub pos : Pos
  pub step : IsStep ms meant starts f place pos g
  pub is : b ≡ record { rule = 304; pos = pos }

-- what item f calls is added
pub record AddsNext (ms : List Mark) (meant : List (Option ℕ)) (starts : List ℕ) (f : ℕ) (old new : List ℕ) : Type 0 where
  pub keeps : (j x : ℕ) → slice_get old j ≡ Some x → slice_get new j ≡ Some x
  pub only : (x : ℕ) → Has new x → Has old x ⊎ IsNext ms meant starts f x
  pub all : (x : ℕ) → IsNext ms meant starts f x → Has new x
  pub small : ((x : ℕ) → Has old x → x < 2 ^ 32) → (x : ℕ) → Has new x → x < 2 ^ 32

-- item x is g, or is called from it by way of others
pub data IsReached (ms : List Mark) (meant : List (Option ℕ)) (starts : List ℕ) (g : ℕ) : ℕ → Type 0 where
  itself : IsReached ms meant starts g g
  further : {f x : ℕ} → IsReached ms meant starts g f → IsNext ms meant starts f x → IsReached ms meant starts g x

-- a call of g in an item that is reached from it
pub record IsBackTo (ms : List Mark) (meant : List (Option ℕ)) (starts : List ℕ) (g : ℕ) (b : Broken) : Type 0 where
  pub item : ℕ
  pub reached : IsReached ms meant starts g item
  pub back : IsBackIn ms meant starts g item b

-- rule 304 at a call of one function
abbrev pub back_of : Call → ℕ → Option Broken
back_of call goal = if nat_eq call.callee goal then Some (record { rule = 304; pos = call.pos }) else None

-- a call of one of the first functions stands on a cycle
pub record IsBackToOne (ms : List Mark) (meant : List (Option ℕ)) (starts : List ℕ) (k : ℕ) (b : Broken) : Type 0 where
  pub goal : ℕ
  pub before : goal < k
  pub back : IsBackTo ms meant starts goal b

-- a call of any function stands on a cycle
abbrev pub IsBackToAny : List Mark → List (Option ℕ) → List ℕ → Broken → Type 0
IsBackToAny ms meant starts b = IsBackToOne ms meant starts (length starts) b
