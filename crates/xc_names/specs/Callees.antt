-- Which function a name calls, by what names mean.
use Rattle.std.specs.Prelude.{◌≡◌, ℕ, ◌⊎◌, List, slice_get, Option, Some, None}
use Rattle.xw_words.specs.declared.pos.Pos.{Pos}
use Rattle.xw_words.specs.declared.pos.Broken.{Broken}
use Rattle.xc_names.specs.declared.calls.Call.{Call}
use Rattle.xc_tree.specs.declared.tree.Id.{Id}
use Rattle.xc_tree.specs.declared.names.What.{What}
use Rattle.xc_tree.specs.declared.names.What.TheVariants as what
use Rattle.xc_tree.specs.declared.names.Mark.{Mark}
use Rattle.xc_tree.specs.declared.names.Mark.TheVariants.{Opens, Closes, Declares, Uses, Calls}
use Rattle.xc_tree.specs.Plain as plain
use Rattle.xc_tree.specs.Names.Calls.{CallsAt, Reaches}

abbrev pub function_of : What → Option ℕ
function_of (what.Word u) = None
function_of (what.Array u n) = None
function_of (what.Ref u) = None
function_of (what.ArrayParam u n) = None
function_of (what.Chan s) = None
function_of (what.End s) = None
function_of what.Timer = None
function_of (what.Port d) = None
function_of (what.PortParam d) = None
function_of (what.Func k) = Some k
function_of what.Index = None

-- the function that a mark declares
abbrev pub declared_function : Mark → Option ℕ
declared_function Opens = None
declared_function Closes = None
declared_function (Declares d) = function_of d.what
declared_function (Uses n) = None
declared_function (Calls n) = None

-- the place of the name that a mark calls
abbrev pub called_at : Mark → Option Pos
called_at Opens = None
called_at Closes = None
called_at (Declares d) = None
called_at (Uses n) = None
called_at (Calls n) = Some n.pos

-- a name at place u, whose token stands at p, calls function g
pub record IsCall (ms : List Mark) (meant : List (Option ℕ)) (u : ℕ) (p : Pos) (g : ℕ) : Type 0 where
  pub mark : Mark
  pub there : slice_get ms u ≡ Some mark
  pub called : called_at mark ≡ Some p
  pub place : ℕ
  pub means : slice_get meant u ≡ Some (Some place)
  pub declaration : Mark
  pub declared : slice_get ms place ≡ Some declaration
  pub function : declared_function declaration ≡ Some g

-- what is found of the call at place u
pub data FoundCall (ms : List Mark) (meant : List (Option ℕ)) (u : ℕ) : Option Call → Type 0 where
  a_call : {call : Call} → IsCall ms meant u call.pos call.callee → FoundCall ms meant u (Some call)
  no_call : ((p : Pos) (g : ℕ) → IsCall ms meant u p g → ⊥) → FoundCall ms meant u None

-- a call of function g stands on a cycle of calls
pub data IsCycleInto (program : List plain.Item) (g : ℕ) : Broken → Type 0 where
  cycle_into : {u f : ℕ} {n : Id} → CallsAt program u f g n → (g ≡ f) ⊎ Reaches program g f → IsCycleInto program g (record { rule = 304; pos = n.pos })
