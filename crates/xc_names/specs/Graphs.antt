-- The graph of calls as a list of its edges, and numbers of functions that never rise along a call.
use Rattle.std.specs.Prelude.{◌≡◌, ℕ, ◌<◌, ◌≤◌, Bool, false, not, nat_eq, if◌then◌else◌, List, length, slice_get, get_or, Option, Some, None}
use Rattle.xw_words.specs.declared.pos.Pos.{Pos}
use Rattle.xw_words.specs.declared.pos.Broken.{Broken}
use Rattle.xc_tree.specs.declared.names.Mark.{Mark}
use Rattle.xc_tree.specs.Lexes.{IsNotAfter}
use Rattle.xc_names.specs.declared.graph.Edge.{Edge}
use Rattle.xc_tree.specs.Least.{comes_before}
use Rattle.xc_names.specs.Callees.{IsCall}
use Rattle.xc_names.specs.Searches.{IsStep}

-- a call of item h in item f, whose name stands at p, is one of these edges
pub record HasEdge (edges : List Edge) (f h : ℕ) (p : Pos) : Type 0 where
  pub place : ℕ
  pub there : slice_get edges place ≡ Some (record { caller = f; callee = h; pos = p })

-- the one list has all edges of the other
abbrev pub IsLonger : List Edge → List Edge → Type 0
IsLonger old new = (f h : ℕ) (p : Pos) → HasEdge old f h p → HasEdge new f h p

-- the call at place u, which belongs to item f, is one of these edges
abbrev pub HasCall : List Mark → List (Option ℕ) → ℕ → ℕ → List Edge → Type 0
HasCall ms meant f u edges = (h : ℕ) (p : Pos) → IsCall ms meant u p h → HasEdge edges f h p

-- each call in the first k items is one of these edges
abbrev pub HasCalls : List Mark → List (Option ℕ) → List ℕ → ℕ → List Edge → Type 0
HasCalls ms meant starts k edges = (f u h : ℕ) (p : Pos) → f < k → IsStep ms meant starts f u p h → HasEdge edges f h p

-- each call is one of these edges
abbrev pub HasAllCalls : List Mark → List (Option ℕ) → List ℕ → List Edge → Type 0
HasAllCalls ms meant starts edges = HasCalls ms meant starts (length starts) edges

-- the number of an item, 0 where it has none
abbrev pub number_in : List ℕ → ℕ → ℕ
number_in numbers f = get_or numbers f 0

-- along the first k edges the numbers never rise
abbrev pub NeverRises : List Edge → List ℕ → ℕ → Type 0
NeverRises edges numbers k = (i : ℕ) (e : Edge) → i < k → slice_get edges i ≡ Some e → number_in numbers e.callee ≤ number_in numbers e.caller

-- rule 304 at the name of a call
abbrev pub rule_at : Pos → Broken
rule_at p = record { rule = 304; pos = p }

-- there is an edge, and its name doesn't stand behind a place
pub record IsNotLater (best : Option Edge) (p : Pos) : Type 0 where
  pub edge : Edge
  pub is : best ≡ Some edge
  pub not_after : IsNotAfter (rule_at edge.pos) (rule_at p)

-- no later than each of the first k edges that join items of one number
abbrev pub IsFirstLevel : List Edge → List ℕ → ℕ → Option Edge → Type 0
IsFirstLevel edges numbers k best = (i : ℕ) (e : Edge) → i < k → slice_get edges i ≡ Some e → number_in numbers e.caller ≡ number_in numbers e.callee → IsNotLater best e.pos

abbrev pub first_edge : Option Edge → Edge → Option Edge
first_edge None e = Some e
first_edge (Some a) e = if comes_before (rule_at e.pos) (rule_at a.pos) then Some e else Some a

-- the first of two, where the second one joins items of one number
abbrev pub level_edge : List ℕ → Option Edge → Edge → Option Edge
level_edge numbers best e = if nat_eq (number_in numbers e.caller) (number_in numbers e.callee) then first_edge best e else best

-- a broken rule is there, and rule 304 at this place doesn't come before it
abbrev pub no_later : Option Broken → Pos → Bool
no_later None p = false
no_later (Some b) p = not (comes_before (rule_at p) b)
