-- The copies of declarations.
use Rattle.std.specs.Prelude.{ℕ, Bool, List, [], ◌∷◌, Option, Some, None}
use Rattle.xw_words.specs.declared.pos.Pos.{Pos}
use Rattle.xc_tree.specs.Plain as tree
use Rattle.xc_kernel.specs.Paths.{Path, path_at}
use Rattle.xc_kernel.specs.Scopes.{Scope, an_array, a_channel, a_timer, with_name}
use Rattle.xc_kernel.specs.Copy.{Copy, no_copy, one_statement, joined, followed_by, with_variable}
use Rattle.xc_kernel.specs.Context.{Context, set_word, set_zero, array_variable, declares_word}
use Rattle.xc_kernel.specs.Calls.{CopiesCall, value_of, right_copy}

-- an array becomes zeros
abbrev pub array_copy : Context → Scope → List ℕ → Pos → Path → (is_unsigned : Bool) (length : ℕ) → Copy
array_copy c scope name pos path u length =
    with_variable (one_statement (with_name scope name (an_array path length u)) (set_zero c path)) (array_variable c length path pos)

-- a channel, which has no statement
abbrev pub channel_copy : Scope → List ℕ → Pos → Path → (is_streaming : Bool) → Copy
channel_copy scope name pos path streaming =
    record (no_copy (with_name scope name (a_channel path))) { channels = record { streaming = streaming; path = path; pos = pos } ∷ [] }

-- a timer, which has none either
abbrev pub timer_copy : Context → Scope → List ℕ → Pos → Path → Copy
timer_copy c scope name pos path =
    record (no_copy (with_name scope name (a_timer path))) { timers = record { core = c.core; path = path; pos = pos } ∷ [] }

module _ (copies : CopiesCall) where
  -- a variable of this path becomes 0, or its initialiser's value is stored
  abbrev pub initial_copy : Context → Path → Option tree.RightSide → Scope → Copy
  initial_copy c path None scope = one_statement scope (set_zero c path)
  initial_copy c path (Some r) scope = joined (right_copy copies c scope r) (one_statement scope (set_word c path (value_of c scope r)))

  -- a name is known from its own token on
  abbrev pub kind_copy : Context → Scope → List ℕ → Pos → tree.Kind → Copy
  kind_copy c scope name pos (tree.word u r) = followed_by (declares_word c name pos u scope) (initial_copy c (path_at c.path pos) r)
  kind_copy c scope name pos (tree.array u length at) = array_copy c scope name pos (path_at c.path pos) u length
  kind_copy c scope name pos (tree.channel streaming) = channel_copy scope name pos (path_at c.path pos) streaming
  kind_copy c scope name pos tree.timer = timer_copy c scope name pos (path_at c.path pos)

  -- one declared name
  abbrev pub declaration_copy : Context → Scope → tree.Declaration → Copy
  declaration_copy c scope d = kind_copy c scope d.name.text d.name.pos d.kind

  -- declared names, one behind the other
  abbrev pub declarations_copy : Context → List tree.Declaration → Scope → Copy
  declarations_copy c [] scope = no_copy scope
  declarations_copy c (d ∷ ds) scope = followed_by (declaration_copy c scope d) (declarations_copy c ds)
