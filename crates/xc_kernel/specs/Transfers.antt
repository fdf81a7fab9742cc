-- The copies of outputs and inputs.
use Rattle.std.specs.Prelude.{ℕ, List, [], ◌∷◌, Option, Some, None, option_map}
use Rattle.xc_tree.specs.Plain as tree
use Rattle.xc_kernel.specs.declared.statement.KRes.{KRes}
use Rattle.xc_kernel.specs.Plain as kernel
use Rattle.xc_kernel.specs.Paths.{Path, path_at}
use Rattle.xc_kernel.specs.Scopes.{Scope, Entity, a_channel, entity_of}
use Rattle.xc_kernel.specs.Expressions.{resource_of}
use Rattle.xc_kernel.specs.Copy.{Copy, no_copy, one_statement, with_code}
use Rattle.xc_kernel.specs.Context.{Context, expression, place, word_at, declares_word}

-- the port, timer or channel that a name stands for here
abbrev pub resource : Context → Scope → List ℕ → KRes
resource c scope name = resource_of c.numbering (entity_of scope name)

-- the channel that a name stands for, if it does
abbrev pub channel_of : Entity → List Path
channel_of (a_channel path) = path ∷ []
channel_of other = []

-- a copy whose communication names this, which counts where it is a channel
abbrev pub naming : Scope → List ℕ → Copy → Copy
naming scope name copy = record copy { named = channel_of (entity_of scope name) }

-- the time, stamp and condition of a transfer
abbrev pub time_of : Context → Scope → tree.Timing → kernel.Expression
time_of c scope t = expression c scope t.value

abbrev pub stamp_of : Context → Scope → tree.Timing → kernel.Place
stamp_of c scope t = place c scope t.value

abbrev pub condition_of : Context → Scope → tree.Condition → kernel.Condition
condition_of c scope w = record { test = w.test; value = expression c scope w.value }

-- The kernel's output. It has the place of the port's name in its statement.
abbrev pub output_of : Context → Scope → tree.Output → kernel.Output
output_of c scope o = record {
  resource = resource c scope o.name.text;
  time = option_map (time_of c scope) o.time;
  value = expression c scope o.value;
  stamp = option_map (stamp_of c scope) o.stamp;
  pos = o.name.pos;
}

-- an output, with its channel named
abbrev pub output_copy : Context → Scope → tree.Output → Copy
output_copy c scope o = naming scope o.name.text (one_statement scope (kernel.output (output_of c scope o)))

-- the name that a target declares, if it does
abbrev pub target_copy : Context → Scope → tree.Target → Copy
target_copy c scope (tree.to e) = no_copy scope
target_copy c scope tree.dropped = no_copy scope
target_copy c scope (tree.fresh u name) = declares_word c name.text name.pos u scope

-- the names that are known behind an input's target
abbrev pub behind_target : Context → Scope → tree.Input → Scope
behind_target c scope i = (target_copy c scope i.target).scope

-- where the word of an input goes
abbrev pub target_of : Context → Scope → tree.Target → Option kernel.Place
target_of c scope (tree.to e) = Some (place c scope e)
target_of c scope tree.dropped = None
target_of c scope (tree.fresh u name) = Some (word_at c (path_at c.path name.pos))

-- a name that the target declares is known in the stamp, but in neither time nor condition
abbrev pub input_of : Context → Scope → tree.Input → kernel.Input
input_of c scope i = record {
  resource = resource c scope i.name.text;
  time = option_map (time_of c scope) i.time;
  condition = option_map (condition_of c scope) i.condition;
  target = target_of c scope i.target;
  stamp = option_map (stamp_of c (behind_target c scope i)) i.stamp;
  pos = i.name.pos;
}

-- what an input declares and names, without its statement
abbrev pub input_names : Context → Scope → tree.Input → Copy
input_names c scope i = naming scope i.name.text (target_copy c scope i.target)

-- an input, with its channel named and its name declared
abbrev pub input_copy : Context → Scope → tree.Input → Copy
input_copy c scope i = with_code (input_names c scope i) (kernel.input (input_of c scope i) ∷ [])
