-- The cases of a select.
use Rattle.std.specs.Prelude.{[], Option, Some, None}
use Rattle.xw_words.specs.declared.pos.Pos.{Pos}
use Rattle.xc_tree.specs.Plain as tree
use Rattle.xc_kernel.specs.Eval.{Store}
use Rattle.xc_kernel.specs.Paths.{path_at}
use Rattle.xc_kernel.specs.Scopes.{Scope}
use Rattle.xc_kernel.specs.Context.{Context, in_case}
use Rattle.xc_kernel.specs.Values.{Value, word}
use Rattle.xc_kernel.specs.Transfers.{input_of}
use Rattle.xc_kernel.specs.Flow.{case_scope}
use Rattle.xc_meaning.specs.States.Items.{body, Body, of_text}
use Rattle.xc_meaning.specs.Settings.Select.{Enabled, these, timed_case, guarded_case}
use Rattle.xc_meaning.specs.Texts.Words.{value_in}
use Rattle.xc_meaning.specs.Texts.Transfers.{timing_in}

-- the body of a case that begins at a place, in the block that its `break` leaves
abbrev pub case_body : Context → Scope → Pos → Option tree.Input → tree.Statements → Body
case_body c scope pos i ss = of_text (body (path_at c.path pos) ss (in_case c pos) (case_scope c scope i))

-- a case without a guard counts as one whose guard is true
abbrev pub guard_in : Context → Scope → Store → Option tree.Expression → Value
guard_in c scope store None = word 1
guard_in c scope store (Some e) = value_in c scope store e

-- a case with an input, and the others: its guard comes first, then its time or condition, then what the others have; `default` is none
abbrev pub input_case : Store → Context → Scope → Pos → Option tree.Expression → tree.Statements → Option tree.Input → Enabled → Enabled
input_case store c scope pos guard ss None others = others
input_case store c scope pos guard ss (Some i) others =
    guarded_case (guard_in c scope store guard)
    (timed_case (input_of c scope i) (case_body c scope pos (Some i) ss) others (timing_in c scope store i.time i.condition)) others

abbrev pub text_case : Store → Context → Scope → tree.Case → Enabled → Enabled
text_case store c scope (tree.case pos guard i ss) others = input_case store c scope pos guard ss i others

-- the enabled cases of a select
abbrev pub text_enabled : Store → Context → Scope → tree.Cases → Enabled
text_enabled store c scope tree.no_case = these []
text_enabled store c scope (tree.more_cases a cs) = text_case store c scope a (text_enabled store c scope cs)

-- the body of a case that is `default`, or another default
abbrev pub default_or : Context → Scope → Pos → tree.Statements → Option tree.Input → Option Body → Option Body
default_or c scope pos ss None other = Some (case_body c scope pos None ss)
default_or c scope pos ss (Some i) other = other

abbrev pub default_in : Context → Scope → tree.Case → Option Body → Option Body
default_in c scope (tree.case pos guard i ss) other = default_or c scope pos ss i other

-- the default of a select
abbrev pub text_default : Context → Scope → tree.Cases → Option Body
text_default c scope tree.no_case = None
text_default c scope (tree.more_cases a cs) = default_in c scope a (text_default c scope cs)
