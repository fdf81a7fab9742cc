use denote.Shadow.{shadow}
use denote.Text.{Utf8}
use Rattle.xt_calls.proofs.outputs.is_as_wanted.Given as goal

abbrev pub invariant-loop-line : goal.invariant-loop-line
invariant-loop-line g l = shadow (Utf8 l.rest)
