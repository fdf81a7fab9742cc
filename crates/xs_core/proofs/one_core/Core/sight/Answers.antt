use Rattle.std.proofs.Common.{◌≡◌, ◌∙◌, ap}
use Rattle.xs_core.proofs.one_core.Core.sight.Goals as goal
use Rattle.xs_core.specs.Core.{Seen}
use Rattle.xs_core.specs.Seen.{home_of, state_of}
use Rattle.xs_instr.specs.declared.trace.Sight.{Sight}
use Rattle.xs_instr.specs.Sight.{sight}

pub returns : goal.returns
unfolding sight
returns c =
    let s = c.self.inside.state in
    let all : Sight = record { roots = s.roots; used = c.used.result; trapped = c.trapped.result; ready = c.ready.result; timed = c.timed.result } in
    let here : all ≡ sight (home_of s) (state_of s) = cc (c.used.ensures, c.trapped.ensures, c.ready.ensures, c.timed.ensures) in
    here ∙ ap (λ (v : Seen). sight v.home v.state) c.self.view_is
