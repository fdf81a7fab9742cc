use Rattle.std.proofs.Common.{ap, map}
use Rattle.xs_fabric.specs.Seen.{home_in, state_in}
use Rattle.xs_fabric.proofs.Added.{four_added, no_idle, on_ok}
use Rattle.xs_fabric.proofs.cores.add_cores.Goals as goal

pub returns-clause-homes : goal.returns-clause-homes
returns-clause-homes c =
    on_ok c.add_core-4.result
    (four_added _ _ _ _ _ _ _ _ _ (ap (map home_in) c.requires.none) c.in_ok-add_core.ensures.home c.in_ok-add_core-2.ensures.home c.in_ok-add_core-3.ensures.home)
    c.add_core-4.ensures.home

pub returns-clause-states : goal.returns-clause-states
returns-clause-states c =
    on_ok c.add_core-4.result
    (four_added _ _ _ _ _ _ _ _ _ (ap (map state_in) c.requires.none) c.in_ok-add_core.ensures.state c.in_ok-add_core-2.ensures.state c.in_ok-add_core-3.ensures.state)
    c.add_core-4.ensures.state

pub returns-clause-idle : goal.returns-clause-idle
returns-clause-idle c =
    on_ok c.add_core-4.result
    (λ last. last (c.in_ok-add_core-3.ensures.idle (c.in_ok-add_core-2.ensures.idle (c.in_ok-add_core.ensures.idle (no_idle _ c.requires.none)))))
    c.add_core-4.ensures.idle
