use Rattle.std.proofs.Common.{arith, []}
use Rattle.xc_inline.proofs.numbers.Numbers.of_copy.Goals as goal

pub each_once-variables-requires : goal.each_once-variables-requires
each_once-variables-requires c = let h = c.requires.few [] in omega (arith, h)

pub each_once-channels-requires : goal.each_once-channels-requires
each_once-channels-requires c = let h = c.requires.few [] in omega (arith, h)

pub each_once-timers-requires : goal.each_once-timers-requires
each_once-timers-requires c = let h = c.requires.few [] in omega (arith, h)

pub each_once-blocks-requires : goal.each_once-blocks-requires
each_once-blocks-requires c = let h = c.requires.few [] in omega (arith, h)

pub invariant_of-result : goal.invariant_of-result
invariant_of-result c =
    let seen = c.in_ok-variables.ensures.first in
    let others = c.in_ok-variables.ensures.second in
    let variables = rw seen at c.zip_ok-seen.ensures.first in
    let channels = rw seen at c.zip_ok-seen.ensures.second in
    let timers = rw others at c.zip_ok-others.ensures.first in
    let blocks = rw others at c.zip_ok-others.ensures.second in
    record {
      of_variables = rw variables at c.each_once-variables.ensures.paths;
      of_channels = rw channels at c.each_once-channels.ensures.paths;
      of_timers = rw timers at c.each_once-timers.ensures.paths;
      of_blocks = rw blocks at c.each_once-blocks.ensures.paths;
      few_variables = rw variables at c.each_once-variables.ensures.few;
      few_channels = rw channels at c.each_once-channels.ensures.few;
      few_timers = rw timers at c.each_once-timers.ensures.few;
      few_blocks = rw blocks at c.each_once-blocks.ensures.few;
    }

pub returns : goal.returns
returns c = λ scope.
    let seen = c.in_ok-variables.ensures.first in
    let others = c.in_ok-variables.ensures.second in
    let variables = rw (rw seen at c.zip_ok-seen.ensures.first) at c.each_once-variables.ensures.items in
    let channels = rw (rw seen at c.zip_ok-seen.ensures.second) at c.each_once-channels.ensures.items in
    let timers = rw (rw others at c.zip_ok-others.ensures.first) at c.each_once-timers.ensures.items in
    let blocks = rw (rw others at c.zip_ok-others.ensures.second) at c.each_once-blocks.ensures.items in
    λ i. record { variables = variables i; channels = channels i; timers = timers i; blocks = blocks i }
