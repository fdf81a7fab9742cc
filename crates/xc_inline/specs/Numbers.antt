-- The numbers that the walk gives.
use Rattle.xc_kernel.specs.Numbering.{Numbering}
use Rattle.xc_inline.specs.declared.numbers.Numbers.{Numbers}

-- the numbering
abbrev pub numbering_of : Numbers → Numbering
numbering_of n = record {
  variables = n.variables.items;
  channels = n.channels.items;
  timers = n.timers.items;
  blocks = n.blocks.items;
}
