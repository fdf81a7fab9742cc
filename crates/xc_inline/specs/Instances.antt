-- How many instances a copy makes.
use Rattle.std.specs.Prelude.{ℕ, ◌+◌, length}
use Rattle.xc_kernel.specs.Copy.{Copy}

-- its variables, channels, timers and blocks together
abbrev pub instance_count : Copy → ℕ
instance_count c = length c.variables + length c.channels + length c.timers + length c.blocks
