-- How many there are of each kind.
use Rattle.std.specs.Prelude.{ℕ}
use Rattle.xs_pool.specs.declared.pool.PoolKind.{PoolKind}
use Rattle.xs_pool.specs.declared.pool.PoolKind.TheVariants.{Thread, Sync, Lock}

-- a core's threads, synchronisers and locks
abbrev pub count_of : PoolKind → ℕ
count_of Thread = 8
count_of Sync = 7
count_of Lock = 4
