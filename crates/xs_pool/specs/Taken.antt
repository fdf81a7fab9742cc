-- Which numbers are taken.
use Rattle.std.specs.Prelude.{ℕ, Bool, false, List, Option, Some, None, replicate, slice_get, slice_set}
use Rattle.xs_pool.specs.Counts.{count_of}
use Rattle.xs_pool.specs.declared.pool.PoolKind.{PoolKind}
use Rattle.xs_pool.specs.declared.pool.PoolKind.TheVariants.{Thread, Sync, Lock}

-- whether each thread, synchroniser and lock is taken, in the order of their numbers
pub record Taken : Type 0 where
  pub threads : List Bool
  pub syncs : List Bool
  pub locks : List Bool

-- none is taken
abbrev pub none_taken : Taken
none_taken = record {
  threads = replicate (count_of Thread) false;
  syncs = replicate (count_of Sync) false;
  locks = replicate (count_of Lock) false;
}

-- those of a kind
abbrev pub taken_of : Taken → PoolKind → List Bool
taken_of taken Thread = taken.threads
taken_of taken Sync = taken.syncs
taken_of taken Lock = taken.locks

-- `taken_at`, by cases
abbrev pub there_and_taken : Option Bool → Bool
there_and_taken None = false
there_and_taken (Some taken) = taken

-- whether a number is taken; one that is not there is not
abbrev pub taken_at : List Bool → ℕ → Bool
taken_at taken n = there_and_taken (slice_get taken n)

-- whether a number of a kind is taken
abbrev pub is_taken : Taken → PoolKind → ℕ → Bool
is_taken taken k n = taken_at (taken_of taken k) n

-- the same with one number of a kind taken or free
abbrev pub with_taken : Taken → PoolKind → ℕ → Bool → Taken
with_taken taken Thread n b = record taken { threads = slice_set taken.threads n b }
with_taken taken Sync n b = record taken { syncs = slice_set taken.syncs n b }
with_taken taken Lock n b = record taken { locks = slice_set taken.locks n b }
