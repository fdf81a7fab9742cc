use Rattle.std.proofs.Common.{◌≡◌, ◌≤◌, ◌+◌, ◌*◌, length, vec_len, vec_capacity}
use Rattle.xr_windows.specs.Alone.{alone, begins}
use Rattle.xr_windows.specs.Coming.{coming_of}
use Rattle.xr_windows.specs.Goes.{Goes}
use Rattle.xr_windows.proofs.rounds.run_ticks.Given as goal

abbrev pub invariant-loop-round : goal.invariant-loop-round
invariant-loop-round l = record {
  goes : Goes (alone l.fn.core.home (begins l.fn.core.state (coming_of l.fn.coming)) l.round) l.fn.records.items l.core (coming_of l.coming) l.records.items;
  home : l.core.home ≡ l.fn.core.home;
  few : length l.core.outbox ≤ 32 * l.round;
  spare : l.core.spare + length l.core.outbox ≡ l.fn.core.spare;
  len : vec_len l.records ≤ vec_len l.fn.records + 8 * l.round;
  capacity : vec_capacity l.fn.records ≤ vec_capacity l.records;
}
