use Rattle.std.proofs.Common.{◌≡◌, ◌≤◌, ◌+◌, ◌++◌, ◌||◌, length, vec_len, vec_capacity}
use Rattle.xr_windows.specs.Alone.{sent_for}
use Rattle.xr_windows.specs.Windows.{has_one}
use Rattle.xr_windows.proofs.outgoing.Outgoing.take_all.Given as goal

abbrev pub decreases-sent : goal.decreases-sent
decreases-sent l = length l.core.outbox

abbrev pub invariant-sent : goal.invariant-sent
invariant-sent l = record {
  to0 : l.self.to0.items ++ sent_for 0 l.core.outbox ≡ l.fn.self.to0.items ++ sent_for 0 l.fn.core.outbox;
  to1 : l.self.to1.items ++ sent_for 1 l.core.outbox ≡ l.fn.self.to1.items ++ sent_for 1 l.fn.core.outbox;
  to2 : l.self.to2.items ++ sent_for 2 l.core.outbox ≡ l.fn.self.to2.items ++ sent_for 2 l.fn.core.outbox;
  to3 : l.self.to3.items ++ sent_for 3 l.core.outbox ≡ l.fn.self.to3.items ++ sent_for 3 l.fn.core.outbox;
  room0 : vec_len l.self.to0 + length l.core.outbox ≤ vec_capacity l.self.to0;
  room1 : vec_len l.self.to1 + length l.core.outbox ≤ vec_capacity l.self.to1;
  room2 : vec_len l.self.to2 + length l.core.outbox ≤ vec_capacity l.self.to2;
  room3 : vec_len l.self.to3 + length l.core.outbox ≤ vec_capacity l.self.to3;
  some : (l.some || has_one l.core.outbox) ≡ has_one l.fn.core.outbox;
  state : l.core.state ≡ l.fn.core.state;
  home : l.core.home ≡ l.fn.core.home;
}
