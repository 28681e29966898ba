use Rattle.std.proofs.Common.{◌≡◌, ◌+◌, ◌≤◌, length}
use Rattle.event_loop.proofs.event_loop.EventLoop.end_leavers.Given as goal

-- one goes in each iteration of the loop
abbrev pub invariant-loop : goal.invariant-loop
invariant-loop l = record {
  fewer : length l.self.leavers + l.counter ≤ length l.fn.self.leavers;
  heard : l.self.heard.items ≡ l.fn.self.heard.items;
}
