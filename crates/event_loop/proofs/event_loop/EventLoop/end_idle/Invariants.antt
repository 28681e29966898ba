use Rattle.std.proofs.Common.{◌≡◌}
use Rattle.event_loop.proofs.event_loop.EventLoop.end_idle.Given as goal

-- nothing is reported
abbrev pub invariant-loop : goal.invariant-loop
invariant-loop l = l.self.heard.items ≡ l.fn.self.heard.items
