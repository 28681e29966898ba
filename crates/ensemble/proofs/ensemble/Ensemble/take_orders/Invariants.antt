use Rattle.std.proofs.Common.{◌≡◌, ◌≤◌}
use Rattle.ensemble.specs.Nodes.{size_of}
use Rattle.ensemble.specs.Calls.{AllCollected}
use Rattle.ensemble.specs.Ensemble.{KeepsLogs}
use Rattle.ensemble.proofs.ensemble.Ensemble.take_orders.Given as goal

abbrev pub invariant-loop-id : goal.invariant-loop-id
invariant-loop-id l = record {
  logs : KeepsLogs l.fn.self l.self;
  counted : l.fn.self.refused ≤ l.self.refused;
  size : size_of l.self.nodes ≡ size_of l.fn.self.nodes;
  waits : AllCollected l.fn.self.nodes → AllCollected l.self.nodes;
}
