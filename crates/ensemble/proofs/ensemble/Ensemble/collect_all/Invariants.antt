use Rattle.std.proofs.Common.{◌≡◌, ◌≤◌, ◌++◌}
use Rattle.ensemble.specs.Nodes.{size_of}
use Rattle.ensemble.specs.Calls.{RefusedNothing, sent_below, CollectedBelow}
use Rattle.ensemble.specs.Ensemble.{KeepsLogs}
use Rattle.ensemble.proofs.ensemble.Ensemble.collect_all.Given as goal

abbrev pub invariant-loop-id : goal.invariant-loop-id
invariant-loop-id l = record {
  logs : KeepsLogs l.fn.self l.self;
  counted : l.fn.self.refused ≤ l.self.refused;
  size : size_of l.self.nodes ≡ size_of l.fn.self.nodes;
  collected : CollectedBelow l.id l.fn.self.nodes l.self.nodes;
  posted : RefusedNothing l.fn.self.refused l.self.refused → l.self.nodes.mail ≡ l.fn.self.nodes.mail ++ sent_below l.id l.fn.self.nodes.executors;
}
