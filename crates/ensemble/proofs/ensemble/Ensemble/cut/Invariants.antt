use Rattle.std.proofs.Common.{◌≡◌, ◌≤◌, false}
use Rattle.ensemble.specs.Nodes.{size_of}
use Rattle.ensemble.specs.Calls.{AllCollected}
use Rattle.ensemble.specs.Served.{NoBatchBelow}
use Rattle.ensemble.specs.Ensemble.{KeepsLogs}
use Rattle.ensemble.proofs.ensemble.Ensemble.cut.Given as goal

abbrev pub invariant-loop-id : goal.invariant-loop-id
invariant-loop-id l = record {
  logs : KeepsLogs l.fn.self l.self;
  counted : l.fn.self.refused ≤ l.self.refused;
  size : size_of l.self.nodes ≡ size_of l.fn.self.nodes;
  waits : AllCollected l.fn.self.nodes → AllCollected l.self.nodes;
  same_u : l.self.nodes.u ≡ l.fn.self.nodes.u;
  nothing : l.has_cut ≡ false → NoBatchBelow l.id l.self.nodes;
}
