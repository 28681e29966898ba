use Rattle.std.proofs.Common.{◌≡◌, ◌≤◌}
use Rattle.ensemble.specs.Nodes.{size_of}
use Rattle.ensemble.specs.Calls.{AllCollected}
use Rattle.ensemble.specs.Ensemble.{Answers}
use Rattle.ensemble.proofs.ensemble.Ensemble.deliver_all.Given as goal

abbrev pub invariant-loop : goal.invariant-loop
invariant-loop l = record {
  asked : l.self.asked ≡ l.fn.self.asked;
  found : l.self.found ≡ l.fn.self.found;
  answered : Answers l.fn.self.answered l.fn.self.order l.fn.answers.items l.self.answered l.self.order l.answers.items;
  counted : l.fn.self.refused ≤ l.self.refused;
  size : size_of l.self.nodes ≡ size_of l.fn.self.nodes;
  waits : AllCollected l.fn.self.nodes → AllCollected l.self.nodes;
}
