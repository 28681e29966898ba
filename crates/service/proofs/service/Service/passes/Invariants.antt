use Rattle.std.proofs.Common.{◌≡◌, ◌≤◌, ◌<◌}
use Rattle.ensemble.specs.Nodes.{size_of}
use Rattle.service.specs.Service.{Gives, RestsUnlessRefused, IsSameProcess}
use Rattle.service.specs.Told.{TellsMore, HasMoreAnswers}
use Rattle.service.proofs.service.Service.passes.Given as goal

abbrev pub invariant-loop : goal.invariant-loop
invariant-loop g l = record {
  given : Gives l.initial.self.connections l.initial.said.items l.self.connections l.said.items;
  tells : TellsMore l.initial.self l.initial.said.items l.self l.said.items;
  more : HasMoreAnswers l.counter l.initial.self l.self;
  heard : l.self.connections.heard ≡ l.initial.self.connections.heard;
  process : IsSameProcess l.initial.self l.self;
  counted : l.initial.self.replicas.refused ≤ l.self.replicas.refused;
  size : size_of l.self.replicas.ensemble.nodes ≡ size_of l.initial.self.replicas.ensemble.nodes;
  rest : 0 < l.counter → RestsUnlessRefused l.initial.self.replicas l.self.replicas;
}
