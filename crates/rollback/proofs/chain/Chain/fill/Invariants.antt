use Rattle.std.proofs.Common.{◌≡◌}
use Rattle.rollback.proofs.RecordLemmas.{HasMembers}
use Rattle.rollback.proofs.chain.Chain.fill.Given as goal

abbrev pub invariant-loop : goal.invariant-loop
invariant-loop l = record {
  have : l.self.have ≡ l.fn.self.have;
  read : HasMembers l.version l.fn.self.have l.self.members l.counter l.bytes l.rest;
}
