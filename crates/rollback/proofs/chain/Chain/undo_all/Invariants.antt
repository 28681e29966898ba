use Rattle.std.proofs.Common.{vec_len, vec_capacity, ◌≡◌, ◌≤◌, []}
use Rattle.rollback.specs.declared.chain.TheConstants.{MOST_MEMBERS}
use Rattle.rollback.proofs.chain.Chain.undo_all.Given as goal

abbrev pub invariant-loop-last : goal.invariant-loop-last
invariant-loop-last l = record {
  same : l.self-inside.committed.state ≡ l.fn.self.have;
  quiet : l.self-inside.committed.replies ≡ [];
  room : MOST_MEMBERS ≤ vec_capacity l.self-inside.members;
}

abbrev pub decreases-loop-last : goal.decreases-loop-last
decreases-loop-last l = vec_len l.self-inside.members
