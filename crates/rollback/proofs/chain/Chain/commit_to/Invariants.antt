use Rattle.std.proofs.Common.{◌≡◌, ◌++◌, length}
use Rattle.rollback.specs.Chain.{chain_from, replies_on_commit}
use Rattle.rollback.proofs.chain.Chain.commit_to.Given as goal

abbrev pub invariant-loop-self : goal.invariant-loop-self
invariant-loop-self l = record {
  chain : chain_from l.standing l.self.have l.self.members ≡ chain_from l.standing l.fn.self.have l.fn.self.members;
  replies : l.replies.items ++ replies_on_commit l.standing l.self.have l.self.members ≡ l.fn.replies.items ++ replies_on_commit l.standing l.fn.self.have l.fn.self.members;
}

abbrev pub decreases-loop-self : goal.decreases-loop-self
decreases-loop-self l = length l.self.members
