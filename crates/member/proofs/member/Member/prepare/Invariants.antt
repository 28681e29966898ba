use Rattle.std.proofs.Common.{◌≡◌, ◌++◌, ◌≤◌, ◌+◌, length, map, vec_len, vec_capacity}
use Rattle.site_laws.specs.Site.{WentOut}
use Rattle.member.specs.Member.{whose}
use Rattle.member.proofs.member.Member.prepare.Given as goal

abbrev pub invariant-loop-letter : goal.invariant-loop-letter
invariant-loop-letter l = record {
  taken : l.fn.self.leaving ≡ l.letters.items ++ l.self.leaving;
  shown : l.self.shown ≡ l.fn.self.shown ++ map WentOut l.letters.items;
  room : vec_len l.letters + length l.self.leaving ≤ vec_capacity l.letters;
  whose : whose l.self ≡ whose l.fn.self;
  nodes : l.self.nodes ≡ l.fn.self.nodes;
  counted : l.self.refused ≡ l.fn.self.refused;
}

abbrev pub decreases-loop-letter : goal.decreases-loop-letter
decreases-loop-letter l = length l.self.leaving
