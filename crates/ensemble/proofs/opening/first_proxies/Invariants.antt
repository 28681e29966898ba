use Rattle.std.proofs.Common.{◌≡◌}
use Rattle.ensemble.specs.First.{first_proxies_of}
use Rattle.ensemble.proofs.opening.first_proxies.Given as goal

abbrev pub invariant-loop-i : goal.invariant-loop-i
invariant-loop-i l = l.proxies.items ≡ first_proxies_of l.i
