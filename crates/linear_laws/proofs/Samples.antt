-- Requests that may be executed in any interleaving.
use Rattle.std.proofs.Common.{refl}
use Rattle.linear_laws.specs.Laws.{GetsMayOverlap}

pub gets_may_overlap : GetsMayOverlap
gets_may_overlap = refl
