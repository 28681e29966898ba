use Rattle.std.proofs.Common.{rules}
use Rattle.std.proofs.lemmas.Fn.{filter_same}
use Rattle.hosts.proofs.held.forget.Goals as goal

pub returns-clause-exact : goal.returns-clause-exact
returns-clause-exact c = filter_same _ _ _ (λ x b f k. search rules) _ _ c.retain.ensures.filtered
