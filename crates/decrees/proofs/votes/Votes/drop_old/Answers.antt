use Rattle.std.proofs.Common.{rules}
use Rattle.indexmap.proofs.CallerLemmas.{filter-RetainsPairs}
use Rattle.decrees.specs.Votes.{is_open}
use Rattle.decrees.proofs.votes.Votes.drop_old.Goals as goal

pub returns : goal.returns
returns c = rw (← c.self.view_is) (filter-RetainsPairs _ (λ vote. is_open c.args.standing.now vote.0) _ (λ k v b w g call. search rules) _ _ c.retain.ensures.filtered)
