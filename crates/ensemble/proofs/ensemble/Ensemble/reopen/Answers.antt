use Rattle.std.proofs.Common.{[], ◌∷◌, ◌++◌, true, sym, ap, ◌∙◌, subst}
use Rattle.ensemble.specs.Calls.{AllCollected}
use Rattle.ensemble.proofs.Begun.{begun_collected, reopened_follows}
use Rattle.ensemble.proofs.ensemble.Ensemble.reopen.Goals as goal

pub invariant_of-result : goal.invariant_of-result
invariant_of-result c =
    let noted = c.and-log.ensures ∙ ap (λ found. found ++ (c.args.found, true) ∷ []) c.new-2.ensures in
    reopened_follows c.args.found c.in_ok-nodes.nodes c.new-3.result.items c.new-4.result.items c.new-5.result.items c.and-log.result.items c.in_ok-nodes.ensures c.new-3.ensures c.new-4.ensures c.new-5.ensures noted

pub returns-clause-waits : goal.returns-clause-waits
returns-clause-waits c = subst AllCollected (sym c.in_ok-nodes.ensures) (begun_collected c.args.found)
