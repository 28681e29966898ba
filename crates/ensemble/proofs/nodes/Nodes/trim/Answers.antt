use Rattle.std.proofs.Common.{List, map, refl, subst}
use Rattle.decrees.specs.declared.ballot.Ballot.{Ballot}
use Rattle.decrees.specs.declared.node.Letter.{Letter}
use Rattle.slots.specs.Sending.{as_sent}
use Rattle.ensemble.specs.Nodes.{NodesView, MayGrow, VerifierMoves, VerifierTrims}
use Rattle.ensemble.specs.Trimming.{VerifierTrimsDue}
use Rattle.ensemble.proofs.nodes.Nodes.trim.Goals as goal

pub returns-clause-moves : goal.returns-clause-moves
returns-clause-moves c =
    let left : NodesView = record { u = c.self.inside.u; proxies = c.self.inside.proxies.items; executors = c.self.inside.executors.items; verifiers = c.trim_at-sent.new.verifiers.items; mail = c.post_ballots.new.mail.items } in
    subst (λ (n : NodesView). VerifierMoves (VerifierTrims) c.args.id n left) c.self.view_is (c.trim_at-sent.new.verifiers.items, c.trim_at-sent.result.items, c.post_ballots.new.mail.items, c.trim_at-sent.ensures.trims, subst (λ (ls : List (Letter Ballot)). MayGrow c.self.inside.mail.items (map as_sent ls) c.post_ballots.new.mail.items) c.as_slice.ensures.value c.post_ballots.ensures.grows, refl)

pub returns-clause-due : goal.returns-clause-due
returns-clause-due c =
    let left : NodesView = record { u = c.self.inside.u; proxies = c.self.inside.proxies.items; executors = c.self.inside.executors.items; verifiers = c.trim_at-sent.new.verifiers.items; mail = c.post_ballots.new.mail.items } in
    subst (λ (n : NodesView). VerifierMoves (VerifierTrimsDue) c.args.id n left) c.self.view_is (c.trim_at-sent.new.verifiers.items, c.trim_at-sent.result.items, c.post_ballots.new.mail.items, c.trim_at-sent.ensures.due, subst (λ (ls : List (Letter Ballot)). MayGrow c.self.inside.mail.items (map as_sent ls) c.post_ballots.new.mail.items) c.as_slice.ensures.value c.post_ballots.ensures.grows, refl)
