use Rattle.std.proofs.Common.{List, map, refl, subst}
use Rattle.decrees.specs.declared.ballot.Ballot.{Ballot}
use Rattle.decrees.specs.declared.node.Letter.{Letter}
use Rattle.slots.specs.Sending.{as_sent}
use Rattle.verifier.specs.declared.input.Input.TheVariants as input
use Rattle.ensemble.specs.Nodes.{NodesView, MayGrow, VerifierMoves, VerifierGets}
use Rattle.ensemble.proofs.nodes.Nodes.reach_ballot.Goals as goal

pub returns-clause-moves : goal.returns-clause-moves
returns-clause-moves c =
    let left : NodesView = record { u = c.self.inside.u; proxies = c.self.inside.proxies.items; executors = c.self.inside.executors.items; verifiers = c.to_verifier-sent.new.verifiers.items; mail = c.post_ballots.new.mail.items } in
    subst (λ (n : NodesView). VerifierMoves (VerifierGets (input.Letter c.args.letter)) c.args.id n left) c.self.view_is (c.to_verifier-sent.new.verifiers.items, c.to_verifier-sent.result.items, c.post_ballots.new.mail.items, c.to_verifier-sent.ensures, subst (λ (ls : List (Letter Ballot)). MayGrow c.self.inside.mail.items (map as_sent ls) c.post_ballots.new.mail.items) c.as_slice.ensures.value c.post_ballots.ensures.grows, refl)
