use Rattle.std.proofs.Common.{List, map, refl, subst}
use Rattle.decrees.specs.declared.ballot.Ballot.{Ballot}
use Rattle.decrees.specs.declared.node.Letter.{Letter}
use Rattle.slots.specs.Sending.{as_sent}
use Rattle.verifier.specs.declared.input.Input.TheVariants.{Suspect}
use Rattle.ensemble.specs.Nodes.{NodesView, MayGrow, VerifierMoves, VerifierGets}
use Rattle.ensemble.specs.Served.{VerifierPosts}
use Rattle.ensemble.proofs.Served.{ballots_posted}
use Rattle.ensemble.proofs.nodes.Nodes.suspect.Goals as goal

pub returns-clause-moves : goal.returns-clause-moves
returns-clause-moves c =
    let left : NodesView = record { u = c.self.inside.u; proxies = c.self.inside.proxies.items; executors = c.self.inside.executors.items; verifiers = c.suspect-sent.new.verifiers.items; mail = c.post_ballots.new.mail.items } in
    subst (λ (n : NodesView). VerifierMoves (VerifierGets Suspect) c.args.id n left) c.self.view_is (c.suspect-sent.new.verifiers.items, c.suspect-sent.result.items, c.post_ballots.new.mail.items, c.suspect-sent.ensures, subst (λ (ls : List (Letter Ballot)). MayGrow c.self.inside.mail.items (map as_sent ls) c.post_ballots.new.mail.items) c.as_slice.ensures.value c.post_ballots.ensures.grows, refl)

pub returns-clause-posted : goal.returns-clause-posted
returns-clause-posted c = λ same below.
    let s = c.self.inside in
    let before : NodesView = record { u = s.u; proxies = s.proxies.items; executors = s.executors.items; verifiers = s.verifiers.items; mail = s.mail.items } in
    let left : NodesView = record { u = s.u; proxies = s.proxies.items; executors = s.executors.items; verifiers = c.suspect-sent.new.verifiers.items; mail = c.post_ballots.new.mail.items } in
    subst (λ (n : NodesView). VerifierPosts (VerifierGets Suspect) c.args.id n left) c.self.view_is
    (ballots_posted (VerifierGets Suspect) c.args.id before c.suspect-sent.new.verifiers.items c.suspect-sent.result.items c.as_slice.result.now c.post_ballots.new.mail.items c.suspect-sent.ensures c.as_slice.ensures.value (c.post_ballots.ensures.posted same below))
