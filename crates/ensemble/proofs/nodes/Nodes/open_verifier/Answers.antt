use Rattle.std.proofs.Common.{rules, List, map, refl, subst}
use Rattle.decrees.specs.declared.ballot.Ballot.{Ballot}
use Rattle.decrees.specs.declared.node.Letter.{Letter}
use Rattle.events.specs.declared.event.Replica.TheVariants as replica
use Rattle.slots.specs.Sending.{as_sent}
use Rattle.ensemble.specs.Nodes.{NodesView, MayGrow, VerifierOpens}
use Rattle.ensemble.specs.Calls.{IsReopened, IsReopenedAndPosts}
use Rattle.ensemble.proofs.Served.{ballots_posted}
use Rattle.ensemble.proofs.nodes.Nodes.open_verifier.Goals as goal

pub returns-clause-opens : goal.returns-clause-opens
returns-clause-opens c =
    let s = c.self.inside in
    let left : NodesView = record { u = s.u; proxies = s.proxies.items; executors = s.executors.items; verifiers = c.open_verifier-sent.new.verifiers.items; mail = c.post_ballots.new.mail.items } in
    subst (λ (n : NodesView). IsReopened (replica.Verifier c.args.id) n left) c.self.view_is (record {
      here = λ le. (c.open_verifier-sent.new.verifiers.items, c.open_verifier-sent.result.items, c.post_ballots.new.mail.items, c.open_verifier-sent.ensures, subst (λ (ls : List (Letter Ballot)). MayGrow s.mail.items (map as_sent ls) c.post_ballots.new.mail.items) c.as_slice.ensures.value c.post_ballots.ensures.grows, refl);
      beyond = λ lt. let no : ⊥ = search rules in absurd no;
    })

pub returns-clause-posted : goal.returns-clause-posted
returns-clause-posted c = λ none.
    let s = c.self.inside in
    let before : NodesView = record { u = s.u; proxies = s.proxies.items; executors = s.executors.items; verifiers = s.verifiers.items; mail = s.mail.items } in
    let left : NodesView = record { u = s.u; proxies = s.proxies.items; executors = s.executors.items; verifiers = c.open_verifier-sent.new.verifiers.items; mail = c.post_ballots.new.mail.items } in
    subst (λ (n : NodesView). IsReopenedAndPosts (replica.Verifier c.args.id) n left) c.self.view_is (record {
      here = λ le. ballots_posted (VerifierOpens s.u c.args.id) c.args.id before c.open_verifier-sent.new.verifiers.items c.open_verifier-sent.result.items c.as_slice.result.now c.post_ballots.new.mail.items c.open_verifier-sent.ensures c.as_slice.ensures.value (c.post_ballots.ensures.posted none.same none.below);
      beyond = λ lt. let no : ⊥ = search rules in absurd no;
    })
