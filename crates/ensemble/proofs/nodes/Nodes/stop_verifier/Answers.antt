use Rattle.std.proofs.Common.{refl, subst}
use Rattle.events.specs.declared.event.Replica.TheVariants as replica
use Rattle.ensemble.specs.Nodes.{NodesView}
use Rattle.ensemble.specs.Calls.{IsStopped}
use Rattle.ensemble.proofs.nodes.Nodes.stop_verifier.Goals as goal

pub returns : goal.returns
returns c =
    let s = c.self.inside in
    let verifiers = c.stop_verifier.new.verifiers.items in
    let left : NodesView = record { u = s.u; proxies = s.proxies.items; executors = s.executors.items; verifiers = verifiers; mail = s.mail.items } in
    subst (λ (n : NodesView). IsStopped (replica.Verifier c.args.id) n left) c.self.view_is (verifiers, c.stop_verifier.ensures, refl)
