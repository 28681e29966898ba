use Rattle.std.proofs.Common.{refl, subst}
use Rattle.events.specs.declared.event.Replica.TheVariants as replica
use Rattle.ensemble.specs.Nodes.{NodesView}
use Rattle.ensemble.specs.Calls.{IsStopped}
use Rattle.ensemble.proofs.nodes.Nodes.stop_executor.Goals as goal

pub returns : goal.returns
returns c =
    let s = c.self.inside in
    let executors = c.stop_executor.new.executors.items in
    let left : NodesView = record { u = s.u; proxies = s.proxies.items; executors = executors; verifiers = s.verifiers.items; mail = s.mail.items } in
    subst (λ (n : NodesView). IsStopped (replica.Executor c.args.id) n left) c.self.view_is (executors, c.stop_executor.ensures, refl)
