use Rattle.std.proofs.Common.{Bool, refl, sym, ◌∙◌, subst}
use Rattle.exec_lines.specs.declared.input.Input.TheVariants.{Letter}
use Rattle.hosts.specs.Host.{HostView, HostSettles, HostTakesWhere}
use Rattle.hosts.proofs.executor_host.ExecutorHost.take.Goals as goal

pub returns-clause-takes : goal.returns-clause-takes
returns-clause-takes c =
    let left : HostView = record { slot = c.settle.new.self; held = c.self.inside.held.items; sent = c.self.inside.sent.items } in
    subst (λ (order : Bool). HostTakesWhere order c.args.self.now c.args.letter left c.settle.result.items) (sym c.if-is_order.false ∙ c.is_order.ensures)
    (subst (λ (h : HostView). HostSettles h (Letter c.args.letter) left c.settle.result.items) c.self.view_is (c.settle.new.self, c.settle.ensures, refl))
