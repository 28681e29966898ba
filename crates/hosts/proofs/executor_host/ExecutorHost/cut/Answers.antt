use Rattle.std.proofs.Common.{refl, subst}
use Rattle.exec_lines.specs.declared.input.Input.TheVariants.{Cut}
use Rattle.hosts.specs.Host.{HostView, HostSettles}
use Rattle.hosts.proofs.executor_host.ExecutorHost.cut.Goals as goal

pub returns : goal.returns
returns c =
    let left : HostView = record { slot = c.settle.new.self; held = c.self.inside.held.items; sent = c.self.inside.sent.items } in
    subst (λ (h : HostView). HostSettles h (Cut c.args.moment) left c.settle.result.items) c.self.view_is (c.settle.new.self, c.settle.ensures, refl)
