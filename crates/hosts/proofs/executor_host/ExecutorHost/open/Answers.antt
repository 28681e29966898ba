use Rattle.std.proofs.Common.{refl, subst}
use Rattle.hosts.specs.Host.{HostView, HostReopens}
use Rattle.hosts.proofs.executor_host.ExecutorHost.open.Goals as goal

pub returns : goal.returns
returns c =
    let left : HostView = record { slot = c.restart.new.self; held = c.self.inside.held.items; sent = c.self.inside.sent.items } in
    subst (λ (h : HostView). HostReopens c.args.u c.args.id h left c.restart.result.items) c.self.view_is (c.restart.new.self, c.restart.ensures, refl)
