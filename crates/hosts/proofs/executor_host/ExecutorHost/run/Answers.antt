use Rattle.std.proofs.Common.{refl, subst}
use Rattle.hosts.specs.Host.{HostView, HostRuns}
use Rattle.hosts.proofs.executor_host.ExecutorHost.run.Goals as goal

pub returns : goal.returns
returns g c =
    let left : HostView = record { slot = c.run.new.self; held = c.self.inside.held.items; sent = c.run.result.items } in
    subst (λ (h : HostView). HostRuns h left) c.self.view_is (c.run.new.self, c.run.result.items, c.run.ensures, refl)
