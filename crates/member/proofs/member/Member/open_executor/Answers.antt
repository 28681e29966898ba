use Rattle.std.proofs.Common.{◌≡◌, ⊎_elim, refl, ap, subst}
use Rattle.hosts.specs.Host.{HostReopens}
use Rattle.ensemble.specs.Nodes.{NodesView}
use Rattle.site_laws.specs.Site.{OpenedExecutor}
use Rattle.ensemble.specs.Calls.{IsReopened}
use Rattle.events.specs.declared.event.Replica.TheVariants as replica
use Rattle.member.specs.Member.{MemberView}
use Rattle.member.proofs.Steps.{host_goes_on, stays, host_leaves_proxies}
use Rattle.member.proofs.member.Member.open_executor.Goals as goal

pub invariant_of-self : goal.invariant_of-self
invariant_of-self c =
    let s = c.self.inside in
    let now = c.open_executor.new.self in (
      ⊎_elim
          (λ moves. host_goes_on s.id s.config s.leaving.items s.nodes now s.log c.self.invariant.0 OpenedExecutor (λ h left sent. HostReopens s.nodes.u s.id h left sent) (λ m. m) refl moves)
          (λ same. stays s.id s.config s.leaving.items s.nodes now s.log c.self.invariant.0 same)
          c.open_executor.ensures.moves,
      c.self.invariant.1,
    )

pub returns-clause-opens : goal.returns-clause-opens
returns-clause-opens c = subst (λ (v : MemberView). IsReopened (replica.Executor v.id) v.nodes c.open_executor.new.self) c.self.view_is c.open_executor.ensures.opens

pub returns-clause-proxies : goal.returns-clause-proxies
returns-clause-proxies c =
    let s = c.self.inside in
    let now = c.open_executor.new.self in
    subst (λ (v : MemberView). now.proxies ≡ v.nodes.proxies) c.self.view_is
    (⊎_elim
    (λ moves. host_leaves_proxies (λ h left sent. HostReopens s.nodes.u s.id h left sent) s.id s.nodes now moves)
    (λ same. ap (λ (n : NodesView). n.proxies) same)
    c.open_executor.ensures.moves)
