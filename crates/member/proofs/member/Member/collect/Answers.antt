use Rattle.std.proofs.Common.{refl}
use Rattle.hosts.specs.Host.{HostCollects}
use Rattle.site_laws.specs.Site.{Collected}
use Rattle.member.proofs.Steps.{host_goes_on}
use Rattle.member.proofs.member.Member.collect.Goals as goal

pub invariant_of-self : goal.invariant_of-self
invariant_of-self c =
    let s = c.self.inside in
    (host_goes_on s.id s.config s.leaving.items s.nodes c.collect.new.self s.log c.self.invariant.0 Collected HostCollects (λ m. m) refl c.collect.ensures.moves, c.self.invariant.1)
