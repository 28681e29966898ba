use Rattle.std.proofs.Common.{refl}
use Rattle.ensemble.specs.Nodes.{HostAdvances}
use Rattle.site_laws.specs.Site.{Advanced}
use Rattle.member.proofs.Steps.{host_goes_on}
use Rattle.member.proofs.member.Member.take_held.Goals as goal

pub invariant_of-self : goal.invariant_of-self
invariant_of-self c =
    let s = c.self.inside in
    (host_goes_on s.id s.config s.leaving.items s.nodes c.take_held.new.self s.log c.self.invariant.0 Advanced HostAdvances (λ m. m) refl c.take_held.ensures.moves, c.self.invariant.1)
