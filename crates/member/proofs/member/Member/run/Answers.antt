use Rattle.std.proofs.Common.{refl}
use Rattle.site_laws.specs.Site.{Ran, RunsOnly}
use Rattle.member.proofs.Steps.{host_goes_on}
use Rattle.member.proofs.member.Member.run.Goals as goal

pub invariant_of-self : goal.invariant_of-self
invariant_of-self g c =
    let s = c.self.inside in
    (host_goes_on s.id s.config s.leaving.items s.nodes c.run.new.nodes s.log c.self.invariant.0 Ran RunsOnly (λ m. m) refl c.run.ensures, c.self.invariant.1)
