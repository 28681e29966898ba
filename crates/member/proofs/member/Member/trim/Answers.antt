use Rattle.std.proofs.Common.{refl, subst}
use Rattle.ensemble.specs.Nodes.{VerifierMoves, VerifierTrims}
use Rattle.ensemble.specs.Trimming.{VerifierTrimsDue}
use Rattle.site_laws.specs.Site.{Trimmed}
use Rattle.member.specs.Member.{MemberView}
use Rattle.member.proofs.Steps.{verifier_goes_on}
use Rattle.member.proofs.member.Member.trim.Goals as goal

pub invariant_of-self : goal.invariant_of-self
invariant_of-self c =
    let s = c.self.inside in
    (verifier_goes_on s.id s.config s.leaving.items s.nodes c.trim.new.self s.log c.self.invariant.0 Trimmed VerifierTrims (λ m. m) refl c.trim.ensures.moves, c.self.invariant.1)

pub returns-clause-due : goal.returns-clause-due
returns-clause-due c = subst (λ (v : MemberView). VerifierMoves VerifierTrimsDue v.id v.nodes c.trim.new.self) c.self.view_is c.trim.ensures.due
