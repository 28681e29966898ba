use Rattle.std.proofs.Common.{◌≡◌, ◌<◌, ◌^◌, ◌-◌, refl, subst}
use Rattle.verifier.specs.declared.input.Input.TheVariants.{Suspect}
use Rattle.ensemble.specs.Nodes.{VerifierMoves, VerifierGets}
use Rattle.ensemble.specs.Served.{VerifierPosts}
use Rattle.site_laws.specs.Site.{Suspected}
use Rattle.member.specs.Member.{MemberView}
use Rattle.member.proofs.Steps.{verifier_goes_on}
use Rattle.member.proofs.member.Member.suspect.Goals as goal

pub invariant_of-self : goal.invariant_of-self
invariant_of-self c =
    let s = c.self.inside in
    (verifier_goes_on s.id s.config s.leaving.items s.nodes c.suspect.new.self s.log c.self.invariant.0 Suspected (VerifierGets Suspect) (λ m. m) refl c.suspect.ensures.moves, c.self.invariant.1)

pub returns-clause-told : goal.returns-clause-told
returns-clause-told c = subst (λ (v : MemberView). VerifierMoves (VerifierGets Suspect) v.id v.nodes c.suspect.new.self) c.self.view_is c.suspect.ensures.moves

pub returns-clause-sent : goal.returns-clause-sent
returns-clause-sent c = subst (λ (v : MemberView). c.suspect.new.refused ≡ v.refused → v.refused < 2 ^ 64 - 1 → VerifierPosts (VerifierGets Suspect) v.id v.nodes c.suspect.new.self) c.self.view_is c.suspect.ensures.posted
