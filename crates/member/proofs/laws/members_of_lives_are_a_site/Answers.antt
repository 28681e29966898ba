use Rattle.member.proofs.Joined.{lives_joined}
use Rattle.member.proofs.laws.members_of_lives_are_a_site.Goals as goal

pub returns : goal.returns
returns c = λ config ended members order given. lives_joined c.a_life_leads_to_the_next.ensures config ended members order given c.a_site_is_an_ensemble.ensures.shown
