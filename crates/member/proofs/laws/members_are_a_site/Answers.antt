use Rattle.member.proofs.Joined.{joined}
use Rattle.member.proofs.laws.members_are_a_site.Goals as goal

pub returns : goal.returns
returns c = λ config members order given. joined c.a_life_leads_to_the_next.ensures config members order given c.a_site_is_an_ensemble.ensures.shown
