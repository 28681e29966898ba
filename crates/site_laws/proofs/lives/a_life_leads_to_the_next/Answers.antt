use Rattle.site_laws.proofs.LifeLemmas.{leads_to_next}
use Rattle.site_laws.proofs.lives.a_life_leads_to_the_next.Goals as goal

pub returns : goal.returns
returns c = leads_to_next
