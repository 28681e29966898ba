use Rattle.links.proofs.LaneLemmas.{come_through}
use Rattle.links.proofs.laws.letters_come_through.Goals as goal

pub returns : goal.returns
returns c = come_through
