use Rattle.pages.proofs.PartLemmas.{parts-are, joined-parts, parts-joined}
use Rattle.pages.proofs.laws.parts_are_joined_again.Goals as goal

pub returns-clause-pages : goal.returns-clause-pages
returns-clause-pages c = parts-are

pub returns-clause-joined : goal.returns-clause-joined
returns-clause-joined c = joined-parts

pub returns-clause-parted : goal.returns-clause-parted
returns-clause-parted c = parts-joined
