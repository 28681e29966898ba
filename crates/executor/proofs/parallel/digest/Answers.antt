use Rattle.std.proofs.Common.{sym, ap, ◌∙◌, subst}
use Rattle.pages.specs.Joined.{ArePages, joined_pages}
use Rattle.pages.proofs.PartLemmas.{parts-are, joined-parts}
use Rattle.executor.proofs.parallel.digest.Goals as goal

pub digest_parts-requires-clause-are : goal.digest_parts-requires-clause-are
digest_parts-requires-clause-are g c lifetimes live = subst ArePages (sym c.in-Ok.ensures.ok) (parts-are c.args.pages)

pub returns-in-Ok-clause-pages : goal.returns-in-Ok-clause-pages
returns-in-Ok-clause-pages g c = c.digest_parts.ensures.pages ∙ ap joined_pages c.in-Ok.ensures.ok ∙ joined-parts c.args.pages
