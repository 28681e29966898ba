use Rattle.std.proofs.Common.{None, refl}
use Rattle.pages.proofs.PageLemmas.{page-written}
use Rattle.pages.proofs.sorted_page.SortedPage.of_store.Goals as goal

pub invariant_of-result : goal.invariant_of-result
invariant_of-result c = page-written _ c.args.store None c.in_ok-new.ensures.ok refl c.requires
