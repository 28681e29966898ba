use Rattle.std.proofs.Common.{refl}
use Rattle.pages.proofs.GroupLemmas.{kept-none}
use Rattle.pages.proofs.grouped_pages.GroupedPages.of_sealed.Goals as goal

pub invariant_of-result : goal.invariant_of-result
invariant_of-result c = (kept-none _ _ _ _ c.requires, refl)
