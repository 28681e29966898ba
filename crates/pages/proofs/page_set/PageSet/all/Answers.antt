use Rattle.std.proofs.Common.{true, false}
use Rattle.std.proofs.lemmas.List.{get_or-replicate}
use Rattle.pages.specs.Page.{page_count}
use Rattle.pages.proofs.page_set.PageSet.all.Goals as goal

pub returns : goal.returns
returns c p below = get_or-replicate page_count p true false below
