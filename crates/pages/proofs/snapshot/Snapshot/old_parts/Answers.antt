use Rattle.pages.proofs.OldLemmas.{old-parts}
use Rattle.pages.proofs.snapshot.Snapshot.old_parts.Goals as goal

pub returns : goal.returns
returns c =
    old-parts c.args.self.now.items c.args.number _ _ _ _ c.requires.within c.sorted_page.ensures.entries c.sorted_page-2.ensures.entries c.sorted_page-3.ensures.entries c.sorted_page-4.ensures.entries
