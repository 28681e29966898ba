use Rattle.std.proofs.Common.{ap, ◌∙◌, sym, subst}
use Rattle.std.specs.FinMap.{entries, from_sorted, entries-from_sorted}
use Rattle.base.proofs.MapLemmas.{as_t}
use Rattle.items.specs.Map.{by_bytes}
use Rattle.wire.specs.Item.{PageFits}
use Rattle.pages.proofs.page.Page.from_entries.Goals as goal

pub of_store-requires : goal.of_store-requires
of_store-requires c =
    let same = ap entries (c.in_ok-from_sorted.ensures ∙ ap from_sorted c.into_vec.ensures.entries) ∙ entries-from_sorted by_bytes c.args.entries (as_t _ c.into_vec.ensures.rising) in
    subst PageFits (sym same) c.requires
