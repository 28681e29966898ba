use Rattle.std.proofs.Common.{sym, ap, ◌∙◌}
use Rattle.std.specs.FinMap.{entries, entries-from_sorted}
use Rattle.items.specs.Map.{by_bytes}
use Rattle.base.proofs.MapLemmas.{as_t}
use Rattle.items.proofs.plain.PlainStore.as_slice.Goals as goal

pub returns : goal.returns
returns c = c.entries.ensures.entries ∙ sym (entries-from_sorted by_bytes _ (as_t _ c.self.invariant.sorted)) ∙ ap entries c.self.view_is
