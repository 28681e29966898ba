use Rattle.std.proofs.Common.{sym, ap, ◌∙◌}
use Rattle.std.specs.Arc.{arc_value}
use Rattle.std.specs.Ordering.{nat_cmp}
use Rattle.std.specs.FinMap.{entries, entries-from_sorted}
use Rattle.base.proofs.MapLemmas.{as_t}
use Rattle.sessions.proofs.sessions.Sessions.entries.Goals as goal

pub returns-clause-entries : goal.returns-clause-entries
returns-clause-entries c = c.entries-entries.ensures.entries ∙ c.deref.ensures
    ∙ sym (entries-from_sorted nat_cmp (arc_value c.self.inside.entries) (as_t _ c.self.invariant.0))
    ∙ ap entries c.self.view_is
