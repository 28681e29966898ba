use Rattle.std.proofs.Common.{ap, ◌∙◌}
use Rattle.std.specs.Ordering.{nat_cmp}
use Rattle.std.specs.FinMap.{from_sorted, entries, entries-from_sorted}
use Rattle.base.proofs.MapLemmas.{as_t}
use Rattle.sessions.proofs.sessions.Sessions.from_sorted.Goals as goal

pub returns-clause-entries : goal.returns-clause-entries
returns-clause-entries c = ap (λ es. entries {R = nat_cmp} (from_sorted es)) (c.in_ok-new.ensures.ok ∙ c.from_sorted.ensures) ∙ entries-from_sorted nat_cmp c.args.entries.items (as_t _ c.requires.sorted)
