use Rattle.std.proofs.Common.{◌≡◌, ℕ, ◌<◌, length, true}
use Rattle.std.specs.Prelude.{nat_le}
use Rattle.std.specs.List.{list_all}
use Rattle.pages.specs.Page.{page_entries}
use Rattle.pages.proofs.snapshot.Snapshot.has_data_within.Given as goal

-- the data in the pages so far is short enough
abbrev pub invariant-loop-number : goal.invariant-loop-number
invariant-loop-number l = (p : ℕ) → p < l.number → list_all (λ e. nat_le (length e.1.block) l.most) (page_entries l.self.items p) ≡ true
