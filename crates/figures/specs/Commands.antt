-- How many commands of a kind had an outcome.
use Rattle.std.specs.Prelude.{ℕ, slice_get, slice_index, Option, Some, None}
use Rattle.figures.specs.declared.kind.Kind.{Kind}
use Rattle.figures.specs.declared.outcome.Outcome.{Outcome}
use Rattle.figures.specs.declared.commands.Outcomes.{Outcomes}
use Rattle.figures.specs.declared.commands.Commands.{Commands}
use Rattle.figures.specs.Kind.{kind_place}
use Rattle.figures.specs.Outcome.{outcome_place}

-- the replies that had the outcome
abbrev pub outcome_count : Outcomes → Outcome → ℕ
outcome_count outcomes outcome = slice_index outcomes.counts (outcome_place outcome)

abbrev pub row_count : Option Outcomes → Outcome → ℕ
row_count None _ = 0
row_count (Some outcomes) outcome = outcome_count outcomes outcome

-- the commands of the kind that had the outcome
abbrev pub kind_count : Commands → Kind → Outcome → ℕ
kind_count commands kind outcome = row_count (slice_get commands.rows (kind_place kind)) outcome
