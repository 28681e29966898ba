-- The outcome that a reply tells, and where its count is kept.
use Rattle.std.specs.Prelude.{ℕ, codes, List, [], ◌∷◌}
use Rattle.proto.specs.declared.reply.Reply.{Reply}
use Rattle.proto.specs.declared.reply.Reply.TheVariants as reply
use Rattle.proto.specs.declared.reply.Found.{Found}
use Rattle.figures.specs.declared.outcome.Outcome.{Outcome}
use Rattle.figures.specs.declared.outcome.Outcome.TheVariants as outcome

abbrev pub outcome_of_values : List Found → Outcome
outcome_of_values [] = outcome.Miss
outcome_of_values (_ ∷ _) = outcome.Hit

abbrev pub outcome_of : Reply → Outcome
outcome_of reply.Stored = outcome.Stored
outcome_of reply.NotStored = outcome.NotStored
outcome_of reply.Exists = outcome.Exists
outcome_of reply.NotFound = outcome.NotFound
outcome_of reply.Deleted = outcome.Deleted
outcome_of reply.Touched = outcome.Touched
outcome_of (reply.Number _) = outcome.Counted
outcome_of (reply.Values found) = outcome_of_values found
outcome_of reply.TooLarge = outcome.TooLarge
outcome_of reply.NotNumber = outcome.NotNumber

abbrev pub outcome_place : Outcome → ℕ
outcome_place outcome.Hit = 0
outcome_place outcome.Miss = 1
outcome_place outcome.Stored = 2
outcome_place outcome.NotStored = 3
outcome_place outcome.Exists = 4
outcome_place outcome.NotFound = 5
outcome_place outcome.Deleted = 6
outcome_place outcome.Touched = 7
outcome_place outcome.Counted = 8
outcome_place outcome.TooLarge = 9
outcome_place outcome.NotNumber = 10

-- its name in lines and pages
abbrev pub outcome_name : Outcome → List ℕ
outcome_name outcome.Hit = codes "hit"
outcome_name outcome.Miss = codes "miss"
outcome_name outcome.Stored = codes "stored"
outcome_name outcome.NotStored = codes "not_stored"
outcome_name outcome.Exists = codes "exists"
outcome_name outcome.NotFound = codes "not_found"
outcome_name outcome.Deleted = codes "deleted"
outcome_name outcome.Touched = codes "touched"
outcome_name outcome.Counted = codes "counted"
outcome_name outcome.TooLarge = codes "too_large"
outcome_name outcome.NotNumber = codes "not_number"
