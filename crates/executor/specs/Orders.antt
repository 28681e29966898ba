-- The orders in which the steps of a round's groups ran.
use Rattle.std.specs.Prelude.{ℕ, List, [], ◌∷◌, Bool}
use Rattle.items.specs.Map.{Items}
use Rattle.item_steps.specs.Schedule.{Placed, items_after}
use Rattle.item_steps.specs.declared.step.Stamp.{Stamp}
use Rattle.item_steps.specs.declared.step.Answer.{Answer}
use Rattle.batches.specs.declared.batch.Batch.{Batch}
use Rattle.executor.specs.declared.answered.Answered.{Answered}
use Rattle.states.specs.State.{StateView}
use Rattle.executor.specs.Round.{GroupsRun, Round}

-- the order of each group's steps, group by group
abbrev pub orders_in : (steps_of : ℕ → List (List Placed)) (base : Stamp) (m : Items) (groups : List ℕ) (now : Items) (answers : List (ℕ × Answer))
    → GroupsRun steps_of base m groups now answers → List (List Placed)
orders_in steps_of base m [] now answers run = []
orders_in steps_of base m (group ∷ groups) now answers run = run.0 ∷ orders_in steps_of base (items_after base m run.0) groups now run.1 run.3

module _ {old : StateView} {batch : Batch} {ordered : Bool} {new : StateView} {replies : List Answered} where
  abbrev pub orders_of : Round old batch ordered new replies → List (List Placed)
  orders_of round = orders_in _ _ _ _ _ _ round.run
