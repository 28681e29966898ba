-- A request of a batch that runs.
use Rattle.std.specs.Prelude.{ℕ, ◌≤◌, List, length, All}
use Rattle.item_steps.specs.declared.step.Step.{Step}
use Rattle.item_steps.specs.declared.step.Answer.{Answer}
use Rattle.round.specs.declared.open.TheConstants.{MOST_STEPS}

-- its place in the batch, the group that it is in, its steps, and the answers to those that were made
pub record BatchRequest : Type 0 where
  pub place : ℕ
  pub group : ℕ
  pub steps : List Step
  pub answers : List Answer

-- none of the requests has more steps than a round takes
abbrev pub HaveFewSteps : List BatchRequest → Type 0
HaveFewSteps running = All (λ r. length r.steps ≤ MOST_STEPS) running
