-- What has left a service, and the moments at which another process may find it.
use Rattle.std.specs.Prelude.{◌≡◌, ◌⊎◌, ℕ, List, [], ◌++◌, Option, Contains}
use Rattle.loop_messages.specs.declared.message.Said.{Said}
use Rattle.service.specs.Service.{ServiceView}
use Rattle.service.specs.Record.{RecordView}
use Rattle.server.specs.Answering.{AnsweringView}
use Rattle.server.specs.Durable.{IsOfMoment}

-- A service between two calls, and all that it had said by then, in order.
pub record Moment : Type 0 where
  pub service : ServiceView
  pub said : List Said

-- the moment at which this has left, that is held, and the rest was said behind it
abbrev pub moment_with : AnsweringView → (left held : List Said) → Moment
moment_with v left held = record { service = v.service; said = left ++ (held ++ v.said) }

-- the first list goes on from the second
pub record GoesOnFrom (xs ys : List Said) : Type 0 where
  pub more : List Said
  pub is : xs ≡ ys ++ more

module _ (is_text : RecordView → List ℕ → Type 0) where
  -- It is a text of what was kept of the service at one of these moments, and all that has left was said by then.
  pub record IsOfOne (moments : List Moment) (left : List Said) (found : Option (List ℕ)) : Type 0 where
    pub moment : Moment
    pub there : Contains moments moment
    pub is : IsOfMoment is_text moment.service found
    pub later : GoesOnFrom moment.said left

  -- Whatever another process may find is of a moment by which all that has left was said; or it might be found when the process began, and nothing has left.
  abbrev pub IsBehind : (at_start may_find : Option (List ℕ) → Type 0) → List Moment → List Said → Type 0
  IsBehind at_start may_find moments left = (found : Option (List ℕ)) → may_find found → (at_start found × (left ≡ [])) ⊎ IsOfOne moments left found
