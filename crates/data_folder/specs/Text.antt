-- The text of a service: that of its process, and the number of the next connection.
use Rattle.std.specs.Prelude.{◌≡◌, ℕ, List, ◌++◌}
use Rattle.std.specs.Int.{w64}
use Rattle.wire.specs.Number.{num}
use Rattle.process_text.specs.declared.process_text.ProcessText.{ProcessText}
use Rattle.process_text.specs.Text.{process_text}
use Rattle.states.specs.State.{StateView}
use Rattle.service.specs.Record.{RecordView}
use Rattle.process_parts.specs.Parts.{IsStoredOf}

abbrev pub service_text : ProcessText → ℕ → List ℕ
service_text process next = process_text process ++ num w64 next

-- this text is one of this record: of the parts of its process, with a state that its executors share
pub record IsServiceText (r : RecordView) (t : List ℕ) : Type 0 where
  pub process : ProcessText
  pub state : StateView
  pub stored : IsStoredOf process state r.replicas
  pub is : t ≡ service_text process r.next

abbrev pub TellsService : RecordView → List ℕ → Type 0
TellsService r t = ∥ IsServiceText r t ∥₁
