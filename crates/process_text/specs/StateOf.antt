-- The state that is stored beside the text of a process: its head and sessions are in the text, its items are not.
use Rattle.std.specs.Prelude.{◌≡◌, ℕ, List, ◌++◌}
use Rattle.wire.specs.Session.{sessions_text}
use Rattle.pages.specs.Form.{layout_of}
use Rattle.states.specs.State.{StateView, IsState}
use Rattle.states.specs.StateRecord.{head_of_state, head_text, pages_text}
use Rattle.process_text.specs.declared.process_text.ProcessText.{ProcessText}

-- with what the text of the state begins
abbrev pub front_text : ProcessText → List ℕ
front_text t = head_text t.head ++ sessions_text t.sessions

-- what follows in the text of a state: its items, page by page
abbrev pub stored_items_text : StateView → List ℕ
stored_items_text s = pages_text (layout_of s.form) s.items

-- this is the state whose head and sessions are in the text
pub record IsStateOf (t : ProcessText) (s : StateView) : Type 0 where
  pub state : IsState s
  pub head : head_of_state s ≡ t.head
  pub sessions : s.sessions ≡ t.sessions
