-- The answer to a request.
use Rattle.std.specs.Prelude.{◌≡◌, ℕ, List, Bool, ◌&&◌, ◌/◌, nat_lt, if◌then◌else◌}
use Rattle.std.specs.List.{count_by}
use Rattle.figures.specs.declared.figures.Figures.{Figures}
use Rattle.figures.specs.declared.figures.Replicas.{Replicas}
use Rattle.figures.specs.declared.node.NodeFigures.{NodeFigures}
use Rattle.metrics.specs.Families.{metrics_text}
use Rattle.serde_json.specs.Written.{compact_text}
use Rattle.status.specs.Data.{figures_data, history_data}
use Rattle.status.specs.Response.{asked_text, note_text}
use Rattle.status.specs.Wanted.{Wants}
use Rattle.status.specs.declared.history.Seen.{Seen}
use Rattle.status.specs.declared.page.TheConstants.{PAGE}
use Rattle.status.specs.declared.wanted.Asked.{Asked}
use Rattle.status.specs.declared.wanted.Wanted.{Wanted}
use Rattle.status.specs.declared.wanted.Wanted.TheVariants.{Page, Data, History, Metrics, Health, TooFew, Unsaved}

-- the body with what is wanted of what is shown
abbrev pub body_text : Seen → Wanted → List ℕ
body_text s Page = PAGE.now
body_text s Data = compact_text (figures_data s.figures s.folders)
body_text s History = compact_text (history_data s.history.samples)
body_text s Metrics = metrics_text s.figures s.folders
body_text s wanted = note_text wanted

-- more than half of these nodes are up
abbrev pub is_most_up : ℕ → List NodeFigures → Bool
is_most_up members nodes = nat_lt (members / 2) (count_by (λ node. node.is_up) nodes)

-- more than half of the executors are up, and of the verifiers
abbrev pub is_served : Replicas → Bool
is_served r = is_most_up r.members r.executors && is_most_up r.members r.verifiers

-- there is no health if too few replicas are up, and none while the last save failed
abbrev pub health_of : Figures → Wanted
health_of f = if is_served f.replicas then (if nat_lt 0 f.saves.failing then Unsaved else Health) else TooFew

abbrev pub resolved_as : Figures → Asked → Wanted → Asked
resolved_as f asked Health = record asked { wanted = health_of f }
resolved_as f asked wanted = asked

abbrev pub resolved : Figures → Asked → Asked
resolved f asked = resolved_as f asked asked.wanted

abbrev pub answer_text : Seen → Asked → List ℕ
answer_text s asked = asked_text (resolved s.figures asked) (body_text s (resolved s.figures asked).wanted)

-- the response has what the request wants
abbrev pub IsAnswer : List ℕ → Seen → List ℕ → Type 0
IsAnswer request s response = (asked : Asked) × Wants request asked × (response ≡ answer_text s asked)
