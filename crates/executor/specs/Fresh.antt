-- Which requests of a batch run.
use Rattle.std.specs.Prelude.{ℕ, List, [], ◌∷◌, ◌++◌, length, Bool, not, ◌&&◌, ◌==◌, if◌then◌else◌}
use Rattle.std.specs.List.{list_any}
use Rattle.sessions.specs.declared.request.Request.{Request}
use Rattle.sessions.specs.Fresh.{Replies, is_next}

-- a request that runs, with its place in the batch
abbrev pub Runner : Type 0
Runner = ℕ × Request

-- the request's number is its client's next, and it is the first of its client in the batch
abbrev pub runs : Replies → List Request → Request → Bool
runs sessions earlier r = is_next sessions r && not (list_any (λ e. e.client == r.client) earlier)

-- the request with its place, if it runs
abbrev pub runner_at : Replies → List Request → ℕ → Request → List Runner
runner_at sessions earlier place r = if runs sessions earlier r then (place, r) ∷ [] else []

-- those of the later requests that run, after the earlier ones
abbrev pub fresh_after : Replies → List Request → List Request → List Runner
fresh_after sessions earlier [] = []
fresh_after sessions earlier (r ∷ later) = runner_at sessions earlier (length earlier) r ++ fresh_after sessions (earlier ++ r ∷ []) later

-- the requests that run, by place
abbrev pub runners_among : Replies → List Request → List Runner
runners_among sessions requests = fresh_after sessions [] requests
