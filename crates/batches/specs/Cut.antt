-- What a cut takes out of what waits.
use Rattle.std.specs.Prelude.{◌≡◌, ℕ, ◌≤◌, List, [], filter, take, length, All, IsTrue, Bool, false, not, ◌&&◌, ◌==◌, nat_le, Option, Some, None}
use Rattle.std.specs.List.{list_any}
use Rattle.std.specs.Option.{option_map_or}
use Rattle.std.specs.FinMap as map
use Rattle.sessions.specs.declared.request.Request.{Request}
use Rattle.sessions.specs.Fresh.{Replies, is_next}
use Rattle.batches.specs.declared.batch.Batch.{Batch}
use Rattle.batches.specs.Waiting.{IsOneEach}

-- whether the client's last request that ran has this number or a higher one
abbrev pub is_past : Replies → Request → Bool
is_past sessions r = option_map_or (λ kept. nat_le r.number kept.number) (map.get sessions r.client) false

-- whether the request is neither its client's next nor past
abbrev pub waits_on : Replies → Request → Bool
waits_on sessions r = not (is_next sessions r) && not (is_past sessions r)

-- the first that are their client's next, up to the limit
abbrev pub taken : ℕ → Replies → List Request → List Request
taken limit sessions waiting = take limit (filter (is_next sessions) waiting)

-- the others, without those that are past
abbrev pub left : ℕ → Replies → List Request → List Request
left limit sessions waiting =
    let batch = taken limit sessions waiting in
    filter (λ r. not (is_past sessions r) && not (list_any (λ b. b.client == r.client) batch)) waiting

-- the batch has this epoch, number and moment, and these requests, of which there is at least one
pub record IsBatchOf (epoch n moment : ℕ) (requests : List Request) (batch : Batch) : Type 0 where
  pub epoch_is : batch.epoch ≡ epoch
  pub n_is : batch.n ≡ n
  pub moment_is : batch.moment ≡ moment
  pub requests_are : batch.requests ≡ requests
  pub some : 1 ≤ length requests

-- it is the batch of these requests, and there is none if there are no requests
abbrev pub IsCut : ℕ → ℕ → ℕ → List Request → Option Batch → Type 0
IsCut epoch n moment requests None = requests ≡ []
IsCut epoch n moment requests (Some batch) = IsBatchOf epoch n moment requests batch

-- up to so many requests, at most one a client, and each the next of its client
pub record Fits (limit : ℕ) (sessions : Replies) (requests : List Request) : Type 0 where
  pub few : length requests ≤ limit
  pub one_each : IsOneEach requests
  pub all_next : All (λ r. IsTrue (is_next sessions r)) requests
