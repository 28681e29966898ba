-- What waits for a batch, in the order of arrival.
use Rattle.std.specs.Prelude.{ℕ, List, [], ◌∷◌, ◌++◌, map, filter, find, Bool, true, not, ◌==◌, nat_eq, nat_lt, Option, if◌then◌else◌}
use Rattle.std.specs.List.{IsDistinct}
use Rattle.std.specs.Option.{option_map_or}
use Rattle.sessions.specs.declared.request.Request.{Request}

-- the clients of the requests
abbrev pub clients_of : List Request → List ℕ
clients_of requests = map (λ r. r.client) requests

-- at most one request a client
abbrev pub IsOneEach : List Request → Type 0
IsOneEach requests = IsDistinct nat_eq (clients_of requests)

-- the request of the client, if one waits
abbrev pub waiting_of : ℕ → List Request → Option Request
waiting_of client waiting = find (λ r. client == r.client) waiting

-- whether no request of its client waits that has the same number or a higher one
abbrev pub is_later : Request → List Request → Bool
is_later r waiting = option_map_or (λ held. nat_lt held.number r.number) (waiting_of r.client waiting) true

-- what waits after the request came: a later one goes last, in place of the one held, and another is ignored
abbrev pub added : Request → List Request → List Request
added r waiting = if is_later r waiting then filter (λ q. not (r.client == q.client)) waiting ++ r ∷ [] else waiting

-- the requests under the keys of their clients
abbrev pub keyed : List Request → List (ℕ × Request)
keyed requests = map (λ r. (r.client, r)) requests
