-- Which request of a client is the next to run.
use Rattle.std.specs.Prelude.{ℕ, ◌+◌, Bool, ◌==◌}
use Rattle.std.specs.Option.{option_map_or}
use Rattle.std.specs.Ordering.{nat_cmp}
use Rattle.std.specs.FinMap as map
use Rattle.sessions.specs.declared.request.Request.{Request}
use Rattle.sessions.specs.declared.sessions.LastReply.{LastReply}

-- the last reply of each client
abbrev pub Replies : Type 0
Replies = map.FinMap nat_cmp LastReply

-- the number that a client's next request has
abbrev pub next_number : Replies → ℕ → ℕ
next_number sessions client = option_map_or (λ kept. kept.number + 1) (map.get sessions client) 1

abbrev pub is_next : Replies → Request → Bool
is_next sessions r = r.number == next_number sessions r.client
