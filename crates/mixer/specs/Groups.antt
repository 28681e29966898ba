-- The groups in which the requests of a batch run.
use Rattle.std.specs.Prelude.{ℕ, ◌+◌, List, [], ◌∷◌, ◌++◌, map, filter, take, fold, max, Bool, true, false, not, ◌&&◌, ◌==◌, if◌then◌else◌, bytes_eq}
use Rattle.std.specs.List.{list_any, range_with_len, flat_map, zip}
use Rattle.proto.specs.declared.command.Command.{Command}
use Rattle.proto.specs.declared.command.Command.TheVariants.{Get, Gets, Gat, Gats, Update}
use Rattle.proto.specs.Update.{key_of_update}
use Rattle.sessions.specs.declared.request.Request.{Request}
use Rattle.item_steps.specs.declared.group.Task.{Task}
use Rattle.item_steps.specs.Steps.{steps}

abbrev pub is_read : Command → Bool
is_read (Get keys) = true
is_read (Gets keys) = true
is_read (Gat exptime keys) = false
is_read (Gats exptime keys) = false
is_read (Update update) = false

-- the keys that the mixer looks at: the first two
abbrev pub keys_seen : Command → List (List ℕ)
keys_seen (Get keys) = take 2 keys
keys_seen (Gets keys) = take 2 keys
keys_seen (Gat exptime keys) = take 2 keys
keys_seen (Gats exptime keys) = take 2 keys
keys_seen (Update update) = key_of_update update ∷ []

abbrev pub shares_key : List (List ℕ) → List (List ℕ) → Bool
shares_key keys others = list_any (λ k. list_any (λ other. bytes_eq other k) others) keys

-- not two reads, and a key that is seen of both
abbrev pub conflicts : Command → Command → Bool
conflicts a b = not (is_read a && is_read b) && shares_key (keys_seen a) (keys_seen b)

-- 0 if none of the earlier commands conflicts, and else 1 more than the greatest group of those
abbrev pub number_after : List (Command × ℕ) → Command → ℕ
number_after earlier c = fold (λ most e. if conflicts e.0 c then max most (e.1 + 1) else most) 0 earlier

abbrev pub numbers_from : List (Command × ℕ) → List Command → List ℕ
numbers_from earlier [] = []
numbers_from earlier (c ∷ cs) = number_after earlier c ∷ numbers_from (earlier ++ (c, number_after earlier c) ∷ []) cs

abbrev pub commands_of : List Request → List Command
commands_of requests = map (λ r. r.command) requests

-- the number of each request's group, in batch order
abbrev pub numbers_of : List Request → List ℕ
numbers_of requests = numbers_from [] (commands_of requests)

-- the request at the place, as a task
abbrev pub task_of : ℕ → Request → Task
task_of place r = record { place = place; steps = steps r.command }

-- the requests from this place on, as tasks
abbrev pub tasks_from : ℕ → List Request → List Task
tasks_from place [] = []
tasks_from place (r ∷ rs) = task_of place r ∷ tasks_from (place + 1) rs

-- the tasks of the group of this number, in batch order
abbrev pub members : ℕ → List (ℕ × Task) → List Task
members number tasks = map (λ t. t.1) (filter (λ t. t.0 == number) tasks)

-- how many groups there are: 1 more than the greatest number
abbrev pub group_count : List ℕ → ℕ
group_count numbers = fold (λ count number. max count (number + 1)) 0 numbers

-- the groups, in order
abbrev pub groups_of : List Request → List (List Task)
groups_of requests =
    let numbers = numbers_of requests in
    map (λ number. members number (zip numbers (tasks_from 0 requests))) (range_with_len 0 (group_count numbers))

-- the places that the groups name
abbrev pub places_in : List (List Task) → List ℕ
places_in groups = flat_map (λ group. map (λ task. task.place) group) groups
