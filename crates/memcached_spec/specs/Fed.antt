-- What events bring from outside: the bytes of each client, and the moments of cuts.
use Rattle.std.specs.Prelude.{ℕ, ◌==◌, List, [], flat_map, Contains, if◌then◌else◌}
use Rattle.events.specs.declared.event.Event.{Event}
use Rattle.events.specs.declared.event.Event.TheVariants.{Feed, Again, Hangup, Deliver, Cut, Step, Finish, Suspect, Trim, Crash, Restart, Lost, FailSave}

-- the bytes that one event feeds to the client of this number
abbrev pub fed_by : ℕ → Event → List ℕ
fed_by client (Feed c bytes) = if c == client then bytes.items else []
fed_by client (Again c) = []
fed_by client (Hangup c) = []
fed_by client (Deliver letter) = []
fed_by client (Cut executor moment) = []
fed_by client (Step executor place) = []
fed_by client (Finish executor) = []
fed_by client (Suspect verifier) = []
fed_by client (Trim verifier place) = []
fed_by client (Crash replica) = []
fed_by client (Restart replica) = []
fed_by client (Lost replica) = []
fed_by client (FailSave replica) = []

-- all bytes that are fed to it, in order
abbrev pub fed_to : ℕ → List Event → List ℕ
fed_to client events = flat_map (fed_by client) events

-- an executor is to cut a batch at this moment
abbrev pub IsMoment : List Event → ℕ → Type 0
IsMoment events moment = (executor : ℕ) × Contains events (Cut executor moment)
