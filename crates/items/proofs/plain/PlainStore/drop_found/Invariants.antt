use Rattle.std.proofs.Common.{◌≡◌, ◌≢◌, ◌≤◌, ◌+◌, length}
use Rattle.std.specs.FinMap as map
use Rattle.items.specs.Map.{alive}
use Rattle.items.proofs.plain.PlainStore.drop_found.Given as goal

-- something is due still, what is left then is the same, and each look after the first found an item that was dropped
abbrev pub invariant-loop-single : goal.invariant-loop-single
invariant-loop-single l = (alive l.self l.moment ≡ alive l.fn.self l.moment) × ((alive l.self l.moment ≢ l.self) × (l.looks + length (map.entries l.self) ≤ l.fn.looks + length (map.entries l.fn.self)))
