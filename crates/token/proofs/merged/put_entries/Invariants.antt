use Rattle.std.proofs.Common.{◌≡◌, ℕ, List, length, take, drop}
use Rattle.std.specs.List.{flat_map}
use Rattle.items.specs.declared.item.Item.{Item}
use Rattle.wire.specs.Item.{entry_text}
use Rattle.wire.specs.Record.{Puts}
use Rattle.token.specs.Merged.{AreParts, lent}
use Rattle.token.proofs.merged.put_entries.Given as goal

-- of any such page the first entries are written, and the parts are those of the others
abbrev pub invariant-loop : goal.invariant-loop
invariant-loop g l = (class : List ℕ → ℕ) (whole : List (List ℕ × Item)) → AreParts class whole (lent l.fn.parts) → length whole ≡ l.count
    → AreParts class (drop l.counter whole) (lent l.left) × Puts g.S.Sink.holds (flat_map entry_text (take l.counter whole)) l.fn.sink l.sink
