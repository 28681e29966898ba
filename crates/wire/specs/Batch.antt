-- Batches.
use Rattle.std.specs.Prelude.{ℕ, List, ◌∷◌, ◌++◌}
use Rattle.std.specs.Int.{w32, w64}
use Rattle.batches.specs.declared.batch.Batch.{Batch}
use Rattle.wire.specs.Number.{num}
use Rattle.wire.specs.Field.{list_text}
use Rattle.wire.specs.Command.{request_text}

unfoldable pub batch_text : Batch → List ℕ
batch_text b = 4 ∷ (num w64 b.epoch ++ num w64 b.n ++ num w32 b.moment ++ list_text request_text b.requests)
