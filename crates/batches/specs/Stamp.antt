-- The stamps of a batch's requests: the uniques of what they store.
use Rattle.std.specs.Prelude.{ℕ, ◌*◌}
use Rattle.batches.specs.declared.batch.TheConstants.{MOST_REQUESTS}

-- the stamp of the first request of the batch of this number; each other one has one more than the one before it
abbrev pub first_stamp : ℕ → ℕ
first_stamp n = MOST_REQUESTS * n
