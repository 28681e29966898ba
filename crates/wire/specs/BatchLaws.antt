-- No batch is a prefix of another.
use Rattle.std.proofs.Common.{ℕ, ◌≤◌, List, ◌∷◌, ◌++◌, length, refl}
use Rattle.std.proofs.Props.{props}
use Rattle.std.specs.Int.{w32, w64}
use Rattle.sessions.specs.declared.request.Request.{Request}
use Rattle.batches.specs.declared.batch.TheConstants.{MOST_REQUESTS, GREATEST_NUMBER}
use Rattle.wire.specs.Record.{IsPrefixFree}
use Rattle.wire.specs.Number.{num}
use Rattle.wire.specs.Field.{list_text}
use Rattle.wire.specs.Batch.{batch_text}
use Rattle.wire.specs.Command.{request_text}
use Rattle.wire.specs.FieldLaws.{list_prefix_free}
use Rattle.wire.specs.CommandLaws.{request_prefix_free}
use Rattle.wire.specs.RowLaws.{u32_free, u64_free, followed, made_within, marked}

-- the fields of a batch
abbrev pub Row : Type 0
Row = ((ℕ × ℕ) × ℕ) × List Request

abbrev pub batch_row : Row → List ℕ
batch_row p = 4 ∷ (num w64 p.0.0.0 ++ num w64 p.0.0.1 ++ num w32 p.0.1 ++ list_text request_text p.1)

pub batch_row_free : IsPrefixFree batch_row
batch_row_free = marked 4 (followed (followed (followed u64_free u64_free) u32_free) (list_prefix_free request_text request_prefix_free))

abbrev AreWithin : Row → Type 0
AreWithin p = (1 ≤ p.0.0.1) × (p.0.0.1 ≤ GREATEST_NUMBER) × (length p.1 ≤ MOST_REQUESTS)

pub batch_prefix_free : IsPrefixFree batch_text
unfolding batch_text
batch_prefix_free = made_within {limits = AreWithin}
    batch_row_free
    (λ (p : Row). hlevel props)
    batch_text
    (λ b. (((b.epoch, b.n), b.moment), b.requests))
    (λ b. (b.first, b.last, b.few))
    (λ p limits. record { epoch = p.0.0.0; n = p.0.0.1; moment = p.0.1; requests = p.1; first = limits.0; last = limits.1; few = limits.2 })
    (λ b. refl)
    (λ b. refl)
