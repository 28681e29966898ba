-- No encoding of a parcel is a prefix of another, nor one of its parts.
use Rattle.std.proofs.Common.{refl}
use Rattle.std.specs.Int.{w8}
use Rattle.wire.specs.Record.{IsPrefixFree}
use Rattle.wire.specs.NumberLaws.{num_prefix_free, wide8}
use Rattle.wire.specs.SessionLaws.{sessions_prefix_free}
use Rattle.wire.specs.FieldLaws.{list_prefix_free}
use Rattle.wire.specs.RowLaws.{followed, made_of}
use Rattle.pages.specs.LayoutLaws.{laid_record_free}
use Rattle.states.specs.HeadProofs.{origin_prefix_free}
use Rattle.transfer.specs.Parcel.{numbered_text, parcel_text}

pub numbered_prefix_free : IsPrefixFree numbered_text
numbered_prefix_free = followed (num_prefix_free w8 wide8) laid_record_free

pub parcel_prefix_free : IsPrefixFree parcel_text
parcel_prefix_free = made_of
    (followed (followed origin_prefix_free sessions_prefix_free) (list_prefix_free numbered_text numbered_prefix_free))
    parcel_text
    (λ p. ((p.origin, p.sessions), p.pages))
    (λ p. record { origin = p.0.0; sessions = p.0.1; pages = p.1 })
    (λ p. refl)
    (λ p. refl)
