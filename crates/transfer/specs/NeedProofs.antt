-- No encoding of a need is a prefix of another.
use Rattle.std.proofs.Common.{refl}
use Rattle.wire.specs.Record.{IsPrefixFree}
use Rattle.wire.specs.Number.{fixed}
use Rattle.wire.specs.KeyLaws.{fixed_prefix_free}
use Rattle.wire.specs.FieldLaws.{list_prefix_free}
use Rattle.wire.specs.RowLaws.{u64_free, followed, made_of}
use Rattle.transfer.specs.Need.{need_text}

pub need_prefix_free : IsPrefixFree need_text
need_prefix_free = made_of
    (followed u64_free (list_prefix_free (fixed 32) (fixed_prefix_free 31)))
    need_text
    (λ q. (q.number, q.digests))
    (λ p. record { number = p.0; digests = p.1 })
    (λ q. refl)
    (λ q. refl)
