-- No version is a prefix of another.
use Rattle.std.proofs.Common.{◌≡◌, ℕ, List, ◌++◌, refl, ap}
use Rattle.wire.specs.Record.{IsPrefixFree}
use Rattle.wire.specs.FrontLaws.{tail_of, head_of}
use Rattle.states.specs.declared.version.Version.{Version}
use Rattle.states.specs.declared.version.Version.TheVariants.{First, Second}
use Rattle.states.specs.Version.{version_text}

pub version_prefix_free : IsPrefixFree version_text
version_prefix_free = record { apart = apart }
  where
    apart : (v w : Version) (r s : List ℕ) → version_text v ++ r ≡ version_text w ++ s → (v ≡ w) × (r ≡ s)
    apart First First r s e = (refl, tail_of 1 1 r s e)
    apart Second Second r s e = (refl, tail_of 2 2 r s e)
    apart First Second r s e = absurd (let marks : 1 ≡ 2 = ap head_of e in cc)
    apart Second First r s e = absurd (let marks : 2 ≡ 1 = ap head_of e in cc)
