-- The list in which the digests of clients are kept.
use Rattle.std.specs.Prelude.{ℕ, List, Option, Some, None, not}
use Rattle.std.specs.Ordering.{nat_cmp, eq_by_cmp}
use Rattle.std.specs.FinMap.{put}
use Rattle.std.specs.FinMap.Entries.{where_key}

-- what the other clients have
abbrev pub without : ℕ → List (ℕ × List ℕ) → List (ℕ × List ℕ)
without client digests = where_key nat_cmp (λ other. not (eq_by_cmp nat_cmp client other)) digests

-- the client has this digest, or none
abbrev pub with_digest : ℕ → Option (List ℕ) → List (ℕ × List ℕ) → List (ℕ × List ℕ)
with_digest client (Some digest) digests = put nat_cmp client digest digests
with_digest client None digests = without client digests
