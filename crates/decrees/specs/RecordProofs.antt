-- A decree is identified by its text, and so is what stands: the proofs.
use Rattle.std.proofs.Common.{◌≡◌, ℕ, List, ◌++◌, refl}
use Rattle.std.specs.Int.{w64}
use Rattle.wire.specs.Record.{IsPrefixFree}
use Rattle.wire.specs.Number.{num, fixed}
use Rattle.wire.specs.FrontLaws.{tail_of}
use Rattle.wire.specs.FieldLaws.{pair_prefix_free}
use Rattle.wire.specs.NumberLaws.{num_prefix_free, wide64}
use Rattle.wire.specs.KeyLaws.{fixed_prefix_free}
use Rattle.wire.specs.RowLaws.{made_of, followed, u64_free}
use Rattle.token.specs.TokenLaws.{token_prefix_free}
use Rattle.decrees.specs.declared.decree.Decree.{Decree}
use Rattle.decrees.specs.declared.decree.Decree.TheVariants.{Commit, Rollback}
use Rattle.decrees.specs.Record.{commit_text, decree_text, standing_text, start_text}

pub commit_prefix_free : IsPrefixFree commit_text
commit_prefix_free = pair_prefix_free (num w64) (fixed 32) (num_prefix_free w64 wide64) (fixed_prefix_free 31)

decree_apart : (a b : Decree) (r s : List ℕ) → decree_text a ++ r ≡ decree_text b ++ s → (a ≡ b) × (r ≡ s)
decree_apart Rollback Rollback r s e = (refl, tail_of 0 0 r s e)
decree_apart Rollback (Commit m b) r s e = absurd (cc e)
decree_apart (Commit n a) Rollback r s e = absurd (cc e)
decree_apart (Commit n a) (Commit m b) r s e =
    let both = commit_prefix_free.apart (n, a.0) (m, b.0) r s (tail_of 1 1 _ _ e) in
    ((λ i. Commit (both.0 i).0 (record { 0 = (both.0 i).1 })), both.1)

pub decree_prefix_free : IsPrefixFree decree_text
decree_prefix_free = record { apart = decree_apart }

pub standing_prefix_free : IsPrefixFree standing_text
standing_prefix_free =
    made_of (followed (followed (followed u64_free token_prefix_free) u64_free) u64_free) standing_text
    (λ st. (((st.n, st.token), st.epoch), st.start)) (λ row. record { n = row.0.0.0; token = row.0.0.1; epoch = row.0.1; start = row.1 }) (λ st. refl) (λ st. refl)

pub start_prefix_free : IsPrefixFree start_text
start_prefix_free =
    made_of (followed u64_free standing_prefix_free) start_text
    (λ start. (start.place, start.standing)) (λ row. record { place = row.0; standing = row.1 }) (λ start. refl) (λ start. refl)
