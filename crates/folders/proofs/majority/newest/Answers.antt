use Rattle.std.proofs.Common.{◌≡◌, ℕ, ◌<◌, arith, subst, length, None}
use Rattle.std.specs.Prelude.{get_or, count_by, is_some}
use Rattle.folders.specs.Folders.{IsNewestOf}
use Rattle.folders.proofs.NewestLemmas.{none_counts}
use Rattle.folders.proofs.majority.newest.Goals as goal

pub returns-in-None-clause-majority : goal.returns-in-None-clause-majority
returns-in-None-clause-majority c =
    let none : (k : ℕ) → k < length c.args.stamps.now → get_or c.args.stamps.now k None ≡ None = subst (IsNewestOf c.args.stamps.now (length c.args.stamps.now)) c.in-None.is c.newest_read.ensures in
    let zero : count_by is_some c.args.stamps.now ≡ 0 = none_counts c.args.stamps.now none in
    (λ never. cc, λ most. absurd (omega (arith, zero, most)))
