use Rattle.std.proofs.Common.{◌≡◌, false, true, refl, sym, ◌∙◌, arith, rules}
use Rattle.std.specs.Ordering.{nat_cmp}
use Rattle.std.specs.FinMap.{is_sorted}
use Rattle.std.proofs.lemmas.Result.{err_from_is_err_and}
use Rattle.wire.proofs.Rows.{no_row, unfit}
use Rattle.transfer.specs.Parcel.{AreLaid, IsParcel, parcel_text}
use Rattle.transfer.specs.ParcelProofs.{parcel_prefix_free}
use Rattle.transfer.proofs.parcel.ParcelRecord.take.Goals as goal

pub returns-in_err-row : goal.returns-in_err-row
returns-in_err-row c =
    let p = err_from_is_err_and c.from_residual.result c.from_residual.ensures.1 in
    rw (p.1, p.2) (no_row IsParcel parcel_text _ _ (λ p. ((p.origin, p.sessions), p.pages)) c.args.bytes.now
    (λ p f. ((tt, f.sessions_fit), f.pages_fit)) (λ p. refl) c.in_err-row.field-0.0 c.in_err-row.ensures)

pub returns-then-origin-eq0 : goal.returns-then-origin-eq0
returns-then-origin-eq0 c =
    unfit IsParcel parcel_prefix_free c.args.bytes.now (record { origin = c.in_ok-row.row.0.0; sessions = c.in_ok-row.row.0.1; pages = c.in_ok-row.row.1 }) c.in_ok-row.rest.now c.in_ok-row.ensures.1
    (λ f. omega (arith, f.later, c.if-origin-eq0.true))

pub returns-then-origin-gt-GREATEST_NUMBER : goal.returns-then-origin-gt-GREATEST_NUMBER
returns-then-origin-gt-GREATEST_NUMBER c =
    unfit IsParcel parcel_prefix_free c.args.bytes.now (record { origin = c.in_ok-row.row.0.0; sessions = c.in_ok-row.row.0.1; pages = c.in_ok-row.row.1 }) c.in_ok-row.rest.now c.in_ok-row.ensures.1
    (λ f. omega (arith, f.few, c.if-origin-gt-GREATEST_NUMBER.true))

pub returns-then-not-is_rising : goal.returns-then-not-is_rising
returns-then-not-is_rising c =
    let not : is_sorted nat_cmp c.in_ok-row.row.1 ≡ false = search rules in
    unfit IsParcel parcel_prefix_free c.args.bytes.now (record { origin = c.in_ok-row.row.0.0; sessions = c.in_ok-row.row.0.1; pages = c.in_ok-row.row.1 }) c.in_ok-row.rest.now c.in_ok-row.ensures.1
    (λ f. let clash : false ≡ true = sym not ∙ f.rising in absurd (cc clash))

pub returns-then-not-are_laid : goal.returns-then-not-are_laid
returns-then-not-are_laid c =
    let not : c.are_laid.result ≡ false = search rules in
    let read : c.as_slice-2.result.now ≡ c.in_ok-row.row.1 = search rules in
    unfit IsParcel parcel_prefix_free c.args.bytes.now (record { origin = c.in_ok-row.row.0.0; sessions = c.in_ok-row.row.0.1; pages = c.in_ok-row.row.1 }) c.in_ok-row.rest.now c.in_ok-row.ensures.1
    (λ f.
    let laid : AreLaid c.layout_of.result c.as_slice-2.result.now = rw c.layout_of.ensures (rw read f.laid) in
    let clash : false ≡ true = sym not ∙ c.are_laid.ensures.1 laid in
    absurd (cc clash))
