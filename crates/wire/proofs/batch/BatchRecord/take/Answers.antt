use Rattle.std.proofs.Common.{rules, arith, refl, ◌≤◌, ◌∙◌, ap, ◌∷◌, List, ℕ, length}
use Rattle.std.proofs.lemmas.Result.{err_from_is_err_and}
use Rattle.batches.specs.declared.batch.Batch.{Batch}
use Rattle.wire.specs.Record.{Always}
use Rattle.wire.specs.Batch.{batch_text}
use Rattle.wire.specs.BatchLaws.{Row, batch_row_free}
use Rattle.wire.proofs.Rows.{no_marked_row, no_value}
use Rattle.wire.proofs.batch.BatchRecord.take.Goals as goal

abbrev row_of : Batch → Row
row_of b = (((b.epoch, b.n), b.moment), b.requests)

pub returns-in_err-row : goal.returns-in_err-row
unfolding batch_text
returns-in_err-row c =
    let p = err_from_is_err_and c.from_residual-in_err-row.result c.from_residual-in_err-row.ensures.1 in
    rw (p.1, p.2) (no_marked_row Always batch_text _ _ (λ b. (((b.epoch, b.n), b.moment), b.requests)) 4 c.args.bytes.now c.in_ok-rest.rest.now c.in_ok-rest.ensures.ok
    (λ b f. (((tt, tt), tt), record { count = omega (arith, b.few); each = λ k d lt. tt })) (λ b. refl) c.in_err-row.field-0.0 c.in_err-row.ensures)

pub returns-then-n-eq0 : goal.returns-then-n-eq0
unfolding batch_text
returns-then-n-eq0 c =
    no_value batch_row_free batch_text row_of (λ b. refl) c.args.bytes.now c.in_ok-row.row c.in_ok-row.rest.now
    (c.in_ok-rest.ensures.ok ∙ ap (λ (t : List ℕ). 4 ∷ t) c.in_ok-row.ensures.1)
    (λ b e. omega (arith, b.first, ap (λ (x : Row). x.0.0.1) e))

pub returns-then-n-gt-GREATEST_NUMBER : goal.returns-then-n-gt-GREATEST_NUMBER
unfolding batch_text
returns-then-n-gt-GREATEST_NUMBER c =
    no_value batch_row_free batch_text row_of (λ b. refl) c.args.bytes.now c.in_ok-row.row c.in_ok-row.rest.now
    (c.in_ok-rest.ensures.ok ∙ ap (λ (t : List ℕ). 4 ∷ t) c.in_ok-row.ensures.1)
    (λ b e. omega (arith, b.last, ap (λ (x : Row). x.0.0.1) e))

pub returns-then-len-gt-MOST_REQUESTS : goal.returns-then-len-gt-MOST_REQUESTS
unfolding batch_text
returns-then-len-gt-MOST_REQUESTS c =
    let many : 65 ≤ length c.in_ok-row.row.1 = search rules in
    no_value batch_row_free batch_text row_of (λ b. refl) c.args.bytes.now c.in_ok-row.row c.in_ok-row.rest.now
    (c.in_ok-rest.ensures.ok ∙ ap (λ (t : List ℕ). 4 ∷ t) c.in_ok-row.ensures.1)
    (λ b e. omega (arith, many, b.few, ap (λ (x : Row). length x.1) e))
