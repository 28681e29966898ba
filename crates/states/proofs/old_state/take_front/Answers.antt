use Rattle.std.proofs.Common.{refl, sym, ◌∙◌}
use Rattle.std.proofs.lemmas.Bool.{false≢true}
use Rattle.std.proofs.lemmas.Result.{err_from_is_err_and}
use Rattle.wire.proofs.Rows.{no_row}
use Rattle.states.specs.OldRecord.{old_front_text, IsOldFront}
use Rattle.states.proofs.OldStateLemmas.{kept_too_long}
use Rattle.states.proofs.old_state.take_front.Goals as goal

pub returns-in_err-told : goal.returns-in_err-told
returns-in_err-told c =
    let p = err_from_is_err_and c.from_residual.result c.from_residual.ensures.1 in
    rw (p.1, p.2) (no_row IsOldFront old_front_text _ _ (λ f. ((((((f.0.origin.number, f.0.origin.previous), f.0.origin.epoch), f.0.origin.batch), f.0.origin.moment), f.0.token), f.1)) c.args.bytes.now
    (λ f is. ((((((tt, tt), tt), tt), tt), tt), is.1)) (λ f. refl) c.in_err-told.field-0.0 c.in_err-told.ensures)

pub returns-then-not-has_replies_within : goal.returns-then-not-has_replies_within
returns-then-not-has_replies_within c =
    kept_too_long c.args.bytes.now c.in_ok-told.rest.now (c.in_ok-told.told, c.in_ok-told.sessions) c.in_ok-told.ensures.1
    (λ within. false≢true (sym c.if-not-has_replies_within.true ∙ c.has_replies_within.ensures.1 within))
