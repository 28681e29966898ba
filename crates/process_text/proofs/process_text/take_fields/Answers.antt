use Rattle.std.proofs.Common.{◌≡◌, true, false, refl, sym, ◌∙◌}
use Rattle.std.proofs.lemmas.Result.{err_from_is_err_and}
use Rattle.process_text.proofs.TextLemmas.{executors_fit, verifiers_fit, proxies_fit, no_fields, is_text, no_text}
use Rattle.process_text.proofs.process_text.take_fields.Goals as goal

pub returns-in_err-fields : goal.returns-in_err-fields
returns-in_err-fields c =
    let p = err_from_is_err_and c.from_residual.result c.from_residual.ensures.1 in
    rw (p.1, p.2) (no_fields _ _ c.args.bytes.now (λ t f. (((((tt, tt), f.sessions), executors_fit t f), verifiers_fit t f), proxies_fit t f)) (λ t. refl) c.in_err-fields.field-0.0 c.in_err-fields.ensures)

pub returns-then-is_process : goal.returns-then-is_process
returns-then-is_process c = (c.is_process.ensures.0 c.if-is_process.true, is_text c.args.bytes.now c.in_ok-fields.rest.now _ c.in_ok-fields.ensures.1)

pub returns : goal.returns
returns c = no_text c.args.bytes.now c.in_ok-fields.rest.now _ c.in_ok-fields.ensures.1 (λ f. let clash : false ≡ true = sym c.if-is_process.false ∙ c.is_process.ensures.1 f in absurd (cc clash))
