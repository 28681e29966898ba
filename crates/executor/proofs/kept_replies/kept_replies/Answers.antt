use Rattle.std.proofs.Common.{◌∙◌, sym}
use Rattle.std.proofs.lemmas.Result.{err_from_is_err_and}
use Rattle.executor.proofs.ReplyLemmas.{lacks}
use Rattle.executor.proofs.kept_replies.kept_replies.Goals as goal

pub returns-in_err-kept_reply-clause-err : goal.returns-in_err-kept_reply-clause-err
returns-in_err-kept_reply-clause-err c =
    let p = err_from_is_err_and c.from_residual.result c.from_residual.ensures.1 in
    rw (p.1, p.2) (lacks c.args.sessions.now c.args.before.now c.args.requests.now c.loop-place.place c.index-requests-place.result c.loop-place.replies.items c.loop-place-test.true c.index-requests-place.is
    (sym c.runs.ensures ∙ c.if-runs.true) c.loop-place.invariant c.in_err-kept_reply.field-0.0 c.in_err-kept_reply.ensures)
