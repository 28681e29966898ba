use Rattle.std.proofs.Common.{◌≡◌, ◌+◌, true≢false, sym, ap, ◌∙◌}
use Rattle.std.proofs.lemmas.Result.{err_from_is_err_and}
use Rattle.executor.proofs.MemberLemmas.{other_number, no_after, no_reply, same_lack, same_kept, is_over, is_over_in, its_record}
use Rattle.executor.proofs.tentative.Tentative.take.Goals as goal

pub returns-then-batch-number : goal.returns-then-batch-number
returns-then-batch-number c =
    other_number c.args.version c.args.base.now.state c.args.bytes.now c.in_ok-batch.batch c.in_ok-batch.rest.now c.in_ok-batch.ensures.1 (λ e. c.if-batch-number.true (e ∙ ap (λ n. n + 1) (sym c.number.ensures.number)))

pub returns-in_err-after : goal.returns-in_err-after
returns-in_err-after c =
    let p = err_from_is_err_and c.from_residual-in_err-after.result c.from_residual-in_err-after.ensures.1 in
    rw (p.1, p.2) (no_after c.args.version c.args.base.now.state c.args.bytes.now c.in_ok-batch.batch c.in_ok-batch.rest.now c.in_ok-batch.ensures.1 c.in_err-after.field-0.0 c.in_err-after.ensures)

pub returns-in_err-replies : goal.returns-in_err-replies
returns-in_err-replies c =
    let p = err_from_is_err_and c.from_residual-in_err-replies.result c.from_residual-in_err-replies.ensures.1 in
    let before : c.sessions.result.now ≡ c.args.base.now.state.sessions = c.sessions.ensures.sessions ∙ ap (λ b. b.state.sessions) c.in_ok-before.ensures in
    let refused = same_lack c.in_err-replies.field-0.0 c.sessions-2.ensures.sessions before c.as_slice-requests.ensures.items c.in_err-replies.ensures.err in
    rw (p.1, p.2) (no_reply c.args.version c.args.base.now.state c.args.bytes.now c.in_ok-batch.batch c.in_ok-batch.rest.now c.in_ok-batch.ensures.1 c.in_ok-after.after c.in_ok-after.rest.now c.in_ok-after.ensures.1 c.in_ok-after.ensures.0 c.in_err-replies.field-0.0 refused)

pub returns : goal.returns
returns c =
    let before : c.sessions.result.now ≡ c.args.base.now.state.sessions = c.sessions.ensures.sessions ∙ ap (λ b. b.state.sessions) c.in_ok-before.ensures in
    let kept = same_kept c.in_ok-replies.replies.items c.sessions-2.ensures.sessions before c.as_slice-requests.ensures.items c.in_ok-replies.ensures.kept in
    let shared : c.in_ok-before.before.state ≡ c.args.base.now.state = ap (λ b. b.state) c.in_ok-before.ensures in
    let next : c.in_ok-batch.batch.n ≡ c.args.base.now.state.number + 1 = c.if-batch-number.false ∙ ap (λ n. n + 1) c.number.ensures.number in (
      is_over_in c.args.version c.args.base.now.state c.args.bytes.now c.in_ok-batch.batch c.in_ok-batch.rest.now c.in_ok-batch.ensures.1 c.in_ok-after.after c.in_ok-after.rest.now c.in_ok-after.ensures.1 c.in_ok-after.ensures.0 c.in_ok-before.before.state shared c.in_ok-replies.replies.items kept next,
      its_record c.args.version c.args.base.now.state c.args.bytes.now c.in_ok-batch.batch c.in_ok-batch.rest.now c.in_ok-batch.ensures.1 c.in_ok-after.after c.in_ok-after.rest.now c.in_ok-after.ensures.1 c.in_ok-after.ensures.0 c.in_ok-before.before.state shared c.in_ok-replies.replies.items kept,
    )

pub invariant_of-tentative : goal.invariant_of-tentative
invariant_of-tentative c =
    let before : c.sessions.result.now ≡ c.args.base.now.state.sessions = c.sessions.ensures.sessions ∙ ap (λ b. b.state.sessions) c.in_ok-before.ensures in
    let kept = same_kept c.in_ok-replies.replies.items c.sessions-2.ensures.sessions before c.as_slice-requests.ensures.items c.in_ok-replies.ensures.kept in
    let shared : c.in_ok-before.before.state ≡ c.args.base.now.state = ap (λ b. b.state) c.in_ok-before.ensures in
    let next : c.in_ok-batch.batch.n ≡ c.args.base.now.state.number + 1 = c.if-batch-number.false ∙ ap (λ n. n + 1) c.number.ensures.number in
    let over = is_over c.args.version c.args.base.now.state c.args.bytes.now c.in_ok-batch.batch c.in_ok-batch.rest.now c.in_ok-batch.ensures.1 c.in_ok-after.after c.in_ok-after.rest.now c.in_ok-after.ensures.1 c.in_ok-after.ensures.0 c.in_ok-before.before.state shared c.in_ok-replies.replies.items kept next in
    (over.is, λ p below out. absurd (true≢false (sym (c.all.ensures p below) ∙ out)))
