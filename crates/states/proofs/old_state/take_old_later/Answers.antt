use Rattle.std.proofs.Common.{sym, ap, ◌∙◌, subst}
use Rattle.std.proofs.lemmas.Result.{err_from_is_err_and}
use Rattle.pages.specs.Page.{Laid}
use Rattle.pages.specs.Form.{layout_of}
use Rattle.wire.specs.Record.{Refused}
use Rattle.wire.proofs.Values.{Refused-weaker}
use Rattle.token.specs.declared.form.TheConstants.{OLD_BLOCK_BYTES}
use Rattle.states.specs.State.{StateView}
use Rattle.states.specs.StateRecord.{IsLaterState, state_of}
use Rattle.states.specs.Within.{RepliesWithin}
use Rattle.states.specs.OldRecord.{old_pages_text, old_state_text, IsOldLaterState}
use Rattle.states.proofs.OldRecordLemmas.{old_pages_free}
use Rattle.states.proofs.OldStateLemmas.{no_old_front, no_old_items, not_made_old, made_old}
use Rattle.states.proofs.old_state.take_old_later.Goals as goal

pub returns-in_err-head : goal.returns-in_err-head
unfolding old_state_text
returns-in_err-head c =
    let p = err_from_is_err_and c.from_residual.result c.from_residual.ensures.1 in
    rw (p.1, p.2) (no_old_front old_pages_text IsOldLaterState (λ s f. f.old) c.args.bytes.now (λ s f. f.later.state.sessions_fit) (λ s f. f.replies) c.in_err-head.field-0.0 c.in_err-head.ensures)

pub returns-in_err-pages : goal.returns-in_err-pages
unfolding old_state_text
returns-in_err-pages c =
    let p = err_from_is_err_and c.from_residual-in_err-pages.result c.from_residual-in_err-pages.ensures.1 in
    rw (p.1, p.2) (no_old_items old_pages_text IsOldLaterState (λ s f. f.old) c.args.bytes.now c.in_ok-head.head c.in_ok-head.sessions c.in_ok-head.rest.now c.in_ok-head.ensures.0.0 c.in_ok-head.ensures.1
    (λ s f. f.later.state.form_fit) c.in_err-pages.field-0.0 c.in_err-pages.ensures)

pub later-requires : goal.later-requires
later-requires c = ap (λ (s : Laid). s.layout) c.in_ok-sealed.ensures ∙ sym (ap layout_of c.in_ok-head.ensures.0.0)

pub returns-in_err-state : goal.returns-in_err-state
unfolding old_state_text
returns-in_err-state c =
    let p = err_from_is_err_and c.from_residual-in_err-state.result c.from_residual-in_err-state.ensures.1 in
    let refused = subst (λ (s : Laid). Refused c.in_err-state.field-0.0 (IsLaterState (state_of c.in_ok-head.head c.in_ok-head.sessions s.items) → ⊥)) c.in_ok-sealed.ensures c.in_err-state.ensures in
    rw (p.1, p.2) (not_made_old old_pages_text IsOldLaterState (λ s f. f.old) c.args.bytes.now c.in_ok-head.head c.in_ok-head.sessions c.in_ok-head.rest.now c.in_ok-head.ensures.0.0 c.in_ok-head.ensures.1 old_pages_free
    c.in_ok-pages.pages c.in_ok-pages.rest.now c.in_ok-pages.ensures.1 c.in_err-state.field-0.0 (Refused-weaker c.in_err-state.field-0.0 (λ not_later f. not_later f.later) refused))

pub returns : goal.returns
unfolding old_state_text
returns c =
    let made = made_old old_pages_text IsOldLaterState (λ s f. f.old) c.args.bytes.now c.in_ok-head.head c.in_ok-head.sessions c.in_ok-head.rest.now c.in_ok-head.ensures.0.0 c.in_ok-head.ensures.1 old_pages_free
    c.in_ok-pages.pages c.in_ok-pages.rest.now c.in_ok-pages.ensures.1 c.in_ok-state.state (c.in_ok-state.ensures.1 ∙ ap (λ (s : Laid). state_of c.in_ok-head.head c.in_ok-head.sessions s.items) c.in_ok-sealed.ensures) in
    let replies = subst (λ (s : StateView). RepliesWithin OLD_BLOCK_BYTES s.sessions) (sym c.in_ok-state.ensures.1) c.in_ok-head.ensures.0.2 in
    (record { later = c.in_ok-state.ensures.0; old = made.0; replies = replies }, made.1)
