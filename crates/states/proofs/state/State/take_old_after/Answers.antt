use Rattle.std.proofs.Common.{◌≡◌, ◌++◌, sym, ap, ◌∙◌, subst}
use Rattle.std.proofs.lemmas.Bool.{false≢true}
use Rattle.std.proofs.lemmas.Result.{err_from_is_err_and}
use Rattle.items.specs.Map.{Items}
use Rattle.wire.specs.Record.{NoPrefix, Refused}
use Rattle.wire.proofs.Values.{Refused-weaker}
use Rattle.token.specs.declared.form.Form.TheVariants.{Old}
use Rattle.token.specs.declared.form.TheConstants.{OLD_BLOCK_BYTES}
use Rattle.pages.specs.Page.{Laid}
use Rattle.pages.specs.Form.{HasTexts, layout_of}
use Rattle.states.specs.State.{StateView}
use Rattle.states.specs.Followed.{IsSuccessor}
use Rattle.states.specs.StateRecord.{state_of}
use Rattle.states.specs.Within.{RepliesWithin}
use Rattle.states.specs.OldRecord.{old_changes_text, old_after_text, IsOldSuccessor}
use Rattle.states.proofs.OldRecordLemmas.{old_changes_free}
use Rattle.states.proofs.OldStateLemmas.{no_old_front, no_old_items, not_made_old, made_old}
use Rattle.states.proofs.state.State.take_old_after.Goals as goal

pub returns-then-not-has_blocks_within : goal.returns-then-not-has_blocks_within
returns-then-not-has_blocks_within c = record {
  none = λ v after f here. false≢true (sym c.if-not-has_blocks_within.true ∙ c.has_blocks_within.ensures.1 f.blocks);
}

pub returns-in_err-head : goal.returns-in_err-head
unfolding old_after_text
returns-in_err-head c =
    let p = err_from_is_err_and c.from_residual.result c.from_residual.ensures.1 in
    rw (p.1, p.2) (no_old_front (old_changes_text c.args.before.now.items) (IsOldSuccessor c.args.before.now c.args.batch.now) (λ s f. f.old) c.args.bytes.now (λ s f. f.follows.sessions_fit) (λ s f. f.replies) c.in_err-head.field-0.0 c.in_err-head.ensures)

pub returns-in_err-pages : goal.returns-in_err-pages
unfolding old_after_text
returns-in_err-pages c =
    let p = err_from_is_err_and c.from_residual-in_err-pages.result c.from_residual-in_err-pages.ensures.1 in
    let refused = subst (λ (m : Items). Refused c.in_err-pages.field-0.0 (NoPrefix {X = Items} (HasTexts Old) (old_changes_text m) c.in_ok-head.rest.now)) c.pages.ensures.items c.in_err-pages.ensures in
    rw (p.1, p.2) (no_old_items (old_changes_text c.args.before.now.items) (IsOldSuccessor c.args.before.now c.args.batch.now) (λ s f. f.old) c.args.bytes.now c.in_ok-head.head c.in_ok-head.sessions c.in_ok-head.rest.now
    c.in_ok-head.ensures.0.0 c.in_ok-head.ensures.1 (λ s f. f.follows.form_fit) c.in_err-pages.field-0.0 refused)

pub successor-requires : goal.successor-requires
successor-requires c = ap (λ (s : Laid). s.layout) c.in_ok-sealed.ensures ∙ sym (ap layout_of c.in_ok-head.ensures.0.0)

pub returns-in_err-state : goal.returns-in_err-state
unfolding old_after_text
returns-in_err-state c =
    let p = err_from_is_err_and c.from_residual-in_err-state.result c.from_residual-in_err-state.ensures.1 in
    let more : c.in_ok-head.rest.now ≡ old_changes_text c.args.before.now.items c.in_ok-pages.pages ++ c.in_ok-pages.rest.now =
    c.in_ok-pages.ensures.1 ∙ ap (λ (m : Items). old_changes_text m c.in_ok-pages.pages ++ c.in_ok-pages.rest.now) c.pages.ensures.items in
    rw (p.1, p.2) (not_made_old (old_changes_text c.args.before.now.items) (IsOldSuccessor c.args.before.now c.args.batch.now) (λ s f. f.old) c.args.bytes.now c.in_ok-head.head c.in_ok-head.sessions c.in_ok-head.rest.now
    c.in_ok-head.ensures.0.0 c.in_ok-head.ensures.1 (old_changes_free c.args.before.now.items) c.in_ok-pages.pages c.in_ok-pages.rest.now more c.in_err-state.field-0.0
    (Refused-weaker c.in_err-state.field-0.0 (λ none f. none f.follows) (subst (λ (s : Laid). Refused c.in_err-state.field-0.0 (IsSuccessor c.args.before.now c.args.batch.now (state_of c.in_ok-head.head c.in_ok-head.sessions s.items) → ⊥)) c.in_ok-sealed.ensures c.in_err-state.ensures)))

pub returns : goal.returns
unfolding old_after_text
returns c =
    let more : c.in_ok-head.rest.now ≡ old_changes_text c.args.before.now.items c.in_ok-pages.pages ++ c.in_ok-pages.rest.now =
    c.in_ok-pages.ensures.1 ∙ ap (λ (m : Items). old_changes_text m c.in_ok-pages.pages ++ c.in_ok-pages.rest.now) c.pages.ensures.items in
    let made = made_old (old_changes_text c.args.before.now.items) (IsOldSuccessor c.args.before.now c.args.batch.now) (λ s f. f.old) c.args.bytes.now c.in_ok-head.head c.in_ok-head.sessions c.in_ok-head.rest.now
    c.in_ok-head.ensures.0.0 c.in_ok-head.ensures.1 (old_changes_free c.args.before.now.items) c.in_ok-pages.pages c.in_ok-pages.rest.now more c.in_ok-state.state (c.in_ok-state.ensures.1 ∙ ap (λ (s : Laid). state_of c.in_ok-head.head c.in_ok-head.sessions s.items) c.in_ok-sealed.ensures) in
    let replies = subst (λ (s : StateView). RepliesWithin OLD_BLOCK_BYTES s.sessions) (sym c.in_ok-state.ensures.1) c.in_ok-head.ensures.0.2 in
    (record { follows = c.in_ok-state.ensures.0; old = made.0; blocks = c.has_blocks_within.ensures.0 c.if-not-has_blocks_within.false; replies = replies }, made.1)
