use Rattle.std.proofs.Common.{◌≡◌, ℕ, List, ◌++◌, ap, ◌∙◌, subst}
use Rattle.std.proofs.lemmas.Result.{err_from_is_err_and}
use Rattle.items.specs.Map.{Items}
use Rattle.wire.specs.Record.{Always, NoPrefix, Refused}
use Rattle.pages.specs.Page.{Laid}
use Rattle.pages.specs.Form.{layout_of}
use Rattle.pages.specs.declared.layout.Layout.{Layout}
use Rattle.states.specs.Followed.{IsSuccessor}
use Rattle.states.specs.StateRecord.{state_of, changes_text, after_text}
use Rattle.states.proofs.RecordLemmas.{changes_free, no_front, no_items, not_made, made}
use Rattle.states.proofs.state.State.take_current_after.Goals as goal

-- the pages over those before, in a layout
abbrev over : Items → Layout → Items → List ℕ
over before layout m = changes_text layout before m

pub returns-in_err-head : goal.returns-in_err-head
unfolding after_text
returns-in_err-head c =
    let p = err_from_is_err_and c.from_residual.result c.from_residual.ensures.1 in
    rw (p.1, p.2) (no_front (over c.args.before.now.items) (IsSuccessor c.args.before.now c.args.batch.now) c.args.bytes.now (λ s f. f.sessions_fit) c.in_err-head.field-0.0 c.in_err-head.ensures)

pub returns-in_err-pages : goal.returns-in_err-pages
unfolding after_text
returns-in_err-pages c =
    let p = err_from_is_err_and c.from_residual-in_err-pages.result c.from_residual-in_err-pages.ensures.1 in
    let refused = subst (λ (m : Items). Refused c.in_err-pages.field-0.0 (NoPrefix {X = Items} Always (changes_text c.layout_of-layout.result m) c.in_ok-head.rest.now)) c.pages.ensures.items c.in_err-pages.ensures in
    let laid = subst (λ (l : Layout). Refused c.in_err-pages.field-0.0 (NoPrefix {X = Items} Always (changes_text l c.args.before.now.items) c.in_ok-head.rest.now)) c.layout_of-layout.ensures refused in
    rw (p.1, p.2) (no_items (over c.args.before.now.items) (IsSuccessor c.args.before.now c.args.batch.now) c.args.bytes.now Always (λ s f. tt) c.in_ok-head.head c.in_ok-head.sessions c.in_ok-head.rest.now c.in_ok-head.ensures.1
    c.in_err-pages.field-0.0 laid)

pub successor-requires : goal.successor-requires
successor-requires c = ap (λ (s : Laid). s.layout) c.in_ok-sealed.ensures ∙ c.layout_of-layout.ensures

pub returns-in_err-state : goal.returns-in_err-state
unfolding after_text
returns-in_err-state c =
    let p = err_from_is_err_and c.from_residual-in_err-state.result c.from_residual-in_err-state.ensures.1 in
    let more : c.in_ok-head.rest.now ≡ changes_text (layout_of c.in_ok-head.head.origin.form) c.args.before.now.items c.in_ok-pages.pages ++ c.in_ok-pages.rest.now =
    c.in_ok-pages.ensures.1 ∙ (λ i. changes_text (c.layout_of-layout.ensures i) (c.pages.ensures.items i) c.in_ok-pages.pages ++ c.in_ok-pages.rest.now) in
    let refused = subst (λ (s : Laid). Refused c.in_err-state.field-0.0 (IsSuccessor c.args.before.now c.args.batch.now (state_of c.in_ok-head.head c.in_ok-head.sessions s.items) → ⊥)) c.in_ok-sealed.ensures c.in_err-state.ensures in
    rw (p.1, p.2) (not_made (over c.args.before.now.items) (IsSuccessor c.args.before.now c.args.batch.now) c.args.bytes.now (changes_free c.args.before.now.items) c.in_ok-head.head c.in_ok-head.sessions c.in_ok-pages.pages
    c.in_ok-head.rest.now c.in_ok-pages.rest.now c.in_ok-head.ensures.1 more c.in_err-state.field-0.0 refused)

pub returns : goal.returns
unfolding after_text
returns c =
    let more : c.in_ok-head.rest.now ≡ changes_text (layout_of c.in_ok-head.head.origin.form) c.args.before.now.items c.in_ok-pages.pages ++ c.in_ok-pages.rest.now =
    c.in_ok-pages.ensures.1 ∙ (λ i. changes_text (c.layout_of-layout.ensures i) (c.pages.ensures.items i) c.in_ok-pages.pages ++ c.in_ok-pages.rest.now) in (
      c.in_ok-state.ensures.0,
      made (over c.args.before.now.items) (IsSuccessor c.args.before.now c.args.batch.now) c.args.bytes.now (changes_free c.args.before.now.items) c.in_ok-head.head c.in_ok-head.sessions c.in_ok-pages.pages c.in_ok-head.rest.now
          c.in_ok-pages.rest.now c.in_ok-head.ensures.1 more c.in_ok-state.state (c.in_ok-state.ensures.1 ∙ ap (λ (s : Laid). state_of c.in_ok-head.head c.in_ok-head.sessions s.items) c.in_ok-sealed.ensures),
    )
