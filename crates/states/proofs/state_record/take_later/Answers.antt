use Rattle.std.proofs.Common.{◌≡◌, ◌++◌, ap, ◌∙◌, subst}
use Rattle.std.proofs.lemmas.Result.{err_from_is_err_and}
use Rattle.items.specs.Map.{Items}
use Rattle.wire.specs.Record.{Always, NoPrefix, Refused}
use Rattle.pages.specs.Page.{Laid}
use Rattle.pages.specs.Form.{layout_of}
use Rattle.pages.specs.declared.layout.Layout.{Layout}
use Rattle.states.specs.StateRecord.{IsLaterState, state_of, pages_text, state_text}
use Rattle.states.proofs.RecordLemmas.{pages_free, no_front, no_items, not_made, made}
use Rattle.states.proofs.state_record.take_later.Goals as goal

pub returns-in_err-head : goal.returns-in_err-head
unfolding state_text
returns-in_err-head c =
    let p = err_from_is_err_and c.from_residual.result c.from_residual.ensures.1 in
    rw (p.1, p.2) (no_front pages_text IsLaterState c.args.bytes.now (λ s f. f.state.sessions_fit) c.in_err-head.field-0.0 c.in_err-head.ensures)

pub returns-in_err-pages : goal.returns-in_err-pages
unfolding state_text
returns-in_err-pages c =
    let p = err_from_is_err_and c.from_residual-in_err-pages.result c.from_residual-in_err-pages.ensures.1 in
    let refused = subst (λ (l : Layout). Refused c.in_err-pages.field-0.0 (NoPrefix {X = Items} Always (pages_text l) c.in_ok-head.rest.now)) c.layout_of-layout.ensures c.in_err-pages.ensures in
    rw (p.1, p.2) (no_items pages_text IsLaterState c.args.bytes.now Always (λ s f. tt) c.in_ok-head.head c.in_ok-head.sessions c.in_ok-head.rest.now c.in_ok-head.ensures.1 c.in_err-pages.field-0.0 refused)

pub later-requires : goal.later-requires
later-requires c = ap (λ (s : Laid). s.layout) c.in_ok-sealed.ensures ∙ c.layout_of-layout.ensures

pub returns-in_err-state : goal.returns-in_err-state
unfolding state_text
returns-in_err-state c =
    let p = err_from_is_err_and c.from_residual-in_err-state.result c.from_residual-in_err-state.ensures.1 in
    let more : c.in_ok-head.rest.now ≡ pages_text (layout_of c.in_ok-head.head.origin.form) c.in_ok-pages.pages ++ c.in_ok-pages.rest.now =
    c.in_ok-pages.ensures.1 ∙ ap (λ (l : Layout). pages_text l c.in_ok-pages.pages ++ c.in_ok-pages.rest.now) c.layout_of-layout.ensures in
    let refused = subst (λ (s : Laid). Refused c.in_err-state.field-0.0 (IsLaterState (state_of c.in_ok-head.head c.in_ok-head.sessions s.items) → ⊥)) c.in_ok-sealed.ensures c.in_err-state.ensures in
    rw (p.1, p.2) (not_made pages_text IsLaterState c.args.bytes.now pages_free c.in_ok-head.head c.in_ok-head.sessions c.in_ok-pages.pages c.in_ok-head.rest.now c.in_ok-pages.rest.now
    c.in_ok-head.ensures.1 more c.in_err-state.field-0.0 refused)

pub returns : goal.returns
unfolding state_text
returns c =
    let more : c.in_ok-head.rest.now ≡ pages_text (layout_of c.in_ok-head.head.origin.form) c.in_ok-pages.pages ++ c.in_ok-pages.rest.now =
    c.in_ok-pages.ensures.1 ∙ ap (λ (l : Layout). pages_text l c.in_ok-pages.pages ++ c.in_ok-pages.rest.now) c.layout_of-layout.ensures in (
      c.in_ok-state.ensures.0,
      made pages_text IsLaterState c.args.bytes.now pages_free c.in_ok-head.head c.in_ok-head.sessions c.in_ok-pages.pages c.in_ok-head.rest.now c.in_ok-pages.rest.now c.in_ok-head.ensures.1 more
          c.in_ok-state.state (c.in_ok-state.ensures.1 ∙ ap (λ (s : Laid). state_of c.in_ok-head.head c.in_ok-head.sessions s.items) c.in_ok-sealed.ensures),
    )
