use Rattle.std.proofs.Common.{ℕ, List, ◌++◌, ap, ◌∙◌, subst, append_assoc}
use Rattle.std.proofs.lemmas.Result.{on_ok_weaker}
use Rattle.wire.specs.Session.{sessions_text}
use Rattle.pages.specs.Form.{layout_of}
use Rattle.states.specs.StateRecord.{head_text, head_of_state, flagged_text, changes_text, after_text}
use Rattle.states.proofs.PageTextLemmas.{flagged_is}
use Rattle.states.proofs.state.State.put_after.Goals as goal

pub returns : goal.returns
unfolding after_text
returns g c = λ before are.
    let s = c.args.self.now in
    let changed = c.args.changed.now in
    let head = head_text (head_of_state s) in
    let sessions = sessions_text s.sessions in
    let changes = changes_text (layout_of s.form) before s.items in
    on_ok_weaker c.put_changes.result (λ written front held.
    subst (g.S.Sink.holds c.put_changes.new.sink)
    ((λ i. ((front ++ head_text (c.head.ensures i)) ++ sessions) ++ flagged_text (c.pages.ensures.laid i) changed (c.pages.ensures.items i))
    ∙ ap (λ t. ((front ++ head) ++ sessions) ++ t) (flagged_is (layout_of s.form) changed before s.items are)
    ∙ ap (λ t. t ++ changes) (append_assoc front head sessions) ∙ append_assoc front (head ++ sessions) changes)
    (written _ (c.in_ok-put_sessions.ensures _ (c.in_ok-put.ensures front held)))) c.put_changes.ensures
