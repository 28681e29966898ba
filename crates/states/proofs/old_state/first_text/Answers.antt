use Rattle.std.proofs.Common.{[], ◌++◌, sym, ap, ◌∙◌}
use Rattle.wire.specs.Session.{sessions_text}
use Rattle.states.specs.StateRecord.{old_head_text}
use Rattle.states.specs.OldRecord.{old_pages_text, old_state_text}
use Rattle.states.proofs.OldStateLemmas.{no_pages}
use Rattle.states.proofs.old_state.first_text.Goals as goal

pub returns : goal.returns
unfolding old_state_text
returns c =
    let pages = sym no_pages ∙ ap (λ s. old_pages_text s.items) (sym c.requires) in
    c.in_ok-put.ensures _ (c.in_ok-put_sessions.ensures _ (c.in_ok-put_old.ensures [] c.new-text.ensures.items))
    ∙ (λ i. (old_head_text (c.head.ensures i) ++ sessions_text c.args.first.now.sessions) ++ pages i)
