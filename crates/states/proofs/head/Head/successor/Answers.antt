use Rattle.std.proofs.Common.{sym, ap, ◌∙◌}
use Rattle.std.proofs.lemmas.Bool.{false≢true}
use Rattle.states.specs.StateRecord.{head_of_state, state_of}
use Rattle.states.specs.Followed.{state_after_in}
use Rattle.states.proofs.FollowedLemmas.{follows_of}
use Rattle.states.proofs.head.Head.successor.Goals as goal

pub returns-then-not-is_same : goal.returns-then-not-is_same
returns-then-not-is_same c = λ f.
    let followed = c.followed_in-state.ensures.followed ∙ ap (λ sessions. state_after_in c.args.self.now.origin.form c.args.before.now c.args.batch.now sessions c.args.pages.items) c.new-sessions.ensures in
    let same = c.head.ensures ∙ ap head_of_state (followed ∙ sym f.is) in
    false≢true (sym c.if-not-is_same.true ∙ c.is_same.ensures.1 same)

pub returns : goal.returns
returns c =
    let followed = c.followed_in-state.ensures.followed ∙ ap (λ sessions. state_after_in c.args.self.now.origin.form c.args.before.now c.args.batch.now sessions c.args.pages.items) c.new-sessions.ensures in
    let head = sym (c.is_same.ensures.0 c.if-not-is_same.false) ∙ c.head.ensures in
    let sessions = ap (λ s. s.sessions) followed in
    let items = ap (λ s. s.items) followed in (
      follows_of c.args.self.now.origin.form c.args.before.now c.args.batch.now c.followed_in-state.result c.args.sessions c.args.pages.items followed c.followed_in-state.ensures.fit
          (sym c.fits_form.ensures ∙ c.if-not-fits_form.false),
      λ i. state_of (sym head i) (sessions i) (items i),
    )
