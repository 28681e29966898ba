use Rattle.std.proofs.Common.{ap, ◌∙◌}
use Rattle.decrees.specs.Log.{LogView}
use Rattle.verifier.specs.State.{VerifierState}
use Rattle.verifier.specs.Lines.{learn}
use Rattle.verifier.proofs.PlaceLemmas.{learned_is, with_log}
use Rattle.verifier.proofs.state.State.learn.Goals as goal

pub returns-clause-ok : goal.returns-clause-ok
returns-clause-ok c =
    let m = c.self.inside in
    let s : VerifierState = record { view = m.view; start = m.log.start; log = m.log.decrees; accepted = m.accepted; leads = m.leads; proposed = m.proposed; doubt = m.doubt; promises = m.promises; tally = m.tally; votes = m.votes } in
    c.forget_heard.ensures ∙ (ap (λ (l : LogView). with_log s l) c.in_ok-learn.ensures.ok ∙ (learned_is s c.args.decree ∙ ap (λ (z : VerifierState). learn z c.args.decree) c.self.view_is))
