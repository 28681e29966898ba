use Rattle.std.proofs.Common.{◌≡◌, ◌++◌, ◌∷◌, [], ℕ, List, ap, ◌∙◌}
use Rattle.std.proofs.lemmas.Result.{on_ok_weaker}
use Rattle.decrees.specs.declared.start.Start.{Start}
use Rattle.decrees.specs.Record.{start_text}
use Rattle.verifier.specs.State.{VerifierState}
use Rattle.verifier.specs.Record.{verifier_head_text}
use Rattle.verifier.proofs.RecordLemmas.{fields_trimmed}
use Rattle.verifier.proofs.state.State.put_fields.Goals as goal

pub returns : goal.returns
returns c =
    let s = c.args.self.now in
    let start : c.start-start.result ≡ s.start = c.start-start.ensures ∙ ap (λ (z : VerifierState). z.start) c.self.view_is in
    let later : s.start.place ≡ 0 → ⊥ = λ e. c.if-start-eq0.false (ap (λ (z : Start). z.place) start ∙ e) in
    let head = c.in_ok-put_head.ensures ∙ ap (λ (xs : List ℕ). xs ++ verifier_head_text c.args.u c.args.id s) c.in_ok-put-2.ensures.ok in
    on_ok_weaker c.put-3.result (λ put. put _ head ∙ (ap (λ (z : Start). ((c.args.whole.now ++ 2 ∷ 86 ∷ []) ++ verifier_head_text c.args.u c.args.id s) ++ start_text z) start ∙ fields_trimmed c.args.u c.args.id s later c.args.whole.now)) c.put-3.ensures
