use Rattle.std.proofs.Common.{◌≡◌, List, ℕ, ◌++◌, ap, ◌∙◌}
use Rattle.decrees.specs.Record.{decrees_text}
use Rattle.verifier.specs.State.{VerifierState}
use Rattle.verifier.specs.Record.{verifier_fields_text}
use Rattle.verifier.proofs.RecordLemmas.{record_of_parts}
use Rattle.verifier.proofs.state.State.record.Goals as goal

pub returns : goal.returns
returns c =
    let s = c.args.self.now in
    let fields : c.put_fields.new.whole ≡ verifier_fields_text c.args.u c.args.id s = c.in_ok-put_fields.ensures ∙ ap (λ (xs : List ℕ). xs ++ verifier_fields_text c.args.u c.args.id s) c.new-whole.ensures in
    let count = c.in_ok-put_count.ensures _ fields in
    let log : c.as_slice.result.now ≡ s.log = c.as_slice.ensures.decrees ∙ ap (λ (z : VerifierState). z.log) c.self.view_is in
    let counted = rw log at count in
    record_of_parts c.args.u c.args.id s c.append_text.new.text c.put_count.new.sink (decrees_text c.self.inside.log.decrees) c.in_ok-append_text.ensures counted
    (ap (λ (z : VerifierState). decrees_text z.log) c.self.view_is)
