use Rattle.std.proofs.Common.{[], rules, sym, ◌∙◌}
use Rattle.std.proofs.lemmas.Result.{err_from_is_err_and}
use Rattle.std.proofs.lemmas.List.{append-nil}
use Rattle.states.specs.declared.version.Version.TheVariants.{Second}
use Rattle.states.specs.StateRecord.{state_text}
use Rattle.wire.proofs.Values.{left_over, none_whole}
use Rattle.executor.specs.Kept.{IsQuietIn}
use Rattle.executor.specs.Work.{CommittedView}
use Rattle.states.proofs.RecordLemmas.{state_free}
use Rattle.executor.proofs.tentative.Committed.restore.Goals as goal

pub returns-in_err-committed-clause-reads : goal.returns-in_err-committed-clause-reads
returns-in_err-committed-clause-reads c =
    let p = err_from_is_err_and c.from_residual.result c.from_residual.ensures.1 in
    rw (p.1, p.2) (none_whole (IsQuietIn Second) (λ (x : CommittedView). state_text x.state) c.args.bytes.now c.in_err-committed.field-0.0 c.in_err-committed.ensures)

pub returns-then-is_empty-clause-again : goal.returns-then-is_empty-clause-again
returns-then-is_empty-clause-again c s e =
    (state_free.apart c.in_ok-committed.committed.state s c.in_ok-committed.rest.now [] (sym c.in_ok-committed.ensures.1 ∙ (e ∙ sym (append-nil (state_text s))))).0

pub returns-else-is_empty-clause-reads : goal.returns-else-is_empty-clause-reads
returns-else-is_empty-clause-reads c v f e =
    left_over state_free c.args.bytes.now c.in_ok-committed.committed.state c.in_ok-committed.rest.now c.in_ok-committed.ensures.1 (λ none. search (rules, none)) v.state e
