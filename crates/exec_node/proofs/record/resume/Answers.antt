use Rattle.std.proofs.Common.{arith, ap}
use Rattle.std.proofs.lemmas.Result.{err_from_is_err_and}
use Rattle.states.specs.declared.version.Version.{Version}
use Rattle.exec_node.specs.Record.{ExecutorHead}
use Rattle.exec_node.proofs.RecordLemmas.{saved_head_is, no_saved_chain}
use Rattle.exec_node.proofs.record.resume.Goals.{then-saved-id-via-then-saved-id, then-saved-id-via-else-saved-id+then-saved-u, then-saved-id-via-else-saved-id+else-saved-u+then-saved-eq0}
use Rattle.exec_node.proofs.record.resume.Goals as goal

pub returns-then-saved-id-clause-err : goal.returns-then-saved-id-clause-err
returns-then-saved-id-clause-err c s r =
    let same = saved_head_is c.args.u c.args.id c.args.saved.now s r in
    elim c.then-saved-id.branch [
      | then-saved-id-via-then-saved-id w ↦ w.if-saved-id.true (ap (λ (z : Version × ExecutorHead). z.1.0.0.0) same)
      | then-saved-id-via-else-saved-id+then-saved-u w ↦ w.if-saved-u.true (ap (λ (z : Version × ExecutorHead). z.1.0.0.1) same)
      | then-saved-id-via-else-saved-id+else-saved-u+then-saved-eq0 w ↦ (let epoch = ap (λ (z : Version × ExecutorHead). z.1.1.0.1) same in let zero = w.if-saved-eq0.true in omega (arith, r.1.begun, epoch, zero))
    ]

pub returns-in_err-chain-clause-err : goal.returns-in_err-chain-clause-err
returns-in_err-chain-clause-err c =
    let p = err_from_is_err_and c.from_residual.result c.from_residual.ensures.1 in
    rw (p.1, p.2) (no_saved_chain c.args.u c.args.id c.args.saved.now c.in_err-chain.field-0.0 c.in_err-chain.ensures)
