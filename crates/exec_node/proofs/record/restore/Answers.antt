use Rattle.std.proofs.Common.{arith, ap, inl, inr}
use Rattle.std.proofs.lemmas.Result.{err_from_is_err_and}
use Rattle.wire.proofs.Values.{Refused-weaker}
use Rattle.states.specs.declared.version.Version.{Version}
use Rattle.exec_node.specs.Record.{ExecutorHead}
use Rattle.exec_node.proofs.RecordLemmas.{no_head, no_chain, head_is}
use Rattle.exec_node.proofs.record.restore.Goals as goal

pub returns-in_err-version-clause-err : goal.returns-in_err-version-clause-err
returns-in_err-version-clause-err c =
    let p = err_from_is_err_and c.from_residual.result c.from_residual.ensures.1 in
    rw (p.1, p.2) (Refused-weaker c.in_err-version.field-0.0 (no_head c.args.u c.args.id c.args.bytes.now) c.in_err-version.ensures)

pub returns-then-own-id-clause-err : goal.returns-then-own-id-clause-err
returns-then-own-id-clause-err c s r =
    let h : ExecutorHead = (((c.in_ok-version.own, c.in_ok-version.of), c.in_ok-version.known), (((c.in_ok-version.n, c.in_ok-version.token), c.in_ok-version.epoch), c.in_ok-version.start)) in
    let same = (head_is c.args.u c.args.id c.args.bytes.now c.in_ok-version.version h c.in_ok-version.rest.now c.in_ok-version.ensures.1 s r).0 in
    elim c.then-own-id.either [
      | inl other ↦ other (ap (λ (z : Version × ExecutorHead). z.1.0.0.0) same)
      | inr more ↦ elim more [
        | inl of ↦ of.1 (ap (λ (z : Version × ExecutorHead). z.1.0.0.1) same)
        | inr zero ↦ (let epoch = ap (λ (z : Version × ExecutorHead). z.1.1.0.1) same in omega (arith, r.1.begun, zero))
      ]
    ]

pub returns-in_err-chain-clause-err : goal.returns-in_err-chain-clause-err
returns-in_err-chain-clause-err c =
    let h : ExecutorHead = (((c.in_ok-version.own, c.in_ok-version.of), c.in_ok-version.known), (((c.in_ok-version.n, c.in_ok-version.token), c.in_ok-version.epoch), c.in_ok-version.start)) in
    let p = err_from_is_err_and c.from_residual-in_err-chain.result c.from_residual-in_err-chain.ensures.1 in
    rw (p.1, p.2) (no_chain c.args.u c.args.id c.args.bytes.now c.in_ok-version.version h c.in_ok-version.rest.now c.in_ok-version.ensures.1 c.in_err-chain.field-0.0 c.in_err-chain.ensures)
