use Rattle.std.proofs.Common.{rules}
use Rattle.std.proofs.lemmas.Result.{err_from_is_err_and}
use Rattle.wire.proofs.Values.{none_whole}
use Rattle.rollback.specs.Chain.{IsRecordedIn, chain_text_in}
use Rattle.rollback.proofs.RecordLemmas.{chain_left_over}
use Rattle.exec_node.proofs.record.read_chain.Goals as goal

pub returns-in_err-chain : goal.returns-in_err-chain
returns-in_err-chain c =
    let p = err_from_is_err_and c.from_residual.result c.from_residual.ensures.1 in
    rw (p.1, p.2) (none_whole (IsRecordedIn c.args.version) (chain_text_in c.args.version) c.args.bytes.now c.in_err-chain.field-0.0 c.in_err-chain.ensures)

pub returns-else-is_empty : goal.returns-else-is_empty
returns-else-is_empty c =
    chain_left_over c.args.version c.args.bytes.now c.in_ok-chain.chain c.in_ok-chain.rest.now c.in_ok-chain.ensures.0 c.in_ok-chain.ensures.1 (λ none. search (rules, none))
