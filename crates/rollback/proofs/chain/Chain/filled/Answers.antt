use Rattle.std.proofs.Common.{◌≡◌, ap, subst}
use Rattle.wire.specs.Record.{NoPrefix, Refused}
use Rattle.states.specs.State.{StateView}
use Rattle.rollback.specs.Chain.{ChainView, IsFilled, members_text}
use Rattle.rollback.proofs.RecordLemmas.{not_filled}
use Rattle.rollback.proofs.chain.Chain.filled.Goals as goal

pub returns-in-Err : goal.returns-in-Err
returns-in-Err c =
    let have : c.in_ok-chain.chain.have ≡ c.args.committed.state = ap (λ (v : ChainView). v.have) c.in_ok-chain.ensures.chain in
    subst (λ (s : StateView). Refused c.in-Err.fault (NoPrefix (IsFilled c.args.version s c.args.count) (members_text c.args.version) c.args.bytes.now)) have
    (not_filled c.args.version c.in_ok-chain.chain.have c.args.count c.args.bytes.now c.in-Err.fault c.in-Err.ensures.err)
