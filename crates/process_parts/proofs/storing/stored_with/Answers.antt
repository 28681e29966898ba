use Rattle.std.proofs.Common.{arith}
use Rattle.process_parts.proofs.RowLemmas.{is_stored}
use Rattle.process_parts.proofs.storing.stored_with.Goals as goal

pub returns-clause-stored : goal.returns-clause-stored
returns-clause-stored c =
    let is = c.in_ok-text.ensures in
    is_stored c.in_ok-text.text c.args.state c.args.process.now (omega (arith, c.u-u.ensures.u, c.u-u.ensures.few)) c.proxies-proxies.ensures.numbered c.sessions-sessions.ensures.fit c.requires c.is_state.ensures
    is.head is.sessions is.rows
