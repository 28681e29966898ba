use Rattle.std.proofs.Common.{sym, subst}
use Rattle.wire.specs.Record.{Takes}
use Rattle.states.specs.declared.version.Version.{Version}
use Rattle.states.specs.Version.{state_text_in, IsStateIn}
use Rattle.states.proofs.state.State.take.Goals as goal

pub returns-in-First : goal.returns-in-First
returns-in-First c =
    subst (λ (v : Version). Takes (IsStateIn v) (state_text_in v) c.args.bytes.now c.take_old.result) (sym c.in-First.is) c.take_old.ensures

pub returns-in-Second : goal.returns-in-Second
returns-in-Second c =
    subst (λ (v : Version). Takes (IsStateIn v) (state_text_in v) c.args.bytes.now c.take_current.result) (sym c.in-Second.is) c.take_current.ensures
