use Rattle.std.proofs.Common.{sym, subst}
use Rattle.wire.specs.Record.{Takes}
use Rattle.states.specs.declared.version.Version.{Version}
use Rattle.states.specs.Version.{after_text_in, IsSuccessorIn}
use Rattle.states.proofs.state.State.take_after.Goals as goal

pub returns-in-First : goal.returns-in-First
returns-in-First c =
    subst (λ (v : Version). Takes (IsSuccessorIn v c.args.before.now c.args.batch.now) (after_text_in v c.args.before.now.items) c.args.bytes.now c.take_old_after.result) (sym c.in-First.is) c.take_old_after.ensures

pub returns-in-Second : goal.returns-in-Second
returns-in-Second c =
    subst (λ (v : Version). Takes (IsSuccessorIn v c.args.before.now c.args.batch.now) (after_text_in v c.args.before.now.items) c.args.bytes.now c.take_current_after.result) (sym c.in-Second.is) c.take_current_after.ensures
