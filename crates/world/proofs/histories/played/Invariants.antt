use Rattle.std.proofs.Common.{take}
use Rattle.world.specs.History.{IsHistoryTo, history_in}
use Rattle.world.proofs.histories.played.Given as goal

abbrev pub invariant-loop-event : goal.invariant-loop-event
invariant-loop-event l = IsHistoryTo l.config (take l.event-index l.events) l.world (history_in l.history.items)
