use Rattle.std.proofs.Common.{take}
use Rattle.worlds.specs.World.{IsReached}
use Rattle.world.proofs.plays.played.Given as goal

abbrev pub invariant-loop-event : goal.invariant-loop-event
invariant-loop-event l = IsReached l.config (take l.event-index l.events) l.world
