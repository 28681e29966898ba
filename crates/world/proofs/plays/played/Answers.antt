use Rattle.std.proofs.Common.{arith}
use Rattle.worlds.proofs.LeadLemmas.{reached_next}
use Rattle.world.proofs.plays.played.Goals as goal

pub loop-event-preserved : goal.loop-event-preserved
loop-event-preserved c =
    reached_next c.args.config.now c.args.events.now c.loop-event.event-index c.event-item.result c.loop-event.world c.in_ok-world-2.world
    (omega (arith, c.loop-event-test.true, c.loop-event.auto)) c.event-item.is c.loop-event.invariant c.in_ok-world-2.ensures
