use Rattle.event_loop.proofs.TrafficLemmas.{still_parted}
use Rattle.event_loop.proofs.buffered.Buffered.write.Goals as goal

pub invariant_of-self : goal.invariant_of-self
invariant_of-self g c = still_parted c.write-result.result _ c.self.inside.output c.write-result.new.self c.write-result.ensures.ok c.write-result.ensures.err c.self.invariant
