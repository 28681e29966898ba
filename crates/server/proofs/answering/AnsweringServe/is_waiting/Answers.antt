use Rattle.std.proofs.Common.{◌≡◌, [], subst}
use Rattle.service.specs.Steps.{NoneWaits}
use Rattle.service.specs.Ticks.{AreAllUpIn}
use Rattle.server.specs.Answering.{AnsweringView}
use Rattle.server.proofs.answering.AnsweringServe.is_waiting.Goals as goal

pub returns-else-is_waiting-clause-service : goal.returns-else-is_waiting-clause-service
returns-else-is_waiting-clause-service c none = subst (λ (v : AnsweringView). (v.service.queue ≡ []) × NoneWaits v.service.waiting) c.self.view_is (c.is_waiting.ensures.no c.if-is_waiting.false)

pub returns-else-is_waiting-clause-up : goal.returns-else-is_waiting-clause-up
returns-else-is_waiting-clause-up c none = subst (λ (v : AnsweringView). AreAllUpIn v.service.replicas) c.self.view_is (c.is_waiting.ensures.up c.if-is_waiting.false)
