use Rattle.dialect.proofs.StageLemmas.{closed_step}
use Rattle.std.proofs.Common.{refl}
use Rattle.dialect.proofs.stage.Stage.step.Goals as goal

pub returns-in-Closed-clause-runs : goal.returns-in-Closed-clause-runs
returns-in-Closed-clause-runs c = closed_step c.args.self.now.part c.args.self.now.held.items c.args.piece.now c.args.turns.now.items c.args.turns.now.items c.in-Closed.is c.requires.within refl
