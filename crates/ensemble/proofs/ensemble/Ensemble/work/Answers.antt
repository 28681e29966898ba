use Rattle.std.proofs.Common.{◌∙◌}
use Rattle.ensemble.proofs.Moments.{now_noted}
use Rattle.ensemble.proofs.ensemble.Ensemble.work.Goals as goal

pub go_on_to_the_end-is_done-requires : goal.go_on_to_the_end-is_done-requires
go_on_to_the_end-is_done-requires g c = (c.type_bounds.sync-R, now_noted c.args.self.now.order c.trim.new.self.order c.args.moment (c.trim.ensures.logs.order ∙ c.note.ensures.order))
