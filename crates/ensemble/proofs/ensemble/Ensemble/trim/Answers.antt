use Rattle.std.proofs.Common.{◌∙◌, arith}
use Rattle.ensemble.proofs.Trimming.{trimmed_more}
use Rattle.ensemble.proofs.Logs.{keeps_more}
use Rattle.ensemble.proofs.ensemble.Ensemble.trim.Goals as goal

pub loop-id-preserved : goal.loop-id-preserved
loop-id-preserved c = record {
  logs = keeps_more _ _ _ c.loop-id.invariant.logs c.trim_at.ensures.logs;
  told = trimmed_more c.loop-id.id c.args.self.now.nodes c.loop-id.self.nodes c.trim_at.new.self.nodes c.loop-id.invariant.told c.trim_at.ensures.due;
  counted = (let before = c.loop-id.invariant.counted in let after = c.trim_at.ensures.counted in omega (arith, before, after));
  size = c.trim_at.ensures.size ∙ c.loop-id.invariant.size;
  waits = λ before. c.trim_at.ensures.waits (c.loop-id.invariant.waits before);
}
