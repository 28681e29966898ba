use Rattle.std.proofs.Common.{◌∙◌, refl, sym, arith}
use Rattle.std.proofs.lemmas.List.{append-nil}
use Rattle.ensemble.proofs.Collecting.{none_collected, collected_more, posted_more, refused_before, refused_after}
use Rattle.ensemble.proofs.Logs.{keeps_none, keeps_more}
use Rattle.ensemble.proofs.ensemble.Ensemble.collect_all.Goals as goal

pub loop-id-init : goal.loop-id-init
loop-id-init c = record {
  logs = keeps_none _;
  counted = omega arith;
  size = refl;
  collected = none_collected _;
  posted = λ none. sym (append-nil _);
}

pub loop-id-preserved : goal.loop-id-preserved
loop-id-preserved c = record {
  logs = keeps_more _ _ _ c.loop-id.invariant.logs c.collect.ensures.logs;
  counted = (let before = c.loop-id.invariant.counted in let after = c.collect.ensures.counted in omega (arith, before, after));
  size = c.collect.ensures.size ∙ c.loop-id.invariant.size;
  collected = collected_more c.loop-id.id c.args.self.now.nodes c.loop-id.self.nodes c.collect.new.self.nodes c.loop-id.invariant.collected c.collect.ensures.collected;
  posted = λ none.
      posted_more c.loop-id.id c.args.self.now.nodes c.loop-id.self.nodes c.collect.new.self.nodes c.loop-id.invariant.collected
      (c.loop-id.invariant.posted (refused_before _ _ _ c.loop-id.invariant.counted c.collect.ensures.counted none))
      (c.collect.ensures.posted (refused_after _ _ _ c.loop-id.invariant.counted c.collect.ensures.counted none));
}
