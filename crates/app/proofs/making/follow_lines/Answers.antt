use Rattle.std.proofs.Common.{◌∷◌, ◌++◌, [], append_assoc, ap, sym, ◌∙◌}
use Rattle.app.specs.Making.{stage}
use Rattle.app.proofs.MakingLemmas.{lines_make_next}
use Rattle.app.proofs.making.follow_lines.Goals as goal

pub loop-line-preserved : goal.loop-line-preserved
loop-line-preserved g c = record {
  all = append_assoc _ (c.in-Some.line ∷ []) _ ∙ ap (λ l. c.loop-line.yielded ++ l) (sym c.in-Some.ensures.steps.0) ∙ c.loop-line.invariant.all;
  made = lines_make_next c.args.config.now c.loop-line.yielded c.in-Some.line (stage c.args.world c.args.past.now) (stage c.loop-line.world c.loop-line.past) (stage c.in_ok-world.world c.follow_line.new.past) c.loop-line.invariant.made c.in_ok-world.ensures;
}
