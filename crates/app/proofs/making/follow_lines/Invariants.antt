use Rattle.std.proofs.Common.{◌≡◌, ◌++◌}
use Rattle.app.specs.Making.{stage, LinesMake}
use Rattle.app.proofs.making.follow_lines.Given as goal

-- the lines so far were followed
abbrev pub invariant-loop-line : goal.invariant-loop-line
invariant-loop-line g l = record {
  all : l.yielded ++ l.line-iterator.rest.items ≡ l.fn.lines.items;
  made : LinesMake l.config l.yielded (stage l.fn.world l.fn.past) (stage l.world l.past);
}
