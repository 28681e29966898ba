use Rattle.std.proofs.Common.{◌≡◌, take, drop}
use Rattle.decrees.specs.Standing.{is_log_from}
use Rattle.decrees.specs.Log.{IsStandingOf}
use Rattle.decrees.proofs.log.standing_of.Given as goal

abbrev pub invariant-loop-decree : goal.invariant-loop-decree
invariant-loop-decree l = record {
  keeps : IsStandingOf l.start (take l.decree-index l.decrees) l.standing;
  left : is_log_from l.start.standing l.decrees ≡ is_log_from l.standing (drop l.decree-index l.decrees);
}
