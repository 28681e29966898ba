use Rattle.std.proofs.Common.{◌≡◌}
use Rattle.std.specs.List.{list_all}
use Rattle.indexmap.specs.IndexMap.{values}
use Rattle.batches.specs.Cut.{waits_on}
use Rattle.batches.proofs.held.all_wait_on.Given as goal

abbrev pub invariant-loop-request : goal.invariant-loop-request
invariant-loop-request l = list_all (waits_on l.sessions) l.request-iterator ≡ list_all (waits_on l.sessions) (values l.waiting)
