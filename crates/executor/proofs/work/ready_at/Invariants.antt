use Rattle.std.proofs.Common.{◌≡◌, drop}
use Rattle.std.specs.Prelude.{not}
use Rattle.std.specs.List.{list_all}
use Rattle.executor.specs.Work.{is_ready}
use Rattle.executor.proofs.work.ready_at.Given as goal

-- none so far is ready
abbrev pub invariant-loop-i : goal.invariant-loop-i
invariant-loop-i l = list_all (λ r. not (is_ready l.group l.place r)) (drop l.i l.running) ≡ list_all (λ r. not (is_ready l.group l.place r)) l.running
