use Rattle.std.proofs.Common.{◌≡◌}
use Rattle.client.specs.Talk.{wants_below}
use Rattle.client.proofs.letters.ask_all.Given as goal

abbrev pub invariant-loop-to : goal.invariant-loop-to
invariant-loop-to l = l.letters.items ≡ wants_below l.client l.to l.request
