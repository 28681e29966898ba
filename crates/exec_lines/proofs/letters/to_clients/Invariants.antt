use Rattle.std.proofs.Common.{◌≡◌, ◌++◌}
use Rattle.exec_lines.specs.State.{to_clients}
use Rattle.exec_lines.proofs.letters.to_clients.Given as goal

abbrev pub invariant-loop-answered : goal.invariant-loop-answered
invariant-loop-answered l = record {
  whole : l.yielded ++ l.answered-iterator.rest.items ≡ l.fn.replies.items;
  told : l.letters.items ≡ to_clients l.id l.yielded;
}
