use Rattle.process_text.proofs.TextLemmas.{AreNumberedTo}
use Rattle.process_text.proofs.process_text.are_numbered.Given as goal

abbrev pub invariant-loop-number : goal.invariant-loop-number
invariant-loop-number l = AreNumberedTo l.fn.rows l.number
