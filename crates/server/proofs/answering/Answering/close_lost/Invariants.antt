use Rattle.server.proofs.HandLemmas.{ClosesSoMany}
use Rattle.server.proofs.answering.Answering.close_lost.Given as goal

-- one is told so in each iteration of the loop
abbrev pub invariant-loop : goal.invariant-loop
invariant-loop l = ClosesSoMany l.counter l.initial.self l.self
