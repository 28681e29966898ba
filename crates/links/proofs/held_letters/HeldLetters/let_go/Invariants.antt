use Rattle.std.proofs.Common.{◌≡◌, drop}
use Rattle.links.proofs.held_letters.HeldLetters.let_go.Given as goal

abbrev pub invariant-loop : goal.invariant-loop
invariant-loop l = l.self ≡ drop l.counter l.fn.self
