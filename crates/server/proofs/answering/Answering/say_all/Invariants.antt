use Rattle.std.proofs.Common.{◌≡◌, ◌++◌}
use Rattle.server.specs.Answering.{SaysEach}
use Rattle.server.proofs.answering.Answering.say_all.Given as goal

-- those so far were said
abbrev pub invariant-loop-said : goal.invariant-loop-said
invariant-loop-said l = record {
  says : SaysEach l.initial.self l.yielded l.self;
  rest : l.yielded ++ l.said-iterator.rest.items ≡ l.fn.given.items;
}
