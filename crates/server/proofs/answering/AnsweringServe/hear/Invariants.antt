use Rattle.std.proofs.Common.{◌≡◌, ◌++◌}
use Rattle.server.specs.Answering.{HandsInAll}
use Rattle.server.proofs.answering.AnsweringServe.hear.Given as goal

-- those so far were handed in
abbrev pub invariant-loop-one : goal.invariant-loop-one
invariant-loop-one l = record {
  in_all : HandsInAll l.yielded l.initial.self l.self;
  rest : l.yielded ++ l.one-iterator.rest.items ≡ l.fn.heard.items;
}
