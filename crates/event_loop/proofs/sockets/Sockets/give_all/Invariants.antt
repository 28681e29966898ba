use Rattle.std.proofs.Common.{◌≡◌, ◌++◌}
use Rattle.event_loop.specs.Sockets.{AreAllGiven}
use Rattle.event_loop.proofs.sockets.Sockets.give_all.Given as goal

-- those so far were given
abbrev pub invariant-loop-said : goal.invariant-loop-said
invariant-loop-said g l = record {
  all : l.yielded ++ l.said-iterator.rest.items ≡ l.fn.all.items;
  given : AreAllGiven l.fn.self l.yielded l.self;
}
