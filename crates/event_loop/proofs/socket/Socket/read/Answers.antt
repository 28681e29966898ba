use Rattle.std.proofs.Common.{rules, ap, ◌∙◌, inr, refl}
use Rattle.event_loop.specs.Socket.{SocketView}
use Rattle.event_loop.proofs.SocketLemmas.{more_got}
use Rattle.event_loop.proofs.socket.Socket.read.Goals as goal

pub returns-else-tell_bytes-clause-reads : goal.returns-else-tell_bytes-clause-reads
returns-else-tell_bytes-clause-reads g c = record {
  piece = c.read.result;
  reads = search rules;
  writes = search rules;
  failed = λ e. refl;
  only_failed = λ e. inr (more_got _ _ _ c.in-Bytes.bytes.items (c.self.invariant.all (ap (λ (s : SocketView). s.has_ended) c.self.view_is ∙ c.requires.is_here)) c.in-Bytes.ensures.got c.in-Bytes.ensures.piece.1);
  emptied = search rules;
  outstanding = search rules;
  others = search rules;
}
