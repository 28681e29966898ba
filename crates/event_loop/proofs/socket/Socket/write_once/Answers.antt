use Rattle.std.proofs.Common.{rules, ℕ, List, [], ◌∷◌, ◌++◌, length, ap, ◌∙◌}
use Rattle.std.specs.Prelude.{take, Result}
use Rattle.std.specs.declared.io.Error.{Error}
use Rattle.std.proofs.lemmas.List.{length-append}
use Rattle.event_loop.specs.Socket.{SocketView}
use Rattle.event_loop.proofs.SocketLemmas.{writes_once}
use Rattle.event_loop.proofs.socket.Socket.write_once.Goals as goal

pub returns-in-Ok-eq0-clause-writes : goal.returns-in-Ok-eq0-clause-writes
returns-in-Ok-eq0-clause-writes g c = writes_once _ _ (take c.in-Ok-eq0.field-0 c.self.inside.traffic.waits) c.write.result (search rules) (search rules) (search rules) (search rules) (search rules) (search rules) (search rules)

pub returns-in-Ok-clause-writes : goal.returns-in-Ok-clause-writes
returns-in-Ok-clause-writes g c = writes_once _ _ (take c.in-Ok.count c.self.inside.traffic.waits) c.write.result (search rules) (search rules) (search rules) (search rules) (search rules) (search rules) (search rules)

pub returns-in-WouldBlock-clause-writes : goal.returns-in-WouldBlock-clause-writes
returns-in-WouldBlock-clause-writes g c = writes_once _ _ ([]) c.write.result (search rules) (search rules) (search rules) (search rules) (search rules) (search rules) (search rules)

pub returns-in-Interrupted-clause-writes : goal.returns-in-Interrupted-clause-writes
returns-in-Interrupted-clause-writes g c = writes_once _ _ ([]) c.write.result (search rules) (search rules) (search rules) (search rules) (search rules) (search rules) (search rules)

pub returns-in_default : goal.returns-in_default
returns-in_default g c = record {
  writes = writes_once _ _ ([]) c.write.result (search rules) (search rules) (search rules) (search rules) (search rules) (search rules) (search rules);
  one = ap (λ (l : List (Result ℕ Error)). length l) (c.write.ensures.log ∙ ap (λ (s : SocketView). s.traffic.writes ++ c.write.result ∷ []) c.self.view_is) ∙ length-append c.args.self.now.traffic.writes (c.write.result ∷ []);
}
