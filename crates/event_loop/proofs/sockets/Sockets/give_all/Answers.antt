use Rattle.std.proofs.Common.{◌∷◌, ◌++◌, [], append_assoc, ap, sym, ◌∙◌}
use Rattle.event_loop.proofs.SocketsLemmas.{given_more}
use Rattle.event_loop.proofs.sockets.Sockets.give_all.Goals as goal

pub loop-said-preserved : goal.loop-said-preserved
loop-said-preserved g c = record {
  all = append_assoc _ (c.in-Some.said ∷ []) _ ∙ ap (λ l. c.loop-said.yielded ++ l) (sym c.in-Some.ensures.steps.0) ∙ c.loop-said.invariant.all;
  given = given_more c.loop-said.yielded c.in-Some.said _ _ _ c.loop-said.invariant.given c.give.ensures;
}
