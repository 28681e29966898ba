use Rattle.std.proofs.Common.{◌++◌, ◌∷◌, [], ◌∙◌, ap, sym, append_assoc}
use Rattle.server.proofs.HandLemmas.{each_more}
use Rattle.server.proofs.answering.Answering.say_all.Goals as goal

pub loop-said-preserved : goal.loop-said-preserved
loop-said-preserved c = record {
  says = each_more c.args.self.now c.loop-said.self c.say.new.self c.loop-said.yielded c.in-Some.said c.loop-said.invariant.says c.say.ensures.says;
  rest = append_assoc c.loop-said.yielded (c.in-Some.said ∷ []) c.next.new.self.rest.items ∙ (ap (λ xs. c.loop-said.yielded ++ xs) (sym c.in-Some.ensures.steps.0) ∙ c.loop-said.invariant.rest);
}
