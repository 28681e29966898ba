use Rattle.std.proofs.Common.{◌++◌, ◌∷◌, [], ◌∙◌, ap, sym, append_assoc}
use Rattle.server.proofs.HandLemmas.{in_more}
use Rattle.server.proofs.answering.AnsweringServe.hear.Goals as goal

-- src/answering.rt:199:9
pub loop-one-preserved : goal.loop-one-preserved
loop-one-preserved c = record {
  in_all = in_more c.loop-one.yielded c.in-Some.one c.args.self.now c.loop-one.self c.hand_in.new.self c.loop-one.invariant.in_all c.hand_in.ensures;
  rest = append_assoc c.loop-one.yielded (c.in-Some.one ∷ []) c.next.new.self.rest.items ∙ (ap (λ xs. c.loop-one.yielded ++ xs) (sym c.in-Some.ensures.steps.0) ∙ c.loop-one.invariant.rest);
}
