use Rattle.std.proofs.Common.{refl, [], ◌∷◌, ◌++◌, List, ap, ◌∙◌}
use Rattle.std.proofs.lemmas.List.{append-nil}
use Rattle.ensemble.specs.declared.answer.Answer.{Answer}
use Rattle.member.proofs.Works.{none_worked, answer_worked, none_leave}
use Rattle.member.proofs.member.Member.take.Goals as goal

pub returns-then-is_err-clause-worked : goal.returns-then-is_err-clause-worked
returns-then-is_err-clause-worked c = none_worked c.args.moment _ _ _ _ refl c.reserve.ensures.items

pub returns-then-is_err-clause-leaving : goal.returns-then-is_err-clause-leaving
returns-then-is_err-clause-leaving c = none_leave _ _ refl

pub returns-in-Some-clause-worked : goal.returns-in-Some-clause-worked
returns-in-Some-clause-worked c =
    answer_worked c.args.moment _ _ _ _ c.in-Some.answer c.in-Some.ensures.shown
    (c.push_reserved.ensures.items ∙ ap (λ (xs : List Answer). xs ++ c.in-Some.answer ∷ []) c.reserve.ensures.items)

pub returns-in-Some-clause-leaving : goal.returns-in-Some-clause-leaving
returns-in-Some-clause-leaving c = none_leave _ _ c.in-Some.ensures.leaving

pub returns-in-None-clause-worked : goal.returns-in-None-clause-worked
returns-in-None-clause-worked c = none_worked c.args.moment _ _ _ _ (c.in-None.ensures.shown ∙ append-nil c.args.self.now.shown) c.reserve.ensures.items

pub returns-in-None-clause-leaving : goal.returns-in-None-clause-leaving
returns-in-None-clause-leaving c = none_leave _ _ c.in-None.ensures.leaving
