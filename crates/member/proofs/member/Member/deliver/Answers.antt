use Rattle.std.proofs.Common.{◌++◌, Option, sym, ap, ◌∙◌, subst}
use Rattle.std.proofs.lemmas.List.{append-nil}
use Rattle.ensemble.specs.declared.answer.Answer.{Answer}
use Rattle.member.specs.Member.{MemberView}
use Rattle.member.specs.Passing.{IsFirstHere}
use Rattle.member.specs.Working.{answer_shown}
use Rattle.member.proofs.Steps.{took}
use Rattle.member.proofs.member.Member.deliver.Goals as goal

pub invariant_of-self : goal.invariant_of-self
invariant_of-self c =
    let s = c.self.inside in
    let old : MemberView = record { id = s.id; config = s.config; found = s.found; nodes = s.nodes; leaving = s.leaving.items; shown = s.log; refused = s.refused } in
    let first : IsFirstHere old = subst IsFirstHere (sym c.self.view_is) c.requires in (
      took s.id s.config s.leaving.items s.nodes c.deliver.new.self s.log c.self.invariant.0 first.letter c.deliver.result s.log first.first first.here c.deliver.ensures.delivers
          (sym (append-nil s.log) ∙ ap (λ (a : Option Answer). s.log ++ answer_shown a) (sym c.in_err-answer.was)),
      c.self.invariant.1,
    )

pub invariant_of-self-2 : goal.invariant_of-self-2
invariant_of-self-2 c =
    let s = c.self.inside in
    let old : MemberView = record { id = s.id; config = s.config; found = s.found; nodes = s.nodes; leaving = s.leaving.items; shown = s.log; refused = s.refused } in
    let first : IsFirstHere old = subst IsFirstHere (sym c.self.view_is) c.requires in (
      took s.id s.config s.leaving.items s.nodes c.deliver.new.self s.log c.self.invariant.0 first.letter c.deliver.result c.answered.new.self first.first first.here c.deliver.ensures.delivers
          (c.answered.ensures.shown ∙ ap (λ (a : Option Answer). s.log ++ answer_shown a) (sym c.in_ok-answer.was)),
      c.self.invariant.1,
    )
