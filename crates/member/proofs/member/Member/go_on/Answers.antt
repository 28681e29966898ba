use Rattle.std.proofs.Common.{refl, ◌∙◌, ap, sym, [], ◌∷◌, ◌++◌, List}
use Rattle.site_laws.specs.Site.{Shown, Notes}
use Rattle.member.proofs.Works.{then_none, then_noted, more_worked, none_leave, more_leave, still_letters}
use Rattle.member.proofs.member.Member.go_on.Goals as goal

pub returns-then-take_held-clause-worked : goal.returns-then-take_held-clause-worked
returns-then-take_held-clause-worked g c = then_none c.args.moment _ _ _ _ _ _ c.deliver_all.ensures.worked c.take_held.ensures.shown refl

pub returns-then-take_held-clause-leaving : goal.returns-then-take_held-clause-leaving
returns-then-take_held-clause-leaving g c = more_leave _ _ _ c.deliver_all.ensures.leaving (none_leave _ _ c.take_held.ensures.leaving)

pub returns-then-run_job-clause-worked : goal.returns-then-run_job-clause-worked
returns-then-run_job-clause-worked g c = then_none c.args.moment _ _ _ _ _ _ c.deliver_all.ensures.worked (c.run_job.ensures.shown ∙ c.take_held.ensures.shown) refl

pub returns-then-run_job-clause-leaving : goal.returns-then-run_job-clause-leaving
returns-then-run_job-clause-leaving g c = more_leave _ _ _ c.deliver_all.ensures.leaving (none_leave _ _ (c.run_job.ensures.leaving ∙ c.take_held.ensures.leaving))

pub returns-then-has_letters-clause-worked : goal.returns-then-has_letters-clause-worked
returns-then-has_letters-clause-worked g c =
    more_worked c.args.moment _ _ _ _ _ _
    (then_none c.args.moment _ _ _ _ _ _ c.deliver_all.ensures.worked (c.run_job.ensures.shown ∙ c.take_held.ensures.shown) refl) c.deliver_to.ensures.worked

pub returns-then-has_letters-clause-leaving : goal.returns-then-has_letters-clause-leaving
returns-then-has_letters-clause-leaving g c =
    more_leave _ _ _ (more_leave _ _ _ c.deliver_all.ensures.leaving (none_leave _ _ (c.run_job.ensures.leaving ∙ c.take_held.ensures.leaving))) c.deliver_to.ensures.leaving

pub returns-then-has_letters-clause-nothing : goal.returns-then-has_letters-clause-nothing
returns-then-has_letters-clause-nothing g c = λ done none. absurd (still_letters c.run_job.new.self.nodes c.deliver_to.new.self.nodes (sym c.has_letters.ensures ∙ c.if-has_letters.true) (c.deliver_to.ensures.nothing done) none)

pub returns-clause-worked : goal.returns-clause-worked
returns-clause-worked g c =
    then_noted c.args.moment _ _ _ _ _ _ c.deliver_all.ensures.worked
    (c.cut.ensures.shown ∙ ap (λ (xs : List Shown). xs ++ Notes c.args.moment ∷ []) (c.run_job.ensures.shown ∙ c.take_held.ensures.shown)) refl

pub returns-clause-leaving : goal.returns-clause-leaving
returns-clause-leaving g c =
    more_leave _ _ _ c.deliver_all.ensures.leaving (none_leave _ _ (c.cut.ensures.leaving ∙ (c.run_job.ensures.leaving ∙ c.take_held.ensures.leaving)))

pub returns-clause-nothing : goal.returns-clause-nothing
returns-clause-nothing g c = λ done none. c.cut.ensures.nothing done
