use Rattle.std.proofs.Common.{◌≡◌, ◌+◌, length, true≢false, sym, ap, ◌∙◌, arith}
use Rattle.pages.specs.Others.{has_page}
use Rattle.pages.specs.declared.group.TheConstants.{GROUP_PAGES}
use Rattle.pages.proofs.OtherLemmas.{added-within}
use Rattle.pages.proofs.StillLemmas.{still-read, added-next}
use Rattle.pages.proofs.group.GroupPages.add_due.Goals.{then-has_due, else-has_due}
use Rattle.pages.proofs.group.GroupPages.add_due.Goals as goal

pub loop-index-init : goal.loop-index-init
loop-index-init c = record { within = λ p there. there; still = λ i l. absurd (omega (arith, l)) }

pub loop-index-preserved : goal.loop-index-preserved
loop-index-preserved c =
    let pages = c.args.self.now in
    let long : length c.args.self.now ≡ GROUP_PAGES = ap length (sym c.self.view_is) ∙ c.self.invariant in
    elim c.if-has_due.branch [
      | then-has_due w ↦ added-next pages c.args.moment c.args.first c.loop-index.index c.args.due.now c.loop-index.due c.if-has_due.due c.loop-index.invariant
          (added-within c.loop-index.due c.if-has_due.due (c.args.first + c.loop-index.index) (ap (λ s. has_page s (c.args.first + c.loop-index.index)) w.due-is ∙ w.add.ensures.has)
          (λ p other. ap (λ s. has_page s p) w.due-is ∙ w.add.ensures.others p other))
          (λ out. absurd (true≢false (sym w.add.ensures.has ∙ ap (λ s. has_page s (c.args.first + c.loop-index.index)) (sym w.due-is) ∙ out)))
      | else-has_due w ↦ added-next pages c.args.moment c.args.first c.loop-index.index c.args.due.now c.loop-index.due c.if-has_due.due c.loop-index.invariant
          (λ p there. ap (λ s. has_page s p) w.due-is ∙ there)
          (λ out. still-read pages c.args.moment c.loop-index.index c.page.result.now (omega (arith, c.loop-index-test.true, long)) c.page.ensures
          (c.has_due.ensures.none w.if-has_due.false))
    ]

pub returns-clause-within : goal.returns-clause-within
returns-clause-within c = c.loop-index.invariant.within

pub returns-clause-own : goal.returns-clause-own
returns-clause-own c = λ i l. c.loop-index.invariant.still i (omega (arith, l, c.loop-index-test.false))
