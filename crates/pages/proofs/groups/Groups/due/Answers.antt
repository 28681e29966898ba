use Rattle.std.proofs.Common.{ℕ, false, ap, ◌∙◌, subst, arith}
use Rattle.std.proofs.lemmas.List.{get_or_default}
use Rattle.pages.specs.Joined.{joined_pages, items_of}
use Rattle.pages.specs.Others.{has_page}
use Rattle.pages.specs.Group.{page_at, no_page}
use Rattle.pages.specs.Known.{IsStill}
use Rattle.pages.proofs.LongLemmas.{place-of}
use Rattle.pages.proofs.StateLemmas.{part-at, length-states}
use Rattle.pages.proofs.OtherLemmas.{alive-elsewhere}
use Rattle.pages.proofs.StillLemmas.{groups-added-next}
use Rattle.pages.proofs.groups.Groups.due.Goals as goal

pub loop-group-preserved : goal.loop-group-preserved
loop-group-preserved c =
    groups-added-next c.args.self.now c.args.moment c.loop-group.group c.loop-group.due c.add_due.new.due c.loop-group.invariant c.add_due.ensures.within c.add_due.ensures.own

pub returns : goal.returns
returns c p l out =
    let pages = c.args.self.now in
    let at = place-of p l in
    let page = page_at c.args.self.now p in
    let read = get_or_default pages p no_page page (omega (arith, l, length-states pages c.requires)) in
    alive-elsewhere (joined_pages (items_of pages)) p c.args.moment page.items (part-at pages p page c.requires l read)
    (subst (λ (k : ℕ). IsStill c.args.moment (page_at pages k)) at.0
    (c.loop-group.invariant _ _ (omega (arith, at.1, c.loop-group-test.false)) at.2 (ap (λ (k : ℕ). has_page c.loop-group.due k) at.0 ∙ out)))
