use Rattle.std.proofs.Common.{sym, ap, ◌∙◌, subst}
use Rattle.items.specs.Map.{Items}
use Rattle.pages.specs.Joined.{ArePages, joined_pages, items_of}
use Rattle.pages.specs.Old.{old_entries, given_or, given_at}
use Rattle.pages.proofs.PartLemmas.{parts-are, joined-parts}
use Rattle.pages.proofs.StateLemmas.{length-states}
use Rattle.pages.proofs.GivenLemmas.{given-pages, given-old}
use Rattle.pages.proofs.pages.Pages.with_old_pages.Goals as goal

pub pages_over-requires-clause-count : goal.pages_over-requires-clause-count
pages_over-requires-clause-count c = length-states c.in_ok-before.before.items (subst ArePages (sym c.in_ok-before.ensures) (parts-are c.args.self))

pub join-requires : goal.join-requires
join-requires c =
    let are : ArePages (items_of c.in_ok-before.before.items) = subst ArePages (sym c.in_ok-before.ensures) (parts-are c.args.self) in
    subst ArePages (sym c.in_ok-pages_over.ensures) (given-pages (items_of c.in_ok-before.before.items) are c.args.given.now c.requires)

pub returns : goal.returns
returns c = λ p l.
    let are : ArePages (items_of c.in_ok-before.before.items) = subst ArePages (sym c.in_ok-before.ensures) (parts-are c.args.self) in
    ap (λ (m : Items). old_entries m p) (c.join.ensures ∙ ap joined_pages c.in_ok-pages_over.ensures) ∙ given-old (items_of c.in_ok-before.before.items) are c.args.given.now c.requires p l
    ∙ ap (λ (m : Items). given_or m p (given_at c.args.given.now p)) (ap joined_pages c.in_ok-before.ensures ∙ joined-parts c.args.self)
