use Rattle.std.proofs.Common.{◌≡◌, ℕ, List, Option, sym, ap, ◌∙◌, subst}
use Rattle.std.specs.Prelude.{◌==◌, filter, IsTrue, IfSome}
use Rattle.std.specs.FinMap.{from_sorted, is_sorted}
use Rattle.base.proofs.MapLemmas.{sorted_filter}
use Rattle.items.specs.declared.item.Item.{Item}
use Rattle.items.specs.Map.{by_bytes}
use Rattle.wire.specs.Item.{EntriesFit, PageFits}
use Rattle.pages.specs.Page.{PageState, page_number}
use Rattle.pages.specs.Old.{part_given}
use Rattle.pages.proofs.PageLemmas.{fits-filter}
use Rattle.pages.proofs.old.page_over.Goals as goal

-- the part of the entries that are given
part_is : (c : goal.In_ok-part-in-Some) → c.in_ok-part-in-Some.part.items ≡ filter (λ e. page_number e.0 == c.args.number) c.in-Some.entries
part_is c = c.in_ok-part-in-Some.ensures ∙ ap (filter (λ e. page_number e.0 == c.args.number)) c.as_slice.ensures.entries

pub new-requires : goal.new-requires
new-requires c =
    subst (λ (es : List (List ℕ × Item)). IsTrue (is_sorted by_bytes es)) (sym (part_is c))
    (sorted_filter by_bytes (λ e. page_number e.0 == c.args.number) c.in-Some.entries c.as_slice.ensures.rising)

pub from_entries-requires : goal.from_entries-requires
from_entries-requires c =
    let fit : EntriesFit c.in-Some.entries = subst (λ (o : Option (List (List ℕ × Item))). IfSome o EntriesFit) c.in-Some.is c.requires in
    let part = c.in_ok-part-in-Some.ensures ∙ ap (filter (λ e. page_number e.0 == c.args.number)) c.as_slice.ensures.entries in
    subst PageFits (sym (c.new.ensures ∙ part)) (fits-filter (λ e. page_number e.0 == c.args.number) c.in-Some.entries fit.page)

pub returns-in_ok-from_entries-in-Some : goal.returns-in_ok-from_entries-in-Some
returns-in_ok-from_entries-in-Some c =
    let part = c.in_ok-part-in-Some.ensures ∙ ap (filter (λ e. page_number e.0 == c.args.number)) c.as_slice.ensures.entries in
    ap (λ (page : PageState). page.items) c.in_ok-from_entries-in-Some.ensures ∙ ap from_sorted (c.new.ensures ∙ part)
    ∙ sym (ap (part_given c.args.number c.args.before.now.items) c.in-Some.is)
