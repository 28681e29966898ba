use Rattle.std.proofs.Common.{◌≡◌, sym, ap, ◌∙◌, subst}
use Rattle.items.specs.Map.{Items}
use Rattle.std.specs.Prelude.{IfOk}
use Rattle.pages.specs.Joined.{ArePages, joined_pages, items_of}
use Rattle.pages.proofs.PartLemmas.{parts-are, joined-parts}
use Rattle.transfer.specs.Parcel.{joined_with}
use Rattle.transfer.proofs.taking.joined_pages.Goals as goal

pub put_all-requires : goal.put_all-requires
put_all-requires c = subst ArePages (sym c.in_ok-shared.ensures) (parts-are c.in_ok-open.field-0)

pub returns : goal.returns
returns c =
    let same : joined_pages (items_of c.in_ok-shared.shared.items) ≡ c.args.own.now.items = ap joined_pages c.in_ok-shared.ensures ∙ (joined-parts c.in_ok-open.field-0 ∙ c.in_ok-open.ensures) in
    let whole : c.join.result ≡ joined_with c.args.own.now.items c.args.came.items = c.join.ensures ∙ (ap joined_pages c.put_all.ensures.is ∙ ap (λ (m : Items). joined_with m c.args.came.items) same) in
    subst (λ (m : Items). IfOk c.seal.result (λ pages. pages ≡ record { items = m; layout = c.args.layout })) whole c.seal.ensures
