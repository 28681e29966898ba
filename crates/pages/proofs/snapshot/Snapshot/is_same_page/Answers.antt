use Rattle.std.proofs.Common.{◌≡◌, subst}
use Rattle.std.specs.Prelude.{◌↔◌, IfOk, IsTrue}
use Rattle.items.specs.Map.{Items}
use Rattle.pages.specs.Page.{page_items}
use Rattle.pages.proofs.snapshot.Snapshot.is_same_page.Goals as goal

pub returns : goal.returns
returns c =
    subst (λ (m : Items). IfOk c.is_same.result (λ same. IsTrue same ↔ (page_items c.args.self.now.items c.args.number ≡ m))) c.page-2.ensures.items
    (subst (λ (m : Items). IfOk c.is_same.result (λ same. IsTrue same ↔ (m ≡ c.page-2.result.now.items))) c.page.ensures.items c.is_same.ensures)
