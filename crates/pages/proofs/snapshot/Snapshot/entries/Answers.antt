use Rattle.std.proofs.Common.{◌≡◌, ℕ, List, subst}
use Rattle.std.specs.Prelude.{IfOk}
use Rattle.items.specs.declared.item.Item.{Item}
use Rattle.pages.specs.Layout.{entries_in}
use Rattle.pages.proofs.snapshot.Snapshot.entries.Goals as goal

pub returns : goal.returns
returns c =
    subst (λ (es : List (List ℕ × Item)). IfOk c.entries.result (λ entries. entries.items ≡ es))
    (λ i. entries_in (c.page.ensures.layout i) (c.page.ensures.items i))
    c.entries.ensures
