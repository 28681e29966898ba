use Rattle.std.proofs.Common.{◌≡◌, ap, ◌∙◌, subst}
use Rattle.std.specs.Prelude.{IfOk}
use Rattle.items.specs.Map.{Items}
use Rattle.pages.specs.Joined.{joined_pages}
use Rattle.pages.proofs.StateLemmas.{all-sealed, still-items}
use Rattle.pages.proofs.own_pages.OwnPages.seal.Goals as goal

pub of_sealed-requires : goal.of_sealed-requires
of_sealed-requires c = all-sealed c.args.layout c.self.inside.pages.items _ c.self.invariant c.in_ok-seal_all.ensures.ok

pub returns : goal.returns
returns c =
    subst (λ (m : Items). IfOk c.of_sealed.result (λ snapshot. snapshot ≡ record { items = m; layout = c.args.layout }))
    (ap joined_pages (still-items c.args.layout c.self.inside.pages.items _ c.in_ok-seal_all.ensures.ok) ∙ c.self.view_is)
    c.of_sealed.ensures
