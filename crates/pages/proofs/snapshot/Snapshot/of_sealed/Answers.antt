use Rattle.std.proofs.Common.{List, length, sym, ap, ◌∙◌, subst}
use Rattle.std.specs.Prelude.{◌≡◌, IfOk}
use Rattle.pages.specs.Page.{PageState, of_each, page_digest_in}
use Rattle.pages.specs.Joined.{AreSealed, joined_pages, items_of}
use Rattle.pages.proofs.StateLemmas.{length-states}
use Rattle.pages.proofs.snapshot.Snapshot.of_sealed.Goals as goal

pub of_pages-requires : goal.of_pages-requires
of_pages-requires c = ap length c.in_ok-tree.ensures.same ∙ length-states c.args.pages.items c.requires.are

pub of_groups-requires : goal.of_groups-requires
of_groups-requires c =
    let is = c.in_ok-of_pages.ensures ∙ c.in_ok-tree.ensures.same in
    record {
      sealed = subst (AreSealed c.args.layout) (sym is) c.requires;
      told = c.in_ok-tree.ensures.tree ∙ c.digests_of-digests.ensures c.args.layout c.requires
          ∙ ap (λ (ps : List PageState). of_each (page_digest_in c.args.layout (joined_pages (items_of ps)))) (sym is);
    }

pub returns : goal.returns
returns c =
    subst (λ (ps : List PageState). IfOk c.of_groups.result (λ snapshot. snapshot ≡ record { items = joined_pages (items_of ps); layout = c.args.layout }))
    (c.in_ok-of_pages.ensures ∙ c.in_ok-tree.ensures.same) c.of_groups.ensures
