use Rattle.std.proofs.Common.{List, sym, ap, ◌∙◌, subst}
use Rattle.pages.specs.Page.{PageState}
use Rattle.pages.specs.Joined.{ArePages, joined_pages, items_of}
use Rattle.pages.proofs.StateLemmas.{set-same}
use Rattle.pages.proofs.own_pages.OwnPages.with_tree.Goals as goal

pub join-requires : goal.join-requires
join-requires c =
    subst (λ (ps : List PageState). ArePages (items_of ps)) (sym (set-same c.args.pages.items 0 c.index_mut.result.now c.keep_tree.new.self c.keep_tree.ensures c.index_mut.ensures.value)) c.requires

pub returns : goal.returns
returns c =
    c.join.ensures
    ∙ ap (λ (ps : List PageState). joined_pages (items_of ps)) (set-same c.args.pages.items 0 c.index_mut.result.now c.keep_tree.new.self c.keep_tree.ensures c.index_mut.ensures.value)
