use Rattle.std.proofs.Common.{List, sym, ap, ◌∙◌, subst}
use Rattle.pages.specs.Page.{PageState, Laid}
use Rattle.pages.specs.Joined.{ArePages, joined_pages, items_of}
use Rattle.pages.proofs.snapshot.Snapshot.own.Goals as goal

pub with_tree-requires : goal.with_tree-requires
with_tree-requires c = subst (λ (ps : List PageState). ArePages (items_of ps)) (sym (c.in_ok-pages.ensures ∙ c.deref.ensures)) c.self.invariant.sealed.are

pub returns : goal.returns
returns c =
    c.with_tree.ensures ∙ ap (λ (ps : List PageState). joined_pages (items_of ps)) (c.in_ok-pages.ensures ∙ c.deref.ensures) ∙ ap (λ (s : Laid). s.items) c.self.view_is
