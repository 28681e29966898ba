use Rattle.std.proofs.Common.{◌≡◌, sym, ap, ◌∙◌}
use Rattle.pages.specs.Page.{PageState, sealed_in}
use Rattle.pages.specs.Layout.{entries_in}
use Rattle.pages.proofs.OwnLemmas.{entries_tell}
use Rattle.pages.proofs.page.Page.is_same.Goals as goal

pub returns : goal.returns
returns c =
    let page = c.args.self.now in
    let other = c.args.other.now in
    let laid : c.seal.new.self ≡ sealed_in c.args.self.now.layout c.args.other.now = c.in_ok-seal.ensures.ok ∙ (λ i. sealed_in (c.layout-layout.ensures i) (c.in_ok-laid.ensures.cases i)) in
    let mine : c.as_slice.result.now ≡ entries_in c.args.self.now.layout c.args.self.now.items = c.as_slice.ensures.value ∙ c.in_ok-entries.ensures in
    let others : c.as_slice-2.result.now ≡ entries_in c.args.self.now.layout c.args.other.now.items =
    c.as_slice-2.ensures.value ∙ c.in_ok-others.ensures ∙ ap (λ (p : PageState). entries_in p.layout p.items) laid in
    (λ yes. entries_tell page.layout page.items other.items (sym mine ∙ c.are_same.ensures.0 yes ∙ others), λ same. c.are_same.ensures.1 (mine ∙ ap (entries_in page.layout) same ∙ sym others))
