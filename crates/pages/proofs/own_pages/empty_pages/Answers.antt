use Rattle.std.proofs.Common.{[], ◌∷◌, ◌++◌, ap, ◌∙◌}
use Rattle.std.proofs.lemmas.List.{map_push}
use Rattle.std.proofs.lemmas.List.{replicate_more}
use Rattle.pages.specs.Page.{PageState}
use Rattle.pages.specs.Joined.{items_of}
use Rattle.pages.proofs.JoinedLemmas.{no_items}
use Rattle.pages.proofs.own_pages.empty_pages.Goals as goal

pub loop-made-preserved : goal.loop-made-preserved
loop-made-preserved c =
    let items_is = λ (page : PageState). page.items in
    let copy = ap items_is (c.in_ok-clone.ensures.cases ∙ c.in_ok-seal.ensures.ok) ∙ ap items_is c.in_ok-empty.ensures in
    ap items_of c.in_ok-push.ensures.items ∙ map_push items_is c.loop-made.pages.items c.in_ok-clone.field-0
    ∙ (λ j. c.loop-made.invariant j ++ copy j ∷ []) ∙ replicate_more c.loop-made.made no_items
