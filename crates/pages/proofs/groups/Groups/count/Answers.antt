use Rattle.std.proofs.Common.{List, ap, ◌∙◌}
use Rattle.pages.specs.Page.{PageState, item_count}
use Rattle.pages.specs.Joined.{items_of}
use Rattle.pages.proofs.CountLemmas.{count-joined}
use Rattle.pages.proofs.groups.Groups.count.Goals as goal

pub count_in-requires : goal.count_in-requires
count_in-requires c = c.self.invariant.count

pub returns : goal.returns
returns c = c.count_in.ensures ∙ ap (λ (ps : List PageState). item_count (items_of ps)) c.self.view_is ∙ count-joined (items_of c.args.self.now) c.requires
