use Rattle.std.proofs.Common.{sym, ap, ◌∙◌}
use Rattle.pages.specs.Joined.{items_of, parts}
use Rattle.pages.proofs.PartLemmas.{parts-joined}
use Rattle.pages.proofs.own_pages.OwnPages.part.Goals as goal

pub returns : goal.returns
returns c = sym (parts-joined (items_of c.self.inside.pages.items) c.self.invariant) ∙ ap parts c.self.view_is
