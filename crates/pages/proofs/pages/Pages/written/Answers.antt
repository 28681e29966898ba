use Rattle.std.proofs.Common.{sym, ap, ◌∙◌}
use Rattle.pages.specs.Joined.{parts}
use Rattle.pages.specs.Held.{items_held}
use Rattle.pages.proofs.pages.Pages.written.Goals as goal

pub returns-in-Own-clause-ok : goal.returns-in-Own-clause-ok
returns-in-Own-clause-ok c = c.part.ensures ∙ ap parts (sym (ap items_held c.in-Own.is) ∙ c.self.view_is)
