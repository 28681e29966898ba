use Rattle.std.proofs.Common.{ap, ◌∙◌}
use Rattle.pages.specs.Joined.{parts}
use Rattle.pages.proofs.pages.Pages.taken_apart.Goals as goal

pub returns-in-Ok-clause-ok : goal.returns-in-Ok-clause-ok
returns-in-Ok-clause-ok c = c.part.ensures ∙ ap parts c.in-Ok.ensures
