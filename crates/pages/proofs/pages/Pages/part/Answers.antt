use Rattle.std.proofs.Common.{ap, ◌∙◌}
use Rattle.pages.specs.Joined.{parts}
use Rattle.pages.proofs.pages.Pages.part.Goals as goal

pub returns : goal.returns
returns c = c.part.ensures ∙ ap parts (c.in_ok-own.ensures ∙ c.self.view_is)
