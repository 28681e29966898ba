use Rattle.pages.specs.Layout.{digest_in}
use Rattle.std.proofs.Common.{◌∙◌}
use Rattle.pages.proofs.snapshot.Snapshot.digest.Goals as goal

pub returns : goal.returns
returns c = c.digest.ensures ∙ (λ i. digest_in (c.page.ensures.layout i) (c.page.ensures.items i))
