use Rattle.std.proofs.Common.{List, ℕ, ap, ◌∙◌}
use Rattle.token.specs.declared.tree.TheConstants.{HEIGHT}
use Rattle.token.specs.Digest.{root_of}
use Rattle.pages.specs.Page.{Laid}
use Rattle.pages.specs.Form.{root_in}
use Rattle.pages.proofs.snapshot.Snapshot.root.Goals as goal

pub returns : goal.returns
returns c =
    c.root.ensures ∙ ap (λ (ds : List (List ℕ)). root_of HEIGHT ds) (c.deref.ensures ∙ c.self.invariant.told) ∙ ap (λ (s : Laid). root_in s.layout s.items) c.self.view_is
