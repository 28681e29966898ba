use Rattle.std.proofs.Common.{ℕ, ◌<◌, List, ap, ◌∙◌, subst}
use Rattle.pages.specs.Page.{PageState, item_count}
use Rattle.pages.specs.Joined.{items_of}
use Rattle.pages.specs.Known.{AreStill}
use Rattle.pages.proofs.group.Group.learn.Goals as goal

pub invariant_of-self : goal.invariant_of-self
invariant_of-self c known = record {
  counted = c.len-self-inside.ensures.len ∙ ap (λ (ps : List PageState). item_count (items_of ps)) c.deref.ensures;
  few = c.len-self-inside.ensures.few;
  still = subst (λ (ps : List PageState). (moment : ℕ) → moment < c.first_due-self-inside.result → AreStill moment ps) c.deref-2.ensures c.first_due-self-inside.ensures;
}
