use Rattle.std.proofs.Common.{◌≤◌, ◌+◌, ◌-◌, ◌^◌, min, length, IfOk, ◌∙◌, subst, arith}
use Rattle.std.specs.FinMap.{entries}
use Rattle.items.specs.Map.{Items}
use Rattle.pages.specs.Page.{page_count, beside_due}
use Rattle.pages.specs.Joined.{parts}
use Rattle.pages.specs.Held.{items_held}
use Rattle.pages.proofs.pages.Pages.drop_due_counted.Goals as goal

pub returns-then-is_still-clause-count : goal.returns-then-is_still-clause-count
returns-then-is_still-clause-count c = omega arith

pub returns-clause-count : goal.returns-clause-count
returns-clause-count c =
    subst (λ (m : Items). IfOk c.drop_due_counted.result (λ looks. looks + length (entries (items_held c.drop_due_counted.new.self)) ≤ length (entries m) + page_count + beside_due c.args.moment (parts m)))
    (c.self.view_is ∙ c.in_ok-make_own.ensures) c.drop_due_counted.ensures.count

pub returns-clause-dropped : goal.returns-clause-dropped
returns-clause-dropped c =
    subst (λ (m : Items). IfOk c.drop_due_counted.result (λ looks. min (length (entries m)) (2 ^ 64 - 1) ≤ looks + length (entries (items_held c.drop_due_counted.new.self))))
    (c.self.view_is ∙ c.in_ok-make_own.ensures) c.drop_due_counted.ensures.dropped
