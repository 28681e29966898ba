use Rattle.std.proofs.Common.{◌≤◌, ◌+◌, ◌-◌, ◌^◌, min, length, IfOk, sym, ap, subst}
use Rattle.std.specs.FinMap.{entries}
use Rattle.items.specs.Map.{Items}
use Rattle.pages.specs.Page.{page_count, beside_due}
use Rattle.pages.specs.Joined.{parts}
use Rattle.pages.specs.Held.{items_held}
use Rattle.pages.proofs.pages.Held.drop_due_counted.Goals as goal

pub returns-in-Own-clause-count : goal.returns-in-Own-clause-count
returns-in-Own-clause-count c =
    subst (λ (m : Items). IfOk c.drop_due_counted.result (λ looks. looks + length (entries c.drop_due_counted.new.self) ≤ length (entries m) + page_count + beside_due c.args.moment (parts m)))
    (sym (ap items_held c.in-Own.is)) c.drop_due_counted.ensures.count

pub returns-in-Own-clause-dropped : goal.returns-in-Own-clause-dropped
returns-in-Own-clause-dropped c =
    subst (λ (m : Items). IfOk c.drop_due_counted.result (λ looks. min (length (entries m)) (2 ^ 64 - 1) ≤ looks + length (entries c.drop_due_counted.new.self)))
    (sym (ap items_held c.in-Own.is)) c.drop_due_counted.ensures.dropped
