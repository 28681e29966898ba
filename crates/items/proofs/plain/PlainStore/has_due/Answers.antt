use Rattle.std.proofs.Common.{◌≡◌, ℕ, ◌<◌, ◌≤◌, List, length, get_or, not, nat_lt, false, subst}
use Rattle.items.specs.declared.item.Item.{Item}
use Rattle.items.proofs.IndexLemmas.{looked-none, looked-some}
use Rattle.items.proofs.plain.PlainStore.has_due.Goals.{After-is_due}
use Rattle.items.proofs.plain.PlainStore.has_due.Goals as goal

none : (c : After-is_due) → length c.self.inside.index.items ≤ 0 → c.is_due.result ≡ false
none c = subst (λ (index : List ((ℕ × List ℕ) × Item)). length index ≤ 0 → c.is_due.result ≡ false) c.deref.ensures.value c.is_due.ensures.none

some : (c : After-is_due) → (due : (ℕ × List ℕ) × Item) → 0 < length c.self.inside.index.items → c.is_due.result ≡ not (nat_lt c.args.moment (get_or c.self.inside.index.items 0 due).0.0)
some c = subst (λ (index : List ((ℕ × List ℕ) × Item)). (due : (ℕ × List ℕ) × Item) → 0 < length index → c.is_due.result ≡ not (nat_lt c.args.moment (get_or index 0 due).0.0)) c.deref.ensures.value c.is_due.ensures.some

pub returns-clause-none : goal.returns-clause-none
returns-clause-none c = looked-none c.self.inside.index.items c.self.inside.entries c.args.self.now c.args.moment c.is_due.result c.self.invariant c.self.view_is (none c) (some c)

pub returns-clause-some : goal.returns-clause-some
returns-clause-some c = looked-some c.self.inside.index.items c.self.inside.entries c.args.self.now c.args.moment c.is_due.result c.self.invariant c.self.view_is (none c) (some c)
