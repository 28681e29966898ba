use Rattle.std.proofs.Common.{◌≡◌, ◌≢◌, ◌+◌, ◌<◌, length, ap, sym, ◌∙◌, subst, arith}
use Rattle.std.proofs.lemmas.Bool.Decides.{nat_tests}
use Rattle.std.specs.FinMap.{from_sorted, entries}
use Rattle.items.specs.Map.{Items, by_bytes, alive}
use Rattle.items.proofs.IndexLemmas.{without, none-first, indexed-first, dropped-first}
use Rattle.items.proofs.plain.PlainStore.drop_first.Goals as goal

pub returns-then-is_empty : goal.returns-then-is_empty
returns-then-is_empty c = λ moment some.
    let none : length c.self.inside.index.items ≡ 0 = grind (arith, nat_tests) in
    absurd (some (none-first c.self.inside.index.items c.self.inside.entries c.args.self.now c.self.invariant c.self.view_is none moment))

pub invariant_of-self : goal.invariant_of-self
invariant_of-self c =
    let some : 0 < length c.self.inside.index.items = grind (arith, nat_tests) in
    indexed-first c.self.inside.index.items _ c.self.inside.entries _ c.remove-first.result c.self.invariant some c.remove-first.ensures.value c.remove-first.ensures.items
    (c.remove.ensures.removed ∙ ap (λ key. without key c.self.inside.entries) c.key.ensures)

pub returns : goal.returns
returns c = λ moment some.
    let more : 0 < length c.self.inside.index.items = grind (arith, nat_tests) in
    subst (λ (m : Items). (alive (from_sorted c.remove.new.self) moment ≡ alive m moment) × (length (entries (from_sorted {R = by_bytes} c.remove.new.self)) + 1 ≡ length (entries m))) c.self.view_is
    (dropped-first c.self.inside.index.items c.self.inside.entries c.remove.new.self c.remove-first.result c.self.invariant c.remove-first.ensures.value more
    (c.remove.ensures.removed ∙ ap (λ key. without key c.self.inside.entries) c.key.ensures) moment (subst (λ (m : Items). alive m moment ≢ m) (sym c.self.view_is) some))
