use Rattle.std.proofs.Common.{◌≡◌, ℕ, ◌≤◌, ◌<◌, List, length, ap, sym, ◌∙◌, rules, arith, subst}
use Rattle.std.specs.Prelude.{filter}
use Rattle.std.specs.FinMap.{from_sorted, entries}
use Rattle.std.proofs.lemmas.Fn.{filter_same}
use Rattle.items.specs.declared.item.Item.{Item}
use Rattle.items.specs.Map.{Items, is_alive, alive}
use Rattle.items.specs.Index.{IsDueUpTo, IsLaterFrom}
use Rattle.base.proofs.MapLemmas.{same_filter}
use Rattle.items.proofs.IndexLemmas.{first-found, indexed-alive, fewer}
use Rattle.items.proofs.plain.PlainStore.drop_rest.Goals.{After-retain}
use Rattle.items.proofs.plain.PlainStore.drop_rest.Goals as goal

found : (c : goal.After-count_due-arg-1) → (0 < length c.self.inside.index.items) × IsDueUpTo c.args.moment c.self.inside.index.items 1
found c = first-found c.self.inside.index.items c.self.inside.entries c.args.moment c.self.invariant (λ same. c.requires (subst (λ (m : Items). alive m c.args.moment ≡ m) c.self.view_is same))

kept : (c : After-retain) → c.retain.new.self ≡ filter (λ e. is_alive c.args.moment e.1) c.self.inside.entries
kept c = filter_same _ (λ e. is_alive c.args.moment e.1) _ (λ x b f' called. search rules) _ _ c.retain.ensures.kept

due : (c : After-retain) → IsDueUpTo c.args.moment c.self.inside.index.items c.count_due-due.result
due c = subst (λ (index : List ((ℕ × List ℕ) × Item)). IsDueUpTo c.args.moment index c.count_due-due.result) c.deref.ensures.value c.count_due-due.ensures.due

pub count_due-due-requires-clause-some : goal.count_due-due-requires-clause-some
count_due-due-requires-clause-some c = subst (λ (index : List ((ℕ × List ℕ) × Item)). 0 < length index) (sym c.deref.ensures.value) (found c).0

pub count_due-due-requires-clause-first : goal.count_due-due-requires-clause-first
count_due-due-requires-clause-first c = subst (λ (index : List ((ℕ × List ℕ) × Item)). IsDueUpTo c.args.moment index 1) (sym c.deref.ensures.value) (found c).1

pub invariant_of-self : goal.invariant_of-self
invariant_of-self c =
    indexed-alive c.self.inside.index.items _ c.self.inside.entries _ c.args.moment c.count_due-due.result c.self.invariant (due c)
    (subst (λ (index : List ((ℕ × List ℕ) × Item)). IsLaterFrom c.args.moment index c.count_due-due.result) c.deref.ensures.value c.count_due-due.ensures.later)
    c.take_first.ensures (kept c)

pub returns-clause-dropped : goal.returns-clause-dropped
returns-clause-dropped c =
    ap from_sorted (kept c)
    ∙ sym (same_filter (λ e. is_alive c.args.moment e.1) c.self.inside.entries c.self.invariant.sorted)
    ∙ ap (λ m. alive m c.args.moment) c.self.view_is

pub returns-clause-count : goal.returns-clause-count
returns-clause-count c =
    let within : c.count_due-due.result ≤ length c.self.inside.index.items = omega (arith, c.count_due-due.ensures.within, ap length c.deref.ensures.value) in
    let left = fewer c.self.inside.index.items c.self.inside.entries c.retain.new.self c.args.moment c.count_due-due.result c.self.invariant within (due c) (kept c) in
    omega (arith, left, c.count_due-due.ensures.count, ap (λ (m : Items). length (entries m)) c.self.view_is)
