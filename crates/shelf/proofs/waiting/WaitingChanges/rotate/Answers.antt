use Rattle.std.proofs.Common.{◌≡◌, List, [], ◌∷◌, length, refl, sym, ap, ◌∙◌, subst, inr, arith, rules}
use Rattle.std.specs.Prelude.{drop}
use Rattle.std.proofs.lemmas.List.Sorted.{answers_always}
use Rattle.item_rows.specs.RowItems.{RowItems}
use Rattle.shelf.specs.WaitingView.{WaitingView, IsResorted}
use Rattle.shelf.specs.InMemory.{waiting_view}
use Rattle.shelf.proofs.SortLemmas.{resorted}
use Rattle.shelf.proofs.waiting.WaitingChanges.rotate.Goals as goal

empty : (xs : List RowItems) → length xs ≡ 0 → xs ≡ []
empty [] e = refl
empty (x ∷ xs) e = absurd (omega (arith, e))

pub returns-then-is_due : goal.returns-then-is_due
returns-then-is_due c =
    let sorted : IsResorted c.replace-pending.result.items c.sort_by_key.new.self.items =
    resorted c.replace-pending.result.items c.sort_by_key.new.self.items (c.sort_by_key.ensures.stable (λ (row_items : RowItems). row_items.0) (answers_always _ _ _ (λ f a r g h. search rules))) in
    inr (record {
      none = empty (waiting_view c.args.self.now).pending (sym c.left.ensures ∙ c.if-left-eq0.true);
      all_written = c.if-self.true;
      sorted = subst (λ v. IsResorted v.items c.sort_by_key.new.self.items) c.replace-pending.ensures.value sorted;
      is = ap (λ (gathered : List RowItems). record { pending = c.sort_by_key.new.self.items; gathered = gathered; first = c.args.self.now.first; middle = c.args.self.now.next; next = c.args.self.now.next })
          (ap (λ v. v.items) c.replace-pending.ensures.after ∙ c.new.ensures.items);
    })
