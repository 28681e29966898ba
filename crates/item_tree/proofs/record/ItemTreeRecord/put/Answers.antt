use Rattle.std.proofs.Common.{[], ◌∷◌, ◌++◌, length, ap, ◌∙◌, subst, append_assoc}
use Rattle.std.specs.Prelude.{flat_map}
use Rattle.std.specs.Int.{w32}
use Rattle.std.proofs.lemmas.Result.{on_ok_weaker}
use Rattle.wire.specs.Number.{num}
use Rattle.wire.specs.Item.{entry_text}
use Rattle.item_tree.specs.Text.{path_entries, tree_text}
use Rattle.item_tree.proofs.record.ItemTreeRecord.put.Goals as goal

pub returns : goal.returns
unfolding tree_text
returns g c =
    let es = c.self.inside.items in
    let order = c.put_texts.ensures.order ∙ ap path_entries c.self.view_is in
    on_ok_weaker c.put_texts.result (λ written front held.
    subst (g.S.Sink.holds c.put_texts.new.sink)
    (ap (λ n. ((front ++ 6 ∷ []) ++ num w32 n) ++ flat_map entry_text es) c.len.ensures.listed
    ∙ append_assoc (front ++ 6 ∷ []) (num w32 (length es)) (flat_map entry_text es)
    ∙ append_assoc front (6 ∷ []) (num w32 (length es) ++ flat_map entry_text es)
    ∙ ap (λ es. front ++ 6 ∷ (num w32 (length es) ++ flat_map entry_text es)) order)
    (written _ (c.in_ok-put_count.ensures _ (c.in_ok-put.ensures front held)))) c.put_texts.ensures.written
