use Rattle.std.proofs.Common.{sym, ap, ◌∙◌}
use Rattle.item_rows.specs.Changed.{row_number_at_front, lower_row_number}
use Rattle.item_rows.proofs.NotedLemmas.{goes_on_with, ended, shorter_behind}
use Rattle.item_rows.proofs.changed.compare.Goals as goal

pub loop-at-preserved : goal.loop-at-preserved
loop-at-preserved c = (
  c.split_row.ensures.first,
  c.split_row-in-Some.ensures.first,
  λ rise rises.
      goes_on_with c.args.old.now c.args.new.now c.loop-at.old_rest.entries.now c.loop-at.new_rest.entries.now c.in-Some.at c.loop-at.changes.items c.note.new.changes.items c.split_row.result.0.now c.split_row-in-Some.result.0.now c.split_row.result.1.entries.now c.split_row-in-Some.result.1.entries.now
      (c.loop-at.invariant.2 rise rises) (ap (λ first. lower_row_number first (row_number_at_front c.loop-at.new_rest.entries.now)) (sym c.loop-at.invariant.0) ∙ ap (lower_row_number c.loop-at.old_rest.first) (sym c.loop-at.invariant.1) ∙ sym c.lower.ensures ∙ c.in-Some.is) c.split_row.ensures.front c.split_row-in-Some.ensures.front c.in_ok-note.ensures c.split_row.ensures.rest c.split_row-in-Some.ensures.rest,
)

pub loop-at-smaller : goal.loop-at-smaller
loop-at-smaller c = shorter_behind c.in-Some.at c.loop-at.old_rest.entries.now c.loop-at.new_rest.entries.now c.split_row.result.1.entries.now c.split_row-in-Some.result.1.entries.now
    (ap (λ first. lower_row_number first (row_number_at_front c.loop-at.new_rest.entries.now)) (sym c.loop-at.invariant.0) ∙ ap (lower_row_number c.loop-at.old_rest.first) (sym c.loop-at.invariant.1) ∙ sym c.lower.ensures ∙ c.in-Some.is) c.split_row.ensures.rest c.split_row-in-Some.ensures.rest

pub returns : goal.returns
returns c = λ rise rises.
    ended c.args.old.now c.args.new.now c.loop-at.old_rest.entries.now c.loop-at.new_rest.entries.now c.loop-at.changes.items (c.loop-at.invariant.2 rise rises) (ap (λ first. lower_row_number first (row_number_at_front c.loop-at.new_rest.entries.now)) (sym c.loop-at.invariant.0) ∙ ap (lower_row_number c.loop-at.old_rest.first) (sym c.loop-at.invariant.1) ∙ sym c.lower.ensures ∙ c.in_default.is)
