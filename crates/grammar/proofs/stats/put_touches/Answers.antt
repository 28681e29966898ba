use Rattle.std.proofs.Common.{◌≡◌, ◌++◌, ◌∙◌, ℕ, List, [], ◌∷◌, OnOk, map, subst}
use Rattle.std.specs.Prelude.{codes}
use Rattle.figures.specs.Count.{sum_of}
use Rattle.grammar.specs.Stats.{number_lines, touch_numbers}
use Rattle.grammar.proofs.stats.put_touches.Goals as goal

rows_of : ℕ → ℕ → ℕ → List (List ℕ × ℕ)
rows_of all hits misses = (codes "cmd_touch", all) ∷ (codes "touch_hits", hits) ∷ (codes "touch_misses", misses) ∷ []

pub returns : goal.returns
unfolding touch_numbers rows_of
returns c =
    let all = c.plus.ensures ∙ (λ i. sum_of (c.count_of-hits.ensures i) (c.count_of-misses.ensures i)) in
    subst (λ (z : ℕ × ℕ × ℕ). OnOk c.put_numbers.result (c.put_numbers.new.out.items ≡ c.args.out.now.items ++ number_lines (rows_of z.0 z.1 z.2))) (λ i. (all i, c.count_of-hits.ensures i, c.count_of-misses.ensures i))
    (subst (λ rows. OnOk c.put_numbers.result (c.put_numbers.new.out.items ≡ c.args.out.now.items ++ number_lines (map (λ r. (r.0.now, r.1)) rows))) c.as_slice.ensures c.put_numbers.ensures)
