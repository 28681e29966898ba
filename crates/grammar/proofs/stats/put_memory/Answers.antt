use Rattle.std.proofs.Common.{◌≡◌, ◌++◌, ℕ, List, [], ◌∷◌, OnOk, map, subst}
use Rattle.std.specs.Prelude.{codes}
use Rattle.figures.specs.declared.figures.Figures.{Figures}
use Rattle.grammar.specs.Stats.{number_lines, memory_numbers}
use Rattle.grammar.proofs.stats.put_memory.Goals as goal

rows_of : Figures → ℕ → ℕ → List (List ℕ × ℕ)
rows_of f large full =
    (codes "store_too_large", large) ∷ (codes "store_no_memory", full) ∷ (codes "limit_maxbytes", f.limits.item_bytes) ∷ (codes "bytes", f.memory.item_bytes) ∷ (codes "curr_items", f.memory.items) ∷ (codes "evictions", 0) ∷ []

pub returns : goal.returns
unfolding memory_numbers rows_of
returns c =
    subst (λ (z : ℕ × ℕ). OnOk c.put_numbers.result (c.put_numbers.new.out.items ≡ c.args.out.now.items ++ number_lines (rows_of c.args.figures.now z.0 z.1))) (λ i. (c.of.ensures i, c.of-2.ensures i))
    (subst (λ rows. OnOk c.put_numbers.result (c.put_numbers.new.out.items ≡ c.args.out.now.items ++ number_lines (map (λ r. (r.0.now, r.1)) rows))) c.as_slice.ensures c.put_numbers.ensures)
