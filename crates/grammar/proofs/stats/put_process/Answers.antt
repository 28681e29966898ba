use Rattle.std.proofs.Common.{◌≡◌, ◌++◌, ℕ, List, [], ◌∷◌, OnOk, map, subst}
use Rattle.std.specs.Prelude.{codes}
use Rattle.figures.specs.declared.figures.Figures.{Figures}
use Rattle.grammar.specs.Stats.{number_lines, process_numbers}
use Rattle.grammar.proofs.stats.put_process.Goals as goal

rows_of : Figures → ℕ → List (List ℕ × ℕ)
rows_of f time = (codes "pid", f.process.id) ∷ (codes "uptime", f.uptime_seconds) ∷ (codes "time", time) ∷ (codes "pointer_size", 64) ∷ (codes "threads", 2) ∷ []

pub returns : goal.returns
unfolding process_numbers rows_of
returns c =
    subst (λ (time : ℕ). OnOk c.put_numbers.result (c.put_numbers.new.out.items ≡ c.args.out.now.items ++ number_lines (rows_of c.args.figures.now time))) c.plus-now.ensures
    (subst (λ rows. OnOk c.put_numbers.result (c.put_numbers.new.out.items ≡ c.args.out.now.items ++ number_lines (map (λ r. (r.0.now, r.1)) rows))) c.as_slice.ensures c.put_numbers.ensures)
