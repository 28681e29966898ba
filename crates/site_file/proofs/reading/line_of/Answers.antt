use Rattle.std.proofs.Common.{◌≡◌, ℕ, List, ◌+◌, take, ap, ◌∙◌}
use Rattle.std.specs.Prelude.{count_by, ◌==◌}
use Rattle.std.proofs.lemmas.List.{take_min}
use Rattle.site_file.proofs.reading.line_of.Goals as goal

pub returns : goal.returns
returns c =
    let before : c.split_at.result.0.now ≡ take c.args.start c.args.text.now = c.split_at.ensures.front ∙ (ap (λ (n : ℕ). take n c.args.text.now) c.min.ensures ∙ take_min c.args.start c.args.text.now) in
    ap (λ (n : ℕ). n + 1) (c.newlines.ensures.count ∙ ap (λ (t : List ℕ). count_by (λ (b : ℕ). b == 10) t) before)
