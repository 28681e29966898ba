use Rattle.std.proofs.Common.{ℕ, List, [], ◌∷◌, ◌++◌, ap, ◌∙◌}
use Rattle.decrees.specs.Record.{standing_text}
use Rattle.exec_lines.proofs.record.Saved.text.Goals as goal

pub returns : goal.returns
returns c =
    let marks = c.in_ok-put.ensures.ok ∙ ap (λ (t : List ℕ). t ++ 2 ∷ 69 ∷ []) c.new-whole.ensures in
    let known = c.in_ok-put-4.ensures _ (c.in_ok-put-3.ensures _ (c.in_ok-put-2.ensures _ marks)) in
    let standing = c.in_ok-put_standing.ensures ∙ ap (λ (t : List ℕ). t ++ standing_text c.args.self.now.standing) known in
    c.in_ok-put-5.ensures _ standing
