use Rattle.std.proofs.Common.{◌≡◌, ℕ, ◌+◌, ◌-◌, List, ◌++◌, length, take, min, refl, sym, ap, ◌∙◌, rules}
use Rattle.dialect.proofs.StageLemmas.{block_step_runs, whole_step_runs}
use Rattle.dialect.proofs.stage.Stage.step_block.Goals as goal

pub returns-in_ok-end_block-clause-runs : goal.returns-in_ok-end_block-clause-runs
returns-in_ok-end_block-clause-runs c =
    let count : c.len.result ≡ length c.args.self.now.held.items = search rules in
    let least : c.min-n.result ≡ min (c.args.size + 2 - length c.args.self.now.held.items) (length c.args.piece.now) =
    c.min-n.ensures ∙ ap (λ (k : ℕ). min (c.args.size + 2 - k) (length c.args.piece.now)) count in
    let now : c.extend_from_slice.new.self.items ≡ c.args.self.now.held.items ++ take c.min-n.result c.args.piece.now =
    c.in_ok-extend_from_slice.ensures.items ∙ ap (λ (ys : List ℕ). c.args.self.now.held.items ++ ys) c.split_at.ensures.front in
    let held : c.len-2.result ≡ length c.extend_from_slice.new.self.items = search rules in
    whole_step_runs c.args.self.now.part c.args.self.now.held.items c.args.piece.now c.args.turns.now.items c.end_block.new.turns.items c.args.size c.min-n.result c.extend_from_slice.new.self.items _
    c.requires.block c.requires.within least now (sym held ∙ c.if-len-whole.true) c.in_ok-end_block.ensures.turns c.in_ok-end_block.ensures.start

pub returns-else-len-whole-clause-runs : goal.returns-else-len-whole-clause-runs
returns-else-len-whole-clause-runs c =
    let count : c.len.result ≡ length c.args.self.now.held.items = search rules in
    let least : c.min-n.result ≡ min (c.args.size + 2 - length c.args.self.now.held.items) (length c.args.piece.now) =
    c.min-n.ensures ∙ ap (λ (k : ℕ). min (c.args.size + 2 - k) (length c.args.piece.now)) count in
    let now : c.extend_from_slice.new.self.items ≡ c.args.self.now.held.items ++ take c.min-n.result c.args.piece.now =
    c.in_ok-extend_from_slice.ensures.items ∙ ap (λ (ys : List ℕ). c.args.self.now.held.items ++ ys) c.split_at.ensures.front in
    let held : c.len-2.result ≡ length c.extend_from_slice.new.self.items = search rules in
    block_step_runs c.args.self.now.part c.args.self.now.held.items c.args.piece.now c.args.turns.now.items c.args.turns.now.items c.args.size c.min-n.result c.extend_from_slice.new.self.items
    c.requires.block c.requires.within least now (λ same. c.if-len-whole.false (held ∙ same)) refl
