use Rattle.std.proofs.Common.{◌≤◌, length, sym, ◌∙◌, arith}
use Rattle.dialect.proofs.StageLemmas.{unread_step_runs}
use Rattle.dialect.proofs.stage.Stage.step_unread.Goals as goal

pub returns-in_ok-push_some-clause-runs : goal.returns-in_ok-push_some-clause-runs
returns-in_ok-push_some-clause-runs c =
    let there : c.args.left ≤ length c.args.piece.now = omega arith in
    unread_step_runs c.args.self.now.part c.args.self.now.held.items c.args.piece.now c.args.turns.now.items c.push_some.new.turns.items c.args.left c.in-Unread.field-0 c.in-Unread.turn c.replace.new.dest
    (sym c.replace.ensures.value ∙ c.in-Unread.is) c.requires.unread c.requires.within there c.in_ok-push_some.ensures c.replace.ensures.after
