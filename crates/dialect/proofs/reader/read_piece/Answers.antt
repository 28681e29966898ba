use Rattle.std.proofs.Common.{arith}
use Rattle.std.proofs.lemmas.Bool.Decides.{nat_tests}
use Rattle.std.proofs.lemmas.List.{nil_from_length}
use Rattle.dialect.specs.Stage.{stage_state}
use Rattle.dialect.proofs.StageLemmas.{reading_begins, reading_goes, reading_ends}
use Rattle.dialect.proofs.reader.read_piece.Goals as goal

pub loop-unread-init : goal.loop-unread-init
loop-unread-init c = reading_begins (stage_state c.args.stage.now) c.args.piece.now _ c.requires c.new-turns.ensures.items

pub loop-unread-preserved : goal.loop-unread-preserved
loop-unread-preserved c =
    rw c.split_at.ensures.back (reading_goes (stage_state c.args.stage.now) (stage_state c.loop-unread.stage) (stage_state c.step.new.self) c.args.piece.now c.loop-unread.unread.now c.loop-unread.turns.items _ c.in_ok-n.n
    c.loop-unread.invariant c.in_ok-n.ensures.runs c.in_ok-n.ensures.state)

pub returns-clause-runs : goal.returns-clause-runs
returns-clause-runs c =
    reading_ends (stage_state c.args.stage.now) (stage_state c.loop-unread.stage) c.args.piece.now c.loop-unread.unread.now c.loop-unread.turns.items c.loop-unread.invariant (nil_from_length c.loop-unread.unread.now (grind (arith, nat_tests)))
