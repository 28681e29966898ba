use Rattle.std.proofs.Common.{◌++◌}
use Rattle.dialect.proofs.StageLemmas.{on_ok, line_extends, block_extends, unread_short, unread_extends, closed_extends}
use Rattle.dialect.proofs.stage.Stage.extend.Goals as goal

pub less-requires : goal.less-requires
less-requires c = unread_short c.args.self.now.part c.in-Unread.left c.in-Unread.field-1 c.args.self.now.held.items c.args.piece.now c.in-Unread.is c.requires.goes_on

pub returns-in-Line-clause-ok : goal.returns-in-Line-clause-ok
returns-in-Line-clause-ok c =
    on_ok c.extend_from_slice.result c.extend_from_slice.new.self.items (c.args.self.now.held.items ++ c.args.piece.now) c.args.self.now.held.items _ c.extend_from_slice.ensures.items
    (line_extends c.args.self.now.part c.args.self.now.held.items c.args.piece.now c.extend_from_slice.new.self.items c.in-Line.is c.requires.goes_on)

pub returns-in-Block-clause-ok : goal.returns-in-Block-clause-ok
returns-in-Block-clause-ok c =
    on_ok c.extend_from_slice-in-Block.result c.extend_from_slice-in-Block.new.self.items (c.args.self.now.held.items ++ c.args.piece.now) c.args.self.now.held.items _ c.extend_from_slice-in-Block.ensures.items
    (block_extends c.args.self.now.part c.in-Block.field-0 c.args.self.now.held.items c.args.piece.now c.extend_from_slice-in-Block.new.self.items c.in-Block.is c.requires.goes_on)

pub returns-in-Unread-clause-ok : goal.returns-in-Unread-clause-ok
returns-in-Unread-clause-ok c =
    unread_extends c.args.self.now.part c.in-Unread.left c.less.result c.in-Unread.field-1 c.args.self.now.held.items c.args.piece.now c.in-Unread.is c.requires.state c.requires.goes_on c.less.ensures

pub returns-in-Closed-clause-ok : goal.returns-in-Closed-clause-ok
returns-in-Closed-clause-ok c = closed_extends c.args.self.now.part c.args.self.now.held.items c.args.piece.now c.in-Closed.is c.requires.state
