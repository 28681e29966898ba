use Rattle.std.proofs.Common.{◌≡◌, rules}
use Rattle.base.proofs.PieceLemmas.{appended}
use Rattle.base.proofs.text.Text.append.Goals as goal

pub returns-clause-ok : goal.returns-clause-ok
returns-clause-ok c =
    let same_end : c.in_ok-tail.tail.items ≡ c.other.inside.tail.items = search rules in
    appended c.self.inside.pieces.items c.seal_tail.new.pieces.items c.in_ok-pieces.pieces.items c.other.inside.pieces.items c.append.new.self.items c.self.inside.tail.items c.other.inside.tail.items c.in_ok-tail.tail.items _ _
    c.in_ok-append.ensures.items c.in_ok-seal_tail.ensures.moved c.in_ok-pieces.ensures same_end c.self.view_is c.other.view_is
