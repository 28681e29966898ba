use Rattle.std.proofs.Common.{◌≡◌, ◌++◌, [], length}
use Rattle.std.specs.Prelude.{vec_len}
use Rattle.pages.specs.Joined.{parts, items_of}
use Rattle.round.specs.Tickets.{maker}
use Rattle.round.proofs.open.lock_pages.Given as goal

abbrev pub invariant-loop-page : goal.invariant-loop-page
invariant-loop-page g l =
    (goal.iterator-loop-page g).can_next l.page-iterator
    × (goal.iterator-loop-page g).is_finite l.page-iterator
    × (l.master.table_id ≡ g.J.Room.table)
    × (l.master.me ≡ (maker (length l.yielded), []))
    × (vec_len l.locks ≡ length l.yielded)
    × (items_of (l.yielded ++ l.page-iterator.rest.items) ≡ parts g.J.Room.opening)
