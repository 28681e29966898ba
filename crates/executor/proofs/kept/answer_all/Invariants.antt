use Rattle.std.proofs.Common.{◌≡◌, ◌++◌, drop}
use Rattle.executor.specs.Round.{kept_after}
use Rattle.executor.specs.Work.{replies_to}
use Rattle.executor.proofs.kept.answer_all.Given as goal

-- the replies so far and those that come later are all, and those so far are kept
abbrev pub invariant-loop-r : goal.invariant-loop-r
invariant-loop-r l =
    (l.replies.items ++ replies_to l.requests (drop l.r-index l.running) ≡ replies_to l.requests l.running)
    × (l.sessions ≡ kept_after l.fn.sessions l.replies.items)
