use Rattle.std.proofs.Common.{◌≡◌, ◌++◌, map, take, drop, Some}
use Rattle.executor.specs.Fresh.{runners_among, fresh_after}
use Rattle.executor.specs.Kept.{kept_for}
use Rattle.executor.proofs.kept_replies.kept_replies.Given as goal

-- those so far and those that come later are all
abbrev pub invariant-loop-place : goal.invariant-loop-place
invariant-loop-place l = map Some l.replies.items ++ map (kept_for l.sessions) (fresh_after l.before (take l.place l.requests) (drop l.place l.requests)) ≡ map (kept_for l.sessions) (runners_among l.before l.requests)
