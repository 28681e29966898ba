use Rattle.std.proofs.Common.{◌≡◌, length}
use Rattle.session.specs.Session.{session_goes}
use Rattle.session.proofs.session.Session.go.Given as goal

-- what was given, and what the turns that are left give
abbrev pub invariant-loop-turn : goal.invariant-loop-turn
invariant-loop-turn l = session_goes l.self l.bytes.items l.self.waiting ≡ session_goes l.initial.self l.initial.bytes.items l.initial.self.waiting

abbrev pub decreases-loop-turn : goal.decreases-loop-turn
decreases-loop-turn l = length l.self.waiting
