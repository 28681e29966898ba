-- How a session goes on.
use Rattle.std.proofs.Common.{◌≡◌, ℕ, List, [], ◌∷◌, ◌++◌, refl}
use Rattle.grammar.specs.declared.turn.Turn.{Turn}
use Rattle.grammar.specs.declared.turn.Turn.TheVariants.{Ask, Say, Close}
use Rattle.grammar.specs.Turns.{said_text}
use Rattle.session.specs.declared.session.Session.{Session}
use Rattle.session.specs.Session.{session_goes}

-- what waits is what it is told to take
pub go_waiting : (s : Session) (waiting : List Turn) (bytes : List ℕ) (turns : List Turn) → session_goes (record s { waiting = waiting }) bytes turns ≡ session_goes s bytes turns
go_waiting s waiting bytes [] = refl
go_waiting s waiting bytes (Say notice ∷ turns) = go_waiting s waiting (bytes ++ said_text notice) turns
go_waiting s waiting bytes (Close notice ∷ turns) = refl
go_waiting s waiting bytes (Ask command show ∷ turns) = refl
