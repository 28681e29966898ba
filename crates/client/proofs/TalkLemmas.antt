-- How a client's part of the server goes on.
use Rattle.std.proofs.Common.{◌≡◌, ℕ, List, [], ◌∷◌, ◌++◌, refl}
use Rattle.proto.specs.declared.turn.Turn.{Turn}
use Rattle.proto.specs.declared.turn.Turn.TheVariants.{Ask, Say, Close}
use Rattle.proto.specs.Text.{notice_text}
use Rattle.client.specs.declared.talk.Talk.{Talk}
use Rattle.client.specs.Talk.{go}

-- what waits is what it is told to take
pub go_waiting : (u c : ℕ) (t : Talk) (waiting : List Turn) (bytes : List ℕ) (turns : List Turn) → go u c (record t { waiting = waiting }) bytes turns ≡ go u c t bytes turns
go_waiting u c t waiting bytes [] = refl
go_waiting u c t waiting bytes (Say notice ∷ turns) = go_waiting u c t waiting (bytes ++ notice_text notice) turns
go_waiting u c t waiting bytes (Close notice ∷ turns) = refl
go_waiting u c t waiting bytes (Ask command quiet ∷ turns) = refl
