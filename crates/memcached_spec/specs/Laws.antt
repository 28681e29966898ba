-- What holds of histories.
use Rattle.std.specs.Prelude.{◌≡◌, ℕ, List, [], ◌∷◌, codes}
use Rattle.std.specs.declared.alloc.Global.{Global}
use Rattle.std.specs.declared.vec.Vec.{Vec}
use Rattle.events.specs.declared.event.Event.{Event}
use Rattle.events.specs.declared.event.Event.TheVariants.{Feed}
use Rattle.memcached_spec.specs.Server.{Line}
use Rattle.memcached_spec.specs.Order.{AllGiven, IsOrder, IsLinearizable, HasOneOrder}

-- What is linearizable has one order.
abbrev pub LinearizableHasOneOrder : Type 0
LinearizableHasOneOrder = (events : List Event) (history : List AllGiven) → IsLinearizable events history → (lines : List Line) × HasOneOrder events history lines

-- an answer before its request is in no order
abbrev pub AnswerBeforeRequestIsNone : Type 0
AnswerBeforeRequestIsNone = (lines : List Line) → IsOrder [] (codes "STORED\r\n" ∷ []) lines → ⊥

-- client 1 is told that its set is stored, then client 2 asks for it and is shown nothing: that is not linearizable
abbrev pub StaleReadIsNone : Type 0
StaleReadIsNone = (set get : Vec ℕ Global) → set.items ≡ codes "set x 0 0 1\r\n1\r\n" → get.items ≡ codes "get x\r\n"
    → IsLinearizable (Feed 1 set ∷ Feed 2 get ∷ []) (([] ∷ [] ∷ []) ∷ (codes "STORED\r\n" ∷ [] ∷ []) ∷ (codes "STORED\r\n" ∷ codes "END\r\n" ∷ []) ∷ []) → ⊥

-- if it is shown the value, it is linearizable
abbrev pub FreshReadIsInOrder : Type 0
FreshReadIsInOrder = (set get : Vec ℕ Global) → set.items ≡ codes "set x 0 0 1\r\n1\r\n" → get.items ≡ codes "get x\r\n"
    → IsLinearizable (Feed 1 set ∷ Feed 2 get ∷ []) (([] ∷ [] ∷ []) ∷ (codes "STORED\r\n" ∷ [] ∷ []) ∷ (codes "STORED\r\n" ∷ codes "VALUE x 0 1\r\n1\r\nEND\r\n" ∷ []) ∷ [])
