-- A client that is fed does the same with a copy of the bytes.
use Rattle.std.proofs.Common.{◌≡◌, ℕ, zero, suc, Bool, true, false, List, Option, None, Some, subst, inl, inr, slice_get}
use Rattle.std.specs.declared.alloc.Global.{Global}
use Rattle.std.specs.declared.vec.Vec.{Vec}
use Rattle.decrees.specs.declared.node.Letter.{Letter}
use Rattle.exec_lines.specs.declared.body.Body.{Body}
use Rattle.client.specs.declared.input.Input.TheVariants.{Feed}
use Rattle.client.specs.Step.{IsFed}
use Rattle.worlds.specs.Clients.{ClientSlot, ClientSettlesWhere}
use Rattle.worlds.specs.World.{WorldView, ClientAtGiven, ClientGiven}

same_settle : (up : Bool) (old now : ClientSlot) (new : List (Letter Body)) (copy bytes : Vec ℕ Global) → copy.items ≡ bytes.items → ClientSettlesWhere up old (Feed copy) now new → ClientSettlesWhere up old (Feed bytes) now new
same_settle false old now new copy bytes same settles = settles
same_settle true old now new copy bytes same (inl done) =
    inl (done.0, subst (λ (items : List ℕ). IsFed old.client.u old.client.client old.client.talk items done.0) same done.1, done.2, done.3)
same_settle true old now new copy bytes same (inr stopped) = inr stopped

fed_at : (w now : WorldView) (i : ℕ) (slot : Option ClientSlot) (copy bytes : Vec ℕ Global) → copy.items ≡ bytes.items → ClientAtGiven w i (Feed copy) slot now → ClientAtGiven w i (Feed bytes) slot now
fed_at w now i None copy bytes same given = given
fed_at w now i (Some old) copy bytes same given = (given.0, given.1, same_settle old.client.up old given.0 given.1 copy bytes same given.2, given.3)

pub fed_same : (w now : WorldView) (client : ℕ) (copy bytes : Vec ℕ Global) → copy.items ≡ bytes.items → ClientGiven w client (Feed copy) now → ClientGiven w client (Feed bytes) now
fed_same w now zero copy bytes same given = given
fed_same w now (suc i) copy bytes same given = fed_at w now i (slice_get w.clients i) copy bytes same given
