-- What clients had been given before the first event of a play, and after each one.
use Rattle.std.specs.Prelude.{◌≡◌, ℕ, List, ◌∷◌, map}
use Rattle.std.specs.declared.alloc.Global.{Global}
use Rattle.std.specs.declared.vec.Vec.{Vec}
use Rattle.events.specs.declared.event.Event.{Event}
use Rattle.events.specs.Config.{ConfigView}
use Rattle.memcached_spec.specs.Order.{AllGiven}
use Rattle.worlds.specs.World.{ReachedWorlds, EndsWith, WorldView}
use Rattle.one_server_laws.specs.Saved.{DigestsAreDistinct}
use Rattle.linear_laws.specs.Laws.{history_of}
use Rattle.linear_laws.specs.InTime.{IsLinearizablePlay}

-- the bytes in these vectors
abbrev pub texts_in : List (Vec ℕ Global) → AllGiven
texts_in vectors = map (λ bytes. bytes.items) vectors

abbrev pub history_in : List (Vec (Vec ℕ Global) Global) → List AllGiven
history_in moments = map (λ given. texts_in given.items) moments

-- it is what clients had been given in the worlds that these events lead through
pub record IsHistoryOfPlay (c : ConfigView) (events : List Event) (history : List AllGiven) : Type 0 where
  pub worlds : List WorldView
  pub reached : ReachedWorlds c events worlds
  pub given : history ≡ history_of worlds

-- the same, of the events so far, the last of whose worlds is this one
pub record IsHistoryTo (c : ConfigView) (events : List Event) (w : WorldView) (history : List AllGiven) : Type 0 where
  pub worlds : List WorldView
  pub reached : ReachedWorlds c events worlds
  pub ends : EndsWith worlds w
  pub given : history ≡ history_of worlds

-- if digests tell apart the states that executors had on the way, it is linearizable
abbrev pub IsLinearizableIfDistinct : ConfigView → List Event → List AllGiven → Type 0
IsLinearizableIfDistinct c events history = (is : IsHistoryOfPlay c events history) → DigestsAreDistinct is.worlds → IsLinearizablePlay events history
