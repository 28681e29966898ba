-- The events and worlds of a play so far.
use Rattle.std.proofs.Common.{◌≡◌, List, [], ◌∷◌, ◌++◌, refl, sym, subst}
use Rattle.std.specs.Prelude.{Contains}
use Rattle.std.proofs.lemmas.List.Elements.{Contains-append_left, Contains-append_right}
use Rattle.events.specs.declared.event.Event.{Event}
use Rattle.events.specs.Config.{ConfigView}
use Rattle.states.specs.State.{StateView}
use Rattle.run_laws.specs.Run.{Executed}
use Rattle.run_laws.proofs.Elements.{in_head}
use Rattle.worlds.specs.World.{WorldView, WorldNext, WorldRuns, last_world, IsFirstWorld, ReachedWorlds, EndsWith}
use Rattle.one_server_laws.specs.Saved.{IsMet, IsExecuted}

-- these worlds were seen up to this one, by these events
pub record Past (c : ConfigView) (events : List Event) (seen : List WorldView) (w : WorldView) : Type 0 where
  pub reached : ReachedWorlds c events seen
  pub ends : EndsWith seen w

pub first_past : (c : ConfigView) (first : WorldView) → IsFirstWorld c first → Past c [] (first ∷ []) first
first_past c first h = record { reached = (h, tt); ends = refl }

runs_push : (w : WorldView) (es : List Event) (ws : List WorldView) (e : Event) (x : WorldView) → WorldRuns w es ws → WorldNext (last_world w ws) e x → WorldRuns w (es ++ e ∷ []) (ws ++ x ∷ [])
runs_push w [] [] e x runs next = (next, tt)
runs_push w [] (y ∷ ws) e x runs next = absurd runs
runs_push w (f ∷ es) [] e x runs next = absurd runs
runs_push w (f ∷ es) (y ∷ ws) e x runs next = (runs.0, runs_push y es ws e x runs.1 next)

last_push : (w : WorldView) (ws : List WorldView) (x : WorldView) → last_world w (ws ++ x ∷ []) ≡ x
last_push w [] x = refl
last_push w (y ∷ ws) x = last_push y ws x

pub next_past : (c : ConfigView) (events : List Event) (seen : List WorldView) (w : WorldView) (e : Event) (x : WorldView) → Past c events seen w → WorldNext w e x → Past c (events ++ e ∷ []) (seen ++ x ∷ []) x
next_past c events [] w e x past next = absurd past.reached
next_past c events (first ∷ later) w e x past next = record {
  reached = (past.reached.0, runs_push first events later e x past.reached.1 (subst (λ (y : WorldView). WorldNext y e x) (sym past.ends) next));
  ends = last_push first later x;
}

-- ---- what was seen is among more worlds

abbrev pub Among : List WorldView → List WorldView → Type 0
Among seen all = (x : WorldView) → Contains seen x → Contains all x

pub among_push : (seen : List WorldView) (x : WorldView) → Among seen (seen ++ x ∷ [])
among_push seen x y at = Contains-append_left seen (x ∷ []) y at

pub last_seen : (seen : List WorldView) (x : WorldView) → Contains (seen ++ x ∷ []) x
last_seen seen x = Contains-append_right seen (x ∷ []) x (in_head x [])

pub met_among : (seen all : List WorldView) → Among seen all → (s : StateView) → IsMet seen s → IsMet all s
met_among seen all among s m = (m.0, among m.0 m.1, m.2)

pub executed_among : (seen all : List WorldView) → Among seen all → (r : Executed) → IsExecuted seen r → IsExecuted all r
executed_among seen all among r m = (m.0, among m.0 m.1, m.2)
