-- The run of the last world, which each event has made longer.
use Rattle.std.proofs.Common.{List, [], ◌∷◌, ◌++◌, sym, subst, append_assoc}
use Rattle.std.proofs.lemmas.List.{append-nil}
use Rattle.states.specs.State.{StateView}
use Rattle.run_laws.specs.Run.{Executed}
use Rattle.events.specs.declared.event.Event.{Event}
use Rattle.events.specs.Config.{ConfigView}
use Rattle.worlds.specs.World.{WorldView, EndsWith, last_world, IsReached}
use Rattle.one_server_laws.specs.Saved.{IsMet, DigestsAreDistinct}
use Rattle.one_server_laws.specs.Run.{IsRun, RunsGrow, IsOneServer}
use Rattle.one_server_laws.specs.Laws.{WorldsAreOfOneServer}

last_run : (met : StateView → Type 0) (past : List Event) (run : List Executed) (w : WorldView) (es : List Event) (xs : List WorldView) → IsRun met past w run → RunsGrow met past run es xs
    → (later : List Executed) × IsRun met (past ++ es) (last_world w xs) later
last_run met past run w [] [] is grows = (run, subst (λ (all : List Event). IsRun met all w run) (sym (append-nil past)) is)
last_run met past run w [] (x ∷ xs) is grows = absurd grows
last_run met past run w (e ∷ es) [] is grows = absurd grows
last_run met past run w (e ∷ es) (x ∷ xs) is grows =
    let rest = last_run met (past ++ e ∷ []) grows.0 x es xs grows.2 grows.3 in
    (rest.0, subst (λ (all : List Event). IsRun met all (last_world x xs) rest.0) (append_assoc past (e ∷ []) es) rest.1)

run_at_end : (events : List Event) (worlds : List WorldView) (w : WorldView) → IsOneServer events worlds → EndsWith worlds w → (run : List Executed) × IsRun (IsMet worlds) events w run
run_at_end events [] w shows ends = absurd ends
run_at_end events (first ∷ later) w shows ends =
    let last = last_run (IsMet (first ∷ later)) [] shows.0 first events later shows.1 shows.2 in
    (last.0, subst (λ (x : WorldView). IsRun (IsMet (first ∷ later)) events x last.0) ends last.1)

-- the world that events lead to has a run
pub has_run : WorldsAreOfOneServer → (c : ConfigView) (events : List Event) (w : WorldView) (through : IsReached c events w) → DigestsAreDistinct through.worlds → (run : List Executed) × IsRun (IsMet through.worlds) events w run
has_run law c events w through distinct = run_at_end events through.worlds w (law c events through.worlds through.reached distinct) through.ends
