-- A world to which no trim leads is of a machine to which none leads.
use Rattle.std.proofs.Common.{◌≡◌, ℕ, zero, suc, Bool, true, false, List, [], ◌∷◌, ◌++◌, refl, sym, ap, ◌∙◌, subst}
use Rattle.std.specs.Prelude.{not, IsTrue, ◌||◌}
use Rattle.std.specs.List.{list_any}
use Rattle.std.proofs.lemmas.List.Folds.{list_any-append}
use Rattle.decrees.specs.Count.{member_count}
use Rattle.agreement_laws.specs.Machine as machine
use Rattle.agreement_laws.specs.Machine.{reached}
use Rattle.agreement_laws.specs.Laws.{trims, machine_trims_none}
use Rattle.agreement_laws.proofs.Machine.{reached_ok}
use Rattle.events.specs.declared.event.Event.{Event}
use Rattle.events.specs.declared.event.Event.TheVariants.{Restart}
use Rattle.events.specs.declared.event.Replica.{Replica}
use Rattle.events.specs.declared.event.Replica.TheVariants.{Executor, Verifier}
use Rattle.events.specs.Config.{ConfigView}
use Rattle.worlds.specs.World.{WorldView, WorldRuns, last_world, restarts_below, opening_events, unopened_world, ReachedWorlds, EndsWith, IsReached}
use Rattle.world_laws.specs.Machines.{IsOfMachine}
use Rattle.world_laws.specs.Laws.{is_trim, trims_none}
use Rattle.world_laws.proofs.Projected.{next_follows, later_is, unopened_is}

neither : (a b : Bool) → not a ≡ true → not b ≡ true → not (a || b) ≡ true
neither true b x y = absurd (cc x)
neither false b x y = y

not_first : (a b : Bool) → not (a || b) ≡ true → a ≡ false
not_first true b h = absurd (cc h)
not_first false b h = refl

not_second : (a b : Bool) → not (a || b) ≡ true → not b ≡ true
not_second true b h = absurd (cc h)
not_second false b h = h

first_of : (a b : Bool) → b ≡ false → IsTrue (a || b) → a ≡ true
first_of true b e h = refl
first_of false true e h = absurd (cc e)
first_of false false e h = absurd (cc h)

none-append : {X : Type 0} (test : X → Bool) (xs ys : List X) → not (list_any test xs) ≡ true → not (list_any test ys) ≡ true → not (list_any test (xs ++ ys)) ≡ true
none-append test xs ys a b = ap not (list_any-append test xs ys) ∙ neither (list_any test xs) (list_any test ys) a b

restarts_trim_none : (replica : ℕ → Replica) (n : ℕ) → trims_none (restarts_below replica n) ≡ true
restarts_trim_none replica zero = refl
restarts_trim_none replica (suc n) = none-append is_trim (restarts_below replica n) (Restart (replica n) ∷ []) (restarts_trim_none replica n) refl

opening_trims_none : (u : ℕ) → trims_none (opening_events u) ≡ true
opening_trims_none u =
    none-append is_trim (restarts_below Executor (member_count u)) (restarts_below Verifier (member_count u))
    (restarts_trim_none Executor (member_count u)) (restarts_trim_none Verifier (member_count u))

-- the world is of a machine to which no trim leads
abbrev pub HasWholeMachine : ℕ → WorldView → Type 0
HasWholeMachine u w = (events : List machine.Event) × IsTrue (machine_trims_none events) × IsOfMachine u w (reached u events)

runs_whole : {u : ℕ} (before : List machine.Event) (w : WorldView) (es : List Event) (ws : List WorldView) → machine_trims_none before ≡ true → trims_none es ≡ true → IsOfMachine u w (reached u before) → WorldRuns w es ws
    → HasWholeMachine u (last_world w ws)
runs_whole before w [] [] calm none is h = (before, calm, is)
runs_whole before w [] (x ∷ ws) calm none is h = absurd h
runs_whole before w (e ∷ es) [] calm none is h = absurd h
runs_whole {u} before w (e ∷ es) (x ∷ ws) calm none is h =
    let one = next_follows is (reached_ok u before) e x h.0 in
    let calm_step = first_of (machine_trims_none one.0) (is_trim e) (not_first (is_trim e) (list_any is_trim es) none) one.1 in
    runs_whole (before ++ one.0) x es ws (none-append trims before one.0 calm calm_step) (not_second (is_trim e) (list_any is_trim es) none) (later_is before one.0 x one.2) h.1

has_whole : (c : ConfigView) (events : List Event) (worlds : List WorldView) (w : WorldView) → trims_none events ≡ true → ReachedWorlds c events worlds → EndsWith worlds w → HasWholeMachine w.u w
has_whole c events [] w none r ends = absurd r
has_whole c events (first ∷ later) w none r ends =
    let opened = runs_whole [] (unopened_world c) (opening_events c.u) r.0.0 refl (opening_trims_none c.u) (unopened_is c) r.0.1 in
    let start : HasWholeMachine c.u first = subst (HasWholeMachine c.u) r.0.2 opened in
    let last : HasWholeMachine c.u w = subst (HasWholeMachine c.u) ends (runs_whole start.0 first events later start.1 none start.2 r.1) in
    subst (λ (u : ℕ). HasWholeMachine u w) (sym last.2.same_u) last

pub whole_machine : (c : ConfigView) (events : List Event) (w : WorldView) → IsTrue (trims_none events) → IsReached c events w → HasWholeMachine w.u w
whole_machine c events w none r = has_whole c events r.worlds w none r.reached r.ends
