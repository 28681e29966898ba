-- In each world that is reached, what is kept and sent was asked.
use Rattle.std.proofs.Common.{◌≡◌, ℕ, zero, suc, true, length, List, [], ◌∷◌, ◌++◌, Some, refl, sym, ◌∙◌, ap, subst, ⊎_elim, append_assoc, slice_get}
use Rattle.std.specs.Prelude.{Contains}
use Rattle.std.proofs.lemmas.List.{append-nil}
use Rattle.decrees.specs.Count.{member_count}
use Rattle.client.specs.Talk.{new_talk}
use Rattle.client.specs.declared.input.Input.TheVariants.{Reply}
use Rattle.client.specs.Laws.{none}
use Rattle.run_laws.specs.Run.{Executed}
use Rattle.run_laws.proofs.Elements.{in_none, first_or_other}
use Rattle.one_server_laws.proofs.Each.{each_among}
use Rattle.custody_laws.proofs.Log.{get_push, length_push}
use Rattle.events.specs.declared.event.Event.{Event}
use Rattle.events.specs.declared.event.Replica.TheVariants as replica
use Rattle.events.specs.Config.{ConfigView}
use Rattle.worlds.specs.Clients.{ClientSlot}
use Rattle.worlds.specs.World.{WorldView, WorldNext, WorldRuns, last_world, new_clients, unopened_world, restarts_below, opening_events, IsFirstWorld, ReachedWorlds, EndsWith}
use Rattle.slots.specs.Slots.{nothing_kept}
use Rattle.one_server_laws.specs.Saved.{IsSavedIn, IsExecutedIn, IsExecuted}
use Rattle.one_server_laws.proofs.Plays.{Held, event_held, AreRestarts, restarts_both, restarts_are, executors_new, unopened_held, now_held}
use Rattle.one_server_laws.specs.InTime.{WasCut}
use Rattle.one_server_laws.proofs.Grown.{later_by}
use Rattle.one_server_laws.proofs.AskedLines.{IsAskedMember, AreAskedMembers}
use Rattle.one_server_laws.proofs.ClientLines.{IsClientOf}
use Rattle.one_server_laws.proofs.Slots.{AnyState, AnyRound, IsAskedSlot, saved_is_asked}
use Rattle.one_server_laws.proofs.AskedEvents.{IsAskedWorld, opened_asked, event_asked}

-- ---- before any replica is opened

count_clients : (u n : ℕ) → length (new_clients u n) ≡ n
count_clients u zero = refl
count_clients u (suc n) = length_push (new_clients u n) (record { client = record { client = suc n; u = u; talk = new_talk; up = true }; given = [] }) ∙ ap suc (count_clients u n)

-- of which nothing came yet
client_new : (u i : ℕ) → IsClientOf [] [] (suc i) (record { client = record { client = suc i; u = u; talk = new_talk; up = true }; given = [] })
client_new u i = record { same = refl; is = record { inputs = []; talks = none; bytes = refl; sent = λ number reply h. absurd (in_none (Reply number reply) h) } }

clients_new : (u n i : ℕ) (slot : ClientSlot) → slice_get (new_clients u n) i ≡ Some slot → IsClientOf [] [] (suc i) slot
clients_new u zero i slot e = absurd (cc e)
clients_new u (suc n) i slot e = ⊎_elim
    (clients_new u n i slot)
    (λ (p : (i ≡ length (new_clients u n)) × (slot ≡ record { client = record { client = suc n; u = u; talk = new_talk; up = true }; given = [] })).
    let at : i ≡ n = p.0 ∙ count_clients u n in
    subst (λ (z : ℕ × ClientSlot). IsClientOf [] [] (suc z.0) z.1) (λ j. (sym at j, sym p.1 j)) (client_new u n))
    (get_push (new_clients u n) (record { client = record { client = suc n; u = u; talk = new_talk; up = true }; given = [] }) slot i e)

unopened_asked : (c : ConfigView) → IsAskedWorld [] c.u (unopened_world c)
unopened_asked c = record {
  letters = tt;
  executors = λ id slot at. subst (IsAskedSlot [] c.u id) (sym (executors_new (member_count c.u) id nothing_kept slot at).0) (λ x spelled. absurd (let text = spelled.text in cc text));
  clients = clients_new c.u c.clients;
}

-- ---- the opening

both_next : {u : ℕ} (w : WorldView) (e : Event) (x : WorldView) → Held u AnyState AnyRound w → WorldNext w e x → Held u AnyState AnyRound x
both_next w e x held h = event_held AnyState AnyRound w held e x h (λ s k. tt) (λ r k. tt)

-- both facts of a world
pub record IsAskedAndHeld (events : List Event) (u : ℕ) (w : WorldView) : Type 0 where
  pub held : Held u AnyState AnyRound w
  pub is : IsAskedWorld events u w

opening_asked : {u : ℕ} (w : WorldView) (es : List Event) (ws : List WorldView) → IsAskedAndHeld [] u w → AreRestarts es → WorldRuns w es ws → IsAskedAndHeld [] u (last_world w ws)
opening_asked w [] [] ok r h = ok
opening_asked w [] (x ∷ ws) ok r h = absurd h
opening_asked w (e ∷ es) [] ok r h = absurd h
opening_asked w (e ∷ es) (x ∷ ws) ok r h =
    opening_asked x es ws (record { held = both_next w e x ok.held h.0; is = opened_asked [] ok.held ok.is r.0 x (subst (λ (y : Event). WorldNext w y x) r.1 h.0) }) r.2 h.1

first_asked : (c : ConfigView) (first : WorldView) → IsFirstWorld c first → IsAskedAndHeld [] c.u first
first_asked c first h =
    subst (IsAskedAndHeld [] c.u) h.2
    (opening_asked (unopened_world c) (opening_events c.u) h.0 (record { held = now_held c.u AnyState AnyRound (unopened_world c) (unopened_held c); is = unopened_asked c })
    (restarts_both (restarts_below replica.Executor (member_count c.u)) (restarts_below replica.Verifier (member_count c.u)) (restarts_are replica.Executor (member_count c.u)) (restarts_are replica.Verifier (member_count c.u))) h.1)

-- ---- any world

next_asked : {u : ℕ} (events : List Event) (w : WorldView) (e : Event) (x : WorldView) → IsAskedAndHeld events u w → WorldNext w e x → IsAskedAndHeld (events ++ e ∷ []) u x
next_asked events w e x ok h = record { held = both_next w e x ok.held h; is = event_asked events ok.held ok.is e x h }

runs_asked : {u : ℕ} (events : List Event) (w : WorldView) (es : List Event) (ws : List WorldView) → IsAskedAndHeld events u w → WorldRuns w es ws → IsAskedAndHeld (events ++ es) u (last_world w ws)
runs_asked {u} events w [] [] ok h = subst (λ (all : List Event). IsAskedAndHeld all u w) (sym (append-nil events)) ok
runs_asked events w [] (x ∷ ws) ok h = absurd h
runs_asked events w (e ∷ es) [] ok h = absurd h
runs_asked {u} events w (e ∷ es) (x ∷ ws) ok h =
    subst (λ (all : List Event). IsAskedAndHeld all u (last_world x ws)) (append_assoc events (e ∷ []) es) (runs_asked (events ++ e ∷ []) x es ws (next_asked events w e x ok h.0) h.1)

pub last_asked : (c : ConfigView) (events : List Event) (worlds : List WorldView) (w : WorldView) → ReachedWorlds c events worlds → EndsWith worlds w → IsAskedAndHeld events c.u w
last_asked c events [] w r ends = absurd r
last_asked c events (first ∷ later) w r ends = subst (IsAskedAndHeld events c.u) ends (runs_asked [] first events later (first_asked c first r.0) r.1)

-- ---- the rounds of any of the worlds

executed_in_asked : {u : ℕ} (events : List Event) (w : WorldView) (r : Executed) → IsAskedAndHeld events u w → IsExecutedIn w r → WasCut events r.batch
executed_in_asked {u} events w r ok (id, x, has, done) =
    let members : AreAskedMembers events x.chain = saved_is_asked events u id has.slot x (ok.is.executors id has.slot has.there) (subst (λ (v : ℕ). IsSavedIn v id has.slot x) ok.held.same.same_u has.saved) in
    subst (λ (y : Executed). WasCut events y.batch) done.3 (each_among (IsAskedMember events) x.chain done.1 members done.2)

executed_in_runs : {u : ℕ} (events : List Event) (w : WorldView) (es : List Event) (ws : List WorldView) (x : WorldView) (r : Executed) → IsAskedAndHeld events u w → WorldRuns w es ws → Contains ws x → IsExecutedIn x r → WasCut (events ++ es) r.batch
executed_in_runs events w es [] x r ok h c done = absurd (in_none x c)
executed_in_runs events w [] (y ∷ ws) x r ok h c done = absurd h
executed_in_runs {u} events w (e ∷ es) (y ∷ ws) x r ok h c done =
    let now = next_asked events w e y ok h.0 in
    subst (λ (all : List Event). WasCut all r.batch) (append_assoc events (e ∷ []) es)
    (⊎_elim
    (λ (same : y ≡ x). (later_by (events ++ e ∷ []) es).cuts r.batch (executed_in_asked (events ++ e ∷ []) x r (subst (IsAskedAndHeld (events ++ e ∷ []) u) same now) done))
    (λ more. executed_in_runs (events ++ e ∷ []) y es ws x r now h.1 more done)
    (first_or_other y x ws c))

pub executed_cut : (c : ConfigView) (events : List Event) (worlds : List WorldView) (r : Executed) → ReachedWorlds c events worlds → IsExecuted worlds r → WasCut events r.batch
executed_cut c events [] r reached done = absurd reached
executed_cut c events (first ∷ later) r reached done =
    let start = first_asked c first reached.0 in
    ⊎_elim
    (λ (same : first ≡ done.0). (later_by [] events).cuts r.batch (executed_in_asked [] done.0 r (subst (IsAskedAndHeld [] c.u) same start) done.2))
    (λ more. executed_in_runs [] first events later done.0 r start reached.1 more done.2)
    (first_or_other first done.0 later done.1)
