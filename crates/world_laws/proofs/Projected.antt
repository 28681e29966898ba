-- Each step of the world is some events of its machine.
use Rattle.std.proofs.Common.{◌≡◌, ◌⊎◌, ℕ, zero, suc, Bool, true, false, List, [], ◌∷◌, ◌++◌, Option, Some, None, inl, inr, refl, sym, ap, ◌∙◌, subst, slice_get, slice_set, replicate}
use Rattle.std.specs.Prelude.{◌||◌, IsTrue}
use Rattle.std.proofs.lemmas.List.{length-replicate}
use Rattle.keeper.specs.Kept.{Kept}
use Rattle.decrees.specs.declared.ballot.Ballot.{Ballot}
use Rattle.decrees.specs.declared.node.Letter.{Letter}
use Rattle.decrees.specs.declared.node.Node.{Node}
use Rattle.decrees.specs.declared.node.Node.TheVariants as node
use Rattle.decrees.specs.Count.{member_count}
use Rattle.exec_lines.specs.declared.body.Body.{Body}
use Rattle.exec_lines.specs.declared.body.Body.TheVariants as body
use Rattle.exec_lines.specs.declared.input.Input as of_executor
use Rattle.exec_lines.specs.declared.input.Input.TheVariants as executor_input
use Rattle.exec_node.specs.Executor.{ExecutorView}
use Rattle.verifier.specs.declared.input.Input as of_verifier
use Rattle.verifier.specs.declared.input.Input.TheVariants as verifier_input
use Rattle.verifier.specs.State.{VerifierState}
use Rattle.verifier.specs.Step.{step}
use Rattle.verifier.specs.Verifier.{VerifierView, outcome, handled}
use Rattle.client.specs.declared.input.Input as of_client
use Rattle.client.specs.declared.input.Input.TheVariants as client_input
use Rattle.agreement_laws.specs.Machine as machine
use Rattle.agreement_laws.specs.Machine.{Machine, Luck, Done, StopsBefore, StopsAfter, given, delivered, reached_node, happens, run, reached, first_machine, saved_after, crashed}
use Rattle.agreement_laws.specs.Verifiers.{IsIn, IsKeptAt}
use Rattle.agreement_laws.specs.Laws.{machine_trims_none as none_trim}
use Rattle.agreement_laws.proofs.Machine.{Good, reached_ok}
use Rattle.agreement_laws.proofs.Grows.{run-append}
use Rattle.agreement_laws.proofs.Verifiers.{handled_is_done}
use Rattle.events.specs.declared.event.Event.{Event}
use Rattle.events.specs.declared.event.Event.TheVariants.{Feed, Again, Hangup, Deliver, Cut, Step, Finish, Suspect, Trim, Crash, Restart, Lost, FailSave}
use Rattle.events.specs.declared.event.Replica.TheVariants as replica
use Rattle.slots.specs.Slot.{Slot}
use Rattle.slots.specs.declared.slot.Slot.TheVariants.{Up, Down, Gone}
use Rattle.events.specs.Config.{ConfigView}
use Rattle.slots.specs.Slots.{verifier_kept, verifier_told, executor_kept, executor_told, crashed_slot, lost_slot, told_slot, VerifierSettles, ExecutorSettles, nothing_kept}
use Rattle.worlds.specs.Clients.{ClientSlot, ClientSettlesWhere}
use Rattle.worlds.specs.World.{WorldView, with_verifier, ClientAtGiven, ClientGiven, ExecutorAtGiven, VerifierAtGiven, changed_at, ClientReached, VerifierReached, NodeReached, letter_at, IsDelivered, WorldNext, WorldRuns, last_world, unopened_world, opening_events, IsFirstWorld}
use Rattle.world_laws.specs.Machines.{IsSameVerifier, IsOfMachine, HaveMachines}
use Rattle.world_laws.specs.Laws.{WorldsAreOfMachines, is_trim}
use Rattle.world_laws.proofs.OwnLetters.{AllFrom, executor_sends, client_sends}
use Rattle.world_laws.proofs.BallotLemmas.{cast_ballot, place_among}
use Rattle.world_laws.proofs.Follows.{Follows, stays, outside_sent, both_put, world_put, verifier_sent, verifier_silent, verifier_same}
use Rattle.world_laws.proofs.Restarts.{executor_reopened, verifier_reopened}

-- ---- what clients and executors send is their own

settled_client_sends : (b : Bool) (old now : ClientSlot) (x : of_client.Input) (new : List (Letter Body)) → ClientSettlesWhere b old x now new → AllFrom (node.Client old.client.client) new
settled_client_sends false old now x new h = subst (AllFrom (node.Client old.client.client)) (sym h.1) tt
settled_client_sends true old now x new (inl h) = subst (AllFrom (node.Client old.client.client)) (sym h.3) (client_sends old.client.u old.client.client old.client.talk x h.0 h.1)
settled_client_sends true old now x new (inr h) = subst (AllFrom (node.Client old.client.client)) (sym h.1.2) tt

executor_node : Slot ExecutorView → Node
executor_node (Up e) = node.Executor e.id
executor_node (Down kept) = node.Executor 0
executor_node (Gone kept) = node.Executor 0

settled_executor_sends : (old now : Slot ExecutorView) (x : of_executor.Input) (new : List (Letter Body)) → ExecutorSettles old x now new → (id : ℕ) × AllFrom (node.Executor id) new
settled_executor_sends (Up e) now x new (inl h) = (e.id, subst (AllFrom (node.Executor e.id)) (sym h.2) (executor_sends e.u e.id e.state x))
settled_executor_sends (Up e) now x new (inr h) = (e.id, subst (AllFrom (node.Executor e.id)) (sym h.1.2) tt)
settled_executor_sends (Down kept) now x new h = (0, subst (AllFrom (node.Executor 0)) (sym h.1) tt)
settled_executor_sends (Gone kept) now x new h = (0, subst (AllFrom (node.Executor 0)) (sym h.1) tt)

-- a verifier whose next save is set to fail is still the one of the machine
told_same : (u id : ℕ) (v : VerifierView) (mine : machine.VerifierSlot) → IsSameVerifier u id mine (Up v) → IsSameVerifier u id mine (Up (verifier_told v))
told_same u id v machine.New same = same
told_same u id v (machine.Stopped saved) same = same
told_same u id v (machine.Up s saved) same = ap verifier_told same

module _ {may_trim : Bool} {u : ℕ} {w : WorldView} {m : Machine} (is : IsOfMachine u w m) where
  client_at_given : (i : ℕ) (x : of_client.Input) (o : Option ClientSlot) (now : WorldView) → ClientAtGiven w i x o now → Follows may_trim u m now
  client_at_given i x None now h = stays is h
  client_at_given i x (Some old) now h =
      subst (λ (y : WorldView). Follows may_trim u m y) (sym h.3) (outside_sent is (slice_set w.clients i h.0) w.executors (node.Client old.client.client) h.1 tt (settled_client_sends old.client.up old h.0 x h.1 h.2))

  client_given : (c : ℕ) (x : of_client.Input) (now : WorldView) → ClientGiven w c x now → Follows may_trim u m now
  client_given zero x now h = stays is h
  client_given (suc i) x now h = client_at_given i x (slice_get w.clients i) now h

  executor_given : (id : ℕ) (x : of_executor.Input) (o : Option (Slot ExecutorView)) (now : WorldView) → ExecutorAtGiven w id x o now → Follows may_trim u m now
  executor_given id x None now h = stays is h
  executor_given id x (Some old) now h =
      let own = settled_executor_sends old h.0 x h.1 h.2 in
      subst (λ (y : WorldView). Follows may_trim u m y) (sym h.3) (outside_sent is w.clients (slice_set w.executors id h.0) (node.Executor own.0) h.1 tt own.1)

  -- an executor is changed where it is
  executors_differ : (executors : List (Slot ExecutorView)) (now : WorldView) → now ≡ record w { executors = executors } → Follows may_trim u m now
  executors_differ executors now e = ([], refl, subst (λ (y : WorldView). IsOfMachine u y m) (sym e) (record { same_u = is.same_u; letters = is.letters; count = is.count; verifiers = is.verifiers }))

  -- ---- a verifier that is given an input

  module _ (id : ℕ) (x : of_verifier.Input) (event : Luck → machine.Event) (may : (luck : Luck) → IsTrue (none_trim (event luck ∷ []) || may_trim)) (event_is : (luck : Luck) → happens u m (event luck) ≡ given u m id x luck (slice_get m.verifiers id)) where
    one_event : (luck : Luck) (s saved : VerifierState) (now : WorldView) → slice_get m.verifiers id ≡ Some (machine.Up s saved) → IsOfMachine u now (given u m id x luck (Some (machine.Up s saved))) → Follows may_trim u m now
    one_event luck s saved now at h = (event luck ∷ [], may luck, subst (IsOfMachine u now) (sym (event_is luck ∙ ap (given u m id x luck) at)) h)

    step_follows : (v : VerifierView) (new : List (Letter Ballot)) (s saved : VerifierState) → slice_get m.verifiers id ≡ Some (machine.Up s saved) → IsIn u id (machine.Up s saved) v → new ≡ (outcome v x).letters
        → Follows may_trim u m (with_verifier w id (Up (handled v x)) new)
    step_follows v new s saved at same e =
        let done = handled_is_done u id s saved v x same in
        one_event Done s saved (with_verifier w id (Up (handled v x)) new) at
        (verifier_sent is id (machine.Up s saved) (machine.Up (step u id s x).state (saved_after saved (step u id s x))) (Up (handled v x)) new (step u id s x).letters at done.0 (e ∙ done.1))

    stop_follows : (v : VerifierView) (kept : Kept) (new : List (Letter Ballot)) (s saved : VerifierState) → slice_get m.verifiers id ≡ Some (machine.Up s saved) → IsIn u id (machine.Up s saved) v → new ≡ []
        → ((kept.saved ≡ v.saved) ⊎ (kept.saved ≡ (handled v x).saved)) → Follows may_trim u m (with_verifier w id (Down kept) new)
    stop_follows v kept new s saved at same none (inl e) =
        one_event StopsBefore s saved (with_verifier w id (Down kept) new) at
        (verifier_silent is id (machine.Up s saved) (machine.Stopped saved) (Down kept) new at (e ∙ ap (λ (y : VerifierView). y.saved) same) none)
    stop_follows v kept new s saved at same none (inr e) =
        let done = handled_is_done u id s saved v x same in
        one_event StopsAfter s saved (with_verifier w id (Down kept) new) at
        (verifier_silent is id (machine.Up s saved) (machine.Stopped (saved_after saved (step u id s x))) (Down kept) new at (e ∙ ap (λ (y : VerifierView). y.saved) done.0) none)

    up_settles : (v : VerifierView) (now : Slot VerifierView) (new : List (Letter Ballot)) (mine : machine.VerifierSlot) → slice_get m.verifiers id ≡ Some mine → IsSameVerifier u id mine (Up v) → VerifierSettles (Up v) x now new
        → Follows may_trim u m (with_verifier w id now new)
    up_settles v now new machine.New at same h = absurd same
    up_settles v now new (machine.Stopped saved) at same h = absurd same
    up_settles v now new (machine.Up s saved) at same (inl h) = subst (λ (y : Slot VerifierView). Follows may_trim u m (with_verifier w id y new)) (sym h.1) (step_follows v new s saved at same h.2)
    up_settles v now new (machine.Up s saved) at same (inr h) = subst (λ (y : Slot VerifierView). Follows may_trim u m (with_verifier w id y new)) (sym h.1.1) (stop_follows v h.1.0 new s saved at same h.1.2 h.1.3.record_is)

    settles : (old now : Slot VerifierView) (new : List (Letter Ballot)) (mine : machine.VerifierSlot) → slice_get m.verifiers id ≡ Some mine → IsSameVerifier u id mine old → VerifierSettles old x now new → Follows may_trim u m (with_verifier w id now new)
    settles (Up v) now new mine at same h = up_settles v now new mine at same h
    settles (Down kept) now new mine at same h = ([], refl, verifier_same is id mine now new at (subst (IsSameVerifier u id mine) (sym h.0) same) h.1)
    settles (Gone kept) now new mine at same h = ([], refl, verifier_same is id mine now new at (subst (IsSameVerifier u id mine) (sym h.0) same) h.1)

    verifier_given : (o : Option (Slot VerifierView)) (now : WorldView) → slice_get w.verifiers id ≡ o → VerifierAtGiven w id x o now → Follows may_trim u m now
    verifier_given None now at h = stays is h
    verifier_given (Some old) now at h =
        let there = is.verifiers id old at in
        subst (λ (y : WorldView). Follows may_trim u m y) (sym h.3) (settles old h.0 h.1 there.0 there.1 there.2 h.2)

  -- ---- a verifier that crashes, is lost, or whose next save is set to fail

  stops : (id : ℕ) (v : VerifierView) (slot : Slot VerifierView) → ((saved : VerifierState) → IsKeptAt u id (machine.Stopped saved) v.saved → IsSameVerifier u id (machine.Stopped saved) slot)
      → (mine : machine.VerifierSlot) → slice_get m.verifiers id ≡ Some mine → IsSameVerifier u id mine (Up v) → Follows may_trim u m (record w { verifiers = slice_set w.verifiers id slot })
  stops id v slot as_slot machine.New at same = absurd same
  stops id v slot as_slot (machine.Stopped saved) at same = absurd same
  stops id v slot as_slot (machine.Up s saved) at same = (
    machine.Crash id ∷ [],
    refl,
    subst (IsOfMachine u (record w { verifiers = slice_set w.verifiers id slot })) (sym (ap (crashed m id) at))
        (both_put is id (machine.Up s saved) (machine.Stopped saved) slot w.letters m.letters at (as_slot saved (ap (λ (y : VerifierView). y.saved) same)) is.letters),
  )

  keeps_slot : (id : ℕ) (slot : Slot VerifierView) (mine : machine.VerifierSlot) → slice_get m.verifiers id ≡ Some mine → IsSameVerifier u id mine slot → Follows may_trim u m (record w { verifiers = slice_set w.verifiers id slot })
  keeps_slot id slot mine at same = ([], refl, world_put is id mine slot w.letters at same is.letters)

  crashes : (id : ℕ) (slot : Slot VerifierView) (mine : machine.VerifierSlot) → slice_get m.verifiers id ≡ Some mine → IsSameVerifier u id mine slot → Follows may_trim u m (record w { verifiers = slice_set w.verifiers id (crashed_slot verifier_kept slot) })
  crashes id (Up v) mine at same = stops id v (Down (verifier_kept v)) (λ saved h. h) mine at same
  crashes id (Down kept) mine at same = keeps_slot id (Down kept) mine at same
  crashes id (Gone kept) mine at same = keeps_slot id (Gone kept) mine at same

  is_lost : (id : ℕ) (slot : Slot VerifierView) (mine : machine.VerifierSlot) → slice_get m.verifiers id ≡ Some mine → IsSameVerifier u id mine slot → Follows may_trim u m (record w { verifiers = slice_set w.verifiers id (lost_slot verifier_kept slot) })
  is_lost id (Up v) mine at same = stops id v (Gone (verifier_kept v)) (λ saved h. h) mine at same
  is_lost id (Down kept) mine at same = keeps_slot id (Gone kept) mine at same
  is_lost id (Gone kept) mine at same = keeps_slot id (Gone kept) mine at same

  is_told : (id : ℕ) (slot : Slot VerifierView) (mine : machine.VerifierSlot) → slice_get m.verifiers id ≡ Some mine → IsSameVerifier u id mine slot → Follows may_trim u m (record w { verifiers = slice_set w.verifiers id (told_slot verifier_told slot) })
  is_told id (Up v) mine at same = keeps_slot id (Up (verifier_told v)) mine at (told_same u id v mine same)
  is_told id (Down kept) mine at same = keeps_slot id (Down kept) mine at same
  is_told id (Gone kept) mine at same = keeps_slot id (Gone kept) mine at same

  changes : (id : ℕ) (change : Slot VerifierView → Slot VerifierView)
      → ((slot : Slot VerifierView) (mine : machine.VerifierSlot) → slice_get m.verifiers id ≡ Some mine → IsSameVerifier u id mine slot → Follows may_trim u m (record w { verifiers = slice_set w.verifiers id (change slot) }))
      → (o : Option (Slot VerifierView)) (now : WorldView) → slice_get w.verifiers id ≡ o → now ≡ record w { verifiers = changed_at w.verifiers id change o } → Follows may_trim u m now
  changes id change each None now at h = stays is h
  changes id change each (Some slot) now at h = let there = is.verifiers id slot at in subst (λ (y : WorldView). Follows may_trim u m y) (sym h) (each slot there.0 there.1 there.2)

  -- ---- a letter that comes

  client_reached : (c : ℕ) (b : Body) (now : WorldView) → ClientReached w c b now → Follows may_trim u m now
  client_reached c (body.Reply number reply) now h = client_given c (client_input.Reply number reply) now h
  client_reached c (body.Want r) now h = stays is h
  client_reached c (body.Order b) now h = stays is h
  client_reached c (body.Need q) now h = stays is h
  client_reached c (body.Parcel p) now h = stays is h
  client_reached c (body.Ballot b) now h = stays is h

  verifier_reached : (k : ℕ) (l : Letter Body) (id : ℕ) (b : Body) (now : WorldView) → slice_get w.letters k ≡ Some l → l.to ≡ node.Verifier id → l.body ≡ b → VerifierReached w l id b now → Follows may_trim u m now
  verifier_reached k l id (body.Want r) now at to says h = stays is h
  verifier_reached k l id (body.Order b) now at to says h = stays is h
  verifier_reached k l id (body.Reply number reply) now at to says h = stays is h
  verifier_reached k l id (body.Need q) now at to says h = stays is h
  verifier_reached k l id (body.Parcel p) now at to says h = stays is h
  verifier_reached k l id (body.Ballot b) now at to says h =
      let there = place_among w.letters k l b at says in
      let got : slice_get m.letters there.0 ≡ Some (cast_ballot l b) = subst (λ (ls : List (Letter Ballot)). slice_get ls there.0 ≡ Some (cast_ballot l b)) is.letters there.1 in
      verifier_given id (verifier_input.Letter (cast_ballot l b)) (λ luck. machine.Deliver there.0 luck) (λ luck. refl)
      (λ luck. ap (delivered u m luck) got ∙ ap (reached_node u m (cast_ballot l b) luck) to)
      (slice_get w.verifiers id) now refl h

  node_reached : (k : ℕ) (l : Letter Body) (to : Node) (now : WorldView) → slice_get w.letters k ≡ Some l → l.to ≡ to → NodeReached w l to now → Follows may_trim u m now
  node_reached k l (node.Client c) now at e h = client_reached c l.body now h
  node_reached k l (node.Executor id) now at e h = executor_given id (executor_input.Letter l) (slice_get w.executors id) now h
  node_reached k l (node.Verifier id) now at e h = verifier_reached k l id l.body now at e refl h

  delivery_follows : (k : ℕ) (o : Option (Letter Body)) (now : WorldView) → slice_get w.letters k ≡ o → IsDelivered w o now → Follows may_trim u m now
  delivery_follows k None now at h = stays is h
  delivery_follows k (Some l) now at h = node_reached k l l.to now at refl h

  deliver_follows : (k : ℕ) (now : WorldView) → IsDelivered w (letter_at w.letters k) now → Follows may_trim u m now
  deliver_follows zero now h = stays is h
  deliver_follows (suc k) now h = delivery_follows k (slice_get w.letters k) now refl h

module _ {u : ℕ} {w : WorldView} {m : Machine} (is : IsOfMachine u w m) where
  -- ---- any event

  pub next_follows : Good u m → (e : Event) (now : WorldView) → WorldNext w e now → Follows (is_trim e) u m now
  next_follows good (Feed c bytes) now h = client_given is c (client_input.Feed bytes) now h
  next_follows good (Again c) now h = client_given is c client_input.Again now h
  next_follows good (Hangup c) now h = client_given is c client_input.Hangup now h
  next_follows good (Deliver k) now h = deliver_follows is k now h
  next_follows good (Cut id moment) now h = executor_given is id (executor_input.Cut moment) (slice_get w.executors id) now h
  next_follows good (Step id place) now h = executor_given is id (executor_input.Step place) (slice_get w.executors id) now h
  next_follows good (Finish id) now h = executor_given is id executor_input.Finish (slice_get w.executors id) now h
  next_follows good (Suspect id) now h = verifier_given is id verifier_input.Suspect (λ luck. machine.Suspect id luck) (λ luck. refl) (λ luck. refl) (slice_get w.verifiers id) now refl h
  next_follows good (Trim id place) now h = verifier_given is id (verifier_input.Trim place) (λ luck. machine.Trim id place luck) (λ luck. refl) (λ luck. refl) (slice_get w.verifiers id) now refl h
  next_follows good (Crash (replica.Executor id)) now h = executors_differ is (changed_at w.executors id (crashed_slot executor_kept) (slice_get w.executors id)) now h
  next_follows good (Crash (replica.Verifier id)) now h = changes is id (crashed_slot verifier_kept) (crashes is id) (slice_get w.verifiers id) now refl h
  next_follows good (Restart (replica.Executor id)) now h = executor_reopened is id (slice_get w.executors id) now h
  next_follows good (Restart (replica.Verifier id)) now h = verifier_reopened is good id (slice_get w.verifiers id) now refl h
  next_follows good (Lost (replica.Executor id)) now h = executors_differ is (changed_at w.executors id (lost_slot executor_kept) (slice_get w.executors id)) now h
  next_follows good (Lost (replica.Verifier id)) now h = changes is id (lost_slot verifier_kept) (is_lost is id) (slice_get w.verifiers id) now refl h
  next_follows good (FailSave (replica.Executor id)) now h = executors_differ is (changed_at w.executors id (told_slot executor_told) (slice_get w.executors id)) now h
  next_follows good (FailSave (replica.Verifier id)) now h = changes is id (told_slot verifier_told) (is_told is id) (slice_get w.verifiers id) now refl h

-- ---- any list of events

pub later_is : {u : ℕ} (before more : List machine.Event) (w : WorldView) → IsOfMachine u w (run u more (reached u before)) → IsOfMachine u w (reached u (before ++ more))
later_is {u} before more w h = subst (IsOfMachine u w) (sym (run-append u before more (first_machine u))) h

runs_follow : {u : ℕ} (before : List machine.Event) (w : WorldView) (es : List Event) (ws : List WorldView) → IsOfMachine u w (reached u before) → WorldRuns w es ws → HaveMachines u before ws
runs_follow before w [] [] is h = tt
runs_follow before w [] (x ∷ ws) is h = absurd h
runs_follow before w (e ∷ es) [] is h = absurd h
runs_follow {u} before w (e ∷ es) (x ∷ ws) is h =
    let one = next_follows is (reached_ok u before) e x h.0 in
    let now = later_is before one.0 x one.2 in
    (one.0, now, runs_follow (before ++ one.0) x es ws now h.1)

-- the machine of the last of these worlds
pub last_has_machine : {u : ℕ} (before : List machine.Event) (w : WorldView) (ws : List WorldView) → IsOfMachine u w (reached u before) → HaveMachines u before ws → (more : List machine.Event) × IsOfMachine u (last_world w ws) (reached u more)
last_has_machine before w [] is h = (before, is)
last_has_machine before w (x ∷ ws) is h = last_has_machine (before ++ h.0) x ws h.1 h.2

-- no verifier was opened yet
all_new : (n id : ℕ) (kept : Kept) (slot : Slot VerifierView) → slice_get (replicate n (Down kept)) id ≡ Some slot → (slot ≡ Down kept) × (slice_get (replicate n machine.New) id ≡ Some machine.New)
all_new zero id kept slot e = absurd (cc)
all_new (suc n) zero kept slot e = (cc, refl)
all_new (suc n) (suc id) kept slot e = all_new n id kept slot e

pub unopened_is : (c : ConfigView) → IsOfMachine c.u (unopened_world c) (reached c.u [])
unopened_is c = record {
  same_u = refl;
  letters = refl;
  count = length-replicate (member_count c.u) (Down nothing_kept);
  verifiers = λ id slot at. let h = all_new (member_count c.u) id nothing_kept slot at in (machine.New, h.1, subst (IsSameVerifier c.u id machine.New) (sym h.0) refl);
}

first_is : (c : ConfigView) (first : WorldView) → IsFirstWorld c first → (before : List machine.Event) × IsOfMachine c.u first (reached c.u before)
first_is c first h =
    let last = last_has_machine [] (unopened_world c) h.0 (unopened_is c) (runs_follow [] (unopened_world c) (opening_events c.u) h.0 (unopened_is c) h.1) in
    (last.0, subst (λ (y : WorldView). IsOfMachine c.u y (reached c.u last.0)) h.2 last.1)

pub are_of_machines : WorldsAreOfMachines
are_of_machines c events [] r = absurd r
are_of_machines c events (first ∷ later) r =
    let start = first_is c first r.0 in
    (start.0, start.1, runs_follow start.0 first events later start.1 r.1)
