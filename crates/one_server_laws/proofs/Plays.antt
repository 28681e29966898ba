-- Each world that is reached is of a machine of executors that is reached.
use Rattle.std.proofs.Common.{◌≡◌, ℕ, zero, suc, List, [], ◌∷◌, ◌++◌, Some, refl, sym, ap, ◌∙◌, subst, ⊎_elim, slice_get, replicate, Bool, true, false}
use Rattle.std.specs.Prelude.{Contains}
use Rattle.std.proofs.lemmas.Bool.{true≢false}
use Rattle.std.proofs.lemmas.List.{length-replicate}
use Rattle.keeper.specs.Kept.{Kept}
use Rattle.decrees.specs.Count.{member_count}
use Rattle.states.specs.State.{StateView}
use Rattle.exec_node.specs.Executor.{ExecutorView}
use Rattle.verifier.specs.Verifier.{VerifierView}
use Rattle.agreement_laws.specs.Machine as machine
use Rattle.agreement_laws.specs.Machine.{reached, run, first_machine, letters_of}
use Rattle.agreement_laws.specs.ChosenList.{chosen}
use Rattle.agreement_laws.proofs.Grows.{run-append}
use Rattle.agreement_laws.proofs.Machine.{reached_ok}
use Rattle.run_laws.specs.Run.{Executed}
use Rattle.run_laws.proofs.Elements.{in_head, in_tail, in_none}
use Rattle.custody_laws.specs.Durable.{first_durable}
use Rattle.custody_laws.specs.Machine.{ExecutorMachine, Reached, first_executor_machine}
use Rattle.events.specs.declared.event.Event.{Event}
use Rattle.events.specs.declared.event.Event.TheVariants.{Restart}
use Rattle.events.specs.declared.event.Replica.{Replica}
use Rattle.events.specs.declared.event.Replica.TheVariants as replica
use Rattle.events.specs.Config.{ConfigView}
use Rattle.slots.specs.Slot.{Slot}
use Rattle.slots.specs.declared.slot.Slot.TheVariants.{Down}
use Rattle.worlds.specs.World.{WorldView, WorldNext, WorldRuns, last_world, unopened_world, restarts_below, opening_events, IsFirstWorld, ReachedWorlds, EndsWith}
use Rattle.slots.specs.Slots.{nothing_kept}
use Rattle.world_laws.specs.Machines.{IsSameVerifier, IsOfMachine}
use Rattle.world_laws.proofs.Projected.{next_follows}
use Rattle.one_server_laws.specs.Saved.{IsKeptIn, IsExecutedIn, IsMet, IsExecuted}
use Rattle.one_server_laws.specs.Machines.{IsSameExecutor, IsOfExecutorMachine, HasExecutorMachine}
use Rattle.one_server_laws.specs.HeldLaws.{WorldsAreOfExecutorMachines}
use Rattle.one_server_laws.proofs.Steps.{steps_reached, chosen_then}
use Rattle.one_server_laws.proofs.Follows.{Follows}
use Rattle.one_server_laws.proofs.Events.{opened_follows, event_follows}

-- The world is of two machines that are reached, one of verifiers and one of executors. Each state that was met is such a one, and so is each round.
pub record Held (u : ℕ) (met : StateView → Type 0) (rounds : Executed → Type 0) (w : WorldView) : Type 0 where
  pub events : List machine.Event
  pub verifiers_are : IsOfMachine u w (reached u events)
  pub before : List ExecutorMachine
  pub now : ExecutorMachine
  pub is_reached : Reached u before now
  pub same : IsOfExecutorMachine u w now
  pub met_is : (s : StateView) → Contains now.met s → met s
  pub rounds_is : (r : Executed) → Contains now.rounds r → rounds r

module _ {u : ℕ} (met : StateView → Type 0) (rounds : Executed → Type 0) where
  -- the steps of an event, and then the decrees that are chosen by its letters
  pub next_held : (calm : Bool) {w : WorldView} (held : Held u met rounds w) (x : WorldView) (agrees : (more : List machine.Event) × IsOfMachine u x (run u more (reached u held.events))) (f : Follows calm u held.now x)
      → ((s : StateView) → (calm ≡ false) × IsKeptIn x s → met s) → ((r : Executed) → (calm ≡ false) × IsExecutedIn x r → rounds r) → Held u met rounds x
  next_held calm held x agrees f new_met new_rounds =
      let verifiers_are : IsOfMachine u x (reached u (held.events ++ agrees.0)) = subst (IsOfMachine u x) (sym (run-append u held.events agrees.0 (first_machine u))) agrees.1 in
      let letters : f.now.letters ≡ letters_of u (held.events ++ agrees.0) = sym f.letters ∙ verifiers_are.letters in
      let decrees : f.now.decrees ≡ chosen u (letters_of u held.events) = f.decrees ∙ (held.same.decrees ∙ ap (chosen u) (sym held.same.letters ∙ held.verifiers_are.letters)) in
      let first = steps_reached u held.before held.now f.now held.is_reached f.steps in
      let last = steps_reached u first.0 f.now (record f.now { decrees = chosen u (letters_of u (held.events ++ agrees.0)) }) first.1 (chosen_then u held.events agrees.0 f.now letters decrees) in
      record {
        events = held.events ++ agrees.0;
        verifiers_are = verifiers_are;
        before = last.0;
        now = record f.now { decrees = chosen u (letters_of u (held.events ++ agrees.0)) };
        is_reached = last.1;
        same = record { same_u = f.same_u; letters = f.letters; decrees = ap (chosen u) (sym letters); count = f.count; executors = f.executors };
        met_is = λ s c. ⊎_elim (held.met_is s) (new_met s) (f.met_from s c);
        rounds_is = λ r c. ⊎_elim (held.rounds_is r) (new_rounds r) (f.rounds_from r c);
      }

  -- an event after which all that is kept is among what is met
  pub event_held : (w : WorldView) (held : Held u met rounds w) (e : Event) (x : WorldView) → WorldNext w e x → ((s : StateView) → IsKeptIn x s → met s) → ((r : Executed) → IsExecutedIn x r → rounds r) → Held u met rounds x
  event_held w held e x h new_met new_rounds =
      let agrees = next_follows held.verifiers_are (reached_ok u held.events) e x h in
      next_held false held x (agrees.0, agrees.2) (event_follows held.before held.is_reached held.same held.events held.verifiers_are e x h)
      (λ s k. new_met s k.1) (λ r k. new_rounds r k.1)

  runs_held : (w : WorldView) (es : List Event) (ws : List WorldView) → Held u met rounds w → ((x : WorldView) → Contains ws x → (s : StateView) → IsKeptIn x s → met s)
      → ((x : WorldView) → Contains ws x → (r : Executed) → IsExecutedIn x r → rounds r) → WorldRuns w es ws → Held u met rounds (last_world w ws)
  runs_held w [] [] held new_met new_rounds h = held
  runs_held w [] (x ∷ ws) held new_met new_rounds h = absurd h
  runs_held w (e ∷ es) [] held new_met new_rounds h = absurd h
  runs_held w (e ∷ es) (x ∷ ws) held new_met new_rounds h =
      runs_held x es ws
      (event_held w held e x h.0 (new_met x (in_head x ws)) (new_rounds x (in_head x ws)))
      (λ y c. new_met y (in_tail x y ws c)) (λ y c. new_rounds y (in_tail x y ws c)) h.1

-- ---- the opening, in which nothing is executed

abbrev pub NoState : StateView → Type 0
NoState s = ⊥

abbrev pub NoRound : Executed → Type 0
NoRound r = ⊥

abbrev pub AreRestarts : List Event → Type 0
AreRestarts [] = Unit {0}
AreRestarts (e ∷ es) = (r : Replica) × (e ≡ Restart r) × AreRestarts es

pub restarts_both : (xs ys : List Event) → AreRestarts xs → AreRestarts ys → AreRestarts (xs ++ ys)
restarts_both [] ys h k = k
restarts_both (x ∷ xs) ys h k = (h.0, h.1, restarts_both xs ys h.2 k)

pub restarts_are : (f : ℕ → Replica) (n : ℕ) → AreRestarts (restarts_below f n)
restarts_are f zero = tt
restarts_are f (suc n) = restarts_both (restarts_below f n) (Restart (f n) ∷ []) (restarts_are f n) (f n, refl, tt)

opened_held : {u : ℕ} (w : WorldView) (es : List Event) (ws : List WorldView) → Held u NoState NoRound w → AreRestarts es → WorldRuns w es ws → Held u NoState NoRound (last_world w ws)
opened_held w [] [] held r h = held
opened_held w [] (x ∷ ws) held r h = absurd h
opened_held w (e ∷ es) [] held r h = absurd h
opened_held {u} w (e ∷ es) (x ∷ ws) held r h =
    let agrees = next_follows held.verifiers_are (reached_ok u held.events) e x h.0 in
    opened_held x es ws
    (next_held NoState NoRound true held x (agrees.0, agrees.2)
    (opened_follows held.before held.is_reached held.same held.events held.verifiers_are r.0 x (subst (λ (y : Event). WorldNext w y x) r.1 h.0))
    (λ s k. absurd (true≢false k.0)) (λ b k. absurd (true≢false k.0)))
    r.2 h.1

-- no replica was opened yet
pub executors_new : (n id : ℕ) (kept : Kept) (slot : Slot ExecutorView) → slice_get (replicate n (Down kept)) id ≡ Some slot → (slot ≡ Down kept) × (slice_get (replicate n first_durable) id ≡ Some first_durable)
executors_new zero id kept slot e = absurd (cc e)
executors_new (suc n) zero kept slot e = (cc e, refl)
executors_new (suc n) (suc id) kept slot e = executors_new n id kept slot e

verifiers_new : (n id : ℕ) (kept : Kept) (slot : Slot VerifierView) → slice_get (replicate n (Down kept)) id ≡ Some slot → (slot ≡ Down kept) × (slice_get (replicate n machine.New) id ≡ Some machine.New)
verifiers_new zero id kept slot e = absurd (cc e)
verifiers_new (suc n) zero kept slot e = (cc e, refl)
verifiers_new (suc n) (suc id) kept slot e = verifiers_new n id kept slot e

pub unopened_held : (c : ConfigView) → Held c.u NoState NoRound (unopened_world c)
unopened_held c = record {
  events = [];
  verifiers_are = record {
    same_u = refl;
    letters = refl;
    count = length-replicate (member_count c.u) (Down nothing_kept);
    verifiers = λ id slot at. let h = verifiers_new (member_count c.u) id nothing_kept slot at in (machine.New, h.1, subst (IsSameVerifier c.u id machine.New) (sym h.0) refl);
  };
  before = [];
  now = first_executor_machine c.u;
  is_reached = refl;
  same = record {
    same_u = refl;
    letters = refl;
    decrees = refl;
    count = length-replicate (member_count c.u) (Down nothing_kept);
    executors = λ id slot at. let h = executors_new (member_count c.u) id nothing_kept slot at in (first_durable, h.1, subst (IsSameExecutor c.u id first_durable) (sym h.0) refl);
  };
  met_is = λ s c. in_none s c;
  rounds_is = λ r c. in_none r c;
}

first_held : (c : ConfigView) (first : WorldView) → IsFirstWorld c first → Held c.u NoState NoRound first
first_held c first h =
    let last = opened_held (unopened_world c) (opening_events c.u) h.0 (unopened_held c)
    (restarts_both (restarts_below replica.Executor (member_count c.u)) (restarts_below replica.Verifier (member_count c.u)) (restarts_are replica.Executor (member_count c.u)) (restarts_are replica.Verifier (member_count c.u))) h.1 in
    subst (Held c.u NoState NoRound) h.2 last

-- ---- any world

pub now_held : (u : ℕ) (met : StateView → Type 0) (rounds : Executed → Type 0) (w : WorldView) → Held u NoState NoRound w → Held u met rounds w
now_held u met rounds w held = record {
  events = held.events;
  verifiers_are = held.verifiers_are;
  before = held.before;
  now = held.now;
  is_reached = held.is_reached;
  same = held.same;
  met_is = λ s c. absurd (held.met_is s c);
  rounds_is = λ r c. absurd (held.rounds_is r c);
}

pub start_held : (c : ConfigView) (met : StateView → Type 0) (rounds : Executed → Type 0) (first : WorldView) → IsFirstWorld c first → Held c.u met rounds first
start_held c met rounds first h = now_held c.u met rounds first (first_held c first h)

pub last_held : (c : ConfigView) (events : List Event) (worlds : List WorldView) (w : WorldView) → ReachedWorlds c events worlds → EndsWith worlds w → Held c.u (IsMet worlds) (IsExecuted worlds) w
last_held c events [] w r ends = absurd r
last_held c events (first ∷ later) w r ends =
    let worlds : List WorldView = first ∷ later in
    let start = start_held c (IsMet worlds) (IsExecuted worlds) first r.0 in
    subst (Held c.u (IsMet worlds) (IsExecuted worlds)) ends
    (runs_held (IsMet worlds) (IsExecuted worlds) first events later start (λ x c s k. (x, in_tail first x later c, k)) (λ x c b k. (x, in_tail first x later c, k)) r.1)

pub are_of_executor_machines : WorldsAreOfExecutorMachines
are_of_executor_machines c events worlds w r ends =
    let held = last_held c events worlds w r ends in
    subst (λ (u : ℕ). HasExecutorMachine u worlds w) (sym held.same.same_u)
    (record { before = held.before; now = held.now; reached = held.is_reached; same = held.same; met = held.met_is; rounds = held.rounds_is })
