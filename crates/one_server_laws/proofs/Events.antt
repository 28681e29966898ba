-- Each event of a world is some steps of its machine of executors.
use Rattle.std.proofs.Common.{◌≡◌, ◌⊎◌, ℕ, zero, suc, ◌-◌, Bool, true, false, List, [], ◌∷◌, ◌++◌, map, Option, Some, None, inl, inr, refl, sym, ap, ◌∙◌, subst, ⊎_elim, slice_get, slice_set}
use Rattle.std.specs.Prelude.{Contains}
use Rattle.std.proofs.lemmas.Bool.{cond_both, true≢false}
use Rattle.std.proofs.lemmas.List.{append-nil}
use Rattle.keeper.specs.Kept.{Kept}
use Rattle.decrees.specs.declared.decree.Decree.{Decree}
use Rattle.decrees.specs.declared.standing.Standing.{Standing}
use Rattle.decrees.specs.declared.ballot.Ballot.{Ballot}
use Rattle.decrees.specs.declared.ballot.Ballot.TheVariants as ballot
use Rattle.decrees.specs.declared.node.Letter.{Letter}
use Rattle.decrees.specs.declared.node.Node.{Node}
use Rattle.decrees.specs.declared.node.Node.TheVariants as node
use Rattle.exec_lines.specs.declared.body.Body.{Body}
use Rattle.exec_lines.specs.declared.body.Body.TheVariants as body
use Rattle.exec_lines.specs.declared.input.Input as of_executor
use Rattle.exec_lines.specs.declared.input.Input.TheVariants as executor_input
use Rattle.exec_lines.specs.State.{ExecutorState, ExecutorOutcome, new_executor}
use Rattle.exec_lines.specs.Lines.{resumed}
use Rattle.exec_lines.specs.Step.{executor_step}
use Rattle.exec_lines.specs.Record.{executor_text}
use Rattle.exec_node.specs.Executor.{ExecutorView, executor_outcome, executor_handled, executor_record_after, OpensExecutor}
use Rattle.verifier.specs.declared.input.Input as of_verifier
use Rattle.verifier.specs.declared.input.Input.TheVariants as verifier_input
use Rattle.verifier.specs.Verifier.{VerifierView}
use Rattle.client.specs.declared.input.Input as of_client
use Rattle.client.specs.declared.input.Input.TheVariants as client_input
use Rattle.agreement_laws.specs.Letters.{Letters, Sent, here, there}
use Rattle.agreement_laws.specs.Machine as machine
use Rattle.agreement_laws.specs.Machine.{reached, letters_of}
use Rattle.agreement_laws.specs.ChosenList.{chosen}
use Rattle.agreement_laws.specs.Laws.{IsStandingAt}
use Rattle.agreement_laws.proofs.Places.{at_index}
use Rattle.agreement_laws.proofs.Proved.{told_is_chosen, told_stands, list_is_chosen}
use Rattle.custody_laws.specs.Durable.{Durable, first_durable}
use Rattle.custody_laws.specs.Machine.{ExecutorMachine, HaveNoToken, Reached}
use Rattle.custody_laws.proofs.Custody.{reached_ok}
use Rattle.events.specs.declared.event.Event.{Event}
use Rattle.events.specs.declared.event.Event.TheVariants.{Feed, Again, Hangup, Deliver, Cut, Step, Finish, Suspect, Trim, Crash, Restart, Lost, FailSave}
use Rattle.events.specs.declared.event.Replica.{Replica}
use Rattle.events.specs.declared.event.Replica.TheVariants as replica
use Rattle.slots.specs.Slot.{Slot}
use Rattle.slots.specs.declared.slot.Slot.TheVariants.{Up, Down, Gone}
use Rattle.slots.specs.Slots.{executor_kept, executor_told, verifier_kept, verifier_told, crashed_slot, lost_slot, told_slot, first_if_none, VerifierSettles, ExecutorSettles, VerifierReopens, ExecutorReopens}
use Rattle.worlds.specs.Clients.{ClientSlot, ClientSettlesWhere}
use Rattle.worlds.specs.World.{WorldView, with_executor, with_verifier, ClientAtGiven, ClientGiven, ExecutorAtGiven, VerifierAtGiven, ExecutorAtOpened, VerifierAtOpened, changed_at, ClientReached, VerifierReached, NodeReached, letter_at, IsDelivered, WorldNext}
use Rattle.slots.specs.Sending.{as_sent}
use Rattle.world_laws.specs.Ballots.{ballots}
use Rattle.world_laws.specs.Machines.{IsOfMachine}
use Rattle.world_laws.proofs.OwnLetters.{AllFrom, client_sends}
use Rattle.world_laws.proofs.BallotLemmas.{ballots-sent, ballots-from, place_among}
use Rattle.one_server_laws.specs.Saved.{saved_of, up_again}
use Rattle.one_server_laws.specs.Machines.{HasWork, IsUp, IsRecordOf, IsSameExecutor, IsOfExecutorMachine}
use Rattle.one_server_laws.proofs.Steps.{none}
use Rattle.one_server_laws.proofs.Inputs.{IsStepOf, MayHear, MayCome, input_is}
use Rattle.one_server_laws.proofs.Resumed.{resumed_moves}
use Rattle.one_server_laws.proofs.Records.{chain_is_linked, one_is_read}
use Rattle.one_server_laws.proofs.VerifierLetters.{no_tokens, of_verifier_no_tokens, verifier_sends, opened_sends}
use Rattle.one_server_laws.proofs.Follows.{Follows, stays, verifiers_differ, outside, put_quiet, put}

-- ---- what others send is no token of an executor

settled_client_sends : (b : Bool) (old now : ClientSlot) (x : of_client.Input) (new : List (Letter Body)) → ClientSettlesWhere b old x now new → AllFrom (node.Client old.client.client) new
settled_client_sends false old now x new h = subst (AllFrom (node.Client old.client.client)) (sym h.1) tt
settled_client_sends true old now x new (inl h) = subst (AllFrom (node.Client old.client.client)) (sym h.3) (client_sends old.client.u old.client.client old.client.talk x h.0 h.1)
settled_client_sends true old now x new (inr h) = subst (AllFrom (node.Client old.client.client)) (sym h.1.2) tt

client_no_tokens : (c : ℕ) (new : List (Letter Body)) → AllFrom (node.Client c) new → HaveNoToken (ballots new)
client_no_tokens c new own = no_tokens (node.Client c) (λ e same. cc same) (ballots new) (ballots-from (node.Client c) new own)

silent_no_tokens : (new : Letters) → new ≡ [] → HaveNoToken new
silent_no_tokens new e = subst HaveNoToken (sym e) (λ x epoch n previous t s. elim s [ ])

settled_verifier_no_tokens : (old now : Slot VerifierView) (x : of_verifier.Input) (new : Letters) → VerifierSettles old x now new → HaveNoToken new
settled_verifier_no_tokens (Up v) now x new (inl h) = subst HaveNoToken (sym h.2) (of_verifier_no_tokens v.id _ (verifier_sends v.u v.id v.state x))
settled_verifier_no_tokens (Up v) now x new (inr h) = silent_no_tokens new h.1.2
settled_verifier_no_tokens (Down kept) now x new h = silent_no_tokens new h.1
settled_verifier_no_tokens (Gone kept) now x new h = silent_no_tokens new h.1

reopened_verifier_no_tokens : (u id : ℕ) (old now : Slot VerifierView) (new : Letters) → VerifierReopens u id old now new → HaveNoToken new
reopened_verifier_no_tokens u id (Up v) now new h = silent_no_tokens new h.1
reopened_verifier_no_tokens u id (Gone kept) now new h = silent_no_tokens new h.1
reopened_verifier_no_tokens u id (Down kept) now new (inl h) = of_verifier_no_tokens id new (opened_sends u id kept.saved kept.failures kept.fails_next h.1.0 new h.1.2)
reopened_verifier_no_tokens u id (Down kept) now new (inr h) = silent_no_tokens new h.2

-- ---- records

some_record : (u id : ℕ) (x : Durable) (o : Option (List ℕ)) → o ≡ Some (executor_text u id (up_again x)) → IsRecordOf u id o x
some_record u id x None e = absurd (cc e)
some_record u id x (Some bytes) e = cc e

-- a record that was, or the first one
first_or_old : (u id : ℕ) (x : Durable) (old left : Option (List ℕ)) → IsRecordOf u id old x → (left ≡ old) ⊎ (left ≡ first_if_none old (executor_text u id new_executor)) → IsRecordOf u id left x
first_or_old u id x old left same (inl e) = subst (λ (o : Option (List ℕ)). IsRecordOf u id o x) (sym e) same
first_or_old u id x (Some bytes) left same (inr e) = subst (λ (o : Option (List ℕ)). IsRecordOf u id o x) (sym e) same
first_or_old u id x None left same (inr e) = some_record u id x left (e ∙ ap (λ (y : Durable). Some (executor_text u id (up_again y))) (sym same))

-- the record after a step that is done
record_after_is : (u id : ℕ) (e : ExecutorView) (o : ExecutorOutcome) → IsUp u id (saved_of e.state) e → (o.saves ≡ false → saved_of o.state ≡ saved_of e.state) → executor_record_after e o ≡ Some (executor_text u id (up_again (saved_of o.state)))
record_after_is u id e o is unsaved =
    cond_both o.saves (Some (executor_text e.u e.id o.state)) e.saved (λ (r : Option (List ℕ)). r ≡ Some (executor_text u id (up_again (saved_of o.state))))
    (λ _. λ i. Some (executor_text (is.same_u i) (is.same_id i) o.state))
    (λ quiet. is.recorded ∙ ap (λ (y : Durable). Some (executor_text u id (up_again y))) (sym (unsaved quiet)))

pub sent_at : (ls : Letters) (k : ℕ) (l : Letter Ballot) → slice_get ls k ≡ Some l → Sent ls l.from l.body
sent_at [] k l e = absurd (cc e)
sent_at (x ∷ ls) zero l e = let same : x ≡ l = cc e in here (ap (λ (y : Letter Ballot). y.from) same) (ap (λ (y : Letter Ballot). y.body) same)
sent_at (x ∷ ls) (suc k) l e = there (sent_at ls k l e)

less_calm : {u : ℕ} {m : ExecutorMachine} {w : WorldView} → Follows true u m w → Follows false u m w
less_calm f = record {
  now = f.now;
  steps = f.steps;
  same_u = f.same_u;
  letters = f.letters;
  decrees = f.decrees;
  count = f.count;
  executors = f.executors;
  met_from = λ s c. ⊎_elim inl (λ k. absurd (true≢false k.0)) (f.met_from s c);
  rounds_from = λ r c. ⊎_elim inl (λ k. absurd (true≢false k.0)) (f.rounds_from r c);
}

module _ {u : ℕ} {w : WorldView} {m : ExecutorMachine} (before : List ExecutorMachine) (is_reached : Reached u before m) (is : IsOfExecutorMachine u w m) where
  -- its slot is this one now, with what is saved as it was, and nothing is sent
  quiet_put : (calm : Bool) (id : ℕ) (slot now : Slot ExecutorView) (new : List (Letter Body)) (d : Durable) → slice_get m.executors id ≡ Some d → IsSameExecutor u id d slot → now ≡ slot → new ≡ [] → Follows calm u m (with_executor w id now new)
  quiet_put calm id slot now new d at same e silent =
      subst (λ (y : Slot ExecutorView). Follows calm u m (with_executor w id y new)) (sym e)
      (put_quiet before is_reached is calm id slot d (w.letters ++ new) at same (ap (λ (z : List (Letter Body)). ballots (w.letters ++ z)) silent ∙ (ap ballots (append-nil w.letters) ∙ is.letters)))

  -- ---- an executor that is given an input

  module _ (id : ℕ) (x : of_executor.Input) (may : MayCome m x) where
    module _ (e : ExecutorView) (placed : slice_get w.executors id ≡ Some (Up e)) (at : slice_get m.executors id ≡ Some (saved_of e.state)) (same : IsUp u id (saved_of e.state) e) where
      outcome_is : executor_outcome e x ≡ executor_step u id e.state x
      outcome_is = λ i. executor_step (same.same_u i) (same.same_id i) e.state x

      is_step : IsStepOf u id m e.state (executor_outcome e x)
      is_step = subst (IsStepOf u id m e.state) (sym outcome_is) (input_is u id m e.state at ((reached_ok u before m is_reached).execs id (saved_of e.state) at).below same.works x may)

      recorded_now : executor_record_after e (executor_outcome e x) ≡ Some (executor_text u id (up_again (saved_of (executor_outcome e x).state)))
      recorded_now = record_after_is u id e (executor_outcome e x) same is_step.unsaved

      step_follows : (new : List (Letter Body)) → new ≡ (executor_outcome e x).letters → Follows false u m (with_executor w id (Up (executor_handled e x)) new)
      step_follows new sent = put before is_reached is false id (Up e) (Up (executor_handled e x)) (saved_of e.state) (saved_of (executor_outcome e x).state) new (ballots (executor_outcome e x).letters) placed at is_step.done (ap ballots sent)
          (record { same_u = same.same_u; same_id = same.same_id; saved = refl; recorded = recorded_now; works = is_step.works }) (λ _. refl)

      stop_follows : (kept : Kept) (new : List (Letter Body)) → new ≡ [] → ((kept.saved ≡ e.saved) ⊎ (kept.saved ≡ executor_record_after e (executor_outcome e x))) → Follows false u m (with_executor w id (Down kept) new)
      stop_follows kept new silent (inl old) =
          quiet_put false id (Down kept) (Down kept) new (saved_of e.state) at (some_record u id (saved_of e.state) kept.saved (old ∙ same.recorded)) refl silent
      stop_follows kept new silent (inr now) =
          let record_is = now ∙ recorded_now in
          put before is_reached is false id (Up e) (Down kept) (saved_of e.state) (saved_of (executor_outcome e x).state) new [] placed at is_step.alone (ap ballots silent)
          (some_record u id (saved_of (executor_outcome e x).state) kept.saved record_is) (λ linked. record { text = record_is; linked = linked })

      up_settles : (now : Slot ExecutorView) (new : List (Letter Body)) → ExecutorSettles (Up e) x now new → Follows false u m (with_executor w id now new)
      up_settles now new (inl h) = subst (λ (y : Slot ExecutorView). Follows false u m (with_executor w id y new)) (sym h.1) (step_follows new h.2)
      up_settles now new (inr h) = subst (λ (y : Slot ExecutorView). Follows false u m (with_executor w id y new)) (sym h.1.1) (stop_follows h.1.0 new h.1.2 h.1.3.record_is)

    settles : (old now : Slot ExecutorView) (new : List (Letter Body)) (d : Durable) → slice_get w.executors id ≡ Some old → slice_get m.executors id ≡ Some d → IsSameExecutor u id d old → ExecutorSettles old x now new → Follows false u m (with_executor w id now new)
    settles (Up e) now new d placed at same h =
        up_settles e placed (at ∙ ap (λ (y : Durable). Some y) (sym same.saved)) (subst (λ (y : Durable). IsUp u id y e) (sym same.saved) same) now new h
    settles (Down kept) now new d placed at same h = quiet_put false id (Down kept) now new d at same h.0 h.1
    settles (Gone kept) now new d placed at same h = quiet_put false id (Gone kept) now new d at same h.0 h.1

    executor_given : (o : Option (Slot ExecutorView)) (now : WorldView) → slice_get w.executors id ≡ o → ExecutorAtGiven w id x o now → Follows false u m now
    executor_given None now placed h = stays before is_reached is false h
    executor_given (Some old) now placed h =
        let mine = is.executors id old placed in
        subst (λ (y : WorldView). Follows false u m y) (sym h.3) (settles old h.0 h.1 mine.0 placed mine.1 mine.2 h.2)

  -- ---- an executor that is opened

  module _ (id : ℕ) where
    new_follows : (kept : Kept) (e : ExecutorView) (new : List (Letter Body)) (d : Durable) → slice_get m.executors id ≡ Some d → d ≡ first_durable → OpensExecutor u id None kept.failures kept.fails_next e new → Follows true u m (with_executor w id (Up e) new)
    new_follows kept e new d at first h =
        quiet_put true id (Up e) (Up e) new d at
        (record {
          same_u = ap (λ (y : ExecutorView). y.u) h.0;
          same_id = ap (λ (y : ExecutorView). y.id) h.0;
          saved = ap (λ (y : ExecutorView). saved_of y.state) h.0 ∙ sym first;
          recorded = ap (λ (y : ExecutorView). y.saved) h.0 ∙ ap (λ (y : Durable). Some (executor_text u id (up_again y))) (sym first);
          works = subst (HasWork d) (sym (ap (λ (y : ExecutorView). y.state.work) h.0)) tt;
        })
        refl h.1

    again_follows : (old : Slot ExecutorView) (kept : Kept) (bytes : List ℕ) (e : ExecutorView) (new : List (Letter Body)) (d : Durable) → slice_get w.executors id ≡ Some old → slice_get m.executors id ≡ Some d → bytes ≡ executor_text u id (up_again d)
        → OpensExecutor u id (Some bytes) kept.failures kept.fails_next e new → Follows true u m (with_executor w id (Up e) new)
    again_follows old kept bytes e new d placed at text h =
        let chain = ((reached_ok u before m is_reached).execs id d at).chain in
        let linked = chain_is_linked (Contains m.met) (Contains m.rounds) d.standing.epoch d.have d.chain chain in
        let read : e.state ≡ up_again d = one_is_read u id bytes d e.state (record { text = ap (λ (b : List ℕ). Some b) text; linked = linked }) h.1 in
        let saved : saved_of e.state ≡ d = ap saved_of read in
        put before is_reached is true id old (Up e) d d new (ballots (resumed u id (up_again d)).letters) placed at (resumed_moves u id m d (Contains m.met) (Contains m.rounds) at chain)
        (ap ballots h.2 ∙ ap (λ (s : ExecutorState). ballots (resumed u id s).letters) read)
        (record {
          same_u = ap (λ (y : ExecutorView). y.u) h.0;
          same_id = ap (λ (y : ExecutorView). y.id) h.0;
          saved = saved;
          recorded = ap (λ (y : ExecutorView). y.saved) h.0 ∙ ap (λ (s : ExecutorState). Some (executor_text u id s)) read;
          works = subst (HasWork d) (sym (ap (λ (s : ExecutorState). s.work) read)) tt;
        })
        (λ _. saved)

    goes_on : (kept : Kept) (e : ExecutorView) (new : List (Letter Body)) (d : Durable) (o : Option (List ℕ)) → kept.saved ≡ o → slice_get w.executors id ≡ Some (Down kept) → slice_get m.executors id ≡ Some d → IsRecordOf u id o d
        → OpensExecutor u id o kept.failures kept.fails_next e new → Follows true u m (with_executor w id (Up e) new)
    goes_on kept e new d None same placed at is_record h = new_follows kept e new d at is_record h
    goes_on kept e new d (Some bytes) same placed at is_record h = again_follows (Down kept) kept bytes e new d placed at is_record h

    reopens : (old now : Slot ExecutorView) (new : List (Letter Body)) (d : Durable) → slice_get w.executors id ≡ Some old → slice_get m.executors id ≡ Some d → IsSameExecutor u id d old → ExecutorReopens u id old now new → Follows true u m (with_executor w id now new)
    reopens (Up e) now new d placed at same h = quiet_put true id (Up e) now new d at same h.0 h.1
    reopens (Gone kept) now new d placed at same h = quiet_put true id (Gone kept) now new d at same h.0 h.1
    reopens (Down kept) now new d placed at same (inl h) =
        subst (λ (y : Slot ExecutorView). Follows true u m (with_executor w id y new)) (sym h.1.1) (goes_on kept h.1.0 new d kept.saved refl placed at same h.1.2)
    reopens (Down kept) now new d placed at same (inr h) =
        quiet_put true id (Down h.0) now new d at (first_or_old u id d kept.saved h.0.saved same h.3.record_is) h.1 h.2

    pub executor_opened : (o : Option (Slot ExecutorView)) (now : WorldView) → slice_get w.executors id ≡ o → ExecutorAtOpened w id o now → Follows true u m now
    executor_opened None now placed h = stays before is_reached is true h
    executor_opened (Some old) now placed h =
        let mine = is.executors id old placed in
        subst (λ (y : WorldView). Follows true u m y) (sym h.3) (reopens old h.0 h.1 mine.0 placed mine.1 mine.2 (subst (λ (y : ℕ). ExecutorReopens y id old h.0 h.1) is.same_u h.2))

  -- ---- an executor that crashes, is lost, or whose next save is set to fail

  stopped_is : (id : ℕ) (e : ExecutorView) (d : Durable) → IsUp u id d e → IsRecordOf u id e.saved d
  stopped_is id e d same = some_record u id d e.saved same.recorded

  crashed_is : (id : ℕ) (slot : Slot ExecutorView) (d : Durable) → IsSameExecutor u id d slot → IsSameExecutor u id d (crashed_slot executor_kept slot)
  crashed_is id (Up e) d same = stopped_is id e d same
  crashed_is id (Down kept) d same = same
  crashed_is id (Gone kept) d same = same

  lost_is : (id : ℕ) (slot : Slot ExecutorView) (d : Durable) → IsSameExecutor u id d slot → IsSameExecutor u id d (lost_slot executor_kept slot)
  lost_is id (Up e) d same = stopped_is id e d same
  lost_is id (Down kept) d same = same
  lost_is id (Gone kept) d same = same

  told_is : (id : ℕ) (slot : Slot ExecutorView) (d : Durable) → IsSameExecutor u id d slot → IsSameExecutor u id d (told_slot executor_told slot)
  told_is id (Up e) d same = record { same_u = same.same_u; same_id = same.same_id; saved = same.saved; recorded = same.recorded; works = same.works }
  told_is id (Down kept) d same = same
  told_is id (Gone kept) d same = same

  executor_changes : (id : ℕ) (change : Slot ExecutorView → Slot ExecutorView) → ((slot : Slot ExecutorView) (d : Durable) → IsSameExecutor u id d slot → IsSameExecutor u id d (change slot))
      → (o : Option (Slot ExecutorView)) (now : WorldView) → slice_get w.executors id ≡ o → now ≡ record w { executors = changed_at w.executors id change o } → Follows false u m now
  executor_changes id change each None now placed e = stays before is_reached is false e
  executor_changes id change each (Some slot) now placed e =
      let mine = is.executors id slot placed in
      subst (λ (y : WorldView). Follows false u m y) (sym e) (put_quiet before is_reached is false id (change slot) mine.0 w.letters mine.1 (each slot mine.0 mine.2) is.letters)

  -- ---- clients and verifiers

  client_at_given : (i : ℕ) (x : of_client.Input) (o : Option ClientSlot) (now : WorldView) → ClientAtGiven w i x o now → Follows false u m now
  client_at_given i x None now h = stays before is_reached is false h
  client_at_given i x (Some old) now h =
      subst (λ (y : WorldView). Follows false u m y) (sym h.3)
      (outside before is_reached is false (slice_set w.clients i h.0) w.verifiers h.1 (client_no_tokens old.client.client h.1 (settled_client_sends old.client.up old h.0 x h.1 h.2)))

  client_given : (c : ℕ) (x : of_client.Input) (now : WorldView) → ClientGiven w c x now → Follows false u m now
  client_given zero x now h = stays before is_reached is false h
  client_given (suc i) x now h = client_at_given i x (slice_get w.clients i) now h

  verifier_sent : (calm : Bool) (id : ℕ) (slot : Slot VerifierView) (new : Letters) → HaveNoToken new → Follows calm u m (with_verifier w id slot new)
  verifier_sent calm id slot new others = outside before is_reached is calm w.clients (slice_set w.verifiers id slot) (map as_sent new) (subst HaveNoToken (sym (ballots-sent new)) others)

  verifier_given : (id : ℕ) (x : of_verifier.Input) (o : Option (Slot VerifierView)) (now : WorldView) → VerifierAtGiven w id x o now → Follows false u m now
  verifier_given id x None now h = stays before is_reached is false h
  verifier_given id x (Some old) now h = subst (λ (y : WorldView). Follows false u m y) (sym h.3) (verifier_sent false id h.0 h.1 (settled_verifier_no_tokens old h.0 x h.1 h.2))

  pub verifier_opened : (id : ℕ) (o : Option (Slot VerifierView)) (now : WorldView) → VerifierAtOpened w id o now → Follows true u m now
  verifier_opened id None now h = stays before is_reached is true h
  verifier_opened id (Some old) now h = subst (λ (y : WorldView). Follows true u m y) (sym h.3) (verifier_sent true id h.0 h.1 (reopened_verifier_no_tokens w.u id old h.0 h.1 h.2))

  -- ---- a letter that comes

  client_reached : (c : ℕ) (b : Body) (now : WorldView) → ClientReached w c b now → Follows false u m now
  client_reached c (body.Reply number reply) now h = client_given c (client_input.Reply number reply) now h
  client_reached c (body.Want r) now h = stays before is_reached is false h
  client_reached c (body.Order b) now h = stays before is_reached is false h
  client_reached c (body.Need q) now h = stays before is_reached is false h
  client_reached c (body.Parcel p) now h = stays before is_reached is false h
  client_reached c (body.Ballot b) now h = stays before is_reached is false h

  verifier_reached : (l : Letter Body) (id : ℕ) (b : Body) (now : WorldView) → VerifierReached w l id b now → Follows false u m now
  verifier_reached l id (body.Ballot b) now h = verifier_given id (verifier_input.Letter (record { from = l.from; to = l.to; body = b })) (slice_get w.verifiers id) now h
  verifier_reached l id (body.Want r) now h = stays before is_reached is false h
  verifier_reached l id (body.Order b) now h = stays before is_reached is false h
  verifier_reached l id (body.Reply number reply) now h = stays before is_reached is false h
  verifier_reached l id (body.Need q) now h = stays before is_reached is false h
  verifier_reached l id (body.Parcel p) now h = stays before is_reached is false h

  module _ (events : List machine.Event) (verifiers_are : IsOfMachine u w (reached u events)) where
    decrees_are : chosen u (letters_of u events) ≡ m.decrees
    decrees_are = ap (chosen u) (sym verifiers_are.letters ∙ is.letters) ∙ sym is.decrees

    -- what a verifier tells to be decided is chosen
    told_is_listed : (v place : ℕ) (d : Decree) → Sent (letters_of u events) (node.Verifier v) (ballot.Decided place d) → slice_get m.decrees (place - 1) ≡ Some d
    told_is_listed v place d sent =
        let listed = (list_is_chosen u events place d).1 (told_is_chosen u events v place d sent) in
        subst (λ (ds : List Decree). slice_get ds (place - 1) ≡ Some d) decrees_are (at_index (chosen u (letters_of u events)) place d listed).1

    -- and what it tells to stand stands there
    told_is_standing : (v place : ℕ) (st : Standing) → Sent (letters_of u events) (node.Verifier v) (ballot.Stands place st) → IsStandingAt m.decrees place st
    told_is_standing v place st sent = subst (λ (ds : List Decree). IsStandingAt ds place st) decrees_are (told_stands u events v place st sent)

    -- a ballot that a letter of this world brings was sent to the machine
    sent_there : (k v : ℕ) (l : Letter Body) (b : Ballot) → slice_get w.letters k ≡ Some l → l.from ≡ node.Verifier v → l.body ≡ body.Ballot b → Sent (letters_of u events) (node.Verifier v) b
    sent_there k v l b at from says =
        let among = place_among w.letters k l b at says in
        subst (λ (z : Letters × Node). Sent z.0 z.1 b) (λ i. (verifiers_are.letters i, from i)) (sent_at (ballots w.letters) among.0 _ among.1)

    pub may_hear : (k : ℕ) (l : Letter Body) (from : Node) → slice_get w.letters k ≡ Some l → l.from ≡ from → MayHear m from l.body
    may_hear k l (node.Client c) at e = tt
    may_hear k l (node.Executor id) at e = tt
    may_hear k l (node.Verifier v) at e = record {
      decided = λ place d says. told_is_listed v place d (sent_there k v l (ballot.Decided place d) at e says);
      stands = λ place st says. told_is_standing v place st (sent_there k v l (ballot.Stands place st) at e says);
    }

    node_reached : (k : ℕ) (l : Letter Body) (to : Node) (now : WorldView) → slice_get w.letters k ≡ Some l → NodeReached w l to now → Follows false u m now
    node_reached k l (node.Client c) now at h = client_reached c l.body now h
    node_reached k l (node.Executor id) now at h = executor_given id (executor_input.Letter l) (may_hear k l l.from at refl) (slice_get w.executors id) now refl h
    node_reached k l (node.Verifier id) now at h = verifier_reached l id l.body now h

    delivery : (k : ℕ) (o : Option (Letter Body)) (now : WorldView) → slice_get w.letters k ≡ o → IsDelivered w o now → Follows false u m now
    delivery k None now at h = stays before is_reached is false h
    delivery k (Some l) now at h = node_reached k l l.to now at h

    delivered : (k : ℕ) (now : WorldView) → IsDelivered w (letter_at w.letters k) now → Follows false u m now
    delivered zero now h = stays before is_reached is false h
    delivered (suc k) now h = delivery k (slice_get w.letters k) now refl h

    -- ---- any event

    pub opened_follows : (r : Replica) (now : WorldView) → WorldNext w (Restart r) now → Follows true u m now
    opened_follows (replica.Executor id) now h = executor_opened id (slice_get w.executors id) now refl h
    opened_follows (replica.Verifier id) now h = verifier_opened id (slice_get w.verifiers id) now h

    pub event_follows : (e : Event) (now : WorldView) → WorldNext w e now → Follows false u m now
    event_follows (Feed c bytes) now h = client_given c (client_input.Feed bytes) now h
    event_follows (Again c) now h = client_given c client_input.Again now h
    event_follows (Hangup c) now h = client_given c client_input.Hangup now h
    event_follows (Deliver k) now h = delivered k now h
    event_follows (Cut id moment) now h = executor_given id (executor_input.Cut moment) tt (slice_get w.executors id) now refl h
    event_follows (Step id place) now h = executor_given id (executor_input.Step place) tt (slice_get w.executors id) now refl h
    event_follows (Finish id) now h = executor_given id executor_input.Finish tt (slice_get w.executors id) now refl h
    event_follows (Suspect id) now h = verifier_given id verifier_input.Suspect (slice_get w.verifiers id) now h
    event_follows (Trim id place) now h = verifier_given id (verifier_input.Trim place) (slice_get w.verifiers id) now h
    event_follows (Crash (replica.Executor id)) now h = executor_changes id (crashed_slot executor_kept) (crashed_is id) (slice_get w.executors id) now refl h
    event_follows (Crash (replica.Verifier id)) now h = verifiers_differ before is_reached is false (changed_at w.verifiers id (crashed_slot verifier_kept) (slice_get w.verifiers id)) h
    event_follows (Restart r) now h = less_calm (opened_follows r now h)
    event_follows (Lost (replica.Executor id)) now h = executor_changes id (lost_slot executor_kept) (lost_is id) (slice_get w.executors id) now refl h
    event_follows (Lost (replica.Verifier id)) now h = verifiers_differ before is_reached is false (changed_at w.verifiers id (lost_slot verifier_kept) (slice_get w.verifiers id)) h
    event_follows (FailSave (replica.Executor id)) now h = executor_changes id (told_slot executor_told) (told_is id) (slice_get w.executors id) now refl h
    event_follows (FailSave (replica.Verifier id)) now h = verifiers_differ before is_reached is false (changed_at w.verifiers id (told_slot verifier_told) (slice_get w.verifiers id)) h
