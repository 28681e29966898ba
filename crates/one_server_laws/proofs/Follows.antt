-- How a world and its machine of executors change together.
use Rattle.std.proofs.Common.{◌≡◌, ◌≢◌, ◌⊎◌, ℕ, Bool, false, List, ◌++◌, length, Some, inl, inr, refl, sym, ap, ◌∙◌, subst, ⊎_elim, slice_get, slice_set}
use Rattle.std.specs.Prelude.{Contains}
use Rattle.std.proofs.Math.ListN.{length-set}
use Rattle.decrees.specs.Count.{member_count}
use Rattle.states.specs.State.{StateView}
use Rattle.exec_lines.specs.declared.body.Body.{Body}
use Rattle.decrees.specs.declared.node.Letter.{Letter}
use Rattle.exec_node.specs.Executor.{ExecutorView}
use Rattle.verifier.specs.Verifier.{VerifierView}
use Rattle.agreement_laws.specs.Letters.{Letters}
use Rattle.run_laws.specs.Run.{Executed}
use Rattle.custody_laws.specs.Durable.{Durable, Keeps}
use Rattle.custody_laws.specs.Machine.{ExecutorMachine, HaveNoToken, Hear, Reached}
use Rattle.custody_laws.proofs.Custody.{reached_ok}
use Rattle.slots.specs.Slot.{Slot}
use Rattle.worlds.specs.Clients.{ClientSlot}
use Rattle.worlds.specs.World.{WorldView, with_executor}
use Rattle.world_laws.specs.Ballots.{ballots}
use Rattle.world_laws.proofs.BallotLemmas.{ballots-append}
use Rattle.worlds.proofs.SlotLemmas.{get_set, set_get, set_other}
use Rattle.one_server_laws.specs.Saved.{AreLinked, IsSavedIn, IsKeptIn, IsExecutedIn}
use Rattle.one_server_laws.specs.Machines.{IsSameExecutor, AreSameExecutors, IsOfExecutorMachine}
use Rattle.one_server_laws.proofs.Steps.{Steps, none, more, steps_reached}
use Rattle.one_server_laws.proofs.Moves.{Moves}
use Rattle.one_server_laws.proofs.Records.{chain_is_linked}

-- Some steps lead to a machine that is of this world, before what its letters make chosen. What is new of history is of an executor of the
-- world; if replicas were only opened, nothing is.
pub record Follows (calm : Bool) (u : ℕ) (m : ExecutorMachine) (w : WorldView) : Type 0 where
  pub now : ExecutorMachine
  pub steps : Steps u m now
  pub same_u : w.u ≡ u
  pub letters : ballots w.letters ≡ now.letters
  pub decrees : now.decrees ≡ m.decrees
  pub count : length w.executors ≡ member_count u
  pub executors : AreSameExecutors u w.executors now.executors
  pub met_from : (s : StateView) → Contains now.met s → Contains m.met s ⊎ ((calm ≡ false) × IsKeptIn w s)
  pub rounds_from : (r : Executed) → Contains now.rounds r → Contains m.rounds r ⊎ ((calm ≡ false) × IsExecutedIn w r)

module _ {u : ℕ} {w : WorldView} {m : ExecutorMachine} (before : List ExecutorMachine) (is_reached : Reached u before m) (is : IsOfExecutorMachine u w m) where
  -- its machine reads nothing of the verifiers
  pub verifiers_differ : (calm : Bool) (verifiers : List (Slot VerifierView)) {now : WorldView} → now ≡ record w { verifiers = verifiers } → Follows calm u m now
  verifiers_differ calm verifiers e = subst (Follows calm u m) (sym e) (record {
    now = m;
    steps = none;
    same_u = is.same_u;
    letters = is.letters;
    decrees = refl;
    count = is.count;
    executors = is.executors;
    met_from = λ s c. inl c;
    rounds_from = λ r c. inl c;
  })

  pub stays : (calm : Bool) {now : WorldView} → now ≡ w → Follows calm u m now
  stays calm e = verifiers_differ calm w.verifiers e

  -- clients and verifiers are others now, and these letters were sent
  pub outside : (calm : Bool) (clients : List ClientSlot) (verifiers : List (Slot VerifierView)) (new : List (Letter Body)) → HaveNoToken (ballots new)
      → Follows calm u m (record w { clients = clients; verifiers = verifiers; letters = w.letters ++ new })
  outside calm clients verifiers new others = record {
    now = record m { letters = m.letters ++ ballots new };
    steps = more none (Hear (ballots new) others);
    same_u = is.same_u;
    letters = ballots-append w.letters new ∙ ap (λ (z : Letters). z ++ ballots new) is.letters;
    decrees = refl;
    count = is.count;
    executors = is.executors;
    met_from = λ s c. inl c;
    rounds_from = λ r c. inl c;
  }

  -- an executor's slot is another, with what is saved as it was
  pub put_quiet : (calm : Bool) (id : ℕ) (slot : Slot ExecutorView) (x : Durable) (letters : List (Letter Body)) → slice_get m.executors id ≡ Some x → IsSameExecutor u id x slot → ballots letters ≡ m.letters
      → Follows calm u m (record w { executors = slice_set w.executors id slot; letters = letters })
  put_quiet calm id slot x letters at same e = record {
    now = m;
    steps = none;
    same_u = is.same_u;
    letters = e;
    decrees = refl;
    count = length-set w.executors id slot ∙ is.count;
    executors = λ i s got. ⊎_elim
        (λ (p : (i ≡ id) × (s ≡ slot)). (x, ap (slice_get m.executors) p.0 ∙ at, subst (λ (y : ℕ × Slot ExecutorView). IsSameExecutor u y.0 x y.1) (λ j. (sym p.0 j, sym p.1 j)) same))
        (λ (p : (i ≢ id) × (slice_get w.executors i ≡ Some s)). is.executors i s p.1)
        (get_set w.executors id slot i s got);
    met_from = λ s c. inl c;
    rounds_from = λ r c. inl c;
  }

  -- it saves this, and these letters leave
  pub put : (calm : Bool) (id : ℕ) (old slot : Slot ExecutorView) (x y : Durable) (new : List (Letter Body)) (sent : Letters) → slice_get w.executors id ≡ Some old → slice_get m.executors id ≡ Some x
      → Moves calm u id m y sent → ballots new ≡ sent → IsSameExecutor u id y slot → (AreLinked y.have y.chain → IsSavedIn u id slot y) → Follows calm u m (with_executor w id slot new)
  put calm id old slot x y new sent there at moves said same saved =
      let later = steps_reached u before m moves.now is_reached moves.steps in
      let mine : slice_get moves.now.executors id ≡ Some y = ap (λ (xs : List Durable). slice_get xs id) moves.executors ∙ set_get m.executors id y x at in
      let ok = (reached_ok u later.0 moves.now later.1).execs id y mine in
      let linked : AreLinked y.have y.chain = chain_is_linked (Contains moves.now.met) (Contains moves.now.rounds) y.standing.epoch y.have y.chain ok.chain in
      let held = subst (λ (v : ℕ). IsSavedIn v id slot y) (sym is.same_u) (saved linked) in
      let placed : slice_get (slice_set w.executors id slot) id ≡ Some slot = set_get w.executors id slot old there in
      record {
        now = moves.now;
        steps = moves.steps;
        same_u = is.same_u;
        letters = ballots-append w.letters new ∙ ((λ i. is.letters i ++ said i) ∙ sym moves.letters);
        decrees = moves.decrees;
        count = length-set w.executors id slot ∙ is.count;
        executors = λ i s got. ⊎_elim
            (λ (p : (i ≡ id) × (s ≡ slot)). (y, ap (slice_get moves.now.executors) p.0 ∙ mine, subst (λ (z : ℕ × Slot ExecutorView). IsSameExecutor u z.0 y z.1) (λ j. (sym p.0 j, sym p.1 j)) same))
            (λ (p : (i ≢ id) × (slice_get w.executors i ≡ Some s)).
            let others = is.executors i s p.1 in
            (others.0, ap (λ (xs : List Durable). slice_get xs i) moves.executors ∙ (set_other m.executors id y i p.0 ∙ others.1), others.2))
            (get_set w.executors id slot i s got);
        met_from = λ s c. ⊎_elim inl
            (λ (k : (calm ≡ false) × Keeps y s). inr (k.0, (id, y, record { slot = slot; there = placed; saved = held }, k.1)))
            (moves.met_from s c);
        rounds_from = λ r c. ⊎_elim inl
            (λ k. inr (k.0, (id, y, record { slot = slot; there = placed; saved = held }, k.1)))
            (moves.rounds_from r c);
      }
