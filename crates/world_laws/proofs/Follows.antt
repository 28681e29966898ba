-- How a world and its machine change together.
use Rattle.std.proofs.Common.{◌≡◌, ◌≢◌, ℕ, Bool, true, List, [], ◌∷◌, ◌++◌, map, Some, refl, sym, ap, ◌∙◌, subst, ⊎_elim, append_assoc, slice_get, slice_set}
use Rattle.std.specs.Prelude.{◌||◌, IsTrue}
use Rattle.std.specs.List.{AllByRecursion}
use Rattle.std.proofs.Math.ListN.{length-set}
use Rattle.std.proofs.lemmas.List.{append-nil}
use Rattle.decrees.specs.declared.ballot.Ballot.{Ballot}
use Rattle.decrees.specs.declared.node.Letter.{Letter}
use Rattle.decrees.specs.declared.node.Node.{Node}
use Rattle.decrees.specs.declared.node.Node.TheVariants.{Client, Executor, Verifier}
use Rattle.exec_lines.specs.declared.body.Body.{Body}
use Rattle.exec_node.specs.Executor.{ExecutorView}
use Rattle.verifier.specs.Verifier.{VerifierView}
use Rattle.agreement_laws.specs.Machine as machine
use Rattle.agreement_laws.specs.Machine.{Machine, sent_by, run, Send}
use Rattle.agreement_laws.specs.Laws.{machine_trims_none}
use Rattle.slots.specs.Slot.{Slot}
use Rattle.worlds.specs.Clients.{ClientSlot}
use Rattle.worlds.specs.World.{WorldView, with_verifier}
use Rattle.slots.specs.Sending.{as_sent}
use Rattle.world_laws.specs.Ballots.{ballots}
use Rattle.world_laws.specs.Machines.{IsSameVerifier, IsOfMachine}
use Rattle.worlds.proofs.SlotLemmas.{get_set, set_get, set_other}
use Rattle.world_laws.proofs.OwnLetters.{AllFrom}
use Rattle.world_laws.proofs.BallotLemmas.{ballots-append, ballots-sent, ballots-from}

-- some events of the machine lead to one that is of this world, and trim only where they may
abbrev pub Follows : Bool → ℕ → Machine → WorldView → Type 0
Follows may_trim u m now = (more : List machine.Event) × IsTrue (machine_trims_none more || may_trim) × IsOfMachine u now (run u more m)

-- the node is no verifier
abbrev pub IsOutside : Node → Type 0
IsOutside (Client c) = Unit {0}
IsOutside (Executor id) = Unit {0}
IsOutside (Verifier id) = ⊥

sent_one : (m : Machine) (l : Letter Ballot) (from : Node) → IsOutside from → sent_by m l from ≡ record { verifiers = m.verifiers; letters = m.letters ++ l ∷ [] }
sent_one m l (Client c) h = refl
sent_one m l (Executor id) h = refl
sent_one m l (Verifier id) h = absurd h

-- a node that is no verifier sends these
sends : (u : ℕ) (n : Node) → IsOutside n → (bs : List (Letter Ballot)) (m : Machine) → AllByRecursion (λ (l : Letter Ballot). l.from ≡ n) bs → run u (map Send bs) m ≡ record { verifiers = m.verifiers; letters = m.letters ++ bs }
sends u n out [] m h = λ i. record { verifiers = m.verifiers; letters = sym (append-nil m.letters) i }
sends u n out (b ∷ bs) m h =
    ap (run u (map Send bs)) (ap (sent_by m b) h.0 ∙ sent_one m b n out)
    ∙ (sends u n out bs (record { verifiers = m.verifiers; letters = m.letters ++ b ∷ [] }) h.1
    ∙ (λ i. record { verifiers = m.verifiers; letters = append_assoc m.letters (b ∷ []) bs i }))

sends_trim_none : (bs : List (Letter Ballot)) → machine_trims_none (map Send bs) ≡ true
sends_trim_none [] = refl
sends_trim_none (b ∷ bs) = sends_trim_none bs

module _ {may_trim : Bool} {u : ℕ} {w : WorldView} {m : Machine} (is : IsOfMachine u w m) where
  pub stays : {now : WorldView} → now ≡ w → Follows may_trim u m now
  stays e = ([], refl, subst (λ (x : WorldView). IsOfMachine u x m) (sym e) is)

  -- clients and executors are others now, and one of them sent these letters
  pub outside_sent : (clients : List ClientSlot) (executors : List (Slot ExecutorView)) (n : Node) (new : List (Letter Body)) → IsOutside n → AllFrom n new
      → Follows may_trim u m (record w { clients = clients; executors = executors; letters = w.letters ++ new })
  outside_sent clients executors n new out own = (
    map Send (ballots new),
    ap (λ (none : Bool). none || may_trim) (sends_trim_none (ballots new)),
    subst (IsOfMachine u (record w { clients = clients; executors = executors; letters = w.letters ++ new })) (sym (sends u n out (ballots new) m (ballots-from n new own)))
        (record {
          same_u = is.same_u;
          letters = ballots-append w.letters new ∙ ap (λ (z : List (Letter Ballot)). z ++ ballots new) is.letters;
          count = is.count;
          verifiers = is.verifiers;
        }),
  )

module _ {u : ℕ} {w : WorldView} {m : Machine} (is : IsOfMachine u w m) where
  -- one verifier is another, in the world and in the machine, with these letters
  pub both_put : (id : ℕ) (old mine : machine.VerifierSlot) (slot : Slot VerifierView) (letters : List (Letter Body)) (sent : List (Letter Ballot)) → slice_get m.verifiers id ≡ Some old → IsSameVerifier u id mine slot → ballots letters ≡ sent
      → IsOfMachine u (record w { verifiers = slice_set w.verifiers id slot; letters = letters }) (record { verifiers = slice_set m.verifiers id mine; letters = sent })
  both_put id old mine slot letters sent at same e = record {
    same_u = is.same_u;
    letters = e;
    count = length-set w.verifiers id slot ∙ is.count;
    verifiers = λ x s got. ⊎_elim
        (λ (p : (x ≡ id) × (s ≡ slot)). (mine, ap (slice_get (slice_set m.verifiers id mine)) p.0 ∙ set_get m.verifiers id mine old at, subst (λ (y : ℕ × Slot VerifierView). IsSameVerifier u y.0 mine y.1) (λ j. (sym p.0 j, sym p.1 j)) same))
        (λ (p : (x ≢ id) × (slice_get w.verifiers x ≡ Some s)). let there = is.verifiers x s p.1 in (there.0, set_other m.verifiers id mine x p.0 ∙ there.1, there.2))
        (get_set w.verifiers id slot x s got);
  }

  -- one is another in the world, and still the one of the machine
  pub world_put : (id : ℕ) (mine : machine.VerifierSlot) (slot : Slot VerifierView) (letters : List (Letter Body)) → slice_get m.verifiers id ≡ Some mine → IsSameVerifier u id mine slot → ballots letters ≡ m.letters
      → IsOfMachine u (record w { verifiers = slice_set w.verifiers id slot; letters = letters }) m
  world_put id mine slot letters at same e = record {
    same_u = is.same_u;
    letters = e;
    count = length-set w.verifiers id slot ∙ is.count;
    verifiers = λ x s got. ⊎_elim
        (λ (p : (x ≡ id) × (s ≡ slot)). (mine, ap (slice_get m.verifiers) p.0 ∙ at, subst (λ (y : ℕ × Slot VerifierView). IsSameVerifier u y.0 mine y.1) (λ j. (sym p.0 j, sym p.1 j)) same))
        (λ (p : (x ≢ id) × (slice_get w.verifiers x ≡ Some s)). is.verifiers x s p.1)
        (get_set w.verifiers id slot x s got);
  }

  -- ballots of a verifier, after all that were sent before
  sent_more : (new : List (Letter Ballot)) → ballots (w.letters ++ map as_sent new) ≡ m.letters ++ new
  sent_more new = ballots-append w.letters (map as_sent new) ∙ (λ i. is.letters i ++ ballots-sent new i)

  sent_none : (new : List (Letter Ballot)) → new ≡ [] → ballots (w.letters ++ map as_sent new) ≡ m.letters
  sent_none new e = sent_more new ∙ (ap (λ (z : List (Letter Ballot)). m.letters ++ z) e ∙ append-nil m.letters)

  -- the verifier sends these, in both
  pub verifier_sent : (id : ℕ) (old mine : machine.VerifierSlot) (slot : Slot VerifierView) (new sent : List (Letter Ballot)) → slice_get m.verifiers id ≡ Some old → IsSameVerifier u id mine slot → new ≡ sent
      → IsOfMachine u (with_verifier w id slot new) (record { verifiers = slice_set m.verifiers id mine; letters = m.letters ++ sent })
  verifier_sent id old mine slot new sent at same e = both_put id old mine slot (w.letters ++ map as_sent new) (m.letters ++ sent) at same (sent_more new ∙ ap (λ (z : List (Letter Ballot)). m.letters ++ z) e)

  -- it sends nothing
  pub verifier_silent : (id : ℕ) (old mine : machine.VerifierSlot) (slot : Slot VerifierView) (new : List (Letter Ballot)) → slice_get m.verifiers id ≡ Some old → IsSameVerifier u id mine slot → new ≡ []
      → IsOfMachine u (with_verifier w id slot new) (record { verifiers = slice_set m.verifiers id mine; letters = m.letters })
  verifier_silent id old mine slot new at same e = both_put id old mine slot (w.letters ++ map as_sent new) m.letters at same (sent_none new e)

  -- it sends nothing, and nothing happens in the machine
  pub verifier_same : (id : ℕ) (mine : machine.VerifierSlot) (slot : Slot VerifierView) (new : List (Letter Ballot)) → slice_get m.verifiers id ≡ Some mine → IsSameVerifier u id mine slot → new ≡ []
      → IsOfMachine u (with_verifier w id slot new) m
  verifier_same id mine slot new at same e = world_put id mine slot (w.letters ++ map as_sent new) at same (sent_none new e)
