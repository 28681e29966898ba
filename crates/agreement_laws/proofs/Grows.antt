-- No event takes a letter back.
use Rattle.std.proofs.Common.{◌≡◌, ℕ, List, [], ◌∷◌, ◌++◌, Option, Some, None, slice_get, refl, sym, ◌∙◌, ap, append_assoc}
use Rattle.std.proofs.lemmas.List.{append-nil}
use Rattle.decrees.specs.declared.ballot.Ballot.{Ballot}
use Rattle.decrees.specs.declared.node.Letter.{Letter}
use Rattle.decrees.specs.declared.node.Node.{Node}
use Rattle.decrees.specs.declared.node.Node.TheVariants.{Client, Executor, Verifier}
use Rattle.verifier.specs.declared.input.Input.{Input}
use Rattle.verifier.specs.declared.input.Input.TheVariants as input
use Rattle.verifier.specs.State.{VerifierState, OutcomeView}
use Rattle.verifier.specs.Lines.{restarted}
use Rattle.verifier.specs.Step.{step}
use Rattle.agreement_laws.specs.Letters.{Letters}
use Rattle.agreement_laws.specs.Machine.{VerifierSlot, New, Up, Stopped, Machine, Luck, Done, StopsBefore, StopsAfter, Event, Deliver, Suspect, Trim, Crash, Restart, Send, settled, given, reached_node, delivered, crashed, opened_new, opened, sent_by, happens, run}

-- these letters begin with those
abbrev pub Begins : Letters → Letters → Type 0
Begins ls all = (new : Letters) × (all ≡ ls ++ new)

same : (ls : Letters) → Begins ls ls
same ls = ([], sym (append-nil ls))

settled_grows : (m : Machine) (v : ℕ) (saved : VerifierState) (o : OutcomeView) (luck : Luck) → Begins m.letters (settled m v saved o luck).letters
settled_grows m v saved o Done = (o.letters, refl)
settled_grows m v saved o StopsBefore = same m.letters
settled_grows m v saved o StopsAfter = same m.letters

given_grows : (u : ℕ) (m : Machine) (v : ℕ) (x : Input) (luck : Luck) (o : Option VerifierSlot) → Begins m.letters (given u m v x luck o).letters
given_grows u m v x luck None = same m.letters
given_grows u m v x luck (Some New) = same m.letters
given_grows u m v x luck (Some (Stopped saved)) = same m.letters
given_grows u m v x luck (Some (Up s saved)) = settled_grows m v saved (step u v s x) luck

reached_node_grows : (u : ℕ) (m : Machine) (l : Letter Ballot) (luck : Luck) (to : Node) → Begins m.letters (reached_node u m l luck to).letters
reached_node_grows u m l luck (Client c) = same m.letters
reached_node_grows u m l luck (Executor e) = same m.letters
reached_node_grows u m l luck (Verifier v) = given_grows u m v (input.Letter l) luck (slice_get m.verifiers v)

delivered_grows : (u : ℕ) (m : Machine) (luck : Luck) (o : Option (Letter Ballot)) → Begins m.letters (delivered u m luck o).letters
delivered_grows u m luck None = same m.letters
delivered_grows u m luck (Some l) = reached_node_grows u m l luck l.to

crashed_grows : (m : Machine) (v : ℕ) (o : Option VerifierSlot) → Begins m.letters (crashed m v o).letters
crashed_grows m v None = same m.letters
crashed_grows m v (Some New) = same m.letters
crashed_grows m v (Some (Stopped saved)) = same m.letters
crashed_grows m v (Some (Up s saved)) = same m.letters

opened_new_grows : (u : ℕ) (m : Machine) (v : ℕ) (luck : Luck) → Begins m.letters (opened_new u m v luck).letters
opened_new_grows u m v Done = same m.letters
opened_new_grows u m v StopsBefore = same m.letters
opened_new_grows u m v StopsAfter = same m.letters

opened_grows : (u : ℕ) (m : Machine) (v : ℕ) (luck : Luck) (o : Option VerifierSlot) → Begins m.letters (opened u m v luck o).letters
opened_grows u m v luck None = same m.letters
opened_grows u m v luck (Some New) = opened_new_grows u m v luck
opened_grows u m v luck (Some (Stopped saved)) = settled_grows m v saved (restarted u v saved) luck
opened_grows u m v luck (Some (Up s saved)) = same m.letters

sent_by_grows : (m : Machine) (l : Letter Ballot) (from : Node) → Begins m.letters (sent_by m l from).letters
sent_by_grows m l (Client c) = (l ∷ [], refl)
sent_by_grows m l (Executor e) = (l ∷ [], refl)
sent_by_grows m l (Verifier v) = same m.letters

happens_grows : (u : ℕ) (m : Machine) (e : Event) → Begins m.letters (happens u m e).letters
happens_grows u m (Deliver k luck) = delivered_grows u m luck (slice_get m.letters k)
happens_grows u m (Suspect v luck) = given_grows u m v input.Suspect luck (slice_get m.verifiers v)
happens_grows u m (Trim v place luck) = given_grows u m v (input.Trim place) luck (slice_get m.verifiers v)
happens_grows u m (Crash v) = crashed_grows m v (slice_get m.verifiers v)
happens_grows u m (Restart v luck) = opened_grows u m v luck (slice_get m.verifiers v)
happens_grows u m (Send l) = sent_by_grows m l l.from

pub run_grows : (u : ℕ) (es : List Event) (m : Machine) → Begins m.letters (run u es m).letters
run_grows u [] m = same m.letters
run_grows u (e ∷ es) m =
    let first = happens_grows u m e in
    let rest = run_grows u es (happens u m e) in
    (first.0 ++ rest.0, rest.1 ∙ (ap (λ (ls : Letters). ls ++ rest.0) first.1 ∙ append_assoc m.letters first.0 rest.0))

pub run-append : (u : ℕ) (es more : List Event) (m : Machine) → run u (es ++ more) m ≡ run u more (run u es m)
run-append u [] more m = refl
run-append u (e ∷ es) more m = run-append u es more (happens u m e)
