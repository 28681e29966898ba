-- The whole step of a verifier keeps what holds, whatever the input that came.
use Rattle.std.proofs.Common.{ℕ}
use Rattle.decrees.specs.declared.ballot.Ballot.{Ballot}
use Rattle.decrees.specs.declared.ballot.Ballot.TheVariants.{Token, Accept, Accepted, Decided, Ask, Change, Promise, Stands}
use Rattle.decrees.specs.declared.node.Node.{Node}
use Rattle.decrees.specs.declared.node.Node.TheVariants.{Client, Executor, Verifier}
use Rattle.verifier.specs.declared.input.Input.{Input}
use Rattle.verifier.specs.declared.input.Input.TheVariants as input
use Rattle.verifier.specs.State.{VerifierState}
use Rattle.verifier.specs.Step.{of_executor, of_verifier, received, step}
use Rattle.agreement_laws.specs.Letters.{Letters, Sent}
use Rattle.agreement_laws.proofs.Letters.{LettersOk}
use Rattle.agreement_laws.proofs.Stand.{Stand}
use Rattle.agreement_laws.proofs.Steps.{StepOk, stays_ok, on_token_ok, suspected_ok, on_change_ok, on_promise_ok, on_accept_ok, on_accepted_ok, on_decided_ok, on_ask_ok, on_trim_ok, on_stands_ok}

of_executor_ok : {u : ℕ} {ls : Letters} {v : ℕ} {s : VerifierState} (e : ℕ) (b : Ballot) → LettersOk u ls → Stand u ls v s → Sent ls (Executor e) b → StepOk u ls v (of_executor u v s e b)
of_executor_ok e (Token epoch n previous t) ok st sent = on_token_ok e epoch n previous t ok st sent
of_executor_ok e (Ask place) ok st sent = on_ask_ok (Executor e) place ok st
of_executor_ok e (Accept view place d) ok st sent = stays_ok ok st
of_executor_ok e (Accepted view place d) ok st sent = stays_ok ok st
of_executor_ok e (Decided place d) ok st sent = stays_ok ok st
of_executor_ok e (Change view) ok st sent = stays_ok ok st
of_executor_ok e (Promise view count a) ok st sent = stays_ok ok st
of_executor_ok e (Stands place standing) ok st sent = stays_ok ok st

of_verifier_ok : {u : ℕ} {ls : Letters} {v : ℕ} {s : VerifierState} (from : ℕ) (b : Ballot) → LettersOk u ls → Stand u ls v s → Sent ls (Verifier from) b → StepOk u ls v (of_verifier u v s from b)
of_verifier_ok from (Token epoch n previous t) ok st sent = stays_ok ok st
of_verifier_ok from (Accept view place d) ok st sent = on_accept_ok from view place d ok st sent
of_verifier_ok from (Accepted view place d) ok st sent = on_accepted_ok from view place d ok st sent
of_verifier_ok from (Decided place d) ok st sent = on_decided_ok from place d ok st sent
of_verifier_ok from (Ask place) ok st sent = on_ask_ok (Verifier from) place ok st
of_verifier_ok from (Change view) ok st sent = on_change_ok from view ok st
of_verifier_ok from (Promise view count a) ok st sent = on_promise_ok from view count a ok st sent
of_verifier_ok from (Stands place standing) ok st sent = on_stands_ok from place standing ok st sent

received_ok : {u : ℕ} {ls : Letters} {v : ℕ} {s : VerifierState} (from : Node) (b : Ballot) → LettersOk u ls → Stand u ls v s → Sent ls from b → StepOk u ls v (received u v s from b)
received_ok (Client c) b ok st sent = stays_ok ok st
received_ok (Executor e) b ok st sent = of_executor_ok e b ok st sent
received_ok (Verifier from) b ok st sent = of_verifier_ok from b ok st sent

-- an input that can come: a letter that was sent, or a suspicion
abbrev pub MayCome : Letters → Input → Type 0
MayCome ls (input.Letter l) = Sent ls l.from l.body
MayCome ls input.Suspect = Unit {0}
MayCome ls (input.Trim place) = Unit {0}

pub step_ok : {u : ℕ} {ls : Letters} {v : ℕ} {s : VerifierState} (x : Input) → LettersOk u ls → Stand u ls v s → MayCome ls x → StepOk u ls v (step u v s x)
step_ok (input.Letter l) ok st sent = received_ok l.from l.body ok st sent
step_ok input.Suspect ok st sent = suspected_ok ok st
step_ok (input.Trim place) ok st sent = on_trim_ok place ok st
