-- Steps of three verifiers, computed.
use Rattle.std.proofs.Common.{◌≡◌, ℕ, false, [], ◌∷◌, ◌++◌, Some, None, refl, replicate}
use Rattle.token.specs.declared.Token.{Token}
use Rattle.decrees.specs.declared.decree.Decree.{Decree}
use Rattle.decrees.specs.declared.decree.Decree.TheVariants.{Commit}
use Rattle.decrees.specs.declared.ballot.Ballot.{Ballot}
use Rattle.decrees.specs.declared.ballot.Ballot.TheVariants as ballot
use Rattle.decrees.specs.declared.node.Node.{Node}
use Rattle.decrees.specs.declared.node.Node.TheVariants.{Executor, Verifier}
use Rattle.verifier.specs.declared.input.Input.TheVariants.{Suspect}
use Rattle.verifier.specs.State.{VerifierState, OutcomeView, new_state, next_led, letter, to_verifiers, to_others, to_executors}
use Rattle.verifier.specs.Lines.{restarted}
use Rattle.verifier.specs.Step.{received, step}

abbrev zeros : Token
zeros = record { 0 = replicate 32 0 }

abbrev sevens : Token
sevens = record { 0 = replicate 32 7 }

abbrev commit : Decree
commit = Commit 1 sevens

-- an executor's token for the first number
abbrev token : Ballot
token = ballot.Token 1 1 zeros sevens

abbrev after : ℕ → VerifierState → Node → Ballot → VerifierState
after id s from body = (received 1 id s from body).state

-- the first suspicions of verifier 2 of seven
jumps : next_led 3 2 9 ≡ 16
jumps = refl

jumps_too : next_led 3 2 10 ≡ 16
jumps_too = refl

-- two tokens make verifier 0 propose
abbrev asked : VerifierState
asked = after 0 (new_state 1 0) (Executor 0) token

proposed : (received 1 0 asked (Executor 2) token).letters ≡ to_verifiers 1 0 (ballot.Accept 0 1 commit)
proposed = refl

one_is_not_enough : (received 1 0 (new_state 1 0) (Executor 0) token).letters ≡ []
one_is_not_enough = refl

-- a second vote of executor 0 changes nothing
one_vote_each : after 0 asked (Executor 0) (ballot.Token 1 1 zeros zeros) ≡ asked
one_vote_each = refl

-- verifier 1 has accepted, and is suspicious
abbrev accepted_at_one : VerifierState
accepted_at_one = after 1 (new_state 1 1) (Verifier 0) (ballot.Accept 0 1 commit)

abbrev leader : OutcomeView
leader = step 1 1 accepted_at_one Suspect

leads_view_one : leader.letters ≡ to_verifiers 1 1 (ballot.Change 1)
leads_view_one = refl

-- it promises to itself what it has accepted, and verifier 2 that it has accepted nothing
own_promise : (received 1 1 leader.state (Verifier 1) (ballot.Change 1)).letters ≡ letter 1 (Verifier 1) (ballot.Promise 1 0 (Some (0, commit))) ∷ []
own_promise = refl

other_promise : (received 1 2 (new_state 1 2) (Verifier 1) (ballot.Change 1)).letters ≡ letter 2 (Verifier 1) (ballot.Promise 1 0 None) ∷ []
other_promise = refl

-- with both it proposes the same again
abbrev with_one : VerifierState
with_one = after 1 leader.state (Verifier 2) (ballot.Promise 1 0 None)

proposes_again : (received 1 1 with_one (Verifier 1) (ballot.Promise 1 0 (Some (0, commit)))).letters ≡ to_verifiers 1 1 (ballot.Accept 1 1 commit)
proposes_again = refl

abbrev leading : VerifierState
leading = after 1 with_one (Verifier 1) (ballot.Promise 1 0 (Some (0, commit)))

-- it accepts, hears both acceptances and knows
abbrev heard_one : VerifierState
heard_one = after 1 (after 1 leading (Verifier 1) (ballot.Accept 1 1 commit)) (Verifier 1) (ballot.Accepted 1 1 commit)

abbrev decided : OutcomeView
decided = received 1 1 heard_one (Verifier 2) (ballot.Accepted 1 1 commit)

knows : decided.state.log ≡ commit ∷ []
knows = refl

in_view_one : decided.state.view ≡ 1
in_view_one = refl

tells : decided.letters ≡ to_others 1 1 (ballot.Decided 1 commit) ++ to_executors 1 1 (ballot.Decided 1 commit)
tells = refl

-- and so does verifier 2
abbrev other : VerifierState
other = after 2 (after 2 (new_state 1 2) (Verifier 1) (ballot.Change 1)) (Verifier 1) (ballot.Accept 1 1 commit)

other_knows : (after 2 other (Verifier 1) (ballot.Decided 1 commit)).log ≡ commit ∷ []
other_knows = refl

-- a Commit of another number is not accepted, nor learned
wrong_number : received 1 2 other (Verifier 1) (ballot.Decided 1 (Commit 2 sevens)) ≡ record { state = other; saves = false; letters = [] }
wrong_number = refl

-- after a restart there is no lead
leads_no_more : (restarted 1 1 leading).state.leads ≡ false
leads_no_more = refl

asks : (restarted 1 1 decided.state).letters ≡ letter 1 (Verifier 0) (ballot.Ask 2) ∷ letter 1 (Verifier 2) (ballot.Ask 2) ∷ []
asks = refl
