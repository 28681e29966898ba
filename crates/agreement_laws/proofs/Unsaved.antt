-- A step that saves nothing changes nothing that a record has.
use Rattle.std.proofs.Common.{◌≡◌, ℕ, Bool, true, false, [], Option, Some, None, refl, ap, arith, true≢false}
use Rattle.std.specs.Prelude.{◌==◌, ◌||◌, nat_lt}
use Rattle.std.proofs.lemmas.Bool.{cond_both, ltb-false}
use Rattle.token.specs.declared.Token as token
use Rattle.decrees.specs.declared.decree.Decree.{Decree}
use Rattle.decrees.specs.declared.ballot.Ballot.{Ballot}
use Rattle.decrees.specs.declared.ballot.Ballot.TheVariants.{Token, Accept, Accepted, Decided, Ask, Change, Promise, Stands}
use Rattle.decrees.specs.declared.node.Node.{Node}
use Rattle.decrees.specs.declared.node.Node.TheVariants.{Client, Executor, Verifier}
use Rattle.decrees.specs.declared.standing.Standing.{Standing}
use Rattle.decrees.specs.Standing.{may_follow}
use Rattle.decrees.specs.Votes.{is_open, votes_with}
use Rattle.view_change.specs.Promises.{promises_with}
use Rattle.verifier.specs.declared.input.Input.{Input}
use Rattle.verifier.specs.declared.input.Input.TheVariants as input
use Rattle.verifier.specs.Tally.{is_accepted}
use Rattle.verifier.specs.State.{stands, VerifierState, OutcomeView, next_place, stays, says, down}
use Rattle.verifier.specs.Lines.{learn, proposal, proposing, try_to_propose, vote_key, on_token, on_change, asked_if_behind, is_awaited, on_promise, told_of, on_accept, is_fitting, with_tally, on_accepted, on_decided, on_ask, may_trim, on_trim, is_ahead, gone_to, verifier_on_stands, restarted}
use Rattle.verifier.specs.Step.{of_executor, of_verifier, received, step}
use Rattle.agreement_laws.specs.Letters.{Letters}

-- the record of this state is still that of the outcome's, if nothing is saved
abbrev pub KeepsRecord : VerifierState → OutcomeView → Type 0
KeepsRecord s o = o.saves ≡ false → down o.state ≡ down s

-- whatever may be proposed after a change that a record does not have, or that is saved
try_keeps : (u v : ℕ) (s changed : VerifierState) (saves : Bool) (first : Letters) → (saves ≡ false → down changed ≡ down s) → KeepsRecord s (try_to_propose u v changed saves first)
try_keeps u v s changed saves first h = by (proposal u changed)
  where
    by : (o : Option Decree) → KeepsRecord s (proposing u v changed saves first o)
    by None = h
    by (Some d) = h

saved_anyway : (s changed : VerifierState) → true ≡ false → down changed ≡ down s
saved_anyway s changed e = absurd (true≢false e)

on_token_keeps : (u v : ℕ) (s : VerifierState) (executor epoch n : ℕ) (previous t : token.Token) → KeepsRecord s (on_token u v s executor epoch n previous t)
on_token_keeps u v s executor epoch n previous t = cond_both (is_open (stands s) (vote_key executor epoch n previous)) _ (stays s) (KeepsRecord s)
    (λ _. try_keeps u v s (record s { votes = votes_with s.votes (vote_key executor epoch n previous) t }) false [] (λ _. refl))
    (λ _ _. refl)

on_change_keeps : (v : ℕ) (s : VerifierState) (from view : ℕ) → KeepsRecord s (on_change v s from view)
on_change_keeps v s from view = cond_both (nat_lt view s.view) (stays s) _ (KeepsRecord s)
    (λ _ _. refl)
    (λ high same.
    let low = ltb-false view s.view high in
    let up = ltb-false s.view view same in
    let e : view ≡ s.view = omega (arith, low, up) in
    ap (λ w. down (record s { view = w })) e)

on_promise_keeps : (u v : ℕ) (s : VerifierState) (from view count : ℕ) (a : Option (ℕ × Decree)) → KeepsRecord s (on_promise u v s from view count a)
on_promise_keeps u v s from view count a = cond_both (is_awaited s from view) _ (stays s) (KeepsRecord s)
    (λ _. try_keeps u v s (record s { promises = promises_with s.promises (record { from = from; known = count; accepted = a }) }) false (asked_if_behind v s from count) (λ _. refl))
    (λ _ _. refl)

on_accept_keeps : (u v : ℕ) (s : VerifierState) (from view place : ℕ) (d : Decree) → KeepsRecord s (on_accept u v s from view place d)
on_accept_keeps u v s from view place d = cond_both ((place == 0) || nat_lt view s.view) (stays s) _ (KeepsRecord s) (λ _ _. refl)
    (λ _. cond_both (nat_lt (next_place s) place) (says v s (Verifier from) (Ask (next_place s))) _ (KeepsRecord s) (λ _ _. refl)
    (λ _. cond_both (nat_lt place (next_place s)) (record { state = s; saves = false; letters = told_of v s (Verifier from) place }) _ (KeepsRecord s) (λ _ _. refl)
    (λ _. cond_both (may_follow (stands s) d) _ (stays s) (KeepsRecord s) (λ _ e. absurd (true≢false e)) (λ _ _. refl))))

on_accepted_keeps : (u v : ℕ) (s : VerifierState) (from view place : ℕ) (d : Decree) → KeepsRecord s (on_accepted u v s from view place d)
on_accepted_keeps u v s from view place d = cond_both (is_fitting s place d) _ (stays s) (KeepsRecord s)
    (λ _. cond_both (is_accepted u (with_tally s from view d).tally view d) _ (stays (with_tally s from view d)) (KeepsRecord s)
    (λ _. try_keeps u v s (learn s d) true _ (saved_anyway s (learn s d)))
    (λ _ _. refl))
    (λ _ _. refl)

on_decided_keeps : (u v : ℕ) (s : VerifierState) (from place : ℕ) (d : Decree) → KeepsRecord s (on_decided u v s from place d)
on_decided_keeps u v s from place d = cond_both (is_fitting s place d) _ _ (KeepsRecord s)
    (λ _. try_keeps u v s (learn s d) true [] (saved_anyway s (learn s d)))
    (λ _. cond_both (nat_lt (next_place s) place) (says v s (Verifier from) (Ask (next_place s))) (stays s) (KeepsRecord s) (λ _ _. refl) (λ _ _. refl))

on_ask_keeps : (v : ℕ) (s : VerifierState) (to : Node) (place : ℕ) → KeepsRecord s (on_ask v s to place)
on_ask_keeps v s to place = cond_both (place == 0) (stays s) _ (KeepsRecord s) (λ _ _. refl) (λ _ _. refl)

on_trim_keeps : (s : VerifierState) (place : ℕ) → KeepsRecord s (on_trim s place)
on_trim_keeps s place = cond_both (may_trim s place) _ (stays s) (KeepsRecord s) (λ _ e. absurd (true≢false e)) (λ _ _. refl)

on_stands_keeps : (u v : ℕ) (s : VerifierState) (place : ℕ) (standing : Standing) → KeepsRecord s (verifier_on_stands u v s place standing)
on_stands_keeps u v s place standing = cond_both (is_ahead s place standing) _ (stays s) (KeepsRecord s)
    (λ _. try_keeps u v s (gone_to s (record { place = place; standing = standing })) true [] (saved_anyway s (gone_to s (record { place = place; standing = standing }))))
    (λ _ _. refl)

of_executor_keeps : (u v : ℕ) (s : VerifierState) (e : ℕ) (b : Ballot) → KeepsRecord s (of_executor u v s e b)
of_executor_keeps u v s e (Token epoch n previous t) = on_token_keeps u v s e epoch n previous t
of_executor_keeps u v s e (Ask place) = on_ask_keeps v s (Executor e) place
of_executor_keeps u v s e (Accept view place d) = λ _. refl
of_executor_keeps u v s e (Accepted view place d) = λ _. refl
of_executor_keeps u v s e (Decided place d) = λ _. refl
of_executor_keeps u v s e (Change view) = λ _. refl
of_executor_keeps u v s e (Promise view count a) = λ _. refl
of_executor_keeps u v s e (Stands place standing) = λ _. refl

of_verifier_keeps : (u v : ℕ) (s : VerifierState) (from : ℕ) (b : Ballot) → KeepsRecord s (of_verifier u v s from b)
of_verifier_keeps u v s from (Token epoch n previous t) = λ _. refl
of_verifier_keeps u v s from (Accept view place d) = on_accept_keeps u v s from view place d
of_verifier_keeps u v s from (Accepted view place d) = on_accepted_keeps u v s from view place d
of_verifier_keeps u v s from (Decided place d) = on_decided_keeps u v s from place d
of_verifier_keeps u v s from (Ask place) = on_ask_keeps v s (Verifier from) place
of_verifier_keeps u v s from (Change view) = on_change_keeps v s from view
of_verifier_keeps u v s from (Promise view count a) = on_promise_keeps u v s from view count a
of_verifier_keeps u v s from (Stands place standing) = on_stands_keeps u v s place standing

received_keeps : (u v : ℕ) (s : VerifierState) (from : Node) (b : Ballot) → KeepsRecord s (received u v s from b)
received_keeps u v s (Client c) b = λ _. refl
received_keeps u v s (Executor e) b = of_executor_keeps u v s e b
received_keeps u v s (Verifier from) b = of_verifier_keeps u v s from b

pub step_keeps_record : (u v : ℕ) (s : VerifierState) (x : Input) → KeepsRecord s (step u v s x)
step_keeps_record u v s (input.Letter l) = received_keeps u v s l.from l.body
step_keeps_record u v s input.Suspect = λ e. absurd (true≢false e)
step_keeps_record u v s (input.Trim place) = on_trim_keeps s place

pub restarted_keeps_record : (u v : ℕ) (saved : VerifierState) → KeepsRecord saved (restarted u v saved)
restarted_keeps_record u v saved = λ _. refl
