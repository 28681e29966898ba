-- If no verifier is told to forget, none does: each has its whole log, and none tells what stands at a start.
use Rattle.std.proofs.Common.{◌≡◌, ℕ, ◌+◌, Bool, true, false, ◌||◌, List, [], ◌∷◌, ◌++◌, Option, Some, None, refl, ⊎_elim, arith, drop, take, nat_le}
use Rattle.std.specs.Prelude.{◌==◌, nat_lt}
use Rattle.std.proofs.lemmas.Bool.{cond_both, leb-true, eqb-false}
use Rattle.token.specs.declared.Token as token
use Rattle.decrees.specs.declared.decree.Decree.{Decree}
use Rattle.decrees.specs.declared.standing.Standing.{Standing}
use Rattle.decrees.specs.declared.ballot.Ballot.{Ballot}
use Rattle.decrees.specs.declared.ballot.Ballot.TheVariants.{Token, Accept, Accepted, Decided, Ask, Change, Promise, Stands}
use Rattle.decrees.specs.declared.node.Node.{Node}
use Rattle.decrees.specs.declared.node.Node.TheVariants.{Client, Executor, Verifier}
use Rattle.decrees.specs.Count.{member_count}
use Rattle.decrees.specs.Votes.{is_open, votes_with}
use Rattle.decrees.specs.Standing.{may_follow}
use Rattle.view_change.specs.Promises.{promises_with}
use Rattle.verifier.specs.Tally.{is_accepted}
use Rattle.verifier.specs.State.{VerifierState, OutcomeView, known, stands, decree_of, next_place, letter, to_verifiers, to_others, to_executors, decided_from, stays, says, in_view, down, next_led}
use Rattle.verifier.specs.Lines.{learn, proposal, proposing, try_to_propose, vote_key, on_token, suspected, on_change, asked_if_behind, is_awaited, on_promise, told, start_told, told_of, told_from, on_accept, is_fitting, with_tally, on_accepted, on_decided, on_ask, restarted}
use Rattle.verifier.specs.Step.{of_executor, of_verifier, received}
use Rattle.agreement_laws.specs.Letters.{Letters, Sent}
use Rattle.agreement_laws.proofs.Letters.{Sent-split}
use Rattle.agreement_laws.proofs.Says.{Says, Says-one, Says-both, Says-verifiers, Says-others, Says-executors}

-- no verifier tells what stands at a start
abbrev pub NoneTold : Letters → Type 0
NoneTold ls = (v p : ℕ) (s : Standing) → Sent ls (Verifier v) (Stands p s) → ⊥

-- the log is as it was at its start, and no start is told
pub record KeepsStart (s : VerifierState) (o : OutcomeView) : Type 0 where
  pub start : o.state.start ≡ s.start
  pub none : NoneTold o.letters

none_none : NoneTold []
none_none v p s h = elim h [ ]

none_both : (xs ys : Letters) → NoneTold xs → NoneTold ys → NoneTold (xs ++ ys)
none_both xs ys h k v p s sent = ⊎_elim (h v p s) (k v p s) (Sent-split xs ys sent)

none_said : {v : ℕ} {b : Ballot} {ls : Letters} → Says v b ls → ((p : ℕ) (s : Standing) → Stands p s ≡ b → ⊥) → NoneTold ls
none_said says apart v p s sent = apart p s (says v (Stands p s) sent).1

none_decided : (id : ℕ) (to : Node) (place : ℕ) (ds : List Decree) → NoneTold (decided_from id to place ds)
none_decided id to place [] = none_none
none_decided id to place (d ∷ ds) = none_both (letter id to (Decided place d) ∷ []) (decided_from id to (place + 1) ds) (none_said (Says-one id to (Decided place d)) (λ p s e. cc e)) (none_decided id to (place + 1) ds)

none_told : (id : ℕ) (to : Node) (place : ℕ) (o : Option Decree) → NoneTold (told id to place o)
none_told id to place None = none_none
none_told id to place (Some d) = none_said (Says-one id to (Decided place d)) (λ p s e. cc e)

quiet : (s now : VerifierState) (saves : Bool) (ls : Letters) → now.start ≡ s.start → NoneTold ls → KeepsStart s (record { state = now; saves = saves; letters = ls })
quiet s now saves ls e n = record { start = e; none = n }

stays_whole : (s : VerifierState) → KeepsStart s (stays s)
stays_whole s = record { start = refl; none = none_none }

try_whole : (u v : ℕ) (s now : VerifierState) (saves : Bool) (ls : Letters) → now.start ≡ s.start → NoneTold ls → KeepsStart s (try_to_propose u v now saves ls)
try_whole u v s now saves ls e n = by (proposal u now)
  where
    by : (o : Option Decree) → KeepsStart s (proposing u v now saves ls o)
    by None = quiet s now saves ls e n
    by (Some d) = record { start = e; none = none_both ls (to_verifiers u v (Accept now.view (next_place now) d)) n (none_said (Says-verifiers (member_count u) v (Accept now.view (next_place now) d)) (λ p s e. cc e)) }

abbrev Whole : VerifierState → Type 0
Whole s = s.start.place ≡ 0

module _ (u v : ℕ) (s : VerifierState) (whole : Whole s) where
  none_below : (place : ℕ) → nat_le place s.start.place ≡ true → place ≡ 0
  none_below place e = let low = leb-true place s.start.place e in omega (arith, low, whole)

  token_whole : (executor epoch n : ℕ) (previous t : token.Token) → KeepsStart s (on_token u v s executor epoch n previous t)
  token_whole executor epoch n previous t = cond_both (is_open (stands s) (vote_key executor epoch n previous)) _ (stays s) (KeepsStart s)
      (λ _. try_whole u v s (record s { votes = votes_with s.votes (vote_key executor epoch n previous) t }) false [] refl none_none)
      (λ _. stays_whole s)

  change_whole : (from view : ℕ) → KeepsStart s (on_change v s from view)
  change_whole from view = cond_both (nat_lt view s.view) (stays s) _ (KeepsStart s)
      (λ _. stays_whole s)
      (λ _. quiet s (in_view s view) (nat_lt s.view view) (letter v (Verifier from) (Promise view (known s) s.accepted) ∷ []) refl (none_said (Says-one v (Verifier from) (Promise view (known s) s.accepted)) (λ p z e. cc e)))

  asked_none : (from count : ℕ) → NoneTold (asked_if_behind v s from count)
  asked_none from count = cond_both (nat_lt (known s) count) _ [] NoneTold (λ _. none_said (Says-one v (Verifier from) (Ask (next_place s))) (λ p z e. cc e)) (λ _. none_none)

  promise_whole : (from view count : ℕ) (a : Option (ℕ × Decree)) → KeepsStart s (on_promise u v s from view count a)
  promise_whole from view count a = cond_both (is_awaited s from view) _ (stays s) (KeepsStart s)
      (λ _. try_whole u v s (record s { promises = promises_with s.promises (record { from = from; known = count; accepted = a }) }) false (asked_if_behind v s from count) refl (asked_none from count))
      (λ _. stays_whole s)

  asks_whole : (from : ℕ) → KeepsStart s (says v s (Verifier from) (Ask (next_place s)))
  asks_whole from = quiet s s false (letter v (Verifier from) (Ask (next_place s)) ∷ []) refl (none_said (Says-one v (Verifier from) (Ask (next_place s))) (λ p z e. cc e))

  told_whole : (to : Node) (place : ℕ) → (place ≡ 0 → ⊥) → NoneTold (told_of v s to place)
  told_whole to place apart = cond_both (nat_le place s.start.place) (start_told v to s) (told v to place (decree_of s place)) NoneTold
      (λ e. absurd (apart (none_below place e)))
      (λ _. none_told v to place (decree_of s place))

  accept_whole : (from view place : ℕ) (d : Decree) → KeepsStart s (on_accept u v s from view place d)
  accept_whole from view place d = cond_both ((place == 0) || nat_lt view s.view) (stays s) _ (KeepsStart s) (λ _. stays_whole s)
      (λ low. cond_both (nat_lt (next_place s) place) (says v s (Verifier from) (Ask (next_place s))) _ (KeepsStart s) (λ _. asks_whole from)
      (λ _. cond_both (nat_lt place (next_place s)) (record { state = s; saves = false; letters = told_of v s (Verifier from) place }) _ (KeepsStart s)
      (λ _. quiet s s false (told_of v s (Verifier from) place) refl (told_whole (Verifier from) place (eqb-false place 0 (or_none (place == 0) (nat_lt view s.view) low))))
      (λ _. cond_both (may_follow (stands s) d) _ (stays s) (KeepsStart s)
      (λ _. quiet s (record (in_view s view) { accepted = Some (view, d) }) true (to_verifiers u v (Accepted view place d)) refl (none_said (Says-verifiers (member_count u) v (Accepted view place d)) (λ p z e. cc e)))
      (λ _. stays_whole s))))
    where
      or_none : (a b : Bool) → (a || b) ≡ false → a ≡ false
      or_none false b e = refl
      or_none true b e = absurd (cc)

  accepted_whole : (from view place : ℕ) (d : Decree) → KeepsStart s (on_accepted u v s from view place d)
  accepted_whole from view place d = cond_both (is_fitting s place d) _ (stays s) (KeepsStart s)
      (λ _. cond_both (is_accepted u (with_tally s from view d).tally view d) _ (stays (with_tally s from view d)) (KeepsStart s)
      (λ _. try_whole u v s (learn s d) true (to_others u v (Decided place d) ++ to_executors u v (Decided place d)) refl
      (none_said (Says-both (to_others u v (Decided place d)) (to_executors u v (Decided place d)) (Says-others (member_count u) v (Decided place d)) (Says-executors (member_count u) v (Decided place d))) (λ p z e. cc e)))
      (λ _. quiet s (with_tally s from view d) false [] refl none_none))
      (λ _. stays_whole s)

  decided_whole : (from place : ℕ) (d : Decree) → KeepsStart s (on_decided u v s from place d)
  decided_whole from place d = cond_both (is_fitting s place d) _ _ (KeepsStart s)
      (λ _. try_whole u v s (learn s d) true [] refl none_none)
      (λ _. cond_both (nat_lt (next_place s) place) (says v s (Verifier from) (Ask (next_place s))) (stays s) (KeepsStart s) (λ _. asks_whole from) (λ _. stays_whole s))

  ask_whole : (to : Node) (place : ℕ) → KeepsStart s (on_ask v s to place)
  ask_whole to place = cond_both (place == 0) (stays s) _ (KeepsStart s) (λ _. stays_whole s)
      (λ e. quiet s s false (told_from v s to place) refl
      (cond_both (nat_le place s.start.place) _ _ NoneTold
      (λ low. absurd (eqb-false place 0 e (none_below place low)))
      (λ _. none_decided v to place (take 16 (drop _ s.log)))))

  executor_whole : (e : ℕ) (b : Ballot) → KeepsStart s (of_executor u v s e b)
  executor_whole e (Token epoch n previous t) = token_whole e epoch n previous t
  executor_whole e (Ask place) = ask_whole (Executor e) place
  executor_whole e (Accept view place d) = stays_whole s
  executor_whole e (Accepted view place d) = stays_whole s
  executor_whole e (Decided place d) = stays_whole s
  executor_whole e (Change view) = stays_whole s
  executor_whole e (Promise view count a) = stays_whole s
  executor_whole e (Stands place st) = stays_whole s

  verifier_whole : (from : ℕ) (b : Ballot) → ((p : ℕ) (st : Standing) → b ≡ Stands p st → ⊥) → KeepsStart s (of_verifier u v s from b)
  verifier_whole from (Token epoch n previous t) apart = stays_whole s
  verifier_whole from (Accept view place d) apart = accept_whole from view place d
  verifier_whole from (Accepted view place d) apart = accepted_whole from view place d
  verifier_whole from (Decided place d) apart = decided_whole from place d
  verifier_whole from (Ask place) apart = ask_whole (Verifier from) place
  verifier_whole from (Change view) apart = change_whole from view
  verifier_whole from (Promise view count a) apart = promise_whole from view count a
  verifier_whole from (Stands place st) apart = absurd (apart place st refl)

  pub letter_whole : (from : Node) (b : Ballot) → ((x p : ℕ) (st : Standing) → from ≡ Verifier x → b ≡ Stands p st → ⊥) → KeepsStart s (received u v s from b)
  letter_whole (Client c) b apart = stays_whole s
  letter_whole (Executor e) b apart = executor_whole e b
  letter_whole (Verifier from) b apart = verifier_whole from b (λ p st e. apart from p st refl e)

  pub suspected_whole : KeepsStart s (suspected u v s)
  suspected_whole = quiet s (suspected u v s).state true (to_verifiers u v (Change (next_led u v s.view))) refl (none_said (Says-verifiers (member_count u) v (Change (next_led u v s.view))) (λ p z e. cc e))

  pub restarted_whole : KeepsStart s (restarted u v s)
  restarted_whole = quiet s (down s) false (to_others u v (Ask (next_place s))) refl (none_said (Says-others (member_count u) v (Ask (next_place s))) (λ p z e. cc e))
