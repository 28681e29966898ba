-- What each line of the step keeps.
use Rattle.std.proofs.Common.{◌≡◌, ℕ, ◌+◌, ◌*◌, ◌≤◌, Bool, true, false, List, [], length, take, Option, Some, None, refl, sym, ap, ◌∙◌, subst, arith}
use Rattle.std.specs.Prelude.{◌||◌, ◌==◌, nat_lt, nat_le}
use Rattle.std.proofs.lemmas.Bool.{cond_both, and_from, and_parts, ltb-true, leb-true}
use Rattle.std.proofs.lemmas.List.{take-append-drop, length-take-le}
use Rattle.std.proofs.lemmas.Bool.Decides.{nat_tests}
use Rattle.token.specs.declared.Token.{Token}
use Rattle.decrees.specs.declared.decree.Decree.{Decree}
use Rattle.decrees.specs.declared.ballot.Ballot.{Ballot}
use Rattle.decrees.specs.declared.ballot.Ballot.TheVariants as ballot
use Rattle.decrees.specs.declared.node.Letter.{Letter}
use Rattle.decrees.specs.declared.node.Node.{Node}
use Rattle.decrees.specs.declared.node.Node.TheVariants.{Client, Executor, Verifier}
use Rattle.decrees.specs.declared.standing.Standing.{Standing}
use Rattle.decrees.specs.declared.start.Start.{Start}
use Rattle.decrees.specs.Standing.{may_follow, is_log_from}
use Rattle.decrees.specs.Start.{stands_from, could_stand}
use Rattle.decrees.specs.Votes.{is_open}
use Rattle.decrees.proofs.GrowthLemmas.{by_one}
use Rattle.decrees.proofs.CouldStand.{stands_later}
use Rattle.decrees.proofs.LogLemmas.{is_log_from-front, is_log_from-back}
use Rattle.verifier.specs.declared.input.Input.{Input}
use Rattle.verifier.specs.declared.input.Input.TheVariants as input
use Rattle.verifier.specs.State.{VerifierState, OutcomeView, known, stands, down, in_view, next_place, next_led}
use Rattle.verifier.specs.Lines.{learn, proposing, suspected, on_token, on_change, on_promise, on_accept, on_accepted, on_decided, on_ask, on_trim, verifier_on_stands, is_fitting, is_awaited, is_ahead, may_trim, forgets, trimmed_log as trimmed_to, gone_to, vote_key, with_tally}
use Rattle.verifier.specs.Tally.{is_accepted}
use Rattle.verifier.specs.Step.{step, received, of_executor, of_verifier}
use Rattle.verifier.specs.Laws.{LogStep, same, learned, trimmed, gone, LearnsInOrder, StaysALog, BeginsAsItCould, ViewNeverFalls, UnsavedStays}
use Rattle.verifier.proofs.ViewLemmas.{led_from-above}

-- what is owed of the outcome of a step from this state
record Fine (s : VerifierState) (o : OutcomeView) : Type 0 where
  log : LogStep s o.state
  view : s.view ≤ o.state.view
  unsaved : o.saves ≡ false → down o.state ≡ down s

-- a step that leaves what is saved
unchanged : (s t : VerifierState) (b : Bool) (ls : List (Letter Ballot)) → down t ≡ down s → Fine s (record { state = t; saves = b; letters = ls })
unchanged s t b ls e =
    let kept : t.view ≡ s.view = ap (λ (z : VerifierState). z.view) e in
    record { log = same (ap (λ (z : VerifierState). z.start) e) (ap (λ (z : VerifierState). z.log) e); view = omega (arith, kept); unsaved = λ _. e }

-- a proposal leaves the log
proposes : (s t : VerifierState) → LogStep s t → LogStep s (record t { proposed = true; doubt = false })
proposes s t (same a b) = same a b
proposes s t (learned d a b c) = learned d a b c
proposes s t (trimmed f a b) = trimmed f a b
proposes s t (gone a b c) = gone a b c

-- and changes nothing that is saved
proposed : (u id : ℕ) (s t : VerifierState) (b : Bool) (ls : List (Letter Ballot)) (o : Option Decree) → Fine s (record { state = t; saves = b; letters = ls }) → Fine s (proposing u id t b ls o)
proposed u id s t b ls None f = f
proposed u id s t b ls (Some d) f = record { log = proposes s t f.log; view = f.view; unsaved = f.unsaved }

-- a decree is learned, and saved
learning : (s : VerifierState) (d : Decree) (ls : List (Letter Ballot)) → may_follow (stands s) d ≡ true → Fine s (record { state = learn s d; saves = true; letters = ls })
learning s d ls e = record { log = learned d refl refl e; view = omega arith; unsaved = λ h. absurd (cc h) }

fine_token : (u id : ℕ) (s : VerifierState) (e epoch n : ℕ) (previous token : Token) → Fine s (on_token u id s e epoch n previous token)
fine_token u id s e epoch n previous token =
    cond_both (is_open (stands s) (vote_key e epoch n previous)) _ _ (Fine s)
    (λ _. proposed u id s _ false [] _ (unchanged s _ false [] refl))
    (λ _. unchanged s s false [] refl)

fine_suspected : (u id : ℕ) (s : VerifierState) → Fine s (suspected u id s)
fine_suspected u id s =
    let above : s.view + 1 ≤ next_led u id s.view = led_from-above u id (s.view + 1) (2 * u) in
    record { log = same refl refl; view = omega (arith, above); unsaved = λ h. absurd (cc h) }

same_view : (old view : ℕ) → nat_lt view old ≡ false → nat_lt old view ≡ false → view ≡ old
same_view old view e h = grind (arith, nat_tests)

no_lower : (old view : ℕ) → nat_lt view old ≡ false → old ≤ view
no_lower old view e = grind (arith, nat_tests)

fine_change : (id : ℕ) (s : VerifierState) (v view : ℕ) → Fine s (on_change id s v view)
fine_change id s v view =
    cond_both (nat_lt view s.view) _ _ (Fine s) (λ _. unchanged s s false [] refl)
    (λ e. record { log = same refl refl; view = no_lower s.view view e; unsaved = λ h. ap (λ (w : ℕ). down (in_view s w)) (same_view s.view view e h) })

fine_promise : (u id : ℕ) (s : VerifierState) (v view count : ℕ) (accepted : Option (ℕ × Decree)) → Fine s (on_promise u id s v view count accepted)
fine_promise u id s v view count accepted =
    cond_both (is_awaited s v view) _ _ (Fine s)
    (λ _. proposed u id s _ false _ _ (unchanged s _ false _ refl))
    (λ _. unchanged s s false [] refl)

above_zero : (old view : ℕ) (b : Bool) → (b || nat_lt view old) ≡ false → old ≤ view
above_zero old view true e = absurd (cc e)
above_zero old view false e = no_lower old view e

fine_accept : (u id : ℕ) (s : VerifierState) (v view place : ℕ) (d : Decree) → Fine s (on_accept u id s v view place d)
fine_accept u id s v view place d =
    cond_both ((place == 0) || nat_lt view s.view) _ _ (Fine s) (λ _. unchanged s s false [] refl)
    (λ e. cond_both (nat_lt (next_place s) place) _ _ (Fine s) (λ _. unchanged s s false _ refl)
    (λ _. cond_both (nat_lt place (next_place s)) _ _ (Fine s) (λ _. unchanged s s false _ refl)
    (λ _. cond_both (may_follow (stands s) d) _ _ (Fine s)
    (λ _. record { log = same refl refl; view = above_zero s.view view (place == 0) e; unsaved = λ h. absurd (cc h) })
    (λ _. unchanged s s false [] refl))))

fine_accepted : (u id : ℕ) (s : VerifierState) (v view place : ℕ) (d : Decree) → Fine s (on_accepted u id s v view place d)
fine_accepted u id s v view place d =
    cond_both (is_fitting s place d) _ _ (Fine s)
    (λ e. cond_both (is_accepted u (with_tally s v view d).tally view d) _ _ (Fine s)
    (λ _. proposed u id s (learn s d) true _ _ (learning s d _ (and_parts (place == next_place s) _ e).1))
    (λ _. unchanged s (with_tally s v view d) false [] refl))
    (λ _. unchanged s s false [] refl)

fine_decided : (u id : ℕ) (s : VerifierState) (v place : ℕ) (d : Decree) → Fine s (on_decided u id s v place d)
fine_decided u id s v place d =
    cond_both (is_fitting s place d) _ _ (Fine s)
    (λ e. proposed u id s (learn s d) true [] _ (learning s d [] (and_parts (place == next_place s) _ e).1))
    (λ _. cond_both (nat_lt (next_place s) place) _ _ (Fine s) (λ _. unchanged s s false _ refl) (λ _. unchanged s s false [] refl))

fine_ask : (id : ℕ) (s : VerifierState) (to : Node) (place : ℕ) → Fine s (on_ask id s to place)
fine_ask id s to place = cond_both (place == 0) _ _ (Fine s) (λ _. unchanged s s false [] refl) (λ _. unchanged s s false _ refl)

trimming : (s : VerifierState) (place : ℕ) → may_trim s place ≡ true → LogStep s (trimmed_to s place)
trimming s place may =
    let p = and_parts (nat_lt s.start.place place) (nat_le place (known s)) may in
    let above = ltb-true s.start.place place p.0 in
    let within = leb-true place (known s) p.1 in
    let count = length-take-le (forgets s place) s.log (omega arith) in
    let at : place ≡ s.start.place + length (take (forgets s place) s.log) = omega arith in
    trimmed (take (forgets s place) s.log) (sym (take-append-drop (forgets s place) s.log))
    (λ i. record { place = at i; standing = stands_from s.start.standing (take (forgets s place) s.log) })

fine_trim : (s : VerifierState) (place : ℕ) → Fine s (on_trim s place)
fine_trim s place =
    cond_both (may_trim s place) _ _ (Fine s)
    (λ e. record { log = trimming s place e; view = omega arith; unsaved = λ h. absurd (cc h) })
    (λ _. unchanged s s false [] refl)

going : (s : VerifierState) (place : ℕ) (standing : Standing) (ls : List (Letter Ballot)) → is_ahead s place standing ≡ true → Fine s (record { state = gone_to s (record { place = place; standing = standing }); saves = true; letters = ls })
going s place standing ls e =
    let p = and_parts (nat_lt (known s) place) (could_stand place standing) e in
    record { log = gone refl (ltb-true (known s) place p.0) p.1; view = omega arith; unsaved = λ h. absurd (cc h) }

fine_stands : (u id : ℕ) (s : VerifierState) (place : ℕ) (standing : Standing) → Fine s (verifier_on_stands u id s place standing)
fine_stands u id s place standing =
    cond_both (is_ahead s place standing) _ _ (Fine s)
    (λ e. proposed u id s _ true [] _ (going s place standing [] e))
    (λ _. unchanged s s false [] refl)

fine_executor : (u id : ℕ) (s : VerifierState) (e : ℕ) (body : Ballot) → Fine s (of_executor u id s e body)
fine_executor u id s e (ballot.Token epoch n previous token) = fine_token u id s e epoch n previous token
fine_executor u id s e (ballot.Ask place) = fine_ask id s (Executor e) place
fine_executor u id s e (ballot.Accept view place d) = unchanged s s false [] refl
fine_executor u id s e (ballot.Accepted view place d) = unchanged s s false [] refl
fine_executor u id s e (ballot.Decided place d) = unchanged s s false [] refl
fine_executor u id s e (ballot.Change view) = unchanged s s false [] refl
fine_executor u id s e (ballot.Promise view count accepted) = unchanged s s false [] refl
fine_executor u id s e (ballot.Stands place standing) = unchanged s s false [] refl

fine_verifier : (u id : ℕ) (s : VerifierState) (v : ℕ) (body : Ballot) → Fine s (of_verifier u id s v body)
fine_verifier u id s v (ballot.Token epoch n previous token) = unchanged s s false [] refl
fine_verifier u id s v (ballot.Accept view place d) = fine_accept u id s v view place d
fine_verifier u id s v (ballot.Accepted view place d) = fine_accepted u id s v view place d
fine_verifier u id s v (ballot.Decided place d) = fine_decided u id s v place d
fine_verifier u id s v (ballot.Ask place) = fine_ask id s (Verifier v) place
fine_verifier u id s v (ballot.Change view) = fine_change id s v view
fine_verifier u id s v (ballot.Promise view count accepted) = fine_promise u id s v view count accepted
fine_verifier u id s v (ballot.Stands place standing) = fine_stands u id s place standing

fine_letter : (u id : ℕ) (s : VerifierState) (from : Node) (body : Ballot) → Fine s (received u id s from body)
fine_letter u id s (Client c) body = unchanged s s false [] refl
fine_letter u id s (Executor e) body = fine_executor u id s e body
fine_letter u id s (Verifier v) body = fine_verifier u id s v body

fine_step : (u id : ℕ) (s : VerifierState) (i : Input) → Fine s (step u id s i)
fine_step u id s (input.Letter l) = fine_letter u id s l.from l.body
fine_step u id s input.Suspect = fine_suspected u id s
fine_step u id s (input.Trim place) = fine_trim s place

pub learns_in_order : LearnsInOrder
learns_in_order u id s i = (fine_step u id s i).log

pub view_never_falls : ViewNeverFalls
view_never_falls u id s i = (fine_step u id s i).view

pub unsaved_stays : UnsavedStays
unsaved_stays u id s i = (fine_step u id s i).unsaved

log_of : (s t : VerifierState) → is_log_from s.start.standing s.log ≡ true → LogStep s t → is_log_from t.start.standing t.log ≡ true
log_of s t h (same start log) = subst (λ (z : Start × List Decree). is_log_from z.0.standing z.1 ≡ true) (λ i. (sym start i, sym log i)) h
log_of s t h (learned d start log next) =
    subst (λ (z : Start × List Decree). is_log_from z.0.standing z.1 ≡ true) (λ i. (sym start i, sym log i))
    (by_one s.start.standing s.log d ∙ and_from (is_log_from s.start.standing s.log) (may_follow (stands s) d) h next)
log_of s t h (trimmed forgotten log start) =
    subst (λ (z : Start). is_log_from z.standing t.log ≡ true) (sym start)
    (is_log_from-back s.start.standing forgotten t.log (subst (λ (ds : List Decree). is_log_from s.start.standing ds ≡ true) log h))
log_of s t h (gone log above could) = subst (λ (ds : List Decree). is_log_from t.start.standing ds ≡ true) (sym log) refl

pub stays_a_log : StaysALog
stays_a_log u id s i h = log_of s (step u id s i).state h (learns_in_order u id s i)

start_of : (s t : VerifierState) → could_stand s.start.place s.start.standing ≡ true → is_log_from s.start.standing s.log ≡ true → LogStep s t → could_stand t.start.place t.start.standing ≡ true
start_of s t could h (same start log) = subst (λ (z : Start). could_stand z.place z.standing ≡ true) (sym start) could
start_of s t could h (learned d start log next) = subst (λ (z : Start). could_stand z.place z.standing ≡ true) (sym start) could
start_of s t could h (trimmed forgotten log start) =
    subst (λ (z : Start). could_stand z.place z.standing ≡ true) (sym start)
    (stands_later s.start.place s.start.standing forgotten could (is_log_from-front s.start.standing forgotten t.log (subst (λ (ds : List Decree). is_log_from s.start.standing ds ≡ true) log h)))
start_of s t could h (gone log above start) = start

pub begins_as_it_could : BeginsAsItCould
begins_as_it_could u id s i could h = start_of s (step u id s i).state could h (learns_in_order u id s i)
