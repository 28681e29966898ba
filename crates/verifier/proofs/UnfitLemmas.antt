-- An input that fits no line changes nothing.
use Rattle.std.proofs.Common.{◌≡◌, ℕ, zero, suc, Bool, true, false, Option, refl, arith}
use Rattle.std.specs.Prelude.{◌&&◌, ◌||◌, ◌==◌, not, nat_lt, nat_le}
use Rattle.std.proofs.lemmas.Bool.{cond_both, cond-true, cond-false, or_parts}
use Rattle.std.proofs.lemmas.Bool.Decides.{nat_tests}
use Rattle.token.specs.declared.Token.{Token}
use Rattle.decrees.specs.declared.decree.Decree.{Decree}
use Rattle.decrees.specs.declared.ballot.Ballot.{Ballot}
use Rattle.decrees.specs.declared.ballot.Ballot.TheVariants as ballot
use Rattle.decrees.specs.declared.node.Node.{Node}
use Rattle.decrees.specs.declared.node.Node.TheVariants.{Client, Executor, Verifier}
use Rattle.decrees.specs.declared.standing.Standing.{Standing}
use Rattle.decrees.specs.Standing.{may_follow}
use Rattle.decrees.specs.Votes.{is_open}
use Rattle.verifier.specs.declared.input.Input.TheVariants.{Letter, Suspect, Trim}
use Rattle.verifier.specs.State.{VerifierState, stands, stays, next_place}
use Rattle.verifier.specs.Lines.{on_token, on_change, on_promise, on_accept, on_accepted, on_decided, on_ask, on_trim, verifier_on_stands, may_trim, is_ahead, is_fitting, is_acceptable, is_news, is_awaited, vote_key}
use Rattle.verifier.specs.Step.{received, of_executor, of_verifier, fits_letter, fits_executor, fits_verifier}
use Rattle.verifier.specs.Laws.{UnfitStays}

clash : (b : Bool) → b ≡ true → b ≡ false → ⊥
clash true p q = cc q
clash false p q = cc p

no_place : (place : ℕ) → nat_lt 0 place ≡ false → (place == 0) ≡ true
no_place zero e = refl
no_place (suc n) e = absurd (grind (arith, nat_tests))

unfit_ask : (id : ℕ) (s : VerifierState) (to : Node) (place : ℕ) → nat_lt 0 place ≡ false → on_ask id s to place ≡ stays s
unfit_ask id s to place e = cond-true (place == 0) _ _ (no_place place e)

unfit_token : (u id : ℕ) (s : VerifierState) (e epoch n : ℕ) (previous token : Token) → is_open (stands s) (vote_key e epoch n previous) ≡ false → on_token u id s e epoch n previous token ≡ stays s
unfit_token u id s e epoch n previous token unfit = cond-false (is_open (stands s) (vote_key e epoch n previous)) _ _ unfit

below : (a b : ℕ) → nat_le a b ≡ false → nat_lt b a ≡ true
below a b e = grind (arith, nat_tests)

unfit_change : (id : ℕ) (s : VerifierState) (v view : ℕ) → nat_le s.view view ≡ false → on_change id s v view ≡ stays s
unfit_change id s v view unfit = cond-true (nat_lt view s.view) _ _ (below s.view view unfit)

unfit_promise : (u id : ℕ) (s : VerifierState) (v view count : ℕ) (accepted : Option (ℕ × Decree)) → is_awaited s v view ≡ false → on_promise u id s v view count accepted ≡ stays s
unfit_promise u id s v view count accepted unfit = cond-false (is_awaited s v view) _ _ unfit

unfit_accepted : (u id : ℕ) (s : VerifierState) (v view place : ℕ) (d : Decree) → is_fitting s place d ≡ false → on_accepted u id s v view place d ≡ stays s
unfit_accepted u id s v view place d unfit = cond-false (is_fitting s place d) _ _ unfit

unfit_decided : (u id : ℕ) (s : VerifierState) (v place : ℕ) (d : Decree) → is_news s place d ≡ false → on_decided u id s v place d ≡ stays s
unfit_decided u id s v place d unfit =
    let both = or_parts (is_fitting s place d) (nat_lt (next_place s) place) unfit in
    cond_both (is_fitting s place d) _ _ (λ o. o ≡ stays s) (λ e. absurd (clash _ e both.0))
    (λ _. cond-false (nat_lt (next_place s) place) _ _ both.1)

unfit_trim : (s : VerifierState) (place : ℕ) → may_trim s place ≡ false → on_trim s place ≡ stays s
unfit_trim s place unfit = cond-false (may_trim s place) _ _ unfit

unfit_stands : (u id : ℕ) (s : VerifierState) (place : ℕ) (standing : Standing) → is_ahead s place standing ≡ false → verifier_on_stands u id s place standing ≡ stays s
unfit_stands u id s place standing unfit = cond-false (is_ahead s place standing) _ _ unfit

-- a proposal that is refused is of the next place, and may not come next
abbrev Refused : ℕ → ℕ → ℕ → ℕ → Bool → Type 0
Refused place next view old may = (nat_lt 0 place && (nat_le old view && (not (place == next) || may))) ≡ false

not_above : (place next view old : ℕ) (may : Bool) → Refused place next view old may → ((place == 0) || nat_lt view old) ≡ false → nat_lt next place ≡ true → ⊥
not_above place next view old true unfit e above = grind (arith, nat_tests)
not_above place next view old false unfit e above = grind (arith, nat_tests)

not_below : (place next view old : ℕ) (may : Bool) → Refused place next view old may → ((place == 0) || nat_lt view old) ≡ false → nat_lt place next ≡ true → ⊥
not_below place next view old true unfit e less = grind (arith, nat_tests)
not_below place next view old false unfit e less = grind (arith, nat_tests)

not_next : (place next view old : ℕ) (may : Bool) → Refused place next view old may → ((place == 0) || nat_lt view old) ≡ false → may ≡ true → ⊥
not_next place next view old true unfit e h = grind (arith, nat_tests)
not_next place next view old false unfit e h = cc h

unfit_accept : (u id : ℕ) (s : VerifierState) (v view place : ℕ) (d : Decree) → is_acceptable s view place d ≡ false → on_accept u id s v view place d ≡ stays s
unfit_accept u id s v view place d unfit =
    let may = may_follow (stands s) d in
    cond_both ((place == 0) || nat_lt view s.view) _ _ (λ o. o ≡ stays s) (λ _. refl)
    (λ e. cond_both (nat_lt (next_place s) place) _ _ (λ o. o ≡ stays s) (λ h. absurd (not_above place (next_place s) view s.view may unfit e h))
    (λ _. cond_both (nat_lt place (next_place s)) _ _ (λ o. o ≡ stays s) (λ h. absurd (not_below place (next_place s) view s.view may unfit e h))
    (λ _. cond_both may _ _ (λ o. o ≡ stays s) (λ h. absurd (not_next place (next_place s) view s.view may unfit e h)) (λ _. refl))))

unfit_executor : (u id : ℕ) (s : VerifierState) (e : ℕ) (body : Ballot) → fits_executor s e body ≡ false → of_executor u id s e body ≡ stays s
unfit_executor u id s e (ballot.Token epoch n previous token) unfit = unfit_token u id s e epoch n previous token unfit
unfit_executor u id s e (ballot.Ask place) unfit = unfit_ask id s (Executor e) place unfit
unfit_executor u id s e (ballot.Accept view place d) unfit = refl
unfit_executor u id s e (ballot.Accepted view place d) unfit = refl
unfit_executor u id s e (ballot.Decided place d) unfit = refl
unfit_executor u id s e (ballot.Change view) unfit = refl
unfit_executor u id s e (ballot.Promise view count accepted) unfit = refl
unfit_executor u id s e (ballot.Stands place standing) unfit = refl

unfit_verifier : (u id : ℕ) (s : VerifierState) (v : ℕ) (body : Ballot) → fits_verifier s v body ≡ false → of_verifier u id s v body ≡ stays s
unfit_verifier u id s v (ballot.Token epoch n previous token) unfit = refl
unfit_verifier u id s v (ballot.Accept view place d) unfit = unfit_accept u id s v view place d unfit
unfit_verifier u id s v (ballot.Accepted view place d) unfit = unfit_accepted u id s v view place d unfit
unfit_verifier u id s v (ballot.Decided place d) unfit = unfit_decided u id s v place d unfit
unfit_verifier u id s v (ballot.Ask place) unfit = unfit_ask id s (Verifier v) place unfit
unfit_verifier u id s v (ballot.Change view) unfit = unfit_change id s v view unfit
unfit_verifier u id s v (ballot.Promise view count accepted) unfit = unfit_promise u id s v view count accepted unfit
unfit_verifier u id s v (ballot.Stands place standing) unfit = unfit_stands u id s place standing unfit

unfit_letter : (u id : ℕ) (s : VerifierState) (from : Node) (body : Ballot) → fits_letter s from body ≡ false → received u id s from body ≡ stays s
unfit_letter u id s (Client c) body unfit = refl
unfit_letter u id s (Executor e) body unfit = unfit_executor u id s e body unfit
unfit_letter u id s (Verifier v) body unfit = unfit_verifier u id s v body unfit

pub unfit_stays : UnfitStays
unfit_stays u id s (Letter l) unfit = unfit_letter u id s l.from l.body unfit
unfit_stays u id s Suspect unfit = absurd (cc unfit)
unfit_stays u id s (Trim place) unfit = unfit_trim s place unfit
