-- Each line of a verifier keeps what holds, also if the verifier stops in it.
use Rattle.std.proofs.Common.{◌≡◌, ℕ, suc, ◌+◌, ◌-◌, ◌*◌, ◌%◌, ◌≤◌, Bool, true, false, not, ◌&&◌, ◌||◌, List, [], ◌∷◌, ◌++◌, take, drop, Option, Some, None, slice_get, inr, refl, sym, subst, ⊎_elim, arith, append_assoc, is_some}
use Rattle.std.specs.Prelude.{◌==◌, nat_lt, nat_le}
use Rattle.std.proofs.lemmas.Bool.{and_parts, eqb-true, ltb-true, ltb-false, leb-false, cond_both, false≢true}
use Rattle.token.specs.declared.Token as token
use Rattle.decrees.specs.declared.decree.Decree.{Decree}
use Rattle.decrees.specs.declared.decree.Decree.TheVariants.{Commit, Rollback}
use Rattle.decrees.specs.declared.ballot.Ballot.{Ballot}
use Rattle.decrees.specs.declared.ballot.Ballot.TheVariants.{Token, Accept, Accepted, Decided, Ask, Change, Promise, Stands}
use Rattle.decrees.specs.declared.node.Node.{Node}
use Rattle.decrees.specs.declared.node.Node.TheVariants.{Executor, Verifier}
use Rattle.decrees.specs.Count.{member_count}
use Rattle.decrees.specs.declared.standing.Standing.{Standing}
use Rattle.decrees.specs.Standing.{may_follow}
use Rattle.decrees.specs.Start.{could_stand}
use Rattle.decrees.specs.Votes.{token_eq, is_open, vote_of, votes_with}
use Rattle.view_change.specs.Promises.{has_promised, promises_with}
use Rattle.verifier.specs.declared.tally.Tallied.{Tallied}
use Rattle.verifier.specs.Tally.{decree_eq, is_tallied, tally_with, has_accepted, is_accepted}
use Rattle.verifier.specs.State.{decree_of, known, stands, VerifierState, OutcomeView, next_place, letter, to_verifiers, to_others, to_executors, decided_from, stays, says, in_view, down, next_led}
use Rattle.verifier.specs.Lines.{proposal, proposing, try_to_propose, vote_key, on_token, suspected, on_change, asked_if_behind, is_awaited, on_promise, told, start_told, told_of, told_from, on_accept, is_fitting, with_tally, on_accepted, on_decided, on_ask, may_trim, on_trim, is_ahead, verifier_on_stands, restarted}
use Rattle.verifier.proofs.ViewLemmas.{led_from-above}
use Rattle.agreement_laws.specs.Letters.{Letters, Sent, Chosen}
use Rattle.agreement_laws.proofs.Places.{get_take, get_drop}
use Rattle.agreement_laws.proofs.Logs.{log_get, log_at, log_stands}
use Rattle.agreement_laws.proofs.Each.{Each, Each-push, found_any}
use Rattle.agreement_laws.proofs.Letters.{Sent-split, LettersOk}
use Rattle.agreement_laws.proofs.Stand.{Heard, Told, Cast, Stand, OnlyFrom, Stand-down, Stand-in_view, Stand-accepting, Stand-learn, Stand-trim, Stand-gone}
use Rattle.agreement_laws.proofs.Says.{Says, Says-one, Says-both, Says-verifiers, Says-others, Says-executors, Plain, PlainOf, PlainOf-none, PlainOf-said, PlainOf-both, LettersOk-plain, Stand-plain}
use Rattle.agreement_laws.proofs.Promised.{LettersOk-promise, Stand-promise}
use Rattle.agreement_laws.proofs.Accepting.{LettersOk-accepted, Stand-accepted}
use Rattle.agreement_laws.proofs.Proposing.{LettersOk-accept, Stand-accept}
use Rattle.agreement_laws.proofs.Choice.{MayPropose-from, proposal_is_safe, proposal_is_backed}
use Rattle.decrees.proofs.TokenLemmas.{token_eq-true}

-- what an outcome of verifier v keeps, whether the step is done or the verifier stops in it
pub record StepOk (u : ℕ) (ls : Letters) (v : ℕ) (o : OutcomeView) : Type 0 where
  pub only : OnlyFrom v o.letters
  pub saved : Stand u ls v (down o.state)
  pub letters : LettersOk u (ls ++ o.letters)
  pub stand : Stand u (ls ++ o.letters) v o.state

plain_step : {u : ℕ} {ls : Letters} {v : ℕ} {s : VerifierState} (saves : Bool) (new : Letters) → LettersOk u ls → Stand u ls v s → PlainOf u ls v new → StepOk u ls v (record { state = s; saves = saves; letters = new })
plain_step {u} {ls} {v} {s} saves new ok st p = record { only = λ x b h. (p x b h).0; saved = Stand-down st; letters = LettersOk-plain new p ok; stand = Stand-plain new p st }

pub stays_ok : {u : ℕ} {ls : Letters} {v : ℕ} {s : VerifierState} → LettersOk u ls → Stand u ls v s → StepOk u ls v (stays s)
stays_ok {u} {ls} {v} {s} ok st = plain_step false [] ok st (PlainOf-none u ls v)

says_ok : {u : ℕ} {ls : Letters} {v : ℕ} {s : VerifierState} (to : Node) (b : Ballot) → LettersOk u ls → Stand u ls v s → Plain u ls b → StepOk u ls v (says v s to b)
says_ok {u} {ls} {v} {s} to b ok st p = plain_step false (letter v to b ∷ []) ok st (PlainOf-said u ls (Says-one v to b) p)

-- a leader tries to propose, after plain letters
try_ok : {u : ℕ} {ls : Letters} {v : ℕ} {s : VerifierState} (saves : Bool) (first : Letters) → LettersOk u ls → Stand u ls v s → PlainOf u ls v first → StepOk u ls v (try_to_propose u v s saves first)
try_ok {u} {ls} {v} {s} saves first ok st p = by (proposal u s) refl
  where
    by : (o : Option Decree) → proposal u s ≡ o → StepOk u ls v (proposing u v s saves first o)
    by None e = plain_step saves first ok st p
    by (Some d) e =
        let may = MayPropose-from u s d e in
        let new = to_verifiers u v (Accept s.view (next_place s) d) in
        let said = Says-verifiers (member_count u) v (Accept s.view (next_place s) d) in
        let ok1 = LettersOk-plain first p ok in
        let st1 = Stand-plain first p st in
        let safe = proposal_is_safe ok1 st1 may in
        let backed = proposal_is_backed ok1 st1 may in
        record {
          only = λ x b h. ⊎_elim (λ l. (p x b l).0) (λ r. (said x b r).0) (Sent-split first new h);
          saved = Stand-down st;
          letters = subst (LettersOk u) (append_assoc ls first new) (LettersOk-accept new d may.leads may.fresh safe backed said ok1 st1);
          stand = subst (λ l. Stand u l v (record s { proposed = true; doubt = false })) (append_assoc ls first new) (Stand-accept new d may.leads may.fresh safe backed said ok1 st1);
        }

-- what a verifier knows is chosen, so it may tell it
told_ok : {u : ℕ} {ls : Letters} {v : ℕ} {s : VerifierState} (to : Node) (place : ℕ) (o : Option Decree) → decree_of s place ≡ o → LettersOk u ls → Stand u ls v s → PlainOf u ls v (told v to place o)
told_ok {u} {ls} {v} {s} to place None e ok st = PlainOf-none u ls v
told_ok {u} {ls} {v} {s} to place (Some d) e ok st = PlainOf-said u ls (Says-one v to (Decided place d)) (log_at st.grounds.log place d e)

start_told_ok : {u : ℕ} {ls : Letters} {v : ℕ} {s : VerifierState} (to : Node) → Stand u ls v s → PlainOf u ls v (start_told v to s)
start_told_ok {u} {ls} {v} {s} to st = PlainOf-said u ls (Says-one v to (Stands (known s) (stands s))) (log_stands st.grounds.log)

told_of_ok : {u : ℕ} {ls : Letters} {v : ℕ} {s : VerifierState} (to : Node) (place : ℕ) → LettersOk u ls → Stand u ls v s → StepOk u ls v (record { state = s; saves = false; letters = told_of v s to place })
told_of_ok {u} {ls} {v} {s} to place ok st = plain_step false (told_of v s to place) ok st
    (cond_both (nat_le place s.start.place) (start_told v to s) (told v to place (decree_of s place)) (PlainOf u ls v)
    (λ _. start_told_ok to st)
    (λ _. told_ok to place (decree_of s place) refl ok st))

pub on_accept_ok : {u : ℕ} {ls : Letters} {v : ℕ} {s : VerifierState} (from view place : ℕ) (d : Decree) → LettersOk u ls → Stand u ls v s → Sent ls (Verifier from) (Accept view place d) → StepOk u ls v (on_accept u v s from view place d)
on_accept_ok {u} {ls} {v} {s} from view place d ok st sent =
    cond_both ((place == 0) || nat_lt view s.view) (stays s) _ (StepOk u ls v) (λ _. stays_ok ok st)
    (λ old. cond_both (nat_lt (next_place s) place) (says v s (Verifier from) (Ask (next_place s))) _ (StepOk u ls v)
    (λ _. says_ok (Verifier from) (Ask (next_place s)) ok st tt)
    (λ high. cond_both (nat_lt place (next_place s)) (record { state = s; saves = false; letters = told_of v s (Verifier from) place }) _ (StepOk u ls v)
    (λ _. told_of_ok (Verifier from) place ok st)
    (λ low. cond_both (may_follow (stands s) d) _ (stays s) (StepOk u ls v)
    (λ _. accepts (not_below view s.view (or_none (place == 0) (nat_lt view s.view) old).1) (only_next place (next_place s) high low))
    (λ _. stays_ok ok st))))
  where
    or_none : (a b : Bool) → (a || b) ≡ false → (a ≡ false) × (b ≡ false)
    or_none false b e = (refl, e)
    or_none true b e = absurd (cc)

    not_below : (a b : ℕ) → nat_lt a b ≡ false → b ≤ a
    not_below a b e = ltb-false a b e

    only_next : (a b : ℕ) → nat_lt b a ≡ false → nat_lt a b ≡ false → a ≡ b
    only_next a b high low = let x = ltb-false b a high in let y = ltb-false a b low in omega (arith, x, y)

    accepts : s.view ≤ view → place ≡ next_place s → StepOk u ls v (record { state = record (in_view s view) { accepted = Some (view, d) }; saves = true; letters = to_verifiers u v (Accepted view place d) })
    accepts le same =
        let st1 = Stand-in_view view le st in
        let st2 = Stand-accepting from d (subst (λ y. Sent ls (Verifier from) (Accept view y d)) same sent) st1 in
        let new = to_verifiers u v (Accepted view place d) in
        let said : Says v (Accepted view (next_place s) d) new = subst (λ y. Says v (Accepted view y d) new) same (Says-verifiers (member_count u) v (Accepted view place d)) in
        record {
          only = λ x b h. (said x b h).0;
          saved = Stand-down st2;
          letters = LettersOk-accepted new d refl said ok st2;
          stand = Stand-accepted new d refl said ok st2;
        }

pub on_change_ok : {u : ℕ} {ls : Letters} {v : ℕ} {s : VerifierState} (from view : ℕ) → LettersOk u ls → Stand u ls v s → StepOk u ls v (on_change v s from view)
on_change_ok {u} {ls} {v} {s} from view ok st =
    cond_both (nat_lt view s.view) (stays s) _ (StepOk u ls v)
    (λ _. stays_ok ok st)
    (λ e.
    let st1 = Stand-in_view view (ltb-false view s.view e) st in
    let new = letter v (Verifier from) (Promise view (known s) s.accepted) ∷ [] in
    let said = Says-one v (Verifier from) (Promise view (known s) s.accepted) in
    record {
      only = λ x b h. (said x b h).0;
      saved = Stand-down st1;
      letters = LettersOk-promise new said ok st1;
      stand = Stand-promise new said ok st1;
    })

Stand-with_promise : {u : ℕ} {ls : Letters} {v : ℕ} {s : VerifierState} (from k : ℕ) (a : Option (ℕ × Decree)) → Sent ls (Verifier from) (Promise s.view k a) → Stand u ls v s → Stand u ls v (record s { promises = promises_with s.promises (record { from = from; known = k; accepted = a }) })
Stand-with_promise {u} {ls} {v} {s} from k a sent st = record {
  grounds = record {
    log = st.grounds.log;
    accepted_sent = st.grounds.accepted_sent;
    leads = st.grounds.leads;
    heard = λ e. cond_both (has_promised s.promises from) s.promises (s.promises ++ record { from = from; known = k; accepted = a } ∷ []) (Each (Heard ls s.view))
        (λ _. st.grounds.heard e)
        (λ _. Each-push (Heard ls s.view) s.promises (record { from = from; known = k; accepted = a }) (st.grounds.heard e) (inr sent));
    tallied = st.grounds.tallied;
    voted = st.grounds.voted;
  };
  owns = record { kept = st.owns.kept; promised = st.owns.promised; proposed = st.owns.proposed };
}

asked_if_behind_ok : (u : ℕ) (ls : Letters) (v : ℕ) (s : VerifierState) (from count : ℕ) → PlainOf u ls v (asked_if_behind v s from count)
asked_if_behind_ok u ls v s from count = cond_both (nat_lt (known s) count) _ [] (PlainOf u ls v)
    (λ _. PlainOf-said u ls (Says-one v (Verifier from) (Ask ((known s) + 1))) tt)
    (λ _. PlainOf-none u ls v)

pub on_promise_ok : {u : ℕ} {ls : Letters} {v : ℕ} {s : VerifierState} (from view count : ℕ) (a : Option (ℕ × Decree)) → LettersOk u ls → Stand u ls v s → Sent ls (Verifier from) (Promise view count a) → StepOk u ls v (on_promise u v s from view count a)
on_promise_ok {u} {ls} {v} {s} from view count a ok st sent =
    cond_both (is_awaited s from view) _ (stays s) (StepOk u ls v)
    (λ e.
    let h = and_parts s.leads ((view == s.view) && not (has_promised s.promises from)) e in
    let same = eqb-true view s.view (and_parts (view == s.view) (not (has_promised s.promises from)) h.1).0 in
    let st1 = Stand-with_promise from count a (subst (λ y. Sent ls (Verifier from) (Promise y count a)) same sent) st in
    try_ok false (asked_if_behind v s from count) ok st1 (asked_if_behind_ok u ls v s from count))
    (λ _. stays_ok ok st)

pub decree_eq-true : (a b : Decree) → decree_eq a b ≡ true → a ≡ b
decree_eq-true (Commit n t) (Commit m x) e =
    let h = and_parts (n == m) (token_eq t x) e in
    λ i. Commit (eqb-true n m h.0 i) (token_eq-true t x h.1 i)
decree_eq-true Rollback Rollback e = refl
decree_eq-true (Commit n t) Rollback e = absurd (false≢true e)
decree_eq-true Rollback (Commit n t) e = absurd (false≢true e)

Each-tally : {ls : Letters} (place : ℕ) (tally : List Tallied) (t : Tallied) → Told ls place t → Each (Told ls place) tally → Each (Told ls place) (tally_with tally t)
Each-tally {ls} place tally t sent h = cond_both (is_tallied tally t.view t.from) tally (tally ++ t ∷ []) (Each (Told ls place))
    (λ _. h)
    (λ _. Each-push (Told ls place) tally t h sent)

Stand-with_tally : {u : ℕ} {ls : Letters} {v : ℕ} {s : VerifierState} (from view : ℕ) (d : Decree) → Sent ls (Verifier from) (Accepted view (next_place s) d) → Stand u ls v s → Stand u ls v (with_tally s from view d)
Stand-with_tally {u} {ls} {v} {s} from view d sent st = record {
  grounds = record {
    log = st.grounds.log;
    accepted_sent = st.grounds.accepted_sent;
    leads = st.grounds.leads;
    heard = st.grounds.heard;
    tallied = Each-tally (next_place s) s.tally (record { from = from; view = view; decree = d }) sent st.grounds.tallied;
    voted = st.grounds.voted;
  };
  owns = record { kept = st.owns.kept; promised = st.owns.promised; proposed = st.owns.proposed };
}

-- what is tallied of enough senders is chosen
tallied_is_chosen : {u : ℕ} {ls : Letters} (tally : List Tallied) (view place : ℕ) (d : Decree) → Each (Told ls place) tally → is_accepted u tally view d ≡ true → Chosen u ls place d
tallied_is_chosen {u} {ls} tally view place d sent enough = (
  view,
  record {
    member = has_accepted tally view d;
    enough = enough;
    each = λ x below e.
        let f = found_any (λ (t : Tallied). (t.from == x) && ((t.view == view) && decree_eq t.decree d)) (Told ls place) tally e sent in
        let t = f.0 in
        let h = and_parts (t.from == x) ((t.view == view) && decree_eq t.decree d) f.1 in
        let g = and_parts (t.view == view) (decree_eq t.decree d) h.1 in
        subst (λ (y : ℕ × ℕ × Decree). Sent ls (Verifier y.0) (Accepted y.1 place y.2)) (λ i. (eqb-true t.from x h.0 i, eqb-true t.view view g.0 i, decree_eq-true t.decree d g.1 i)) f.2;
  },
)

pub on_accepted_ok : {u : ℕ} {ls : Letters} {v : ℕ} {s : VerifierState} (from view place : ℕ) (d : Decree) → LettersOk u ls → Stand u ls v s → Sent ls (Verifier from) (Accepted view place d) → StepOk u ls v (on_accepted u v s from view place d)
on_accepted_ok {u} {ls} {v} {s} from view place d ok st sent =
    cond_both (is_fitting s place d) _ (stays s) (StepOk u ls v)
    (λ fits.
    let same = eqb-true place (next_place s) (and_parts (place == next_place s) (may_follow (stands s) d) fits).0 in
    let st1 = Stand-with_tally from view d (subst (λ y. Sent ls (Verifier from) (Accepted view y d)) same sent) st in
    cond_both (is_accepted u (with_tally s from view d).tally view d) _ (stays (with_tally s from view d)) (StepOk u ls v)
    (λ enough.
    let chosen = tallied_is_chosen (with_tally s from view d).tally view (next_place s) d st1.grounds.tallied enough in
    let said = Says-both (to_others u v (Decided place d)) (to_executors u v (Decided place d)) (Says-others (member_count u) v (Decided place d)) (Says-executors (member_count u) v (Decided place d)) in
    try_ok true (to_others u v (Decided place d) ++ to_executors u v (Decided place d)) ok (Stand-learn d chosen st) (PlainOf-said u ls said (subst (λ y. Chosen u ls y d) (sym same) chosen)))
    (λ _. stays_ok ok st1))
    (λ _. stays_ok ok st)

pub on_decided_ok : {u : ℕ} {ls : Letters} {v : ℕ} {s : VerifierState} (from place : ℕ) (d : Decree) → LettersOk u ls → Stand u ls v s → Sent ls (Verifier from) (Decided place d) → StepOk u ls v (on_decided u v s from place d)
on_decided_ok {u} {ls} {v} {s} from place d ok st sent =
    cond_both (is_fitting s place d) _ _ (StepOk u ls v)
    (λ fits.
    let same = eqb-true place (next_place s) (and_parts (place == next_place s) (may_follow (stands s) d) fits).0 in
    try_ok true [] ok (Stand-learn d (subst (λ y. Chosen u ls y d) same (ok.decided from place d sent)) st) (PlainOf-none u ls v))
    (λ _. cond_both (nat_lt (next_place s) place) _ (stays s) (StepOk u ls v)
    (λ _. says_ok (Verifier from) (Ask (next_place s)) ok st tt)
    (λ _. stays_ok ok st))

-- each of these decrees is chosen at its place, so they may be told
decided_from_ok : {u : ℕ} {ls : Letters} (v : ℕ) (to : Node) (place : ℕ) (ds : List Decree) → ((i : ℕ) (d : Decree) → slice_get ds i ≡ Some d → Chosen u ls (place + i) d) → PlainOf u ls v (decided_from v to place ds)
decided_from_ok {u} {ls} v to place [] all = PlainOf-none u ls v
decided_from_ok {u} {ls} v to place (d ∷ ds) all =
    let here_at : place + 0 ≡ place = omega arith in
    PlainOf-both u ls (letter v to (Decided place d) ∷ []) (decided_from v to (place + 1) ds)
    (PlainOf-said u ls (Says-one v to (Decided place d)) (subst (λ y. Chosen u ls y d) here_at (all 0 d refl)))
    (decided_from_ok v to (place + 1) ds (λ i b e. let at : place + suc i ≡ (place + 1) + i = omega arith in subst (λ y. Chosen u ls y b) at (all (suc i) b e)))

decided_after_ok : {u : ℕ} {ls : Letters} {v : ℕ} {s : VerifierState} (to : Node) (skip count place : ℕ) → place ≡ s.start.place + (skip + 1) → Stand u ls v s → PlainOf u ls v (decided_from v to place (take count (drop skip s.log)))
decided_after_ok {u} {ls} {v} {s} to skip count place at st = decided_from_ok v to place (take count (drop skip s.log))
    (λ i d e.
    let there : slice_get s.log (skip + i) ≡ Some d = get_drop skip s.log i (skip + i) d refl (get_take count (drop skip s.log) i d e) in
    let same : s.start.place + ((skip + i) + 1) ≡ place + i = omega (arith, at) in
    subst (λ p. Chosen u ls p d) same (log_get st.grounds.log (skip + i) d there))

told_from_ok : {u : ℕ} {ls : Letters} {v : ℕ} {s : VerifierState} (to : Node) (place : ℕ) → Stand u ls v s → PlainOf u ls v (told_from v s to place)
told_from_ok {u} {ls} {v} {s} to place st = cond_both (nat_le place s.start.place) _ _ (PlainOf u ls v)
    (λ _. start_told_ok to st)
    (λ e. let above = leb-false place s.start.place e in decided_after_ok to (place - (s.start.place + 1)) 16 place (omega (arith, above)) st)

pub on_ask_ok : {u : ℕ} {ls : Letters} {v : ℕ} {s : VerifierState} (to : Node) (place : ℕ) → LettersOk u ls → Stand u ls v s → StepOk u ls v (on_ask v s to place)
on_ask_ok {u} {ls} {v} {s} to place ok st =
    cond_both (place == 0) (stays s) _ (StepOk u ls v)
    (λ _. stays_ok ok st)
    (λ _. plain_step false (told_from v s to place) ok st (told_from_ok to place st))

pub on_trim_ok : {u : ℕ} {ls : Letters} {v : ℕ} {s : VerifierState} (place : ℕ) → LettersOk u ls → Stand u ls v s → StepOk u ls v (on_trim s place)
on_trim_ok {u} {ls} {v} {s} place ok st = cond_both (may_trim s place) _ (stays s) (StepOk u ls v)
    (λ may. plain_step true [] ok (Stand-trim place may st) (PlainOf-none u ls v))
    (λ _. stays_ok ok st)

pub on_stands_ok : {u : ℕ} {ls : Letters} {v : ℕ} {s : VerifierState} (from place : ℕ) (standing : Standing) → LettersOk u ls → Stand u ls v s → Sent ls (Verifier from) (Stands place standing) → StepOk u ls v (verifier_on_stands u v s place standing)
on_stands_ok {u} {ls} {v} {s} from place standing ok st sent = cond_both (is_ahead s place standing) _ (stays s) (StepOk u ls v)
    (λ ahead.
    let above = ltb-true (known s) place (and_parts (nat_lt (known s) place) (could_stand place standing) ahead).0 in
    try_ok true [] ok (Stand-gone place standing above (ok.stood from place standing sent) st) (PlainOf-none u ls v))
    (λ _. stays_ok ok st)

Stand-with_vote : {u : ℕ} {ls : Letters} {v : ℕ} {s : VerifierState} (executor epoch n : ℕ) (previous t : token.Token) → Sent ls (Executor executor) (Token epoch n previous t) → Stand u ls v s → Stand u ls v (record s { votes = votes_with s.votes (vote_key executor epoch n previous) t })
Stand-with_vote {u} {ls} {v} {s} executor epoch n previous t sent st = record {
  grounds = record {
    log = st.grounds.log;
    accepted_sent = st.grounds.accepted_sent;
    leads = st.grounds.leads;
    heard = st.grounds.heard;
    tallied = st.grounds.tallied;
    voted = cond_both (is_some (vote_of s.votes (vote_key executor epoch n previous))) s.votes (s.votes ++ (vote_key executor epoch n previous, t) ∷ []) (Each (Cast ls))
        (λ _. st.grounds.voted)
        (λ _. Each-push (Cast ls) s.votes (vote_key executor epoch n previous, t) st.grounds.voted sent);
  };
  owns = record { kept = st.owns.kept; promised = st.owns.promised; proposed = st.owns.proposed };
}

pub on_token_ok : {u : ℕ} {ls : Letters} {v : ℕ} {s : VerifierState} (executor epoch n : ℕ) (previous t : token.Token) → LettersOk u ls → Stand u ls v s → Sent ls (Executor executor) (Token epoch n previous t) → StepOk u ls v (on_token u v s executor epoch n previous t)
on_token_ok {u} {ls} {v} {s} executor epoch n previous t ok st sent =
    cond_both (is_open (stands s) (vote_key executor epoch n previous)) _ (stays s) (StepOk u ls v)
    (λ _. try_ok false [] ok (Stand-with_vote executor epoch n previous t sent st) (PlainOf-none u ls v))
    (λ _. stays_ok ok st)

pub suspected_ok : {u : ℕ} {ls : Letters} {v : ℕ} {s : VerifierState} → LettersOk u ls → Stand u ls v s → StepOk u ls v (suspected u v s)
suspected_ok {u} {ls} {v} {s} ok st =
    let w = next_led u v s.view in
    let up : s.view + 1 ≤ w = led_from-above u v (s.view + 1) (2 * u) in
    let st1 : Stand u ls v (suspected u v s).state = record {
      grounds = record {
        log = st.grounds.log;
        accepted_sent = λ x d e. let h = st.grounds.accepted_sent x d e in (omega (arith, up, h.0), h.1);
        leads = λ e. eqb-true (w % member_count u) v e;
        heard = λ e. tt;
        tallied = st.grounds.tallied;
        voted = st.grounds.voted;
      };
      owns = record {
        kept = λ x p d h. let k = st.owns.kept x p d h in (omega (arith, up, k.0), k.1);
        promised = λ x k a h. let m = st.owns.promised x k a h in omega (arith, up, m);
        proposed = λ x p d h. let m = st.owns.proposed x p d h in (omega (arith, up, m.0), λ e same. absurd (omega (arith, up, m.0, same)));
      };
    } in
    plain_step true (to_verifiers u v (Change w)) ok st1 (PlainOf-said u ls (Says-verifiers (member_count u) v (Change w)) tt)

pub restarted_ok : {u : ℕ} {ls : Letters} {v : ℕ} {s : VerifierState} → LettersOk u ls → Stand u ls v s → StepOk u ls v (restarted u v s)
restarted_ok {u} {ls} {v} {s} ok st = plain_step false (to_others u v (Ask (next_place s))) ok (Stand-down st) (PlainOf-said u ls (Says-others (member_count u) v (Ask (next_place s))) tt)
