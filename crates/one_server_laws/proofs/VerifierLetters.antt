-- Verifiers and clients send no tokens of executors.
use Rattle.std.proofs.Common.{◌≡◌, ℕ, zero, suc, ◌+◌, ◌-◌, Bool, true, false, List, [], ◌∷◌, ◌++◌, take, drop, Option, Some, None, refl, sym, ◌∙◌, subst}
use Rattle.std.specs.Prelude.{◌==◌, ◌||◌, if◌then◌else◌, nat_lt, nat_le}
use Rattle.std.specs.List.{AllByRecursion}
use Rattle.std.proofs.lemmas.Bool.{cond_both}
use Rattle.decrees.specs.declared.ballot.Ballot.{Ballot}
use Rattle.decrees.specs.declared.ballot.Ballot.TheVariants as ballot
use Rattle.decrees.specs.declared.decree.Decree.{Decree}
use Rattle.decrees.specs.declared.node.Letter.{Letter}
use Rattle.decrees.specs.declared.node.Node.{Node}
use Rattle.decrees.specs.declared.node.Node.TheVariants.{Client, Executor, Verifier}
use Rattle.decrees.specs.Count.{member_count}
use Rattle.decrees.specs.declared.standing.Standing.{Standing}
use Rattle.decrees.specs.Standing.{may_follow}
use Rattle.token.specs.declared.Token as token
use Rattle.decrees.specs.Votes.{is_open, votes_with}
use Rattle.view_change.specs.Promises.{promises_with}
use Rattle.verifier.specs.Tally.{is_accepted}
use Rattle.verifier.specs.declared.input.Input.{Input}
use Rattle.verifier.specs.declared.input.Input.TheVariants as input
use Rattle.verifier.specs.State.{VerifierState, OutcomeView, known, stands, decree_of, next_place, letter, to_verifiers_below, to_verifiers, to_others_below, to_others, to_executors_below, to_executors, decided_from, stays, says, in_view, next_led}
use Rattle.verifier.specs.Lines.{learn, vote_key, proposal, proposing, try_to_propose, on_change, asked_if_behind, is_awaited, on_promise, told, start_told, told_of, on_accept, is_fitting, with_tally, on_accepted, on_decided, told_from, on_ask, may_trim, trimmed_log, on_trim, is_ahead, gone_to, verifier_on_stands, on_token}
use Rattle.verifier.specs.Step.{of_executor, of_verifier, received, step}
use Rattle.verifier.specs.Verifier.{VerifierView, Opens}
use Rattle.agreement_laws.specs.Letters.{Letters, here, there}
use Rattle.custody_laws.specs.Machine.{HaveNoToken}

-- letters of a node that is no executor
pub no_tokens : (n : Node) → ((e : ℕ) → n ≡ Executor e → ⊥) → (ls : Letters) → AllByRecursion (λ (l : Letter Ballot). l.from ≡ n) ls → HaveNoToken ls
no_tokens n other [] own e epoch k previous t s = elim s [ ]
no_tokens n other (l ∷ ls) own e epoch k previous t (here a b) = other e (sym own.0 ∙ a)
no_tokens n other (l ∷ ls) own e epoch k previous t (there s) = no_tokens n other ls own.1 e epoch k previous t s

abbrev pub AreOf : ℕ → Letters → Type 0
AreOf id ls = AllByRecursion (λ (l : Letter Ballot). l.from ≡ Verifier id) ls

pub of_verifier_no_tokens : (id : ℕ) (ls : Letters) → AreOf id ls → HaveNoToken ls
of_verifier_no_tokens id ls own = no_tokens (Verifier id) (λ e same. cc same) ls own

both_of : (id : ℕ) (xs ys : Letters) → AreOf id xs → AreOf id ys → AreOf id (xs ++ ys)
both_of id [] ys h k = k
both_of id (x ∷ xs) ys h k = (h.0, both_of id xs ys h.1 k)

verifiers_of : (id n : ℕ) (b : Ballot) → AreOf id (to_verifiers_below id n b)
verifiers_of id zero b = tt
verifiers_of id (suc n) b = both_of id (to_verifiers_below id n b) (letter id (Verifier n) b ∷ []) (verifiers_of id n b) (refl, tt)

others_of : (id n : ℕ) (b : Ballot) → AreOf id (to_others_below id n b)
others_of id zero b = tt
others_of id (suc n) b = both_of id (to_others_below id n b) (if n == id then [] else letter id (Verifier n) b ∷ []) (others_of id n b)
    (cond_both (n == id) [] (letter id (Verifier n) b ∷ []) (AreOf id) (λ _. tt) (λ _. (refl, tt)))

executors_of : (id n : ℕ) (b : Ballot) → AreOf id (to_executors_below id n b)
executors_of id zero b = tt
executors_of id (suc n) b = both_of id (to_executors_below id n b) (letter id (Executor n) b ∷ []) (executors_of id n b) (refl, tt)

decided_of : (id : ℕ) (to : Node) (place : ℕ) (ds : List Decree) → AreOf id (decided_from id to place ds)
decided_of id to place [] = tt
decided_of id to place (d ∷ ds) = (refl, decided_of id to (place + 1) ds)

told_own : (id : ℕ) (to : Node) (place : ℕ) (d : Option Decree) → AreOf id (told id to place d)
told_own id to place None = tt
told_own id to place (Some d) = (refl, tt)

-- of a place that is known, or was forgotten
told_of_own : (id : ℕ) (s : VerifierState) (to : Node) (place : ℕ) → AreOf id (told_of id s to place)
told_of_own id s to place = cond_both (nat_le place s.start.place) (start_told id to s) (told id to place (decree_of s place)) (AreOf id) (λ _. (refl, tt)) (λ _. told_own id to place (decree_of s place))

told_from_own : (id : ℕ) (s : VerifierState) (to : Node) (place : ℕ) → AreOf id (told_from id s to place)
told_from_own id s to place =
    let ds = take 16 (drop (place - (s.start.place + 1)) s.log) in
    cond_both (nat_le place s.start.place) (start_told id to s) (decided_from id to place ds) (AreOf id) (λ _. (refl, tt)) (λ _. decided_of id to place ds)

abbrev IsOwn : ℕ → OutcomeView → Type 0
IsOwn id o = AreOf id o.letters

proposing_own : (u id : ℕ) (s : VerifierState) (saves : Bool) (letters : Letters) (d : Option Decree) → AreOf id letters → IsOwn id (proposing u id s saves letters d)
proposing_own u id s saves letters None h = h
proposing_own u id s saves letters (Some d) h = both_of id letters (to_verifiers u id (ballot.Accept s.view (next_place s) d)) h (verifiers_of id (member_count u) (ballot.Accept s.view (next_place s) d))

try_own : (u id : ℕ) (s : VerifierState) (saves : Bool) (letters : Letters) → AreOf id letters → IsOwn id (try_to_propose u id s saves letters)
try_own u id s saves letters h = proposing_own u id s saves letters (proposal u s) h

token_own : (u id : ℕ) (s : VerifierState) (e epoch n : ℕ) (previous t : token.Token) → IsOwn id (on_token u id s e epoch n previous t)
token_own u id s e epoch n previous t =
    cond_both (is_open (stands s) (vote_key e epoch n previous)) (try_to_propose u id (record s { votes = votes_with s.votes (vote_key e epoch n previous) t }) false []) (stays s) (IsOwn id)
    (λ _. try_own u id (record s { votes = votes_with s.votes (vote_key e epoch n previous) t }) false [] tt) (λ _. tt)

change_own : (id : ℕ) (s : VerifierState) (from view : ℕ) → IsOwn id (on_change id s from view)
change_own id s from view =
    cond_both (nat_lt view s.view) (stays s) (record { state = in_view s view; saves = nat_lt s.view view; letters = letter id (Verifier from) (ballot.Promise view (known s) s.accepted) ∷ [] }) (IsOwn id)
    (λ _. tt) (λ _. (refl, tt))

behind_own : (id : ℕ) (s : VerifierState) (from count : ℕ) → AreOf id (asked_if_behind id s from count)
behind_own id s from count = cond_both (nat_lt (known s) count) (letter id (Verifier from) (ballot.Ask (next_place s)) ∷ []) [] (AreOf id) (λ _. (refl, tt)) (λ _. tt)

promise_own : (u id : ℕ) (s : VerifierState) (from view count : ℕ) (a : Option (ℕ × Decree)) → IsOwn id (on_promise u id s from view count a)
promise_own u id s from view count a =
    let now = record s { promises = promises_with s.promises (record { from = from; known = count; accepted = a }) } in
    cond_both (is_awaited s from view) (try_to_propose u id now false (asked_if_behind id s from count)) (stays s) (IsOwn id) (λ _. try_own u id now false (asked_if_behind id s from count) (behind_own id s from count)) (λ _. tt)

accept_own : (u id : ℕ) (s : VerifierState) (from view place : ℕ) (d : Decree) → IsOwn id (on_accept u id s from view place d)
accept_own u id s from view place d =
    let accepts : OutcomeView = record { state = record (in_view s view) { accepted = Some (view, d) }; saves = true; letters = to_verifiers u id (ballot.Accepted view place d) } in
    let tells : OutcomeView = record { state = s; saves = false; letters = told_of id s (Verifier from) place } in
    let asks : OutcomeView = says id s (Verifier from) (ballot.Ask (next_place s)) in
    let last : OutcomeView = if may_follow (stands s) d then accepts else stays s in
    let rest : OutcomeView = if nat_lt place (next_place s) then tells else last in
    cond_both ((place == 0) || nat_lt view s.view) (stays s) (if nat_lt (next_place s) place then asks else rest) (IsOwn id) (λ _. tt)
    (λ _. cond_both (nat_lt (next_place s) place) asks rest (IsOwn id) (λ _. (refl, tt))
    (λ _. cond_both (nat_lt place (next_place s)) tells last (IsOwn id) (λ _. told_of_own id s (Verifier from) place)
    (λ _. cond_both (may_follow (stands s) d) accepts (stays s) (IsOwn id) (λ _. verifiers_of id (member_count u) (ballot.Accepted view place d)) (λ _. tt))))

accepted_own : (u id : ℕ) (s : VerifierState) (from view place : ℕ) (d : Decree) → IsOwn id (on_accepted u id s from view place d)
accepted_own u id s from view place d =
    let tells : Letters = to_others u id (ballot.Decided place d) ++ to_executors u id (ballot.Decided place d) in
    let rest : OutcomeView = if is_accepted u (with_tally s from view d).tally view d then try_to_propose u id (learn s d) true tells else stays (with_tally s from view d) in
    cond_both (is_fitting s place d) rest (stays s) (IsOwn id)
    (λ _. cond_both (is_accepted u (with_tally s from view d).tally view d) (try_to_propose u id (learn s d) true tells) (stays (with_tally s from view d)) (IsOwn id)
    (λ _. try_own u id (learn s d) true tells (both_of id (to_others u id (ballot.Decided place d)) (to_executors u id (ballot.Decided place d)) (others_of id (member_count u) (ballot.Decided place d)) (executors_of id (member_count u) (ballot.Decided place d))))
    (λ _. tt))
    (λ _. tt)

decided_own : (u id : ℕ) (s : VerifierState) (from place : ℕ) (d : Decree) → IsOwn id (on_decided u id s from place d)
decided_own u id s from place d =
    let asks : OutcomeView = says id s (Verifier from) (ballot.Ask (next_place s)) in
    cond_both (is_fitting s place d) (try_to_propose u id (learn s d) true []) (if nat_lt (next_place s) place then asks else stays s) (IsOwn id) (λ _. try_own u id (learn s d) true [] tt)
    (λ _. cond_both (nat_lt (next_place s) place) asks (stays s) (IsOwn id) (λ _. (refl, tt)) (λ _. tt))

ask_own : (id : ℕ) (s : VerifierState) (from : Node) (place : ℕ) → IsOwn id (on_ask id s from place)
ask_own id s from place =
    cond_both (place == 0) (stays s) (record { state = s; saves = false; letters = told_from id s from place }) (IsOwn id) (λ _. tt) (λ _. told_from_own id s from place)

trim_own : (id : ℕ) (s : VerifierState) (place : ℕ) → IsOwn id (on_trim s place)
trim_own id s place = cond_both (may_trim s place) (record { state = trimmed_log s place; saves = true; letters = [] }) (stays s) (IsOwn id) (λ _. tt) (λ _. tt)

stands_own : (u id : ℕ) (s : VerifierState) (place : ℕ) (st : Standing) → IsOwn id (verifier_on_stands u id s place st)
stands_own u id s place st =
    let gone = gone_to s (record { place = place; standing = st }) in
    cond_both (is_ahead s place st) (try_to_propose u id gone true []) (stays s) (IsOwn id) (λ _. try_own u id gone true [] tt) (λ _. tt)

executor_own : (u id : ℕ) (s : VerifierState) (e : ℕ) (b : Ballot) → IsOwn id (of_executor u id s e b)
executor_own u id s e (ballot.Token epoch n previous t) = token_own u id s e epoch n previous t
executor_own u id s e (ballot.Ask place) = ask_own id s (Executor e) place
executor_own u id s e (ballot.Accept view place d) = tt
executor_own u id s e (ballot.Accepted view place d) = tt
executor_own u id s e (ballot.Decided place d) = tt
executor_own u id s e (ballot.Change view) = tt
executor_own u id s e (ballot.Promise view count a) = tt
executor_own u id s e (ballot.Stands place st) = tt

verifier_own : (u id : ℕ) (s : VerifierState) (v : ℕ) (b : Ballot) → IsOwn id (of_verifier u id s v b)
verifier_own u id s v (ballot.Token epoch n previous t) = tt
verifier_own u id s v (ballot.Accept view place d) = accept_own u id s v view place d
verifier_own u id s v (ballot.Accepted view place d) = accepted_own u id s v view place d
verifier_own u id s v (ballot.Decided place d) = decided_own u id s v place d
verifier_own u id s v (ballot.Ask place) = ask_own id s (Verifier v) place
verifier_own u id s v (ballot.Change view) = change_own id s v view
verifier_own u id s v (ballot.Promise view count a) = promise_own u id s v view count a
verifier_own u id s v (ballot.Stands place st) = stands_own u id s place st

received_own : (u id : ℕ) (s : VerifierState) (from : Node) (b : Ballot) → IsOwn id (received u id s from b)
received_own u id s (Client c) b = tt
received_own u id s (Executor e) b = executor_own u id s e b
received_own u id s (Verifier v) b = verifier_own u id s v b

-- whatever the input
pub verifier_sends : (u id : ℕ) (s : VerifierState) (x : Input) → AreOf id (step u id s x).letters
verifier_sends u id s (input.Letter l) = received_own u id s l.from l.body
verifier_sends u id s input.Suspect = verifiers_of id (member_count u) (ballot.Change (next_led u id s.view))
verifier_sends u id s (input.Trim place) = trim_own id s place

-- and if it is opened
pub opened_sends : (u id : ℕ) (saved : Option (List ℕ)) (failures : ℕ) (told_fails : Bool) (v : VerifierView) (new : Letters) → Opens u id saved failures told_fails v new → AreOf id new
opened_sends u id None failures told_fails v new h = subst (AreOf id) (sym h.1) tt
opened_sends u id (Some bytes) failures told_fails v new h = subst (AreOf id) (sym h.2) (others_of id (member_count u) (ballot.Ask (next_place v.state)))
