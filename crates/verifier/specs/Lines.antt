-- What a verifier does with each input, line by line.
use Rattle.std.specs.Prelude.{ℕ, ◌+◌, ◌-◌, ◌==◌, ◌&&◌, ◌||◌, Bool, true, false, not, List, [], ◌∷◌, ◌++◌, take, drop, Option, None, Some, nat_lt, nat_le, if◌then◌else◌}
use Rattle.token.specs.declared.Token.{Token}
use Rattle.decrees.specs.declared.decree.Decree.{Decree}
use Rattle.decrees.specs.declared.decree.Decree.TheVariants as decree
use Rattle.decrees.specs.declared.ballot.Ballot.TheVariants.{Accept, Accepted, Decided, Ask, Change, Promise, Stands}
use Rattle.decrees.specs.declared.ballot.Ballot.{Ballot}
use Rattle.decrees.specs.declared.node.Letter.{Letter}
use Rattle.decrees.specs.declared.node.Node.{Node}
use Rattle.decrees.specs.declared.node.Node.TheVariants.{Verifier}
use Rattle.decrees.specs.declared.votes.Verdict.{Verdict}
use Rattle.decrees.specs.declared.votes.Verdict.TheVariants as verdict_variant
use Rattle.decrees.specs.declared.votes.VoteKey.{VoteKey}
use Rattle.decrees.specs.declared.standing.Standing.{Standing}
use Rattle.decrees.specs.Standing.{standing_after, may_follow}
use Rattle.decrees.specs.Votes.{is_open, open_votes, votes_with, verdict}
use Rattle.view_change.specs.declared.promises.Choice.{Choice}
use Rattle.view_change.specs.declared.promises.Choice.TheVariants as choice_variant
use Rattle.view_change.specs.Promises.{has_promised, promises_with, choice}
use Rattle.verifier.specs.Tally.{tally_with, is_accepted}
use Rattle.verifier.specs.State.{VerifierState, OutcomeView, known, stands, decree_of, next_place, letter, to_verifiers, to_others, to_executors, decided_from, stays, says, in_view, down, is_led_by, next_led}
use Rattle.decrees.specs.declared.start.Start.{Start}
use Rattle.decrees.specs.Start.{stands_from, could_stand}

-- one decree more is known
abbrev pub learn : VerifierState → Decree → VerifierState
learn s d = record s { log = s.log ++ d ∷ []; accepted = None; proposed = false; tally = []; votes = open_votes (standing_after (stands s) d) s.votes }

-- what the verdict leaves to a leader that is free to propose
abbrev pub by_verdict : ℕ → Bool → Verdict → Option Decree
by_verdict n doubt (verdict_variant.Commit token) = Some (decree.Commit n token)
by_verdict n doubt verdict_variant.Hopeless = Some decree.Rollback
by_verdict n doubt verdict_variant.Wait = if doubt then Some decree.Rollback else None

abbrev pub by_choice : Choice → Option Decree → Option Decree
by_choice choice_variant.Wait fresh = None
by_choice (choice_variant.Must d) fresh = Some d
by_choice choice_variant.Free fresh = fresh

-- what it may propose for the next place: what was accepted, else a Commit by the votes, else a Rollback
abbrev pub proposal : ℕ → VerifierState → Option Decree
proposal u s =
    if s.leads && not s.proposed
    then by_choice (choice u (known s) s.promises) (by_verdict ((stands s).n + 1) s.doubt (verdict u (stands s) s.votes))
    else None

abbrev pub proposing : ℕ → ℕ → VerifierState → Bool → List (Letter Ballot) → Option Decree → OutcomeView
proposing u id s saves first None = record { state = s; saves = saves; letters = first }
proposing u id s saves first (Some d) =
    record {
      state = record s { proposed = true; doubt = false };
      saves = saves;
      letters = first ++ to_verifiers u id (Accept s.view (next_place s) d);
    }

-- a step that leaves this state and these letters, and then tries to propose
abbrev pub try_to_propose : ℕ → ℕ → VerifierState → Bool → List (Letter Ballot) → OutcomeView
try_to_propose u id s saves first = proposing u id s saves first (proposal u s)

abbrev pub vote_key : ℕ → ℕ → ℕ → Token → VoteKey
vote_key executor epoch n previous = record { epoch = epoch; n = n; executor = executor; previous = previous.0 }

abbrev pub on_token : ℕ → ℕ → VerifierState → ℕ → ℕ → ℕ → Token → Token → OutcomeView
on_token u id s executor epoch n previous token =
    if is_open (stands s) (vote_key executor epoch n previous)
    then try_to_propose u id (record s { votes = votes_with s.votes (vote_key executor epoch n previous) token }) false []
    else stays s

abbrev pub suspected : ℕ → ℕ → VerifierState → OutcomeView
suspected u id s =
    let view = next_led u id s.view in
    record {
      state = record s { view = view; leads = is_led_by u id view; proposed = false; doubt = true; promises = [] };
      saves = true;
      letters = to_verifiers u id (Change view);
    }

abbrev pub on_change : ℕ → VerifierState → ℕ → ℕ → OutcomeView
on_change id s from view =
    if nat_lt view s.view then stays s
    else record { state = in_view s view; saves = nat_lt s.view view; letters = letter id (Verifier from) (Promise view (known s) s.accepted) ∷ [] }

-- asks for what it does not know, if the sender knows more
abbrev pub asked_if_behind : ℕ → VerifierState → ℕ → ℕ → List (Letter Ballot)
asked_if_behind id s from count = if nat_lt (known s) count then letter id (Verifier from) (Ask (next_place s)) ∷ [] else []

-- the promise is to this lead, and the first of its sender
abbrev pub is_awaited : VerifierState → ℕ → ℕ → Bool
is_awaited s from view = s.leads && ((view == s.view) && not (has_promised s.promises from))

abbrev pub on_promise : ℕ → ℕ → VerifierState → ℕ → ℕ → ℕ → Option (ℕ × Decree) → OutcomeView
on_promise u id s from view count accepted =
    if is_awaited s from view
    then try_to_propose u id (record s { promises = promises_with s.promises (record { from = from; known = count; accepted = accepted }) }) false (asked_if_behind id s from count)
    else stays s

-- the decree of a place, if it is known
abbrev pub told : ℕ → Node → ℕ → Option Decree → List (Letter Ballot)
told id to place None = []
told id to place (Some d) = letter id to (Decided place d) ∷ []

-- what stands after all that it knows
abbrev pub start_told : ℕ → Node → VerifierState → List (Letter Ballot)
start_told id to s = letter id to (Stands (known s) (stands s)) ∷ []

-- what is known of an earlier place
abbrev pub told_of : ℕ → VerifierState → Node → ℕ → List (Letter Ballot)
told_of id s to place = if nat_le place s.start.place then start_told id to s else told id to place (decree_of s place)

-- the proposal is of no lower view, and of no place whose Commit would have another number
abbrev pub is_acceptable : VerifierState → ℕ → ℕ → Decree → Bool
is_acceptable s view place d = nat_lt 0 place && (nat_le s.view view && (not (place == next_place s) || may_follow (stands s) d))

abbrev pub on_accept : ℕ → ℕ → VerifierState → ℕ → ℕ → ℕ → Decree → OutcomeView
on_accept u id s from view place d =
    if (place == 0) || nat_lt view s.view then stays s
    else if nat_lt (next_place s) place then says id s (Verifier from) (Ask (next_place s))
    else if nat_lt place (next_place s) then record { state = s; saves = false; letters = told_of id s (Verifier from) place }
    else if may_follow (stands s) d then record { state = record (in_view s view) { accepted = Some (view, d) }; saves = true; letters = to_verifiers u id (Accepted view place d) }
    else stays s

-- the decree is of the next place and may come next
abbrev pub is_fitting : VerifierState → ℕ → Decree → Bool
is_fitting s place d = (place == next_place s) && may_follow (stands s) d

abbrev pub with_tally : VerifierState → ℕ → ℕ → Decree → VerifierState
with_tally s from view d = record s { tally = tally_with s.tally (record { from = from; view = view; decree = d }) }

abbrev pub on_accepted : ℕ → ℕ → VerifierState → ℕ → ℕ → ℕ → Decree → OutcomeView
on_accepted u id s from view place d =
    if is_fitting s place d
    then (if is_accepted u (with_tally s from view d).tally view d
    then try_to_propose u id (learn s d) true (to_others u id (Decided place d) ++ to_executors u id (Decided place d))
    else stays (with_tally s from view d))
    else stays s

-- the decree may come next, or is of a later place
abbrev pub is_news : VerifierState → ℕ → Decree → Bool
is_news s place d = is_fitting s place d || nat_lt (next_place s) place

abbrev pub on_decided : ℕ → ℕ → VerifierState → ℕ → ℕ → Decree → OutcomeView
on_decided u id s from place d =
    if is_fitting s place d then try_to_propose u id (learn s d) true []
    else if nat_lt (next_place s) place then says id s (Verifier from) (Ask (next_place s))
    else stays s

-- one letter of what stands, if the place is forgotten; else the decrees from the place on, at most 16
abbrev pub told_from : ℕ → VerifierState → Node → ℕ → List (Letter Ballot)
told_from id s to place =
    if nat_le place s.start.place
    then start_told id to s
    else decided_from id to place (take 16 (drop (place - (s.start.place + 1)) s.log))

abbrev pub on_ask : ℕ → VerifierState → Node → ℕ → OutcomeView
on_ask id s from place =
    if place == 0 then stays s
    else record { state = s; saves = false; letters = told_from id s from place }

-- it knows the decrees up to this place, and has not forgotten all of them
abbrev pub may_trim : VerifierState → ℕ → Bool
may_trim s place = nat_lt s.start.place place && nat_le place (known s)

-- how many decrees are forgotten
abbrev pub forgets : VerifierState → ℕ → ℕ
forgets s place = place - s.start.place

abbrev pub trimmed_log : VerifierState → ℕ → VerifierState
trimmed_log s place = record s { start = record { place = place; standing = stands_from s.start.standing (take (forgets s place) s.log) }; log = drop (forgets s place) s.log }

abbrev pub on_trim : VerifierState → ℕ → OutcomeView
on_trim s place = if may_trim s place then record { state = trimmed_log s place; saves = true; letters = [] } else stays s

-- this could stand there, and the verifier does not know as much
abbrev pub is_ahead : VerifierState → ℕ → Standing → Bool
is_ahead s place standing = nat_lt (known s) place && could_stand place standing

-- the log begins here from now on, with no decree
abbrev pub gone_to : VerifierState → Start → VerifierState
gone_to s start = record s { start = start; log = []; accepted = None; proposed = false; tally = []; votes = open_votes start.standing s.votes }

abbrev pub verifier_on_stands : ℕ → ℕ → VerifierState → ℕ → Standing → OutcomeView
verifier_on_stands u id s place standing =
    if is_ahead s place standing
    then try_to_propose u id (gone_to s (record { place = place; standing = standing })) true []
    else stays s

-- what a verifier does that goes on from its record
abbrev pub restarted : ℕ → ℕ → VerifierState → OutcomeView
restarted u id s = record { state = down s; saves = false; letters = to_others u id (Ask (next_place s)) }
