-- What a verifier keeps, and what a step leaves.
use Rattle.std.specs.Prelude.{ℕ, zero, suc, ◌+◌, ◌*◌, ◌==◌, ◌&&◌, ◌%◌, Bool, false, List, [], ◌∷◌, ◌++◌, length, Option, None, if◌then◌else◌}
use Rattle.decrees.specs.declared.decree.Decree.{Decree}
use Rattle.decrees.specs.declared.ballot.Ballot.{Ballot}
use Rattle.decrees.specs.declared.ballot.Ballot.TheVariants.{Decided}
use Rattle.decrees.specs.declared.standing.Standing.{Standing}
use Rattle.decrees.specs.declared.node.Letter.{Letter}
use Rattle.decrees.specs.declared.node.Node.{Node}
use Rattle.decrees.specs.declared.node.Node.TheVariants.{Executor, Verifier}
use Rattle.decrees.specs.Count.{member_count}
use Rattle.decrees.specs.Votes.{Vote}
use Rattle.view_change.specs.declared.promises.Promise.{Promise}
use Rattle.view_change.specs.Promises.{promises_with}
use Rattle.verifier.specs.declared.tally.Tallied.{Tallied}
use Rattle.verifier.specs.declared.outcome.Outcome.{Outcome}
use Rattle.decrees.specs.declared.start.Start.{Start}
use Rattle.decrees.specs.Start.{first_start, stands_from, decree_after}

-- The first four are saved, so they stand for the record too. The rest is lost at a crash.
pub record VerifierState : Type 0 where
  pub view : ℕ
  -- the decrees up to its place are forgotten, and what they stand for is kept
  pub start : Start
  -- the decrees after that
  pub log : List Decree
  -- what it has accepted, and in which view, for the place after its log
  pub accepted : Option (ℕ × Decree)
  -- whether it leads its view: only then do the next three count
  pub leads : Bool
  pub proposed : Bool
  pub doubt : Bool
  pub promises : List Promise
  pub tally : List Tallied
  pub votes : List Vote

-- what a step leaves: the state, whether its record is saved before the letters leave, and these in order
pub record OutcomeView : Type 0 where
  pub state : VerifierState
  pub saves : Bool
  pub letters : List (Letter Ballot)

-- its state after a step, and what the step leaves to be done
abbrev pub verifier_left : VerifierState → Outcome → OutcomeView
verifier_left s outcome = record { state = s; saves = outcome.saves; letters = outcome.letters.items }

-- how many decrees it knows
abbrev pub known : VerifierState → ℕ
known s = s.start.place + length s.log

-- what they stand for
abbrev pub stands : VerifierState → Standing
stands s = stands_from s.start.standing s.log

-- the decree of a place, if it is known and not forgotten
abbrev pub decree_of : VerifierState → ℕ → Option Decree
decree_of s place = decree_after s.start.place s.log place

-- the place after them
abbrev pub next_place : VerifierState → ℕ
next_place s = known s + 1

abbrev pub letter : ℕ → Node → Ballot → Letter Ballot
letter id to body = record { from = Verifier id; to = to; body = body }

abbrev pub to_verifiers_below : ℕ → ℕ → Ballot → List (Letter Ballot)
to_verifiers_below id zero body = []
to_verifiers_below id (suc n) body = to_verifiers_below id n body ++ letter id (Verifier n) body ∷ []

-- to all verifiers, itself too
abbrev pub to_verifiers : ℕ → ℕ → Ballot → List (Letter Ballot)
to_verifiers u id body = to_verifiers_below id (member_count u) body

abbrev pub to_others_below : ℕ → ℕ → Ballot → List (Letter Ballot)
to_others_below id zero body = []
to_others_below id (suc n) body = to_others_below id n body ++ (if n == id then [] else letter id (Verifier n) body ∷ [])

-- to all other verifiers
abbrev pub to_others : ℕ → ℕ → Ballot → List (Letter Ballot)
to_others u id body = to_others_below id (member_count u) body

abbrev pub to_executors_below : ℕ → ℕ → Ballot → List (Letter Ballot)
to_executors_below id zero body = []
to_executors_below id (suc n) body = to_executors_below id n body ++ letter id (Executor n) body ∷ []

abbrev pub to_executors : ℕ → ℕ → Ballot → List (Letter Ballot)
to_executors u id body = to_executors_below id (member_count u) body

-- these decrees, of the places from this one on
abbrev pub decided_from : ℕ → Node → ℕ → List Decree → List (Letter Ballot)
decided_from id to place [] = []
decided_from id to place (d ∷ ds) = letter id to (Decided place d) ∷ decided_from id to (place + 1) ds

-- nothing changes
abbrev pub stays : VerifierState → OutcomeView
stays s = record { state = s; saves = false; letters = [] }

-- one letter, and nothing to save
abbrev pub says : ℕ → VerifierState → Node → Ballot → OutcomeView
says id s to body = record { state = s; saves = false; letters = letter id to body ∷ [] }

-- the view is this one from now on; who led a lower one leads no more
abbrev pub in_view : VerifierState → ℕ → VerifierState
in_view s view = record s { view = view; leads = s.leads && (view == s.view) }

-- what a crash leaves
abbrev pub down : VerifierState → VerifierState
down s = record { view = s.view; start = s.start; log = s.log; accepted = s.accepted; leads = false; proposed = false; doubt = false; promises = []; tally = []; votes = [] }

-- promises of all, that know nothing and have accepted nothing
abbrev pub first_promises : ℕ → List Promise
first_promises zero = []
first_promises (suc v) = promises_with (first_promises v) (record { from = v; known = 0; accepted = None })

-- a new verifier; the first one leads view 0
abbrev pub new_state : ℕ → ℕ → VerifierState
new_state u id = record { view = 0; start = first_start; log = []; accepted = None; leads = id == 0; proposed = false; doubt = false; promises = if id == 0 then first_promises (member_count u) else []; tally = []; votes = [] }

-- the verifier leads the view
abbrev pub is_led_by : ℕ → ℕ → ℕ → Bool
is_led_by u id view = (view % member_count u) == id

-- the first view from this one on that the verifier leads, looked for among so many and the one after them
abbrev pub led_from : ℕ → ℕ → ℕ → ℕ → ℕ
led_from u id view zero = view
led_from u id view (suc n) = if is_led_by u id view then view else led_from u id (view + 1) n

-- the least view above this one that the verifier leads
abbrev pub next_led : ℕ → ℕ → ℕ → ℕ
next_led u id view = led_from u id (view + 1) (2 * u)
