-- Which decrees are chosen, computed from the letters.
use Rattle.std.specs.Prelude.{ℕ, zero, suc, ◌+◌, ◌==◌, ◌&&◌, Bool, false, List, [], ◌∷◌, Option, None, Some, max, if◌then◌else◌}
use Rattle.std.specs.List.{list_any}
use Rattle.std.specs.Option.{option_or}
use Rattle.decrees.specs.declared.decree.Decree.{Decree}
use Rattle.decrees.specs.declared.ballot.Ballot.{Ballot}
use Rattle.decrees.specs.declared.ballot.Ballot.TheVariants.{Token, Accept, Accepted, Decided, Ask, Change, Promise, Stands}
use Rattle.decrees.specs.declared.node.Node.{Node}
use Rattle.decrees.specs.declared.node.Node.TheVariants.{Client, Executor, Verifier}
use Rattle.decrees.specs.Count.{is_quorum}
use Rattle.verifier.specs.Tally.{decree_eq}
use Rattle.agreement_laws.specs.Letters.{Letters}

abbrev pub is_verifier : ℕ → Node → Bool
is_verifier v (Client c) = false
is_verifier v (Executor e) = false
is_verifier v (Verifier x) = x == v

abbrev pub says_accepted : ℕ → ℕ → Decree → Ballot → Bool
says_accepted view place d (Accepted x p b) = (x == view) && ((p == place) && decree_eq b d)
says_accepted view place d (Token e n previous token) = false
says_accepted view place d (Accept x p b) = false
says_accepted view place d (Decided p b) = false
says_accepted view place d (Ask p) = false
says_accepted view place d (Change x) = false
says_accepted view place d (Promise x k a) = false
says_accepted view place d (Stands p s) = false

-- the verifier has accepted the decree for the place in the view
abbrev pub has_sent_accepted : Letters → ℕ → ℕ → Decree → ℕ → Bool
has_sent_accepted ls view place d v = list_any (λ l. is_verifier v l.from && says_accepted view place d l.body) ls

-- more than u verifiers have
abbrev pub is_chosen_in : ℕ → Letters → ℕ → ℕ → Decree → Bool
is_chosen_in u ls view place d = is_quorum u (has_sent_accepted ls view place d)

-- the decree that the body says is accepted for the place, if that is chosen
abbrev pub chosen_by : ℕ → Letters → ℕ → Ballot → Option Decree
chosen_by u ls place (Accepted view p d) = if (p == place) && is_chosen_in u ls view place d then Some d else None
chosen_by u ls place (Token e n previous token) = None
chosen_by u ls place (Accept x p b) = None
chosen_by u ls place (Decided p b) = None
chosen_by u ls place (Ask p) = None
chosen_by u ls place (Change x) = None
chosen_by u ls place (Promise x k a) = None
chosen_by u ls place (Stands p s) = None

-- of all letters these may name the decree
abbrev pub chosen_among : ℕ → Letters → ℕ → Letters → Option Decree
chosen_among u all place [] = None
chosen_among u all place (l ∷ ls) = option_or (chosen_by u all place l.body) (chosen_among u all place ls)

-- the decree that is chosen at the place
abbrev pub chosen_at : ℕ → Letters → ℕ → Option Decree
chosen_at u ls place = chosen_among u ls place ls

abbrev pub place_of_ballot : Ballot → ℕ
place_of_ballot (Accepted view place d) = place
place_of_ballot (Token e n previous token) = 0
place_of_ballot (Accept x p b) = 0
place_of_ballot (Decided p b) = 0
place_of_ballot (Ask p) = 0
place_of_ballot (Change x) = 0
place_of_ballot (Promise x k a) = 0
place_of_ballot (Stands p s) = 0

-- the greatest place for which a decree was accepted
abbrev pub last_place : Letters → ℕ
last_place [] = 0
last_place (l ∷ ls) = max (place_of_ballot l.body) (last_place ls)

abbrev pub before_gap : Option Decree → List Decree → List Decree
before_gap None ds = []
before_gap (Some d) ds = d ∷ ds

-- the chosen decrees of so many places from this one on, up to the first place without one
abbrev pub chosen_from : ℕ → Letters → ℕ → ℕ → List Decree
chosen_from u ls place zero = []
chosen_from u ls place (suc n) = before_gap (chosen_at u ls place) (chosen_from u ls (place + 1) n)

-- the chosen decrees, from place 1 on
abbrev pub chosen : ℕ → Letters → List Decree
chosen u ls = chosen_from u ls 1 (last_place ls)
