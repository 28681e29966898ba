-- What is known after a step that learns a decree or goes to a start.
use Rattle.std.proofs.Common.{◌≡◌, ℕ, Bool, true, false, List, [], ◌∷◌, ◌++◌, Option, Some, None, refl, ap, ◌∙◌}
use Rattle.std.proofs.lemmas.Bool.{cond-true}
use Rattle.std.proofs.lemmas.List.Sums.{fold_push}
use Rattle.decrees.specs.declared.decree.Decree.{Decree}
use Rattle.decrees.specs.declared.standing.Standing.{Standing}
use Rattle.decrees.specs.Standing.{standing_after}
use Rattle.decrees.specs.Start.{stands_from}
use Rattle.decrees.specs.Log.{LogView}
use Rattle.decrees.specs.Votes.{open_votes}
use Rattle.decrees.specs.declared.ballot.Ballot.{Ballot}
use Rattle.decrees.specs.declared.ballot.Ballot.TheVariants.{Decided}
use Rattle.decrees.specs.declared.node.Letter.{Letter}
use Rattle.verifier.specs.State.{VerifierState, OutcomeView, next_place, to_others, to_executors}
use Rattle.verifier.specs.Lines.{learn, gone_to, proposing, proposal, on_accepted, on_decided, verifier_on_stands, is_fitting, is_ahead, with_tally}
use Rattle.verifier.specs.Tally.{is_accepted}

proposing-next : (u id : ℕ) (s : VerifierState) (saves : Bool) (first : List (Letter Ballot)) (o : Option Decree) → next_place (proposing u id s saves first o).state ≡ next_place s
proposing-next u id s saves first None = refl
proposing-next u id s saves first (Some d) = refl

pub decided-next : (u id : ℕ) (s : VerifierState) (from place : ℕ) (d : Decree) → is_fitting s place d ≡ true → next_place (on_decided u id s from place d).state ≡ next_place (learn s d)
decided-next u id s from place d e =
    ap (λ (o : OutcomeView). next_place o.state) (cond-true (is_fitting s place d) _ _ e)
    ∙ proposing-next u id (learn s d) true [] (proposal u (learn s d))

pub accepted-next : (u id : ℕ) (s : VerifierState) (from view place : ℕ) (d : Decree) → is_fitting s place d ≡ true → is_accepted u (with_tally s from view d).tally view d ≡ true
    → next_place (on_accepted u id s from view place d).state ≡ next_place (learn s d)
accepted-next u id s from view place d e f =
    ap (λ (o : OutcomeView). next_place o.state) (cond-true (is_fitting s place d) _ _ e ∙ cond-true (is_accepted u (with_tally s from view d).tally view d) _ _ f)
    ∙ proposing-next u id (learn s d) true (to_others u id (Decided place d) ++ to_executors u id (Decided place d)) (proposal u (learn s d))

pub stands-next : (u id : ℕ) (s : VerifierState) (place : ℕ) (standing : Standing) → is_ahead s place standing ≡ true
    → next_place (verifier_on_stands u id s place standing).state ≡ next_place (gone_to s (record { place = place; standing = standing }))
stands-next u id s place standing e =
    ap (λ (o : OutcomeView). next_place o.state) (cond-true (is_ahead s place standing) _ _ e)
    ∙ proposing-next u id (gone_to s (record { place = place; standing = standing })) true [] (proposal u (gone_to s (record { place = place; standing = standing })))

-- a state with this log, and nothing heard of the place after it
abbrev pub with_log : VerifierState → LogView → VerifierState
with_log s l = record s { start = l.start; log = l.decrees; accepted = None; proposed = false; tally = []; votes = open_votes (stands_from l.start.standing l.decrees) s.votes }

pub learned_is : (s : VerifierState) (d : Decree) → with_log s (record { start = s.start; decrees = s.log ++ d ∷ [] }) ≡ learn s d
learned_is s d = ap (λ (z : Standing). record s { log = s.log ++ d ∷ []; accepted = None; proposed = false; tally = []; votes = open_votes z s.votes }) (fold_push standing_after s.start.standing s.log d)
