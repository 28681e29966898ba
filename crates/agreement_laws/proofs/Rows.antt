-- Small plays of the machine, computed.
use Rattle.std.proofs.Common.{◌≡◌, ℕ, List, [], ◌∷◌, ◌++◌, Option, Some, None, refl, replicate, slice_get, length, option_and_then}
use Rattle.token.specs.declared.Token as token
use Rattle.decrees.specs.declared.decree.Decree.{Decree}
use Rattle.decrees.specs.declared.decree.Decree.TheVariants.{Commit, Rollback}
use Rattle.decrees.specs.declared.ballot.Ballot.TheVariants.{Token, Accept}
use Rattle.decrees.specs.declared.node.Node.TheVariants.{Executor, Verifier}
use Rattle.verifier.specs.State.{letter}
use Rattle.agreement_laws.specs.Machine.{VerifierSlot, New, Up, Stopped, Event, Deliver, Suspect, Crash, Restart, Send, Done, StopsAfter, reached, letters_of}
use Rattle.agreement_laws.specs.ChosenList.{chosen}

abbrev zeros : token.Token
zeros = record { 0 = replicate 32 0 }

abbrev sevens : token.Token
sevens = record { 0 = replicate 32 7 }

abbrev opens : ℕ → Event
opens v = Restart v Done

abbrev comes : ℕ → Event
comes k = Deliver k Done

-- executor e says to verifier v that the state after batch 1 has this token
abbrev says_token : ℕ → ℕ → token.Token → Event
says_token e v t = Send (record { from = Executor e; to = Verifier v; body = Token 1 1 zeros t })

-- what a verifier that is up knows
abbrev log_of : VerifierSlot → List Decree
log_of New = []
log_of (Up s saved) = s.log
log_of (Stopped saved) = saved.log

abbrev logs : List VerifierSlot → List (List Decree)
logs [] = []
logs (slot ∷ slots) = log_of slot ∷ logs slots

abbrev record_accepted : VerifierSlot → Option (ℕ × Decree)
record_accepted New = None
record_accepted (Up s saved) = saved.accepted
record_accepted (Stopped saved) = saved.accepted

-- One verifier and one executor: the token comes, the verifier proposes to itself, accepts, hears of it and knows.
abbrev single : List Event
single = opens 0 ∷ says_token 0 0 sevens ∷ comes 0 ∷ comes 1 ∷ comes 2 ∷ []

single_knows : logs (reached 0 single).verifiers ≡ (Commit 1 sevens ∷ []) ∷ []
single_knows = refl

single_chosen : chosen 0 (letters_of 0 single) ≡ Commit 1 sevens ∷ []
single_chosen = refl

-- nothing is chosen before it has accepted
single_before : chosen 0 (letters_of 0 (opens 0 ∷ says_token 0 0 sevens ∷ comes 0 ∷ [])) ≡ []
single_before = refl

-- Three verifiers. Two tokens reach verifier 0, which proposes to commit (letters 2 to 4).
abbrev commit : Decree
commit = Commit 1 sevens

abbrev proposed : List Event
proposed = opens 0 ∷ opens 1 ∷ opens 2 ∷ says_token 0 0 sevens ∷ says_token 2 0 sevens ∷ comes 0 ∷ comes 1 ∷ []

-- Verifier 1 alone accepts, verifier 0 crashes. Verifier 1 leads view 1 with its own promise and that of verifier 2, and proposes the same again (letters 13 to 15).
abbrev view_changed : List Event
view_changed = proposed ++ comes 3 ∷ Crash 0 ∷ Suspect 1 Done ∷ comes 9 ∷ comes 10 ∷ comes 12 ∷ comes 11 ∷ []

proposes_again : slice_get (letters_of 1 view_changed) 15 ≡ Some (letter 1 (Verifier 2) (Accept 1 1 commit))
proposes_again = refl

not_chosen_yet : chosen 1 (letters_of 1 view_changed) ≡ []
not_chosen_yet = refl

-- Verifiers 1 and 2 accept it, so it is chosen; verifier 1 hears of that and knows, and tells verifier 2.
abbrev accepted_again : List Event
accepted_again = view_changed ++ comes 14 ∷ comes 15 ∷ []

chosen_again : chosen 1 (letters_of 1 accepted_again) ≡ commit ∷ []
chosen_again = refl

abbrev told_again : List Event
told_again = accepted_again ++ comes 17 ∷ comes 20 ∷ comes 23 ∷ []

known_again : logs (reached 1 told_again).verifiers ≡ [] ∷ (commit ∷ []) ∷ (commit ∷ []) ∷ []
known_again = refl

-- Verifier 0 is opened again, asks verifier 1 and knows too.
asked_again : logs (reached 1 (told_again ++ opens 0 ∷ comes 27 ∷ comes 29 ∷ [])).verifiers ≡ (commit ∷ []) ∷ (commit ∷ []) ∷ (commit ∷ []) ∷ []
asked_again = refl

-- Two proposals that differ: verifier 0 accepts its own of view 0, and verifiers 1 and 2, which do not know of it, promise to verifier 1, which proposes a Rollback in view 1.
abbrev conflict : List Event
conflict = proposed ++ comes 2 ∷ Suspect 1 Done ∷ comes 9 ∷ comes 10 ∷ comes 11 ∷ comes 12 ∷ []

proposes_other : slice_get (letters_of 1 conflict) 15 ≡ Some (letter 1 (Verifier 2) (Accept 1 1 Rollback))
proposes_other = refl

-- They accept it, and the old proposal comes too late to both: the Rollback alone is chosen, and verifier 0 learns it.
abbrev decided_other : List Event
decided_other = conflict ++ comes 14 ∷ comes 15 ∷ comes 3 ∷ comes 4 ∷ []

chosen_other : chosen 1 (letters_of 1 decided_other) ≡ Rollback ∷ []
chosen_other = refl

known_other : logs (reached 1 (decided_other ++ comes 17 ∷ comes 20 ∷ comes 22 ∷ [])).verifiers ≡ (Rollback ∷ []) ∷ (Rollback ∷ []) ∷ [] ∷ []
known_other = refl

-- A verifier that stops once its record is saved has accepted, and has said nothing.
abbrev stopped_after : List Event
stopped_after = proposed ++ Deliver 3 StopsAfter ∷ []

record_has_it : option_and_then record_accepted (slice_get (reached 1 stopped_after).verifiers 1) ≡ Some (0, commit)
record_has_it = refl

nothing_said : length (letters_of 1 stopped_after) ≡ 5
nothing_said = refl

-- A leader that is opened again in its view leads it no more: a token makes it propose nothing.
leads_no_more : length (letters_of 1 (proposed ++ Crash 0 ∷ opens 0 ∷ comes 0 ∷ comes 1 ∷ [])) ≡ 7
leads_no_more = refl

-- Plays that would have two decrees chosen at one place, or one on too few tokens, if a line of the verifier were left out.

-- A decree that verifiers 0 and 1 have accepted is proposed again by a leader whose quorum has verifier 1 (who forgets what was accepted would propose a Rollback).
abbrev must_repeat : List Event
must_repeat = proposed ++ comes 2 ∷ comes 3 ∷ Suspect 1 Done ∷ comes 12 ∷ comes 13 ∷ comes 14 ∷ comes 15 ∷ comes 17 ∷ comes 18 ∷ []

repeats : chosen 1 (letters_of 1 must_repeat) ≡ commit ∷ []
repeats = refl

-- The same, if verifier 1 was opened again between (if a record had not what was accepted, a Rollback would be chosen too).
abbrev must_remember : List Event
must_remember = proposed ++ comes 2 ∷ comes 3 ∷ Crash 1 ∷ opens 1 ∷ Suspect 1 Done ∷ comes 14 ∷ comes 15 ∷ comes 16 ∷ comes 17 ∷ []

remembers : slice_get (letters_of 1 must_remember) 20 ≡ Some (letter 1 (Verifier 2) (Accept 1 1 commit))
remembers = refl

-- Verifier 1 leads view 1 and proposes a Rollback, which it and verifier 2 accept; the tokens that come then make it propose nothing more for this place.
abbrev only_once : List Event
only_once = opens 0 ∷ opens 1 ∷ opens 2 ∷ Suspect 1 Done ∷ comes 1 ∷ comes 2 ∷ comes 3 ∷ comes 4 ∷ comes 6 ∷ comes 7 ∷ says_token 0 1 sevens ∷ says_token 1 1 sevens ∷ []

proposes_once : letters_of 1 (only_once ++ comes 14 ∷ comes 15 ∷ []) ≡ letters_of 1 only_once
proposes_once = refl

-- One token is too few, and so are two of one executor.
one_token : length (letters_of 1 (opens 0 ∷ says_token 0 0 sevens ∷ says_token 0 0 sevens ∷ comes 0 ∷ comes 1 ∷ [])) ≡ 2
one_token = refl
