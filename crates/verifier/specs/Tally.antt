-- The acceptances of the next place that were heard.
use Rattle.std.specs.Prelude.{ℕ, ◌==◌, ◌&&◌, Bool, true, false, List, [], ◌∷◌, ◌++◌, if◌then◌else◌}
use Rattle.std.specs.List.{list_any}
use Rattle.decrees.specs.declared.decree.Decree.{Decree}
use Rattle.decrees.specs.declared.decree.Decree.TheVariants.{Commit, Rollback}
use Rattle.decrees.specs.Count.{is_quorum}
use Rattle.decrees.specs.Votes.{token_eq}
use Rattle.verifier.specs.declared.tally.Tallied.{Tallied}

abbrev pub decree_eq : Decree → Decree → Bool
decree_eq (Commit n a) (Commit m b) = (n == m) && token_eq a b
decree_eq (Commit n a) Rollback = false
decree_eq Rollback (Commit m b) = false
decree_eq Rollback Rollback = true

-- the sender was heard of in the view
abbrev pub is_tallied : List Tallied → ℕ → ℕ → Bool
is_tallied tally view sender = list_any (λ t. (t.from == sender) && (t.view == view)) tally

-- one acceptance more, if there is none of its sender in its view
abbrev pub tally_with : List Tallied → Tallied → List Tallied
tally_with tally t = if is_tallied tally t.view t.from then tally else tally ++ t ∷ []

-- the sender has accepted the decree in the view
abbrev pub has_accepted : List Tallied → ℕ → Decree → ℕ → Bool
has_accepted tally view decree sender = list_any (λ t. (t.from == sender) && ((t.view == view) && decree_eq t.decree decree)) tally

-- more than u verifiers have accepted the decree in the view
abbrev pub is_accepted : ℕ → List Tallied → ℕ → Decree → Bool
is_accepted u tally view decree = is_quorum u (has_accepted tally view decree)
