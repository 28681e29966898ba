-- The texts of a decree, and of what stands, in records.
use Rattle.std.specs.Prelude.{ℕ, List, [], ◌∷◌, ◌++◌, flat_map}
use Rattle.std.specs.Int.{w64}
use Rattle.wire.specs.Number.{num, fixed}
use Rattle.decrees.specs.declared.decree.Decree.{Decree}
use Rattle.decrees.specs.declared.decree.Decree.TheVariants.{Commit, Rollback}
use Rattle.decrees.specs.declared.standing.Standing.{Standing}
use Rattle.decrees.specs.declared.start.Start.{Start}
use Rattle.token.specs.Token.{token_bytes}

-- the number and the token of a Commit
abbrev pub commit_text : ℕ × List ℕ → List ℕ
commit_text c = num w64 c.0 ++ fixed 32 c.1

-- 0, or 1 and what is committed
abbrev pub decree_text : Decree → List ℕ
decree_text Rollback = 0 ∷ []
decree_text (Commit n token) = 1 ∷ commit_text (n, token.0)

-- the texts of these decrees, one after another
abbrev pub decrees_text : List Decree → List ℕ
decrees_text decrees = flat_map decree_text decrees

-- what stands
abbrev pub standing_text : Standing → List ℕ
standing_text st = ((num w64 st.n ++ token_bytes st.token) ++ num w64 st.epoch) ++ num w64 st.start

-- where a log begins
abbrev pub start_text : Start → List ℕ
start_text start = num w64 start.place ++ standing_text start.standing
