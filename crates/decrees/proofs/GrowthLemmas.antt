-- A log with one decree more.
use Rattle.std.proofs.Common.{◌≡◌, Bool, true, false, List, [], ◌∷◌, ◌++◌, refl, ap, ◌∙◌}
use Rattle.std.specs.Prelude.{◌&&◌, fold}
use Rattle.decrees.specs.declared.decree.Decree.{Decree}
use Rattle.decrees.specs.declared.standing.Standing.{Standing}
use Rattle.decrees.specs.Standing.{first_standing, standing_after, may_follow, is_log_from}
use Rattle.decrees.specs.Laws.{GrowsByOne}

both_true : (b : Bool) → (b && true) ≡ b
both_true true = refl
both_true false = refl

all_three : (a b c : Bool) → (a && (b && c)) ≡ ((a && b) && c)
all_three true b c = refl
all_three false b c = refl

pub by_one : (s : Standing) (log : List Decree) (d : Decree) → is_log_from s (log ++ d ∷ []) ≡ (is_log_from s log && may_follow (fold standing_after s log) d)
by_one s [] d = both_true (may_follow s d)
by_one s (x ∷ xs) d =
    ap (λ b. may_follow s x && b) (by_one (standing_after s x) xs d)
    ∙ all_three (may_follow s x) (is_log_from (standing_after s x) xs) (may_follow (fold standing_after (standing_after s x) xs) d)

pub grows_by_one : GrowsByOne
grows_by_one log d = by_one first_standing log d
