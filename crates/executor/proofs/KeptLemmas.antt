-- Keeping one list of replies after another.
use Rattle.std.proofs.Common.{◌≡◌, List, [], ◌∷◌, ◌++◌, refl}
use Rattle.std.specs.FinMap.{insert}
use Rattle.sessions.specs.Fresh.{Replies}
use Rattle.executor.specs.declared.answered.Answered.{Answered}
use Rattle.executor.specs.Round.{kept_after}

pub kept_again : (s : Replies) (xs ys : List Answered) → kept_after (kept_after s xs) ys ≡ kept_after s (xs ++ ys)
kept_again s [] ys = refl
kept_again s (x ∷ xs) ys = kept_again (insert s x.client (record { number = x.number; reply = x.reply })) xs ys
