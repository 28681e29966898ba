-- What a crash may leave of a disk that is synced, or is not.
use Rattle.std.specs.Prelude.{◌≡◌, ℕ, Bool, true, false, List, refl}

-- If it is synced, what the disk below may leave. Else the process ends and the machine goes on: what was written stays.
abbrev pub MayLeave : Bool → (List ℕ → Type 0) → List ℕ → List ℕ → Type 0
MayLeave true may_leave seen c = may_leave c
MayLeave false may_leave seen c = c ≡ seen

-- what is seen may stay
pub seen_stays : (syncs : Bool) (may_leave : List ℕ → Type 0) (seen : List ℕ) → may_leave seen → MayLeave syncs may_leave seen seen
seen_stays true may_leave seen stays = stays
seen_stays false may_leave seen stays = refl
