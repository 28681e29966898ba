-- What calls do to what a crash may leave.
use Rattle.std.proofs.Common.{◌≡◌, ◌∙◌, ℕ, Bool, true, false, List, refl, sym, subst}
use Rattle.sqlite_disk.specs.Disk.{Follows, Only}
use Rattle.unsynced.specs.MayLeave.{MayLeave}

-- a call that changes nothing
pub leaves_no_more : (syncs : Bool) (old new : List ℕ → Type 0) (before now : List ℕ) → ((c : List ℕ) → new c → old c) → now ≡ before → (c : List ℕ) → MayLeave syncs new now c → MayLeave syncs old before c
leaves_no_more true old new before now less same c is = less c is
leaves_no_more false old new before now less same c is = is ∙ same

-- a call that is a step
pub leaves_after : (syncs : Bool) (step : List ℕ → List ℕ → Type 0) (old new : List ℕ → Type 0) (before now : List ℕ) → Follows step old new → step before now → Follows step (MayLeave syncs old before) (MayLeave syncs new now)
leaves_after true step old new before now follows is c leaves = follows c leaves
leaves_after false step old new before now follows is c leaves = (before, refl, subst (step before) (sym leaves) is)

-- a sync
pub leaves_only : (new : List ℕ → Type 0) (before now : List ℕ) → now ≡ before → Only before new → (syncs : Bool) → Only before (MayLeave syncs new now)
leaves_only new before now same only true c leaves = only c leaves
leaves_only new before now same only false c leaves = leaves ∙ same
