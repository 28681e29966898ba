-- The record of a member, in the form of that of a process.
use Rattle.std.specs.Prelude.{◌≡◌, ◌≢◌, ℕ, ◌<◌, ◌+◌, ◌*◌, List, replicate, Some, slice_get, slice_set}
use Rattle.keeper.specs.Kept.{Kept}
use Rattle.slots.specs.Slots.{nothing_kept}
use Rattle.ensemble.specs.Kept.{ProcessView}
use Rattle.site_laws.specs.Lives.{MemberKept}

-- of so many replicas that of this number has this, and nothing was kept of the others
abbrev pub kept_alone : ℕ → ℕ → Kept → List Kept
kept_alone count id kept = slice_set (replicate count nothing_kept) id kept

-- of these nothing was kept but of that of this number
abbrev pub HasNoOther : ℕ → List Kept → Type 0
HasNoOther id keepers = (i : ℕ) (kept : Kept) → slice_get keepers i ≡ Some kept → i ≢ id → kept ≡ nothing_kept

-- what is kept of a process that has the replicas of all members, if it is this member's: nothing was kept of the others
abbrev pub process_form : MemberKept → ProcessView
process_form m = record { u = m.u; proxies = m.proxies; executors = kept_alone (2 * m.u + 1) m.id m.executor; verifiers = kept_alone (2 * m.u + 1) m.id m.verifier }

-- The record of the process is that of this member, whose number is `id`.
pub record IsFormOf (id : ℕ) (p : ProcessView) (m : MemberKept) : Type 0 where
  pub own : m.id ≡ id
  pub place : m.id < 2 * m.u + 1
  pub form : process_form m ≡ p

-- The record of a process is that of one member of a number, if it is that of any.
abbrev pub FormIsOfOneMember : Type 0
FormIsOfOneMember = (id : ℕ) (p : ProcessView) (a b : MemberKept) → IsFormOf id p a → IsFormOf id p b → a ≡ b
