-- What an executor reports, and what a held letter is to it.
use Rattle.std.specs.Prelude.{ℕ, ◌+◌, ◌-◌, ◌^◌, ◌==◌, ◌&&◌, Bool, true, false, not, min, nat_lt}
use Rattle.following.specs.declared.letter.HeldLetter.{HeldLetter}
use Rattle.following.specs.declared.letter.HeldLetter.TheVariants.{Order, Commit, Rollback, Parcel}
use Rattle.following.specs.declared.report.ExecutorReport.{ExecutorReport}
use Rattle.following.specs.declared.report.TheConstants.{MOST_MEMBERS}

-- it has not the state that stands
abbrev pub is_fetching : ExecutorReport → Bool
is_fetching r = nat_lt r.number r.standing

-- it follows, nothing runs, and the chain has room
abbrev pub has_room_for_batch : ExecutorReport → Bool
has_room_for_batch r = (not (is_fetching r) && not r.is_running) && nat_lt r.chain MOST_MEMBERS

-- the place of the next decree, as far as it fits a machine word
abbrev pub next_decree_place : ExecutorReport → ℕ
next_decree_place r = min (r.known + 1) (2 ^ 64 - 1)

-- the place of a decree, from 1; a letter that is none has 0
abbrev pub decree_place : HeldLetter → ℕ
decree_place (Order epoch number) = 0
decree_place (Commit place number) = place
decree_place (Rollback place) = place
decree_place (Parcel number) = 0

-- it is the decree that is to be obeyed next
abbrev pub is_next_decree : ExecutorReport → HeldLetter → Bool
is_next_decree r l = decree_place l == (r.known + 1)

-- it is one of a later place
abbrev pub is_later_decree : ExecutorReport → HeldLetter → Bool
is_later_decree r l = nat_lt (r.known + 1) (decree_place l)

-- it is a Rollback, or commits the first member of the chain
abbrev pub fits_chain : ExecutorReport → HeldLetter → Bool
fits_chain r (Order epoch number) = false
fits_chain r (Commit place number) = nat_lt 0 r.chain && (number == (r.number + 1))
fits_chain r (Rollback place) = true
fits_chain r (Parcel number) = false

abbrev pub is_due_decree : ExecutorReport → HeldLetter → Bool
is_due_decree r l = is_next_decree r l && fits_chain r l

-- it is the order of the number after the tip, in this epoch
abbrev pub is_next_order : ExecutorReport → HeldLetter → Bool
is_next_order r (Order epoch number) = (epoch == r.epoch) && (number == ((r.number + r.chain) + 1))
is_next_order r (Commit place number) = false
is_next_order r (Rollback place) = false
is_next_order r (Parcel number) = false

abbrev pub is_any_parcel : HeldLetter → Bool
is_any_parcel (Order epoch number) = false
is_any_parcel (Commit place number) = false
is_any_parcel (Rollback place) = false
is_any_parcel (Parcel number) = true

-- it is the parcel of just this number
abbrev pub is_parcel_of : ℕ → HeldLetter → Bool
is_parcel_of standing (Order epoch number) = false
is_parcel_of standing (Commit place number) = false
is_parcel_of standing (Rollback place) = false
is_parcel_of standing (Parcel number) = number == standing

-- it is a parcel of a lower number
abbrev pub is_parcel_below : ℕ → HeldLetter → Bool
is_parcel_below standing (Order epoch number) = false
is_parcel_below standing (Commit place number) = false
is_parcel_below standing (Rollback place) = false
is_parcel_below standing (Parcel number) = nat_lt number standing
