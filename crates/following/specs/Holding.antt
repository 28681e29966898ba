-- Which letters are held.
use Rattle.std.specs.Prelude.{ℕ, ◌+◌, ◌==◌, ◌&&◌, ◌||◌, Bool, not, nat_lt, nat_le, if◌then◌else◌}
use Rattle.following.specs.declared.letter.HeldLetter.{HeldLetter}
use Rattle.following.specs.declared.letter.HeldLetter.TheVariants.{Order, Commit, Rollback, Parcel}
use Rattle.following.specs.declared.report.ExecutorReport.{ExecutorReport}
use Rattle.following.specs.declared.holding.TheConstants.{MOST_LETTERS, MOST_BYTES}
use Rattle.following.specs.Letters.{is_fetching, is_next_decree, is_next_order, is_any_parcel}

-- the executor needs it no more: an order of an earlier epoch, or of a number up to the tip; a decree that it has obeyed; a parcel if it follows, or of a number below the standing one
abbrev pub is_letter_over : ExecutorReport → HeldLetter → Bool
is_letter_over r (Order epoch number) = nat_lt epoch r.epoch || nat_le number (r.number + r.chain)
is_letter_over r (Commit place number) = nat_le place r.known
is_letter_over r (Rollback place) = nat_le place r.known
is_letter_over r (Parcel number) = not (is_fetching r) || nat_lt number r.standing

-- there is room: for one parcel, and for so many others of its kind and so many bytes
abbrev pub has_room_for : (l : HeldLetter) (letters bytes more : ℕ) → Bool
has_room_for l letters bytes more = if is_any_parcel l then (letters == 0) else (nat_lt letters MOST_LETTERS && nat_le (bytes + more) MOST_BYTES)

-- it is what comes next, so that it is held in any case
abbrev pub is_next_letter : ExecutorReport → HeldLetter → Bool
is_next_letter r l = is_next_decree r l || is_next_order r l

abbrev pub is_to_be_held : (r : ExecutorReport) (l : HeldLetter) (letters bytes more : ℕ) → Bool
is_to_be_held r l letters bytes more = not (is_letter_over r l) && (is_next_letter r l || has_room_for l letters bytes more)
