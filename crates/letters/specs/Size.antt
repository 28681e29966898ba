-- Which letters are bulk.
use Rattle.std.specs.Prelude.{Bool, true, false, ◌||◌, length, nat_lt}
use Rattle.decrees.specs.declared.node.Letter.{Letter}
use Rattle.exec_lines.specs.declared.body.Body.{Body}
use Rattle.exec_lines.specs.declared.body.Body.TheVariants as body
use Rattle.letters.specs.declared.size.TheConstants.{MOST_QUICK_BYTES}
use Rattle.letters.specs.Letter.{letter_text}

abbrev pub has_parcel : Body → Bool
has_parcel (body.Parcel _) = true
has_parcel _ = false

-- its text has more bytes than that of a quick letter
abbrev pub is_long_letter : Letter Body → Bool
is_long_letter letter = nat_lt MOST_QUICK_BYTES (length (letter_text letter))

-- a parcel, however long, or a long letter
abbrev pub is_bulk_letter : Letter Body → Bool
is_bulk_letter letter = has_parcel letter.body || is_long_letter letter
