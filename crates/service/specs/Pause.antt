-- When a node that stopped is opened again.
use Rattle.std.specs.Prelude.{◌+◌, ◌-◌, ◌*◌, Bool, not, min, nat_le, nat_lt, if◌then◌else◌}
use Rattle.service.specs.declared.pause.Pause.{Pause}
use Rattle.service.specs.declared.pause.TheConstants.{LONGEST_PAUSE}

abbrev pub first_pause : Pause
first_pause = record { left = 1; next = 1; calm = 0 }

-- a node that is up for the longest pause begins anew
abbrev pub after_up : Pause → Pause
after_up p = if nat_le LONGEST_PAUSE p.calm then first_pause else record p { calm = p.calm + 1; left = p.next }

-- its pause has gone by
abbrev pub is_pause_over : Pause → Bool
is_pause_over p = not (nat_lt 1 p.left)

-- each opening doubles the next pause
abbrev pub after_down : Pause → Pause
after_down p = if nat_lt 1 p.left then record p { calm = 0; left = p.left - 1 } else record { left = min (2 * p.next) LONGEST_PAUSE; next = min (2 * p.next) LONGEST_PAUSE; calm = 0 }
