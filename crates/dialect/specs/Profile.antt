-- What a line of the profile asks in the dialect.
use Rattle.std.specs.Prelude.{◌≡◌, ◌≤◌, List, [], ◌∷◌, Bool, Option, Some}
use Rattle.proto.specs.declared.block.TheConstants.{MOST_BLOCK_BYTES}
use Rattle.proto.specs.declared.command.Command.{Command}
use Rattle.proto.specs.declared.command.Command.TheVariants as command
use Rattle.proto.specs.declared.line.Line.{Line as ProfileLine}
use Rattle.proto.specs.declared.line.Line.TheVariants.{Whole, Opens}
use Rattle.proto.specs.declared.turn.Turn.{Turn as ProfileTurn}
use Rattle.proto.specs.declared.turn.Turn.TheVariants as profile
use Rattle.dialect.specs.Line.{shown, opened_by}
use Rattle.dialect.specs.Reading.{read_turns}
use Rattle.dialect.specs.Meaning.{Meaning}
use Rattle.dialect.specs.declared.line.ReadVerb.TheVariants.{Get, Gets, Gat, Gats}
use Rattle.dialect.specs.declared.part.Part.TheVariants as part
use Rattle.dialect.specs.declared.turn.Turn.{Turn}
use Rattle.dialect.specs.declared.turn.Turn.TheVariants.{Ask}

-- these turns, and then another line
abbrev pub ends_line : List Turn → Meaning
ends_line turns = record { turns = turns; part = part.Line }

-- the meaning of a line that asks this command of the profile
abbrev pub meaning_of_command : Command → Bool → Meaning
meaning_of_command (command.Get ks) quiet = ends_line (read_turns Get ks)
meaning_of_command (command.Gets ks) quiet = ends_line (read_turns Gets ks)
meaning_of_command (command.Gat exptime ks) quiet = ends_line (read_turns (Gat exptime) ks)
meaning_of_command (command.Gats exptime ks) quiet = ends_line (read_turns (Gats exptime) ks)
meaning_of_command (command.Update u) quiet = ends_line (Ask (command.Update u) (shown quiet) ∷ [])

-- The command that the profile reads on a line is asked, or its block follows, unless that is above the limit.
abbrev pub AsksTheSame : ProfileLine → Meaning → Type 0
AsksTheSame (Whole (profile.Ask c quiet)) m = m ≡ meaning_of_command c quiet
AsksTheSame (Whole (profile.Say n)) m = Unit {0}
AsksTheSame (Whole (profile.Close n)) m = Unit {0}
AsksTheSame (Opens h) m = h.size ≤ MOST_BLOCK_BYTES → m ≡ record { turns = []; part = part.Block (opened_by h) }

-- The command that the profile makes of a block is asked.
abbrev pub BlockAsksTheSame : ProfileTurn → Option Turn → Type 0
BlockAsksTheSame (profile.Ask c quiet) turn = turn ≡ Some (Ask c (shown quiet))
BlockAsksTheSame (profile.Say n) turn = Unit {0}
BlockAsksTheSame (profile.Close n) turn = Unit {0}
