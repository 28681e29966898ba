use Rattle.std.proofs.Common.{rules}
use Rattle.round.proofs.Keeps.{makes_name}
use Rattle.round.proofs.word.TicketWord.new_name.Goals as goal

pub split_seat-requires : goal.split_seat-requires
split_seat-requires c = (search rules, search rules, makes_name _ _ c.requires.makes)
