use Rattle.std.proofs.Common.{rules}
use Rattle.round.proofs.Keeps.{moves}
use Rattle.round.proofs.word.TicketWord.take_all.Goals as goal

pub split_seat-whole-requires : goal.split_seat-whole-requires
split_seat-whole-requires c = (search rules, search rules, moves _ _ c.requires.caller)
