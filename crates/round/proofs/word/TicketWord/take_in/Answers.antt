use Rattle.std.proofs.Common.{rules}
use Rattle.round.proofs.Keeps.{takes_in}
use Rattle.round.proofs.word.TicketWord.take_in.Goals as goal

pub join_seat-requires : goal.join_seat-requires
join_seat-requires c = (search rules, search rules, search rules, search rules, takes_in _ _ _ _)
