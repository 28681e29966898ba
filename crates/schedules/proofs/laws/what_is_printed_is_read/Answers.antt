use Rattle.schedules.proofs.PrintedLemmas.{printed_is_read}
use Rattle.schedules.proofs.laws.what_is_printed_is_read.Goals as goal

pub returns : goal.returns
returns c = printed_is_read
