use Rattle.links.proofs.MessageLawLemmas.{read_is_written, written_is_read, pieces_carry_messages}
use Rattle.links.proofs.laws.messages_come_through.Goals as goal

pub returns-clause-read : goal.returns-clause-read
returns-clause-read c = read_is_written

pub returns-clause-all : goal.returns-clause-all
returns-clause-all c = written_is_read

pub returns-clause-pieces : goal.returns-clause-pieces
returns-clause-pieces c = pieces_carry_messages
