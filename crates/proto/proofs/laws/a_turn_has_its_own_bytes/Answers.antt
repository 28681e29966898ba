use Rattle.proto.proofs.GhostVec.{vec_of}
use Rattle.proto.proofs.SpellsLemmas.{next_alone, alone_reads, alone_small, spelled_alone}
use Rattle.proto.proofs.laws.a_turn_has_its_own_bytes.Goals as goal

pub returns-clause-own : goal.returns-clause-own
returns-clause-own c = λ bytes after turn e. let l = next_alone bytes after turn e in (l.own, l.is, l.alone)

pub returns-clause-read : goal.returns-clause-read
returns-clause-read c = alone_reads

pub returns-clause-small : goal.returns-clause-small
returns-clause-small c = alone_small

pub returns-clause-spelled : goal.returns-clause-spelled
returns-clause-spelled c = spelled_alone
