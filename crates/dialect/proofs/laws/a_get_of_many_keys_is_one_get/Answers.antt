use Rattle.dialect.proofs.ManyLemmas.{turns_keys, turns_pieces, turns_shown}
use Rattle.dialect.proofs.laws.a_get_of_many_keys_is_one_get.Goals as goal

pub returns-clause-keys : goal.returns-clause-keys
returns-clause-keys c = turns_keys

pub returns-clause-pieces : goal.returns-clause-pieces
returns-clause-pieces c = turns_pieces

pub returns-clause-shown : goal.returns-clause-shown
returns-clause-shown c = turns_shown
