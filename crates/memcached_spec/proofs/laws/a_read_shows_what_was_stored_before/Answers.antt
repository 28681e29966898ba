use Rattle.memcached_spec.proofs.Stale.{stale_read_is_none}
use Rattle.memcached_spec.proofs.Fresh.{fresh_read_is_in_order}
use Rattle.memcached_spec.proofs.laws.a_read_shows_what_was_stored_before.Goals as goal

pub returns-clause-fresh : goal.returns-clause-fresh
returns-clause-fresh c = fresh_read_is_in_order

pub returns-clause-stale : goal.returns-clause-stale
returns-clause-stale c = stale_read_is_none
