use Rattle.memcached_spec.proofs.OneOrder.{has_one_order}
use Rattle.memcached_spec.proofs.laws.linearizable_has_one_order.Goals as goal

pub returns : goal.returns
returns c = has_one_order
