use Rattle.memcached_spec.proofs.Samples.{answer_before_request}
use Rattle.memcached_spec.proofs.laws.an_answer_needs_its_request.Goals as goal

pub returns : goal.returns
returns c = answer_before_request
