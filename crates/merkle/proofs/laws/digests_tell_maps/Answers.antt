use Rattle.merkle.proofs.LawLemmas.{tells_maps}
use Rattle.merkle.proofs.laws.digests_tell_maps.Goals as goal

pub returns : goal.returns
returns g c = tells_maps g.met.K.Ord.total g.met.K.TreeKey.only_equal_tie g.V.TreeValue.text g.K.TreeKey.bit g.K.TreeKey.BITS
