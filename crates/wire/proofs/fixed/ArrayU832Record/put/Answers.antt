use Rattle.wire.specs.KeyLaws.{fixed-is}
use Rattle.wire.proofs.fixed.ArrayU832Record.put.Goals as goal

pub returns : goal.returns
returns g c = rw (fixed-is 32 c.args.self.now c.told-self c.fits-self) c.put.ensures
