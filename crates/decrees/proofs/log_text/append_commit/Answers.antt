use Rattle.std.proofs.Common.{rules, arith}
use Rattle.std.specs.Int.{w64}
use Rattle.wire.specs.NumberLaws.{num-is}
use Rattle.wire.specs.KeyLaws.{fixed-is}
use Rattle.decrees.proofs.log_text.append_commit.Goals as goal

pub returns-clause-ok : goal.returns-clause-ok
returns-clause-ok c =
    let number = num-is w64 c.args.n (omega arith) in
    let digest = fixed-is 32 c.args.token.now c.told-token c.fits-token in
    rw (number, digest) (search rules)
