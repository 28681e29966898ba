use Rattle.std.proofs.Common.{rules, ◌≡◌, ◌++◌, length}
use Rattle.std.specs.Int.{w8}
use Rattle.wire.specs.Number.{num}
use Rattle.wire.specs.Key.{key_text}
use Rattle.wire.specs.KeyLaws.{key_text-is}
use Rattle.wire.proofs.key.KeyRecord.put.Goals as goal

pub returns : goal.returns
returns g c =
    let text : key_text c.args.self.now ≡ num w8 (length c.args.self.now) ++ c.args.self.now = key_text-is c.args.self.now (search (rules, c.as_slice.ensures.valid)) in
    rw (text, ← c.as_slice.ensures.bytes) c.put_short.ensures
