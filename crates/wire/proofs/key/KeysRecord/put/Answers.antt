use Rattle.std.proofs.Common.{◌≡◌}
use Rattle.wire.specs.Field.{list_text}
use Rattle.wire.specs.Key.{key_text, keys_text}
use Rattle.wire.specs.KeyLaws.{keys_text-is}
use Rattle.wire.proofs.key.KeysRecord.put.Goals as goal

pub returns : goal.returns
returns g c =
    let limits = c.as_slice.ensures.limits in
    let text : keys_text c.args.self.now ≡ list_text key_text c.args.self.now = keys_text-is c.args.self.now limits.enough limits.few in
    rw (text, ← c.as_slice.ensures.items) c.put_list.ensures
