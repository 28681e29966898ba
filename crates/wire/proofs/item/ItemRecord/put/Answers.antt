use Rattle.std.proofs.Common.{◌≤◌, ℕ, List, sym, subst, ap, ◌∙◌, ◌++◌, length}
use Rattle.std.specs.Prelude.{OnOk}
use Rattle.std.specs.Int.{w32, w64}
use Rattle.proto.specs.declared.block.TheConstants.{MOST_BLOCK_BYTES}
use Rattle.wire.specs.Record.{Puts}
use Rattle.wire.specs.Number.{num}
use Rattle.wire.specs.Field.{option_text}
use Rattle.wire.proofs.Items.{fields_and_data, both_put}
use Rattle.wire.proofs.item.ItemRecord.put.Goals as goal

pub returns : goal.returns
returns g c =
    let few : length c.args.self.now.block ≤ MOST_BLOCK_BYTES = subst (λ (n : ℕ). n ≤ MOST_BLOCK_BYTES) c.len-len.ensures.len c.len-len.ensures.limit in
    let both : OnOk c.put_data.result (Puts g.S.Sink.holds ((num w32 c.args.self.now.flags ++ option_text (num w64) c.args.self.now.due ++ num w64 c.args.self.now.unique ++ num w32 c.len-len.result) ++ c.args.self.now.block) c.args.sink.now c.put_data.new.sink) =
    both_put c.put_data.result g.S.Sink.holds _ _ c.args.sink.now c.put_fields.new.sink c.put_data.new.sink c.in_ok-put_fields.ensures c.put_data.ensures in
    subst (λ (t : List ℕ). OnOk c.put_data.result (Puts g.S.Sink.holds t c.args.sink.now c.put_data.new.sink)) (ap (λ (n : ℕ). (num w32 c.args.self.now.flags ++ option_text (num w64) c.args.self.now.due ++ num w64 c.args.self.now.unique ++ num w32 n) ++ c.args.self.now.block) c.len-len.ensures.len ∙ sym (fields_and_data c.args.self.now few)) both
