use Rattle.std.proofs.Common.{◌≤◌, ◌++◌, ◌∙◌, ℕ, List, length, ap, sym, subst}
use Rattle.std.specs.Prelude.{OnOk}
use Rattle.std.specs.Int.{w32}
use Rattle.proto.specs.declared.block.TheConstants.{MOST_BLOCK_BYTES}
use Rattle.wire.specs.Record.{Puts}
use Rattle.wire.specs.Number.{num}
use Rattle.wire.specs.BlockLaws.{block_text-is}
use Rattle.wire.proofs.Items.{both_put}
use Rattle.wire.proofs.block.BlockRecord.put.Goals as goal

pub returns : goal.returns
returns g c =
    let few : length c.args.self.now ≤ MOST_BLOCK_BYTES = subst (λ (n : ℕ). n ≤ MOST_BLOCK_BYTES) c.len.ensures.len c.len.ensures.limit in
    let both : OnOk c.put_data.result (Puts g.S.Sink.holds (num w32 c.len.result ++ c.args.self.now) c.args.sink.now c.put_data.new.sink) =
    both_put c.put_data.result g.S.Sink.holds _ _ c.args.sink.now c.put_count.new.sink c.put_data.new.sink c.in_ok-put_count.ensures c.put_data.ensures in
    subst (λ (t : List ℕ). OnOk c.put_data.result (Puts g.S.Sink.holds t c.args.sink.now c.put_data.new.sink)) (ap (λ (n : ℕ). num w32 n ++ c.args.self.now) c.len.ensures.len ∙ sym (block_text-is c.args.self.now few)) both
