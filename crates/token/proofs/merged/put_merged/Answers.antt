use Rattle.std.proofs.Common.{sym, ◌∙◌}
use Rattle.token.specs.Merged.{lent}
use Rattle.token.proofs.MergeLemmas.{count-parts, page-put}
use Rattle.token.proofs.merged.put_merged.Goals as goal

pub returns : goal.returns
returns g c = λ class whole are.
    let len = sym (c.count-count.ensures ∙ count-parts class whole (lent c.args.parts) are) in
    page-put g.S.Sink.holds c.put_entries.result whole c.count-count.result c.args.sink.now c.put.new.self c.put_count.new.sink c.put_entries.new.sink len
    c.in_ok-put.ensures c.in_ok-put_count.ensures (c.put_entries.ensures class whole are len)
