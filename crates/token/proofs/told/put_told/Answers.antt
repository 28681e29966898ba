use Rattle.token.proofs.DigestLemmas.{each_if}
use Rattle.token.proofs.ToldLemmas.{told_put}
use Rattle.token.proofs.told.put_told.Goals as goal

pub put_each-requires : goal.put_each-requires
put_each-requires g c = each_if c.args.sessions.now c.args.digests c.entries-entries.result.now c.entries-entries.ensures.entries c.entries-entries.ensures.sorted c.requires

pub returns : goal.returns
returns g c =
    told_put g.S.Sink.holds c.put_each.result c.entries-entries.result.now c.args.sessions.now c.args.sink.now c.put.new.self c.put_count.new.sink c.put_each.new.sink
    c.entries-entries.ensures.entries c.in_ok-put.ensures c.in_ok-put_count.ensures c.put_each.ensures
