use Rattle.std.proofs.Common.{refl}
use Rattle.grammar.proofs.TurnLemmas.{mapped_turns, if_ok}
use Rattle.grammar.proofs.reader.feed_memcached.Goals as goal

pub returns : goal.returns
returns c = if_ok c.all_of_memcached.result _ _
    (λ turns is. record { state = c.feed.new.self; read = c.in_ok-read.read.items; is = refl; reads = c.in_ok-read.ensures.runs; are = mapped_turns _ c.in_ok-read.read.items turns.items is })
    c.all_of_memcached.ensures
