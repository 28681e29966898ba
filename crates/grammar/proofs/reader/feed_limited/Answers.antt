use Rattle.std.proofs.Common.{map, refl, ap, ◌∙◌, arith}
use Rattle.grammar.specs.Turns.{turn_with}
use Rattle.grammar.proofs.TurnLemmas.{mapped_turns, if_ok}
use Rattle.grammar.specs.Limit.{turn_when}
use Rattle.grammar.proofs.reader.feed_limited.Goals as goal

pub returns : goal.returns
returns c = if_ok c.all_of_memcached.result _ _
    (λ turns is. record {
      full = c.args.conditions.now.is_full;
      piece = c.args.piece.now;
      marked_so = refl;
      bytes = λ i. omega (arith, c.type_inv.piece i);
      state = c.feed.new.self;
      read = c.in_ok-read.read.items;
      is = refl;
      reads = c.in_ok-read.ensures.runs;
      are = mapped_turns _ (map (turn_when c.args.conditions.now.is_full) c.in_ok-read.read.items) turns.items (is ∙ ap (map (turn_with _)) c.in_ok-turns.ensures);
    })
    c.all_of_memcached.ensures
