use Rattle.std.proofs.Common.{rules, not}
use Rattle.std.proofs.lemmas.Bool.Decides.{nat_tests}
use Rattle.std.proofs.lemmas.Iterator.Splits.{YieldsList-from_slice_split}
use Rattle.std.proofs.lemmas.Iterator.Consumers.{map_from_collect, YieldsList-at, YieldsList-from_filter}
use Rattle.proto.specs.Line.{is_space, is_empty}
use Rattle.dialect.proofs.meaning.words_of.Goals as goal

pub returns : goal.returns
returns c = map_from_collect _ c.collect.ensures.ran
    (YieldsList-from_filter _ (λ w. not (is_empty w))
    (YieldsList-at c.filter.ensures.source (YieldsList-from_slice_split _ is_space c.args.line.now c.split.ensures.rest c.split.ensures.done c.split.ensures.closure (λ x b q k. search (rules, nat_tests))))
    c.filter.ensures.closure (λ x b q k. search (rules, nat_tests)))
