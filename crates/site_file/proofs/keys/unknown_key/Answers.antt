use Rattle.std.specs.Map.{keys_of}
use Rattle.std.specs.Map.Iter.{deref}
use Rattle.std.proofs.lemmas.Map.Iter.{rest_more, rest_all}
use Rattle.std.proofs.Common.{sym, ap, ◌∙◌}
use Rattle.site_file.specs.Place.{is_known}
use Rattle.site_file.proofs.UnknownLemmas.{all_left, one_less, first_left, none_left, is_there, all_known}
use Rattle.site_file.proofs.keys.unknown_key.Goals as goal

pub loop-name-init : goal.loop-name-init
loop-name-init c = all_left c.args.member (keys_of c.args.table.now.entries) c.into_iter-name-iterator.result (c.into_iter-name-iterator.ensures.into_iter_gives ∙ c.keys-name-items.ensures.rest)

pub loop-name-preserved : goal.loop-name-preserved
loop-name-preserved c =
    one_less c.args.member (keys_of c.args.table.now.entries) c.loop-name.name-iterator c.next.new.self c.in-Some.name.now
    (rest_more deref c.loop-name.name-iterator c.next.new.self c.next.result c.in-Some.name c.in-Some.is c.next.ensures.steps)
    (ap (is_known c.args.member) (sym c.as_str.ensures.value) ∙ (sym c.is_key_of.ensures ∙ c.if-not-is_key_of.false)) c.loop-name.invariant

pub returns-then-not-is_key_of-clause-there : goal.returns-then-not-is_key_of-clause-there
returns-then-not-is_key_of-clause-there c =
    is_there c.in-Some.name.now c.args.table.now.entries
    (first_left c.args.member (keys_of c.args.table.now.entries) c.loop-name.name-iterator c.next.new.self c.in-Some.name.now
    (rest_more deref c.loop-name.name-iterator c.next.new.self c.next.result c.in-Some.name c.in-Some.is c.next.ensures.steps)
    c.loop-name.invariant)

pub returns-clause-none : goal.returns-clause-none
returns-clause-none c =
    all_known c.args.member c.args.table.now.entries
    (none_left c.args.member (keys_of c.args.table.now.entries) c.loop-name.name-iterator
    (rest_all deref c.loop-name.name-iterator c.next.new.self c.next.result c.in-None.is c.next.ensures.steps)
    c.loop-name.invariant)
