use Rattle.std.proofs.Common.{◌≡◌, ◌++◌, OnOk, map, subst}
use Rattle.grammar.specs.Stats.{word_lines, setting_words}
use Rattle.grammar.proofs.stats.put_setting_words.Goals as goal

pub returns : goal.returns
unfolding setting_words
returns c = subst (λ rows. OnOk c.put_words.result (c.put_words.new.out.items ≡ c.args.out.now.items ++ word_lines (map (λ r. (r.0.now, r.1.now)) rows))) c.as_slice.ensures c.put_words.ensures
