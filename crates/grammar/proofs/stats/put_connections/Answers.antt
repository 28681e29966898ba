use Rattle.std.proofs.Common.{◌≡◌, ◌++◌, OnOk, map, subst}
use Rattle.grammar.specs.Stats.{number_lines, connection_numbers}
use Rattle.grammar.proofs.stats.put_connections.Goals as goal

pub returns : goal.returns
unfolding connection_numbers
returns c = subst (λ rows. OnOk c.put_numbers.result (c.put_numbers.new.out.items ≡ c.args.out.now.items ++ number_lines (map (λ r. (r.0.now, r.1)) rows))) c.as_slice.ensures c.put_numbers.ensures
