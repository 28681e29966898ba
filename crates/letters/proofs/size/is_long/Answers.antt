use Rattle.std.proofs.Common.{[], arith, length, ◌∙◌}
use Rattle.token.proofs.ToldLemmas.{above_limit}
use Rattle.letters.specs.Letter.{letter_text}
use Rattle.letters.proofs.size.is_long.Goals as goal

pub returns : goal.returns
returns c = above_limit 65536 c.count.result 18446744073709551615 (length (letter_text c.args.letter.now)) (omega arith) (c.count.ensures ∙ c.in-Ok.ensures [] c.new-counter.ensures)
