use Rattle.std.proofs.Common.{◌≡◌, take}
use Rattle.decrees.specs.Record.{decrees_text}
use Rattle.decrees.proofs.log_text.LogText.of.Given as goal

abbrev pub invariant-loop-known : goal.invariant-loop-known
invariant-loop-known l = l.text ≡ decrees_text (take l.known l.decrees)
