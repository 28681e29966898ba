use Rattle.std.proofs.Common.{◌≡◌, drop}
use Rattle.schedules.specs.Escape.{IsEscape, unescaped_from, unescaped}
use Rattle.schedules.proofs.EscapeLemmas.{with_front}
use Rattle.schedules.proofs.escape.unescaped.Given as goal

abbrev pub invariant-loop-b : goal.invariant-loop-b
invariant-loop-b l = record {
  escape : IsEscape l.escape;
  so_far : with_front l.bytes.items (unescaped_from l.escape (drop l.b-index l.text)) ≡ unescaped l.text;
}
