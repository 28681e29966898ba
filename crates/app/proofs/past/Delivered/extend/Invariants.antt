use Rattle.std.proofs.Common.{◌≡◌, ◌++◌, replicate, false}
use Rattle.app.specs.Past.{AllMarkedBelow}
use Rattle.app.proofs.past.Delivered.extend.Given as goal

-- so many marks more
abbrev pub invariant-loop : goal.invariant-loop
invariant-loop l = record {
  marks : l.self-inside.marks.items ≡ l.initial.self-inside.marks.items ++ replicate l.counter false;
  start : AllMarkedBelow l.self-inside.start l.self-inside.marks.items;
}
