use Rattle.std.proofs.Common.{◌≡◌, ◌++◌, drop}
use Rattle.proto.specs.Growth.{Grows}
use Rattle.schedules.specs.Escape.{printed_text}
use Rattle.schedules.proofs.printing.append_printed.Given as goal

-- what was written so far, and the other bytes as they are printed, are all of them
abbrev pub invariant-loop-b : goal.invariant-loop-b
invariant-loop-b l = record {
  whole : l.out.items ++ printed_text (drop l.b-index l.bytes) ≡ l.fn.out.items ++ printed_text l.bytes;
  grows : Grows l.fn.out.items l.out.items;
}
