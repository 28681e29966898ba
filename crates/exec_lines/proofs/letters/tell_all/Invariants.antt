use Rattle.std.proofs.Common.{◌≡◌, take}
use Rattle.std.specs.Prelude.{flat_map}
use Rattle.exec_lines.specs.State.{token_told}
use Rattle.exec_lines.proofs.letters.tell_all.Given as goal

abbrev pub invariant-loop-member : goal.invariant-loop-member
invariant-loop-member l = l.letters.items ≡ flat_map (token_told l.u l.id) (take l.member-index l.members)
