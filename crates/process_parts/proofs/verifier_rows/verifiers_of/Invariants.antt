use Rattle.std.proofs.Common.{◌≡◌, map, take}
use Rattle.process_parts.specs.Parts.{verifier_of_row}
use Rattle.process_parts.proofs.verifier_rows.verifiers_of.Given as goal

abbrev pub invariant-loop-row : goal.invariant-loop-row
invariant-loop-row l = l.keepers.items ≡ map verifier_of_row (take l.row-index l.rows)
