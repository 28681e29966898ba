use Rattle.std.proofs.Common.{◌≡◌, map, take}
use Rattle.process_parts.specs.Parts.{verifier_of_row}
use Rattle.process_parts.proofs.verifier_rows.rows_of_verifiers.Given as goal

abbrev pub invariant-loop-keeper : goal.invariant-loop-keeper
invariant-loop-keeper l = map verifier_of_row l.rows.items ≡ take l.keeper-index l.keepers
