use Rattle.std.proofs.Common.{◌≡◌, map, take}
use Rattle.process_parts.specs.Parts.{proxy_of_row}
use Rattle.process_parts.proofs.proxy_rows.proxies_of.Given as goal

abbrev pub invariant-loop-row : goal.invariant-loop-row
invariant-loop-row l = l.proxies.items ≡ map proxy_of_row (take l.row-index l.rows)
