use Rattle.std.proofs.Common.{◌≡◌, map, take}
use Rattle.process_parts.specs.Parts.{proxy_of_row}
use Rattle.process_parts.proofs.proxy_rows.rows_of_proxies.Given as goal

abbrev pub invariant-loop-proxy : goal.invariant-loop-proxy
invariant-loop-proxy l = map proxy_of_row l.rows.items ≡ take l.proxy-index l.proxies
