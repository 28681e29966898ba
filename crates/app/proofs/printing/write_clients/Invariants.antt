use Rattle.std.proofs.Common.{◌≡◌, ◌+◌, ◌++◌, drop}
use Rattle.app.specs.Printed.{lines_from, client_line}
use Rattle.app.proofs.printing.write_clients.Given as goal

-- what was written so far, and the other lines, are all of them
abbrev pub invariant-loop-i : goal.invariant-loop-i
invariant-loop-i l = l.out.items ++ lines_from client_line (l.i + 1) (drop l.i l.clients) ≡ l.fn.out.items ++ lines_from client_line 1 l.clients
