use Rattle.std.proofs.Common.{◌<◌, length}
use Rattle.std.specs.Io.KnownBytes.{Consumes}
use Rattle.app.proofs.input.read_through.Given as goal

-- what was read so far is what the reader has lost
abbrev pub invariant-loop : goal.invariant-loop
invariant-loop g l = record { room : 0 < length l.chunk; read : Consumes (g.R.Read.remaining l.fn.reader) (g.R.Read.remaining l.reader) l.input.items }
