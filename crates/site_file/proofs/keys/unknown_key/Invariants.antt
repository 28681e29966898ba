use Rattle.std.specs.Map.{keys_of}
use Rattle.site_file.proofs.UnknownLemmas.{AreLeft}
use Rattle.site_file.proofs.keys.unknown_key.Given as goal

abbrev pub invariant-loop-name : goal.invariant-loop-name
invariant-loop-name l = AreLeft l.member (keys_of l.table.entries) l.name-iterator
