use Rattle.std.proofs.Common.{◌+◌, ◌≤◌, length, min, vec_len, vec_capacity}
use Rattle.indexmap.specs.IndexMap.{values, index_map_len, spare}
use Rattle.sessions.specs.Fresh.{is_next}
use Rattle.batches.specs.Cut.{is_past}
use Rattle.batches.proofs.PartLemmas.{Parting}
use Rattle.batches.specs.declared.batch.TheConstants.{MOST_REQUESTS}
use Rattle.batches.proofs.held.part.Given as goal

abbrev pub invariant-loop-request : goal.invariant-loop-request
invariant-loop-request l =
    Parting (is_next l.sessions) (is_past l.sessions) MOST_REQUESTS (values l.fn.waiting) l.request-iterator l.taken.items l.left.entries
    × (vec_len l.taken + length l.request-iterator ≤ index_map_len l.fn.waiting)
    × (min (index_map_len l.fn.waiting) MOST_REQUESTS ≤ vec_capacity l.taken)
    × (length l.request-iterator ≤ spare l.left)
