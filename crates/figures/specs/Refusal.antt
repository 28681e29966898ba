-- Why lines were refused, and where each count is kept.
use Rattle.std.specs.Prelude.{ℕ, codes, List, slice_index}
use Rattle.figures.specs.declared.refusal.Refusal.{Refusal}
use Rattle.figures.specs.declared.refusal.Refusal.TheVariants as refusal
use Rattle.figures.specs.declared.refusal.Refusals.{Refusals}

abbrev pub refusal_place : Refusal → ℕ
refusal_place refusal.Unknown = 0
refusal_place refusal.Format = 1
refusal_place refusal.Number = 2
refusal_place refusal.Chunk = 3
refusal_place refusal.Long = 4
refusal_place refusal.Large = 5
refusal_place refusal.Binary = 6
refusal_place refusal.Http = 7
refusal_place refusal.Forbidden = 8
refusal_place refusal.Full = 9

-- its name in lines and pages
abbrev pub refusal_name : Refusal → List ℕ
refusal_name refusal.Unknown = codes "unknown"
refusal_name refusal.Format = codes "format"
refusal_name refusal.Number = codes "number"
refusal_name refusal.Chunk = codes "chunk"
refusal_name refusal.Long = codes "long"
refusal_name refusal.Large = codes "large"
refusal_name refusal.Binary = codes "binary"
refusal_name refusal.Http = codes "http"
refusal_name refusal.Forbidden = codes "forbidden"
refusal_name refusal.Full = codes "full"

-- the lines that were refused for this
abbrev pub refusal_count : Refusals → Refusal → ℕ
refusal_count refusals refusal = slice_index refusals.counts (refusal_place refusal)
