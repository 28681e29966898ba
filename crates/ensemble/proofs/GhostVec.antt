-- A vector that only proofs see.
use Rattle.std.proofs.Common.{ℕ, ◌<◌, ◌^◌, List, length, refl, arith}
use denote.RawPtr.{null_ptr}
use Rattle.std.specs.declared.alloc.Global.{Global}
use Rattle.std.specs.declared.vec.Vec.{Vec}

abbrev pub vec_of : (alloc : Global) (xs : List ℕ) → length xs < 2 ^ 63 → Vec ℕ Global
vec_of alloc xs l = record { ptr = null_ptr; len = length xs; cap = length xs; alloc = alloc; items = xs; ok = (refl, omega arith); small = l }
