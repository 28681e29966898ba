-- What the bytes of pieces are after an append.
use Rattle.std.proofs.Common.{◌≡◌, ℕ, List, ◌++◌, append_assoc, ap, ◌∙◌}
use Rattle.std.specs.declared.sync.Arc.{Arc}
use Rattle.std.specs.declared.vec.Vec.{Vec}
use Rattle.std.proofs.lemmas.List.Concat.{flat_map-append}
use Rattle.base.specs.Pieces.{piece_bytes, bytes_of}

pub appended : {Z : Type 0} (before after ours theirs made : List (Arc (Vec ℕ Z) Z)) (tail end last old other : List ℕ) → made ≡ after ++ ours → bytes_of after ≡ bytes_of before ++ tail → bytes_of ours ≡ bytes_of theirs → last ≡ end → bytes_of before ++ tail ≡ old → bytes_of theirs ++ end ≡ other → bytes_of made ++ last ≡ old ++ other
appended before after ours theirs made tail end last old other is moved same_pieces same_end first second =
    let parts : bytes_of (after ++ ours) ≡ bytes_of after ++ bytes_of ours = flat_map-append piece_bytes after ours in
    let joined : bytes_of made ≡ bytes_of after ++ bytes_of ours = ap bytes_of is ∙ parts in
    let regrouped : (bytes_of after ++ bytes_of ours) ++ last ≡ bytes_of after ++ (bytes_of ours ++ last) = append_assoc (bytes_of after) (bytes_of ours) last in
    cc
