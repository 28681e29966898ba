use Rattle.std.proofs.Common.{◌≡◌, ◌∷◌, [], ◌++◌, drop, map, true}
use Rattle.std.specs.List.{list_all}
use Rattle.proto.specs.Key.{is_key}
use Rattle.dialect.specs.Reading.{piece_turns, IsPiece}
use Rattle.dialect.proofs.reading.push_pieces.Given as goal

-- the turns so far, with those for the keys of this piece and the keys that are left, are all of them
abbrev pub invariant-loop-word : goal.invariant-loop-word
invariant-loop-word l = record {
  turns : l.turns.items ++ piece_turns l.reading l.keys.items (map (λ w. w.now) (drop l.word-index l.others))
      ≡ l.fn.turns.items ++ piece_turns l.reading (l.first ∷ []) (map (λ w. w.now) l.others);
  piece : IsPiece l.reading l.keys.items l.bytes;
  rest : list_all is_key (map (λ w. w.now) (drop l.word-index l.others)) ≡ true;
}
