use Rattle.std.proofs.Common.{◌≡◌, drop, map}
use Rattle.std.specs.List.{list_all}
use Rattle.proto.specs.Key.{is_key}
use Rattle.dialect.proofs.reading.are_keys.Given as goal

abbrev pub invariant-loop-word : goal.invariant-loop-word
invariant-loop-word l = list_all is_key (map (λ w. w.now) (drop l.word-index l.words)) ≡ list_all is_key (map (λ w. w.now) l.words)
