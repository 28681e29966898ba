use Rattle.std.proofs.Common.{◌≡◌, ◌++◌, drop, map}
use Rattle.std.specs.List.{filter_map}
use Rattle.dialect.specs.Meta.{field_of}
use Rattle.dialect.proofs.meta_flags.fields_of.Given as goal

-- the parts so far, with those of the words that are left, are all of them
abbrev pub invariant-loop-word : goal.invariant-loop-word
invariant-loop-word l = l.fields ++ filter_map (field_of l.meta l.key) (map (λ w. w.now) (drop l.word-index l.words)) ≡ filter_map (field_of l.meta l.key) (map (λ w. w.now) l.words)
