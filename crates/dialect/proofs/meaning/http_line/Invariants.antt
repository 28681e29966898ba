use Rattle.std.proofs.Common.{◌≡◌, drop, map}
use Rattle.std.specs.List.{list_any}
use Rattle.dialect.specs.Line.{is_http_version}
use Rattle.dialect.proofs.meaning.http_line.Given as goal

abbrev pub invariant-loop-word : goal.invariant-loop-word
invariant-loop-word l = list_any is_http_version (map (λ w. w.now) (drop l.word-index l.words)) ≡ list_any is_http_version (map (λ w. w.now) l.words)
