-- All that a reader is.
use Rattle.std.specs.Prelude.{◌≡◌, ℕ, List, [], Bool, true, Option}
use Rattle.proto.specs.Stage.{IsStage, staged}
use Rattle.proto.specs.declared.reader.Reader.TheInside.{Inside}

-- Two lists of bytes, and what owns no memory. What a reader had beside these would have no place here.
abbrev pub inside_of : List ℕ → List ℕ → Option ℕ → ℕ → Bool → Inside
inside_of line block size dropped closed = record {
  stage = record { line = line; block = block; size = size; dropped = dropped };
  closed = closed;
}

pub record IsReader (a : Inside) : Type 0 where
  pub whole : a ≡ inside_of a.stage.line a.stage.block a.stage.size a.stage.dropped a.closed
  pub stage : IsStage a.stage
  pub keeps_none : a.closed ≡ true → staged a.stage ≡ []
