use Rattle.std.proofs.Common.{◌≡◌, ◌++◌, drop}
use Rattle.std.specs.Prelude.{flat_map}
use Rattle.proto.specs.Growth.{Grows}
use Rattle.dialect.specs.MetaText.{field_text}
use Rattle.dialect.proofs.meta_text.write_fields.Given as goal

-- what was written so far, and the other parts, are all of them
abbrev pub invariant-loop-field : goal.invariant-loop-field
invariant-loop-field l = record {
  whole : l.out.items ++ flat_map (field_text l.found) (drop l.field-index l.fields) ≡ l.fn.out.items ++ flat_map (field_text l.found) l.fields;
  grows : Grows l.fn.out.items l.out.items;
}
