-- The text that a kept record stands for.
use Rattle.std.specs.Prelude.{ℕ, List}
use Rattle.std.specs.Arc.{arc_value}
use Rattle.exec_lines.specs.declared.record.Saved.{Saved}
use Rattle.exec_lines.specs.declared.record.Kept.{Kept}
use Rattle.exec_lines.specs.declared.record.Kept.TheVariants.{Shared, Bytes}
use Rattle.exec_lines.specs.Record.{saved_text}

abbrev pub saved_record : Saved → List ℕ
saved_record s = saved_text s.u s.id s.known s.standing s.chain

abbrev pub kept_state_text : Kept → List ℕ
kept_state_text (Shared s) = saved_record (arc_value s)
kept_state_text (Bytes text) = text
