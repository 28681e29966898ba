-- What the client of a meta command is given of its reply.
use Rattle.std.specs.Prelude.{ℕ, List, [], ◌∷◌, ◌++◌, length, if◌then◌else◌, codes, decimal, flat_map}
use Rattle.std.specs.Option.{unwrap_or}
use Rattle.proto.specs.Text.{reply_text}
use Rattle.proto.specs.declared.reply.Found.{Found}
use Rattle.proto.specs.declared.reply.Reply.{Reply}
use Rattle.proto.specs.declared.reply.Reply.TheVariants as reply
use Rattle.dialect.specs.declared.meta.Field.{Field}
use Rattle.dialect.specs.declared.meta.Field.TheVariants as field
use Rattle.dialect.specs.declared.meta.MetaShow.{MetaShow}

-- a part of the line of an answer without an item
abbrev pub word_text : Field → List ℕ
word_text field.Flags = []
word_text field.Size = []
word_text field.Unique = []
word_text (field.Word w) = codes " " ++ w

-- a part of the line of this item
abbrev pub field_text : Found → Field → List ℕ
field_text f field.Flags = codes " f" ++ decimal f.flags
field_text f field.Size = codes " s" ++ decimal (length f.block)
field_text f field.Unique = codes " c" ++ decimal (unwrap_or f.unique 0)
field_text f (field.Word w) = codes " " ++ w

-- two letters, and the words of the line
abbrev pub line_text : List ℕ → List Field → List ℕ
line_text head fields = head ++ flat_map word_text fields ++ codes "\r\n"

-- a value behind the line that has its size and these parts
abbrev pub sized_text : List ℕ → List ℕ → List ℕ
sized_text value parts = codes "VA " ++ decimal (length value) ++ parts ++ codes "\r\n" ++ value ++ codes "\r\n"

-- an item that was found
abbrev pub meta_item_text : MetaShow → Found → List ℕ
meta_item_text m f = if m.value then sized_text f.block (flat_map (field_text f) m.fields) else codes "HD" ++ flat_map (field_text f) m.fields ++ codes "\r\n"

-- the number that a key has now
abbrev pub meta_number_text : MetaShow → ℕ → List ℕ
meta_number_text m n = if m.value then sized_text (decimal n) (flat_map word_text m.fields) else line_text (codes "HD") m.fields

-- what went as it should
abbrev pub unless_quiet : MetaShow → List ℕ → List ℕ
unless_quiet m text = if m.quiet then [] else text

abbrev pub meta_found_text : MetaShow → List Found → List ℕ
meta_found_text m [] = unless_quiet m (line_text (codes "EN") m.fields)
meta_found_text m (f ∷ more) = meta_item_text m f

abbrev pub meta_text : Reply → MetaShow → List ℕ
meta_text reply.Stored m = unless_quiet m (line_text (codes "HD") m.fields)
meta_text reply.Deleted m = unless_quiet m (line_text (codes "HD") m.fields)
meta_text (reply.Number n) m = unless_quiet m (meta_number_text m n)
meta_text (reply.Values found) m = meta_found_text m found
meta_text reply.NotStored m = line_text (codes "NS") m.fields
meta_text reply.Exists m = line_text (codes "EX") m.fields
meta_text reply.NotFound m = line_text (codes "NF") m.fields
meta_text reply.Touched m = reply_text reply.Touched
meta_text reply.TooLarge m = reply_text reply.TooLarge
meta_text reply.NotNumber m = reply_text reply.NotNumber
