-- Replies.
use Rattle.std.specs.Prelude.{ℕ, Bool, List, [], ◌∷◌, ◌++◌, length, nat_le}
use Rattle.std.specs.Int.{w32, w64}
use Rattle.proto.specs.declared.key.TheConstants.{MOST_KEYS}
use Rattle.proto.specs.declared.reply.Found.{Found}
use Rattle.proto.specs.declared.reply.Reply.{Reply}
use Rattle.proto.specs.declared.reply.Reply.TheVariants as reply
use Rattle.wire.specs.Number.{num}
use Rattle.wire.specs.Field.{option_text, limited_text}
use Rattle.wire.specs.Block.{block_text}
use Rattle.wire.specs.Key.{key_text}

abbrev pub found_text : Found → List ℕ
found_text f = key_text f.key ++ num w32 f.flags ++ block_text f.block ++ option_text (num w64) f.unique

abbrev pub are_few : List Found → Bool
are_few found = nat_le (length found) MOST_KEYS

-- a count, and at most MOST_KEYS items that a get found
unfoldable pub values_text : List Found → List ℕ
values_text found = limited_text are_few found_text found

abbrev pub reply_record : Reply → List ℕ
reply_record reply.Stored = 0 ∷ []
reply_record reply.NotStored = 1 ∷ []
reply_record reply.Exists = 2 ∷ []
reply_record reply.NotFound = 3 ∷ []
reply_record reply.Deleted = 4 ∷ []
reply_record reply.Touched = 5 ∷ []
reply_record (reply.Number n) = 6 ∷ num w64 n
reply_record (reply.Values found) = 7 ∷ values_text found
reply_record reply.TooLarge = 8 ∷ []
reply_record reply.NotNumber = 9 ∷ []
