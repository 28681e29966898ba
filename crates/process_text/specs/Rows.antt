-- The texts of what is stored of one replica and of one proxy.
use Rattle.std.specs.Prelude.{ℕ, Bool, true, false, List, [], ◌∷◌, ◌++◌, length}
use Rattle.std.specs.Int.{w8, w16, w64}
use Rattle.wire.specs.Number.{num}
use Rattle.wire.specs.Field.{option_text}
use Rattle.wire.specs.Command.{request_text}
use Rattle.decrees.specs.Record.{standing_text}
use Rattle.process_text.specs.declared.flag.TruthByte.{TruthByte}
use Rattle.process_text.specs.declared.executor_row.PlainRecord.{PlainRecord}
use Rattle.process_text.specs.declared.executor_row.StoredRecord.{StoredRecord}
use Rattle.process_text.specs.declared.executor_row.StoredRecord.TheVariants.{Nothing, Plain, Whole}
use Rattle.process_text.specs.declared.executor_row.ExecutorRow.{ExecutorRow}
use Rattle.process_text.specs.declared.verifier_row.VerifierRow.{VerifierRow}
use Rattle.process_text.specs.declared.proxy_row.StoredRequest.{StoredRequest}
use Rattle.process_text.specs.declared.proxy_row.ProxyRow.{ProxyRow}

abbrev pub bool_text : Bool → List ℕ
bool_text false = 0 ∷ []
bool_text true = 1 ∷ []

abbrev pub flag_text : TruthByte → List ℕ
flag_text flag = bool_text flag.is_set

-- a length of 64 bits, and so many bytes
abbrev pub long_text : List ℕ → List ℕ
long_text bytes = num w64 (length bytes) ++ bytes

abbrev pub plain_text : PlainRecord → List ℕ
plain_text plain = ((num w8 plain.u ++ num w8 plain.id) ++ num w64 plain.known) ++ standing_text plain.standing

abbrev pub stored_text : StoredRecord → List ℕ
stored_text Nothing = 0 ∷ []
stored_text (Plain plain) = 1 ∷ plain_text plain
stored_text (Whole bytes) = 2 ∷ long_text bytes

abbrev pub executor_row_text : ExecutorRow → List ℕ
executor_row_text row = (stored_text row.stored ++ num w64 row.failures) ++ bool_text row.fails_next

abbrev pub verifier_row_text : VerifierRow → List ℕ
verifier_row_text row = (option_text long_text row.stored ++ num w64 row.failures) ++ bool_text row.fails_next

abbrev pub outstanding_text : StoredRequest → List ℕ
outstanding_text asked = request_text asked.request ++ bool_text asked.quiet

abbrev pub proxy_row_text : ProxyRow → List ℕ
proxy_row_text row = (num w16 row.client ++ num w64 row.last) ++ option_text outstanding_text row.asked
