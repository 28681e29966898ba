-- What bytes ask stays if more come, and logs that get longer.
use Rattle.std.proofs.Common.{◌≡◌, ℕ, ◌-◌, Bool, true, false, List, [], ◌∷◌, ◌++◌, refl, sym, ◌∙◌, ap}
use Rattle.std.specs.Prelude.{◌≢◌, ◌==◌, if◌then◌else◌}
use Rattle.std.proofs.lemmas.Bool.{eq-eqb, eqb-true}
use Rattle.std.proofs.lemmas.List.{append-nil}
use Rattle.std.proofs.lemmas.List.Concat.{flat_map-append}
use Rattle.proto.specs.declared.reply.Reply as replies
use Rattle.grammar.specs.declared.reader.Dialect.{Dialect}
use Rattle.grammar.proofs.AskLemmas.{begins_longer, shown_imply}
use Rattle.connections.specs.Connections.{bytes_in, bytes_of_connection, IsAnswered}

-- what was answered in order stays so if more comes, and more replies do
pub answered_longer : (d : Dialect) (P Q : ℕ → replies.Reply → Type 0) (heard more given : List ℕ) → ((q : ℕ) (r : replies.Reply) → P q r → Q q r) → IsAnswered d P heard given → IsAnswered d Q (heard ++ more) given
answered_longer d P Q heard more given f is = record { taken = is.taken; texts = shown_imply P Q f 1 is.taken given is.texts; first = begins_longer d heard more is.taken is.first }

pub answered_implies : (d : Dialect) (P Q : ℕ → replies.Reply → Type 0) (heard given : List ℕ) → ((q : ℕ) (r : replies.Reply) → P q r → Q q r) → IsAnswered d P heard given → IsAnswered d Q heard given
answered_implies d P Q heard given f is = record { taken = is.taken; texts = shown_imply P Q f 1 is.taken given is.texts; first = is.first }

-- ---- the bytes of one number

-- one entry more
pub bytes_more : (number : ℕ) (log : List (ℕ × List ℕ)) (e : ℕ × List ℕ) → bytes_of_connection number (log ++ e ∷ []) ≡ bytes_of_connection number log ++ bytes_in number e
bytes_more number log e = flat_map-append (bytes_in number) log (e ∷ []) ∙ ap (λ (bytes : List ℕ). bytes_of_connection number log ++ bytes) (append-nil (bytes_in number e))

pub bytes_own : (number : ℕ) (log : List (ℕ × List ℕ)) (bytes : List ℕ) → bytes_of_connection number (log ++ (number, bytes) ∷ []) ≡ bytes_of_connection number log ++ bytes
bytes_own number log bytes = bytes_more number log (number, bytes) ∙ rw (eq-eqb number number refl) refl

pub bytes_other : (number of : ℕ) (log : List (ℕ × List ℕ)) (bytes : List ℕ) → number ≢ of → bytes_of_connection number (log ++ (of, bytes) ∷ []) ≡ bytes_of_connection number log
bytes_other number of log bytes differs = bytes_more number log (of, bytes) ∙ by (of == number) refl
  where
    by : (b : Bool) → (of == number) ≡ b → bytes_of_connection number log ++ (if b then bytes else []) ≡ bytes_of_connection number log
    by true e = absurd (differs (sym (eqb-true of number e)))
    by false e = append-nil (bytes_of_connection number log)
