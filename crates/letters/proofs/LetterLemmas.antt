-- No letter's text is the start of another one's. If one of its parts is not there, no letter is.
use Rattle.std.proofs.Common.{◌≡◌, ℕ, List, ◌++◌, Ok, Err, inl, inr, refl, sym, ◌∙◌, ap, append_assoc}
use Rattle.base.specs.declared.fault.Fault.{Fault}
use Rattle.base.specs.declared.fault.Fault.TheVariants.{NoMemory, Stopped, BadRecord, Unfit, Full, BadSchedule, NotOpen}
use Rattle.wire.specs.Record.{Always, IsPrefixFree, NoPrefix, Refused}
use Rattle.wire.specs.RowLaws.{followed, made_of}
use Rattle.wire.proofs.Values.{Refused-weaker, told_apart}
use Rattle.decrees.specs.declared.node.Node.{Node}
use Rattle.decrees.specs.declared.node.Letter.{Letter}
use Rattle.exec_lines.specs.declared.body.Body.{Body}
use Rattle.letters.specs.Letter.{node_text, letter_body_text, letter_text, BodyFits, LetterFits}
use Rattle.letters.specs.Laws.{ReadsWhatWasWritten}
use Rattle.letters.proofs.NodeLemmas.{node_prefix_free}
use Rattle.letters.proofs.BodyLemmas.{body_prefix_free}

pub letter_prefix_free : IsPrefixFree letter_text
letter_prefix_free = made_of (followed (followed node_prefix_free node_prefix_free) body_prefix_free) letter_text
    (λ letter. ((letter.from, letter.to), letter.body)) (λ row. record { from = row.0.0; to = row.0.1; body = row.1 }) (λ letter. refl) (λ letter. refl)

-- what is read of the text of a letter is that letter
pub read_back : ReadsWhatWasWritten
read_back letter (Ok found) fits h = inl (ap Ok (told_apart letter_prefix_free found letter (sym h.1)))
read_back letter (Err NoMemory) fits h = inr refl
read_back letter (Err BadRecord) fits h = absurd (h letter fits refl)
read_back letter (Err Stopped) fits h = absurd h
read_back letter (Err Unfit) fits h = absurd h
read_back letter (Err Full) fits h = absurd h
read_back letter (Err BadSchedule) fits h = absurd h
read_back letter (Err NotOpen) fits h = absurd h

-- the sender is first, then to whom, and then what is said
in_order : (letter : Letter Body) (rest : List ℕ) → letter_text letter ++ rest ≡ node_text letter.from ++ (node_text letter.to ++ (letter_body_text letter.body ++ rest))
in_order letter rest =
    append_assoc (node_text letter.from ++ node_text letter.to) (letter_body_text letter.body) rest
    ∙ append_assoc (node_text letter.from) (node_text letter.to) (letter_body_text letter.body ++ rest)

-- no node, so no sender
pub no_sender : (bytes : List ℕ) (e : Fault) → Refused e (NoPrefix Always node_text bytes) → Refused e (NoPrefix LetterFits letter_text bytes)
no_sender bytes e = Refused-weaker e (λ (none : NoPrefix Always node_text bytes). record {
  none = λ letter rest f here. none.none letter.from (node_text letter.to ++ (letter_body_text letter.body ++ rest)) tt (here ∙ in_order letter rest);
})

-- behind the sender
behind_sender : (bytes after : List ℕ) (from : Node) (letter : Letter Body) (rest : List ℕ) → bytes ≡ node_text from ++ after → bytes ≡ letter_text letter ++ rest
    → after ≡ node_text letter.to ++ (letter_body_text letter.body ++ rest)
behind_sender bytes after from letter rest begin here = (node_prefix_free.apart from letter.from after _ (sym begin ∙ (here ∙ in_order letter rest))).1

-- a sender, and no node behind it
pub no_receiver : (bytes after : List ℕ) (from : Node) → bytes ≡ node_text from ++ after → (e : Fault) → Refused e (NoPrefix Always node_text after) → Refused e (NoPrefix LetterFits letter_text bytes)
no_receiver bytes after from begin e = Refused-weaker e (λ (none : NoPrefix Always node_text after). record {
  none = λ letter rest f here. none.none letter.to (letter_body_text letter.body ++ rest) tt (behind_sender bytes after from letter rest begin here);
})

-- two nodes, and nothing that is said
pub nothing_said : (bytes after last : List ℕ) (from to : Node) → bytes ≡ node_text from ++ after → after ≡ node_text to ++ last → (e : Fault) → Refused e (NoPrefix BodyFits letter_body_text last) → Refused e (NoPrefix LetterFits letter_text bytes)
nothing_said bytes after last from to begin next e = Refused-weaker e (λ (none : NoPrefix BodyFits letter_body_text last). record {
  none = λ letter rest f here.
      let both = node_prefix_free.apart to letter.to last (letter_body_text letter.body ++ rest) (sym next ∙ behind_sender bytes after from letter rest begin here) in
      none.none letter.body rest f both.1;
})

-- all three are there
pub letter_is : (bytes after last rest : List ℕ) (letter : Letter Body) → bytes ≡ node_text letter.from ++ after → after ≡ node_text letter.to ++ last → last ≡ letter_body_text letter.body ++ rest
    → bytes ≡ letter_text letter ++ rest
letter_is bytes after last rest letter begin next third =
    begin ∙ (ap (λ (t : List ℕ). node_text letter.from ++ t) (next ∙ ap (λ (t : List ℕ). node_text letter.to ++ t) third) ∙ sym (in_order letter rest))
