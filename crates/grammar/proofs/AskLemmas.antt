-- What bytes ask stays if more bytes come, in either grammar.
use Rattle.std.proofs.Common.{◌≡◌, ℕ, zero, suc, ◌+◌, ◌-◌, List, [], ◌∷◌, ◌++◌, length, Some, sym, ◌∙◌, ap, subst, arith, append_assoc, slice_get}
use Rattle.proto.specs.declared.command.Command.{Command}
use Rattle.proto.specs.declared.reply.Reply as replies
use Rattle.dialect.specs.Text.{shown_text}
use Rattle.grammar.specs.declared.reader.Dialect.{Dialect}
use Rattle.grammar.specs.declared.turn.Turn.{Turn}
use Rattle.grammar.specs.declared.turn.Turn.TheVariants.{Ask, Say, Close}
use Rattle.grammar.specs.Turns.{said_text}
use Rattle.grammar.specs.Asks.{commands_in, TextsShown, BeginsIn, IsAskedIn}
use Rattle.grammar.proofs.ReadLemmas.{one_asked, more_spelled}

command_stays : (turns more : List Turn) (k : ℕ) (command : Command) → slice_get (commands_in turns) k ≡ Some command → slice_get (commands_in (turns ++ more)) k ≡ Some command
command_stays [] more k command e = absurd (cc e)
command_stays (Ask c show ∷ turns) more zero command e = e
command_stays (Ask c show ∷ turns) more (suc k) command e = command_stays turns more k command e
command_stays (Say notice ∷ turns) more k command e = command_stays turns more k command e
command_stays (Close notice ∷ turns) more k command e = command_stays turns more k command e

pub asked_stays : (d : Dialect) (bytes more : List ℕ) (number : ℕ) (command : Command) → IsAskedIn d bytes number command → IsAskedIn d (bytes ++ more) number command
asked_stays d bytes more number command is =
    let longer = more_spelled d bytes more is.turns is.spells in
    record { turns = is.turns ++ longer.0; spells = longer.1; from_one = is.from_one; is = command_stays is.turns longer.0 (number - 1) command is.is }

pub begins_longer : (d : Dialect) (bytes more : List ℕ) (taken : List Turn) → BeginsIn d bytes taken → BeginsIn d (bytes ++ more) taken
begins_longer d bytes more taken front =
    let longer = more_spelled d bytes more front.turns front.spells in
    record { turns = front.turns ++ longer.0; more = front.more ++ longer.0; spells = longer.1; is = ap (λ (turns : List Turn). turns ++ longer.0) front.is ∙ append_assoc taken front.more longer.0 }

-- one command has a number
pub same_asked_in : (d : Dialect) (bytes : List ℕ) (n : ℕ) (c e : Command) → IsAskedIn d bytes n c → IsAskedIn d bytes n e → c ≡ e
same_asked_in d bytes n c e x y =
    let same = one_asked d bytes x.turns y.turns x.spells y.spells in
    cc (sym x.is ∙ (ap (λ (cs : List Command). slice_get cs (n - 1)) same ∙ y.is))

-- ---- texts

-- a reply of which more holds
pub shown_imply : (P Q : ℕ → replies.Reply → Type 0) → ((q : ℕ) (r : replies.Reply) → P q r → Q q r) → (q : ℕ) (turns : List Turn) (bytes : List ℕ) → TextsShown P q turns bytes → TextsShown Q q turns bytes
shown_imply P Q f q [] bytes h = h
shown_imply P Q f q (Say n ∷ turns) bytes h = (h.0, h.1, shown_imply P Q f q turns h.0 h.2)
shown_imply P Q f q (Close n ∷ turns) bytes h = (h.0, h.1, shown_imply P Q f q turns h.0 h.2)
shown_imply P Q f q (Ask c show ∷ turns) bytes h = (h.0, h.1, f q h.0 h.2, h.3, shown_imply P Q f (q + 1) turns h.1 h.4)

pub commands_push : (turns : List Turn) (t : Turn) → length (commands_in (turns ++ t ∷ [])) ≡ length (commands_in turns) + length (commands_in (t ∷ []))
commands_push [] t = omega arith
commands_push (Ask c show ∷ turns) t = let h = commands_push turns t in omega (arith, h)
commands_push (Say n ∷ turns) t = commands_push turns t
commands_push (Close n ∷ turns) t = commands_push turns t

pub shown-append : (P : ℕ → replies.Reply → Type 0) (q k : ℕ) (turns more : List Turn) (bytes others : List ℕ) → k ≡ q + length (commands_in turns) → TextsShown P q turns bytes → TextsShown P k more others → TextsShown P q (turns ++ more) (bytes ++ others)
shown-append P q k [] more bytes others e h g =
    let same : k ≡ q = omega (arith, e) in
    subst (λ (z : ℕ × List ℕ). TextsShown P z.0 more (z.1 ++ others)) (λ i. (same i, sym h i)) g
shown-append P q k (Say n ∷ turns) more bytes others e h g = (h.0 ++ others, ap (λ b. b ++ others) h.1 ∙ append_assoc (said_text n) h.0 others, shown-append P q k turns more h.0 others e h.2 g)
shown-append P q k (Close n ∷ turns) more bytes others e h g = (h.0 ++ others, ap (λ b. b ++ others) h.1 ∙ append_assoc (said_text n) h.0 others, shown-append P q k turns more h.0 others e h.2 g)
shown-append P q k (Ask c show ∷ turns) more bytes others e h g =
    (h.0, h.1 ++ others, h.2, ap (λ b. b ++ others) h.3 ∙ append_assoc (shown_text h.0 show) h.1 others, shown-append P (q + 1) k turns more h.1 others (omega (arith, e)) h.4 g)
